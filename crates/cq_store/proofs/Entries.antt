-- What entering a constraint tells of the list with it.
use Rattle.std.proofs.Common.{◌≡◌, ℕ, List, [], ◌∷◌, ◌++◌, subst}
use Rattle.spec_numbers.specs.Rational.{ℚ}
use Rattle.spec_linear.specs.Solution.{Constraint, Solvable, Unsolvable}
use Rattle.spec_linear.specs.Certificate.{Refutes}
use Rattle.spec_linear.proofs.Refutation.{refuted}
use Rattle.cq_dict.specs.Roles.{Quantities}
use Rattle.cq_tableau.specs.declared.names.Name.{Name}
use Rattle.cq_store.specs.declared.entering.Entered.{Entered}
use Rattle.cq_store.specs.declared.entering.Entered.TheVariants.{Joined, Contradiction}
use Rattle.cq_store.specs.Entered.{IfJoined, IfContradiction}
use Rattle.cq_tableau.specs.Stored.{JoinsStored}
use Rattle.cq_tableau.proofs.Storing.{stored_solvable}

pub joined_solvable : (told : List Constraint) (c : Constraint) (names : List Name) (q : Quantities) (e : Entered) (fixed : _) → e ≡ Joined fixed
    → IfJoined e (λ fixed. JoinsStored told c fixed names q) → Solvable (told ++ c ∷ [])
joined_solvable told c names q e fixed f h =
    stored_solvable (told ++ c ∷ []) names q (subst (λ t. IfJoined t (λ fixed. JoinsStored told c fixed names q)) f h).stored

pub refuted_unsolvable : (l : List Constraint) (e : Entered) (cert : List (ℕ × ℚ)) → e ≡ Contradiction cert → IfContradiction e (λ cert. Refutes cert l) → Unsolvable l
refuted_unsolvable l e cert f h = refuted cert l (subst (λ t. IfContradiction t (λ cert. Refutes cert l)) f h)
