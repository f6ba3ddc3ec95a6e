-- What entering a constraint came to.
use Rattle.std.specs.Prelude.{ℕ, List, [], ◌∷◌, ◌++◌, ⊤, Bool, Result, IfOk, MatchBool}
use Rattle.spec_numbers.specs.Rational.{ℚ}
use Rattle.spec_linear.specs.Solution.{Constraint, Solvable, Unsolvable}
use Rattle.spec_linear.specs.Certificate.{Refutes}
use Rattle.cq_frac.specs.declared.VarId.{VarId}
use Rattle.cq_dict.specs.Roles.{Quantities}
use Rattle.cq_tableau.specs.declared.names.Name.{Name}
use Rattle.cq_tableau.specs.Stored.{JoinsStored}
use Rattle.cq_store.specs.declared.store.StoreFault.{StoreFault}
use Rattle.cq_store.specs.declared.entering.Entered.{Entered}
use Rattle.cq_store.specs.declared.entering.Entered.TheVariants.{Joined, Contradiction}

-- a fact of the variables that it gave a value, if it joined
abbrev pub IfJoined : Entered → (List VarId → Type 0) → Type 0
IfJoined (Joined fixed) P = P fixed.items
IfJoined (Contradiction cert) P = ⊤

-- a fact of the certificate, if it contradicts
abbrev pub IfContradiction : Entered → (List (ℕ × ℚ) → Type 0) → Type 0
IfContradiction (Joined fixed) P = ⊤
IfContradiction (Contradiction cert) P = P cert

-- a constraint that joined is stored last, with the variables that it gave a value
abbrev pub IsJoined : Result Entered StoreFault → List Constraint → Constraint → List Name → Quantities → Type 0
IsJoined result told c names q = IfOk result (λ e. IfJoined e (λ fixed. JoinsStored told c fixed names q))

-- of one that contradicts the told list, the certificate shows so
abbrev pub IsRefuted : Result Entered StoreFault → List Constraint → Constraint → Type 0
IsRefuted result told c = IfOk result (λ e. IfContradiction e (λ cert. Refutes cert (told ++ c ∷ [])))

-- what a test tells whether the constraint can hold together with the told list
abbrev pub CanJoin : List Constraint → Constraint → Bool → Type 0
CanJoin told c joins = MatchBool joins (Solvable (told ++ c ∷ [])) (Unsolvable (told ++ c ∷ []))
