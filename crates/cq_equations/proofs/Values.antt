-- What the forms of a solved list that are numbers say.
use Rattle.std.proofs.Common.{◌≡◌, ℕ, List, [], ◌∷◌, Option, None, Some, refl}
use Rattle.std.specs.Prelude.{MatchOption}
use Rattle.spec_numbers.specs.Sums.{Monomial}
use Rattle.spec_linear.specs.Form.{Linear}
use Rattle.spec_linear.specs.Solution.{Constraint, Fixed}
use Rattle.spec_linear.specs.SolvedForm.{NotFixed}
use Rattle.spec_linear.proofs.Solving.{fixed, dependent-not_fixed, free-not_fixed}
use Rattle.cq_equations.specs.Contents.{Named, IsStored, variables_of, solved_in, number_if_empty, number_in}
use Rattle.cq_equations.proofs.Solved.{solved_form}

module _ (l : List Constraint) (t : Named) (s : IsStored l t) (x : ℕ) where
  pub value_is : MatchOption (number_in (solved_in t x)) (NotFixed l x) (λ q. Fixed l x q)
  value_is = go (solved_in t x) refl
    where
      go : (o : Option Linear) → solved_in t x ≡ o → MatchOption (number_in o) (NotFixed l x) (λ q. Fixed l x q)
      go None e = free-not_fixed (variables_of t.names) l (solved_in t) (solved_form l t s) x e
      go (Some f) e = by_products f.products refl
        where
          by_products : (p : List Monomial) → f.products ≡ p → MatchOption (number_if_empty p f.constant) (NotFixed l x) (λ q. Fixed l x q)
          by_products [] z = fixed (variables_of t.names) l (solved_in t) (solved_form l t s) x f e z
          by_products (m ∷ p) z = dependent-not_fixed (variables_of t.names) l (solved_in t) (solved_form l t s) x f m p e z
