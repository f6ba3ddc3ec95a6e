-- The certificates that rows make: each column is a member's quantity, and the member takes the factor's negative.
use Rattle.std.specs.Prelude.{◌≡◌, ℕ, List, [], ◌∷◌, ◌++◌, IsSomeAnd}
use Rattle.std.specs.List.{AllByRecursion}
use Rattle.spec_numbers.specs.Rational.{ℚ, neg_ℚ}
use Rattle.spec_numbers.specs.Sums.{Monomial}
use Rattle.spec_linear.specs.Solution.{Constraint}
use Rattle.spec_linear.specs.Certificate.{member, Allows}
use Rattle.spec_simplex.specs.Tableau.{Tableau, Row}

-- the entries that products make, by the numbers of the columns' members
abbrev pub entries : (ℕ → ℕ) → List Monomial → List (ℕ × ℚ)
entries number [] = []
entries number (m ∷ s) = (number m.variable, neg_ℚ m.factor) ∷ entries number s

-- those of a row
abbrev pub row_entries : (ℕ → ℕ) → Row → List (ℕ × ℚ)
row_entries number r = entries number r.live ++ entries number r.dropped

-- each column's form is that of the member of its number, which takes its multiplier
abbrev pub AllNumbered : Tableau → List Constraint → (ℕ → ℕ) → List Monomial → Type 0
AllNumbered d l number s =
    AllByRecursion (λ m. IsSomeAnd (member l (number m.variable)) (λ c. (c.form ≡ d.form m.variable) × Allows c.relation (neg_ℚ m.factor))) s

-- so are the columns of a quantity's row
pub record IsNumbered (d : Tableau) (l : List Constraint) (number : ℕ → ℕ) (q : ℕ) : Type 0 where
  pub live : AllNumbered d l number (d.row q).live
  pub dropped : AllNumbered d l number (d.row q).dropped
