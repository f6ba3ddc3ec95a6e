-- The certificates that rows make, with the numbers that names tell.
use Rattle.std.specs.Prelude.{◌≡◌, ◌⊎◌, ℕ, List, ◌∷◌, ◌++◌, Option, None, Some, slice_get}
use Rattle.std.specs.List.{AllByRecursion}
use Rattle.spec_numbers.specs.Rational.{ℚ, 0ℚ, 1ℚ, neg_ℚ, ◌<ℚ◌}
use Rattle.spec_linear.specs.declared.Relation.{Relation}
use Rattle.spec_linear.specs.declared.Relation.TheVariants.{Gt}
use Rattle.spec_linear.specs.Solution.{Constraint}
use Rattle.spec_linear.specs.Certificate.{IsAllowed}
use Rattle.spec_simplex.specs.Entries.{entries}
use Rattle.cq_form.specs.Entries.{products_of}
use Rattle.cq_frac.specs.Row.{Row}
use Rattle.cq_frac.specs.Rows.{negated}
use Rattle.cq_tableau.specs.declared.names.Name.{Name}
use Rattle.cq_tableau.specs.declared.names.Name.TheVariants.{Variable, Member}

-- the number of the told constraint that a name stands for, or 0
abbrev pub number_of : Option Name → ℕ
number_of None = 0
number_of (Some (Variable x)) = 0
number_of (Some (Member i)) = i

abbrev pub number_in : List Name → ℕ → ℕ
number_in names n = number_of (slice_get names n)

-- the member of this number with the members of the row's columns, of which those that are dropped allow their multipliers
pub record IsRowCertificate (told : List Constraint) (names : List Name) (number : ℕ) (own : Row) (cert : List (ℕ × ℚ)) : Type 0 where
  pub allowed : AllByRecursion (IsAllowed told) (entries (number_in names) (products_of own.dropped))
  pub is : cert ≡ (number, 1ℚ) ∷ entries (number_in names) (products_of own.live) ++ entries (number_in names) (products_of own.dropped)

-- an inequality of this relation can't hold where its form is this or less
abbrev pub IsTooSmall : Relation → ℚ → Type 0
IsTooSmall r v = (v <ℚ 0ℚ) ⊎ ((v ≡ 0ℚ) × (r ≡ Gt))

-- the two runs of a disequation of this number whose form's row is zero: the columns' members with the row's factors, and with
-- their negatives
pub record IsTwoRuns (told : List Constraint) (names : List Name) (number : ℕ) (own : Row) (cert : List (ℕ × ℚ)) : Type 0 where
  pub up : AllByRecursion (IsAllowed told) (entries (number_in names) (products_of own.dropped))
  pub down : AllByRecursion (IsAllowed told) (entries (number_in names) (products_of (negated own.dropped)))
  pub is : cert ≡ (number, 1ℚ) ∷ entries (number_in names) (products_of own.dropped)
      ++ (number, neg_ℚ 1ℚ) ∷ entries (number_in names) (products_of (negated own.dropped))
