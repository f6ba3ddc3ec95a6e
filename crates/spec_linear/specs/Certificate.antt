-- What refutes a list of constraints: a sum of multiples of its members that says what no number does, as 0 > 0.
-- A certificate names members by their numbers in the list, from 1, each with its multiplier.
use Rattle.std.specs.Prelude.{◌≡◌, ◌⊎◌, ℕ, suc, List, [], ◌∷◌, ◌++◌, ⊤, Option, None, Some, IsSomeAnd, slice_get}
use Rattle.std.proofs.Common.{zero}
use Rattle.std.specs.List.{AllByRecursion}
use Rattle.spec_numbers.specs.Rational.{ℚ, 0ℚ, IsPositive, IsNotNegative, ◌<ℚ◌, ◌≤ℚ◌}
use Rattle.spec_numbers.specs.Sums.{factor_of}
use Rattle.spec_linear.specs.declared.Relation.{Relation}
use Rattle.spec_linear.specs.declared.Relation.TheVariants.{Eq, Gt, Ge, Ne}
use Rattle.spec_linear.specs.Form.{Linear, constant_form, sum_form, scaled_form}
use Rattle.spec_linear.specs.Solution.{Constraint}

-- the member with this number
abbrev pub member : List Constraint → ℕ → Option Constraint
member l zero = None
member l (suc place) = slice_get l place

-- its form, or 0
abbrev pub form_or_zero : Option Constraint → Linear
form_or_zero None = constant_form 0ℚ
form_or_zero (Some c) = c.form

-- ---- runs: entries of a member's number and a multiplier

-- the multiples of the members' forms together
abbrev pub weighted_sum : List Constraint → List (ℕ × ℚ) → Linear
weighted_sum l [] = constant_form 0ℚ
weighted_sum l (e ∷ run) = sum_form (scaled_form e.1 (form_or_zero (member l e.0))) (weighted_sum l run)

-- what may multiply a constraint: any number an equation, one not below zero an inequality, none a disequation
abbrev pub Allows : Relation → ℚ → Type 0
Allows Eq q = ⊤
Allows Gt q = IsNotNegative q
Allows Ge q = IsNotNegative q
Allows Ne q = ⊥

-- the number is a member's, and the multiplier may multiply it
abbrev pub IsAllowed : List Constraint → ℕ × ℚ → Type 0
IsAllowed l e = IsSomeAnd (member l e.0) (λ c. Allows c.relation e.1)

-- some strict member has a positive multiplier
abbrev pub SomeStrict : List Constraint → List (ℕ × ℚ) → Type 0
SomeStrict l [] = ⊥
SomeStrict l (e ∷ run) = IsSomeAnd (member l e.0) (λ c. (c.relation ≡ Gt) × IsPositive e.1) ⊎ SomeStrict l run

-- each variable's coefficient is zero
abbrev pub HasNoVariable : Linear → Type 0
HasNoVariable f = (x : ℕ) → factor_of x f.products ≡ 0ℚ

-- Where the list holds, the weighted sum is not below zero, and is above zero with a strict member in it. Here it is a
-- number that breaks this.
pub record IsFalseRun (l : List Constraint) (run : List (ℕ × ℚ)) : Type 0 where
  pub allowed : AllByRecursion (IsAllowed l) run
  pub no_variable : HasNoVariable (weighted_sum l run)
  pub wrong : ((weighted_sum l run).constant <ℚ 0ℚ) ⊎ (((weighted_sum l run).constant ≡ 0ℚ) × SomeStrict l run)

-- the same of a run behind one more entry, whose weighted form is taken to be above zero, as a strict member's is
pub record IsFalseBehind (l : List Constraint) (entry : ℕ × ℚ) (run : List (ℕ × ℚ)) : Type 0 where
  pub allowed : AllByRecursion (IsAllowed l) run
  pub no_variable : HasNoVariable (weighted_sum l (entry ∷ run))
  pub wrong : (weighted_sum l (entry ∷ run)).constant ≤ℚ 0ℚ

-- ---- certificates

-- two runs, one behind the other, each behind an entry of one disequation, whose form can be neither above nor below zero
pub record AreFalseRuns (l : List Constraint) (cert : List (ℕ × ℚ)) : Type 0 where
  pub number : ℕ
  pub disequation : IsSomeAnd (member l number) (λ c. c.relation ≡ Ne)
  -- the multipliers of its two entries
  pub up : ℚ
  pub down : ℚ
  pub up_is_positive : 0ℚ <ℚ up
  pub down_is_negative : down <ℚ 0ℚ
  pub first : List (ℕ × ℚ)
  pub second : List (ℕ × ℚ)
  pub parts : cert ≡ (number, up) ∷ first ++ (number, down) ∷ second
  pub not_above : IsFalseBehind l (number, up) first
  pub not_below : IsFalseBehind l (number, down) second

-- the certificate shows that no values of the variables satisfy the list
abbrev pub Refutes : List (ℕ × ℚ) → List Constraint → Type 0
Refutes cert l = IsFalseRun l cert ⊎ AreFalseRuns l cert
