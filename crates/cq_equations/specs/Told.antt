-- What a call of `tell` says.
use Rattle.std.specs.Prelude.{ℕ, List, [], ◌∷◌, map, filter, not, nat_eq}
use Rattle.std.specs.List.{list_any}
use Rattle.spec_numbers.specs.Rational.{ℚ}
use Rattle.spec_linear.specs.Form.{Linear}
use Rattle.spec_linear.specs.Solution.{Constraint, Fixed, Has}
use Rattle.spec_simplex.specs.Overflow.{Moment, settling, OverflowDue}
use Rattle.spec_linear.specs.Echelon.{AreDistinct, variables}
use Rattle.spec_linear.specs.SolvedForm.{NotFixed}
use Rattle.cq_frac.specs.declared.Pair.{Pair}
use Rattle.cq_frac.specs.declared.VarId.{VarId}
use Rattle.cq_equations.specs.Contents.{variable_forms}

-- the numbers of variables
abbrev pub numbers_of : List VarId → List ℕ
numbers_of xs = map (λ x. x.0) xs

-- the variables, each once, that the longer list fixes and the shorter does not
pub record AreNewlyFixed (old new : List Constraint) (xs : List ℕ) : Type 0 where
  pub once : AreDistinct xs
  pub fixed : (x : ℕ) → Has x xs → (q : ℚ) × Fixed new x q
  pub before : (x : ℕ) → Has x xs → NotFixed old x
  pub each : (x : ℕ) (q : ℚ) → Fixed new x q → NotFixed old x → Has x xs

-- the variables of the form that are not in the order
abbrev pub new_variables : List ℕ → Linear → List ℕ
new_variables order f = filter (λ x. not (list_any (nat_eq x) order)) (variables f.products)

-- the told list, with some variables known and the constraint's form asked
abbrev pub asking : List Constraint → List ℕ → Constraint → Moment
asking told order c = record { stage = settling; list = told; asked = c.form ∷ variable_forms order; operations = []; rows = [] }

-- the pairs that may stop a call that tells the constraint
pub data CallMakes (told : List Constraint) (order : List ℕ) (c : Constraint) (p : Pair) : Type 0 where
  while_asked : OverflowDue (asking told order c) p → CallMakes told order c p
