-- Solved equations put into forms: the values that this gives variables, and the pairs of numbers that may stop it.
use Rattle.std.specs.Prelude.{◌≡◌, ◌≢◌, ℕ, List, [], ◌∷◌, ◌++◌, map, cond, nat_eq}
use Rattle.std.specs.List.{AllByRecursion}
use Rattle.spec_numbers.specs.Rational.{ℚ, 0ℚ}
use Rattle.spec_numbers.specs.Sums.{Monomial}
use Rattle.spec_linear.specs.Form.{Linear, IsForm, value_at, variables, scaled_form}
use Rattle.spec_linear.specs.Solution.{Constraint, Has}
use Rattle.spec_linear.specs.Echelon.{Solved, AreDistinct}
use Rattle.cq_frac.specs.declared.Pair.{Pair}
use Rattle.cq_frac.specs.Refused.{IsRefused}
use Rattle.cq_form.specs.Steps.{SumPair, ScalePair}
use Rattle.cq_project.specs.declared.echelon.putting.Row.{Row}

-- the value of x where the equations hold and a gives the free variables theirs
abbrev pub value_of : List Solved → (ℕ → ℚ) → ℕ → ℚ
value_of [] a x = a x
value_of (e ∷ es) a x = cond (nat_eq e.variable x) (value_at a e.form) (value_of es a x)

-- each variable stands once in the equation's form, and with no factor zero
pub record IsProper (e : Solved) : Type 0 where
  pub once : AreDistinct (variables e.form.products)
  pub nonzero : AllByRecursion (λ m. m.factor ≢ 0ℚ) e.form.products

-- ---- equations with sorted forms

abbrev pub solved_by : Row → Solved
solved_by r = record { variable = r.variable.0; form = r.form }

abbrev pub all_solved_by : List Row → List Solved
all_solved_by rows = map solved_by rows

-- equations that are solved for the same variables, with forms of the same values
pub data AreAlike : List Solved → List Solved → Type 0 where
  no_equation : AreAlike [] []
  one_equation : {d e : Solved} {k l : List Solved} → d.variable ≡ e.variable → ((a : ℕ → ℚ) → value_at a d.form ≡ value_at a e.form)
      → AreAlike k l → AreAlike (d ∷ k) (e ∷ l)

-- ---- stops

-- while k times the row of x is added to what stands before, a product or a sum is refused
pub data PutsPair (es : List Solved) (before : Linear) (x : ℕ) (k : ℚ) (pair : Pair) : Type 0 where
  scales : (row : Linear) → IsForm row → ((a : ℕ → ℚ) → value_at a row ≡ value_of es a x)
      → ScalePair k row pair.operation pair.left pair.right → IsRefused pair → PutsPair es before x k pair
  adds : (row : Linear) → IsForm row → ((a : ℕ → ℚ) → value_at a row ≡ value_of es a x)
      → SumPair before (scaled_form k row) pair.operation pair.left pair.right → IsRefused pair → PutsPair es before x k pair

-- the same of some product of the form, behind those that are put in already
pub record PutsInForm (es : List Solved) (f : Linear) (pair : Pair) : Type 0 where
  pub ordered : IsForm f
  pub earlier : List Monomial
  pub now : Monomial
  pub later : List Monomial
  pub split : f.products ≡ earlier ++ now ∷ later
  pub before : Linear
  pub before_ordered : IsForm before
  pub gave : (a : ℕ → ℚ) → value_at a before ≡ value_at (value_of es a) (record { products = earlier; constant = f.constant })
  pub puts : PutsPair es before now.variable now.factor pair

-- the same of some row
pub record PutsInSome (es : List Solved) (rows : List Constraint) (pair : Pair) : Type 0 where
  pub row : Constraint
  pub member : Has row rows
  pub puts : PutsInForm es row.form pair
