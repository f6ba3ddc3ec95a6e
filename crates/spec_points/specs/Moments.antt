-- The moments while the point of some rows is made: why it may be refused.
-- No law takes these relations apart: only code introduces them, so that they can grow by constructors.
use Rattle.std.specs.Prelude.{◌≡◌, ℕ, suc, List, [], ◌∷◌, ◌++◌, map, IsPermutation}
use Rattle.std.specs.List.{AllByRecursion}
use Rattle.spec_numbers.specs.Rational.{ℚ, ◌+ℚ◌, ◌-ℚ◌, ◌*ℚ◌, ◌/ℚ◌}
use Rattle.spec_numbers.specs.Sums.{Monomial, sum_at, factor_of}
use Rattle.cq_frac.specs.declared.Operation.{Operation}
use Rattle.cq_frac.specs.declared.Operation.TheVariants.{Sum, Difference, Product, Quotient}
use Rattle.spec_linear.specs.Form.{Linear, constant_form}
use Rattle.spec_linear.specs.Solution.{Constraint, equal_to, Has}
use Rattle.spec_linear.specs.Echelon.{Solved, equations, IsOver}
use Rattle.spec_projection.specs.Irredundant.{IsSublist}
use Rattle.spec_simplex.specs.Asked.{IsAsked, IsInForce, NoQuestion}
use Rattle.spec_simplex.specs.Overflow.{Moment, Operands, on, answering}
use Rattle.spec_points.specs.Bounds.{Bounds, Between, OnlyAbove, OnlyBelow, HasBounds, tried, whole}
use Rattle.spec_points.specs.Points.{IsTried, AreChosen, unsolved}

-- the equations of some variables and their values
abbrev pub valued : (ℕ → ℚ) → List ℕ → List Constraint
valued v xs = map (λ x. equal_to x (v x)) xs

-- a value is tried for the next variable, the first of those that have none yet
pub record IsNextTried (l : List Constraint) (left : List ℕ) (x : ℕ) (b : Bounds) (place : ℕ) : Type 0 where
  pub later : List ℕ
  pub next : left ≡ x ∷ later
  pub tries : IsTried l x b place

-- ---- lists

-- what joins the list: a row, or the equation of a value that is tried
pub data Joins (rows values : List Constraint) (left : List ℕ) : Constraint → Type 0 where
  a_row : {c : Constraint} → Has c rows → Joins rows values left c
  a_value : {x : ℕ} {b : Bounds} {place : ℕ} → IsNextTried (rows ++ values) left x b place
      → Joins rows values left (equal_to x (tried b place))

-- nothing, or one constraint that joins
pub data IsLast (rows values : List Constraint) (left : List ℕ) : List Constraint → Type 0 where
  nothing : IsLast rows values left []
  joined : {c : Constraint} → Joins rows values left c → IsLast rows values left (c ∷ [])

-- the rows, or some of them in any order, with the values so far, and maybe what joins just now
pub record IsPointList (rows values : List Constraint) (left : List ℕ) (l : List Constraint) : Type 0 where
  pub some : List Constraint
  pub sublist : IsSublist some rows
  pub ordered : List Constraint
  pub permuted : IsPermutation some ordered
  pub last : List Constraint
  pub is_last : IsLast rows values left last
  pub list : l ≡ ordered ++ values ++ last

-- ---- operations

-- an operation on two numbers
abbrev pub on_numbers : Operation → ℚ → ℚ → Operands
on_numbers o a b = on o (constant_form a) (constant_form b)

-- the operations on numbers: those of the values that are tried, and those of a form at the values that are given
pub data IsPointOperation (rows values : List Constraint) (given left : List ℕ) (forms : List Linear) (v : ℕ → ℚ) : Operands → Type 0 where
  -- one bound less the other
  width : {x : ℕ} {a b : ℚ} {place : ℕ} → IsNextTried (rows ++ values) left x (Between a b) place
      → IsPointOperation rows values given left forms v (on_numbers Difference b a)
  -- that difference by a whole number
  step : {x : ℕ} {a b : ℚ} {place : ℕ} → IsNextTried (rows ++ values) left x (Between a b) place
      → IsPointOperation rows values given left forms v (on_numbers Quotient (b -ℚ a) (whole (suc (suc place))))
  -- a bound and that quotient, or a whole number
  inside : {x : ℕ} {a b : ℚ} {place : ℕ} → IsNextTried (rows ++ values) left x (Between a b) place
      → IsPointOperation rows values given left forms v (on_numbers Sum a ((b -ℚ a) /ℚ whole (suc (suc place))))
  over : {x : ℕ} {a : ℚ} {place : ℕ} → IsNextTried (rows ++ values) left x (OnlyAbove a) place
      → IsPointOperation rows values given left forms v (on_numbers Sum a (whole (suc place)))
  under : {x : ℕ} {b : ℚ} {place : ℕ} → IsNextTried (rows ++ values) left x (OnlyBelow b) place
      → IsPointOperation rows values given left forms v (on_numbers Difference b (whole (suc place)))
  -- a coefficient and a value that is given
  product : (f : Linear) (x : ℕ) → Has f forms → Has x given
      → IsPointOperation rows values given left forms v (on_numbers Product (factor_of x f.products) (v x))
  -- a partial sum of a form at the values of its variables, in its order, and the next product
  partial_sum : (f : Linear) (earlier later : List Monomial) (m : Monomial) → Has f forms → IsOver given f
      → f.products ≡ earlier ++ m ∷ later
      → IsPointOperation rows values given left forms v (on_numbers Sum (f.constant +ℚ sum_at v earlier) (m.factor *ℚ v m.variable))

-- the forms of the rows, and those that equations are solved to
abbrev pub row_forms : List Solved → List Constraint → List Linear
row_forms es others = map (λ c. c.form) (equations es ++ others) ++ map (λ e. e.form) es

-- ---- moments

-- a moment while values are given to the variables in order: some have theirs already
pub record IsPointMoment (es : List Solved) (others : List Constraint) (order : List ℕ) (m : Moment) : Type 0 where
  pub stage : m.stage ≡ answering
  pub value : ℕ → ℚ
  pub given : List ℕ
  pub left : List ℕ
  pub split : unsolved es order ≡ given ++ left
  pub chosen : AreChosen (equations es ++ others) given value
  pub list : List Constraint
  pub is_list : IsPointList (equations es ++ others) (valued value given) left list
  pub in_force : IsInForce list (Joins (equations es ++ others) (valued value given) left) NoQuestion m.list
  pub asked : AllByRecursion (IsAsked m.list (Joins (equations es ++ others) (valued value given) left) NoQuestion) m.asked
  pub operations : AllByRecursion (IsPointOperation (equations es ++ others) (valued value given) given left (row_forms es others) value) m.operations
  -- no row is divided
  pub rows_divided : m.rows ≡ []
