-- The pairs of numbers whose operation may overflow while a list of constraints is in force.
-- No law takes these relations apart: only code introduces them, so that they can grow by constructors.
use Rattle.std.specs.Prelude.{◌≡◌, ◌⊎◌, ◌↔◌, ℕ, List, ◌∷◌, ◌++◌, ⊤}
use Rattle.spec_numbers.specs.Rational.{ℚ, 0ℚ, 1ℚ, ◌*ℚ◌, ◌/ℚ◌, neg_ℚ, IsPositive}
use Rattle.spec_numbers.specs.Sums.{Monomial, factor_of}
use Rattle.spec_linear.specs.Form.{Linear, IsForm, variable_form}
use Rattle.spec_linear.specs.Solution.{Constraint, Has}
use Rattle.cq_frac.specs.declared.Operation.{Operation}
use Rattle.cq_frac.specs.declared.Operation.TheVariants.{Sum, Difference, Product as Times, Quotient}
use Rattle.cq_frac.specs.declared.Pair.{Pair}
use Rattle.cq_frac.specs.Refused.{IsRefused}
use Rattle.spec_simplex.specs.LimitsDictionary.{Quantity, Expression, IsQuantity, IsDictionary, IsFeasible, IsWritten, form_of}

-- ---- the moment of an operation

-- an operation in a constraint told or asked, with the linear forms of its operands; a power counts as a product of
-- its base, and the two sides of a relation as the operands of a difference, in either order
pub record Operands : Type 0 where
  pub operation : Operation
  pub left : Linear
  pub right : Linear

-- an operation with the forms of its operands
abbrev pub on : Operation → Linear → Linear → Operands
on o f g = record { operation = o; left = f; right = g }

-- while constraints are told or asked, or while an answer is made
pub data Stage : Type 0 where
  settling answering : Stage

-- the list in force, the forms that are asked, the operations in the terms told and asked, and the rows of an answer
pub record Moment : Type 0 where
  pub stage : Stage
  pub list : List Constraint
  pub asked : List Linear
  pub operations : List Operands
  pub rows : List Linear

-- ---- the dictionaries whose steps may overflow

-- the dictionary goes with a feasible one: its zero set is a part of that one's, and its columns outside that one's
-- zero set are that one's columns
pub record GoesWithFeasible (m : Moment) (zeros columns : List Quantity) : Type 0 where
  pub own : IsDictionary m.list m.asked zeros columns
  pub all_zeros : List Quantity
  pub live : List Quantity
  pub feasible : IsFeasible m.list m.asked all_zeros live
  pub part : (q : Quantity) → Has q zeros → Has q all_zeros
  pub rest : (q : Quantity) → Has q live ↔ (Has q columns × (Has q all_zeros → ⊥))

-- while an answer is made, any dictionary of the list is in use
pub data IsInUse (m : Moment) (zeros columns : List Quantity) : Type 0 where
  beside_feasible : GoesWithFeasible m zeros columns → IsInUse m zeros columns
  in_answer : m.stage ≡ answering → IsDictionary m.list m.asked zeros columns → IsInUse m zeros columns

-- a form that is a row: that of a quantity outside the columns, or one that is asked
pub data IsRow (m : Moment) (columns : List Quantity) : Linear → Type 0 where
  quantity_row : (q : Quantity) → IsQuantity m.list m.asked q → (Has q columns → ⊥) → IsRow m columns (form_of m.list q)
  asked_row : {f : Linear} → Has f m.asked → IsRow m columns f

-- a row of the dictionary, with its numbers
pub record Row (m : Moment) (zeros columns : List Quantity) : Type 0 where
  pub form : Linear
  pub is_row : IsRow m columns form
  pub numbers : Expression
  pub written : IsWritten m.list zeros columns form numbers

-- where a number of a row stands: its constant, or its entry in a column
pub data RowIndex : Type 0 where
  constant : RowIndex
  column : Quantity → RowIndex

-- a place of a row over these columns: that of its constant, or that of one of the columns
abbrev pub IsRowIndex : List Quantity → RowIndex → Type 0
IsRowIndex columns constant = ⊤
IsRowIndex columns (column q) = Has q columns

-- the number that stands there
abbrev pub number_at : Expression → RowIndex → ℚ
number_at e constant = e.constant
number_at e (column q) = e.entry q

-- the exchange, in one dictionary, of a row and a column with an entry that is not zero
pub record Exchange (m : Moment) : Type 0 where
  pub zeros : List Quantity
  pub columns : List Quantity
  pub in_use : IsInUse m zeros columns
  pub row : Row m zeros columns
  pub column : Quantity
  pub is_column : Has column columns
  pub not_zero : row.numbers.entry column ≡ 0ℚ → ⊥

-- the entry at which an exchange turns: that of the leaving row at the entering column
abbrev pub pivot_entry : {m : Moment} → Exchange m → ℚ
pivot_entry x = x.row.numbers.entry x.column

-- adding an asked form to a dictionary, in the order of its variables: the state before one of its products is added
pub record Adding (m : Moment) : Type 0 where
  pub zeros : List Quantity
  pub columns : List Quantity
  pub in_use : IsInUse m zeros columns
  pub form : Linear
  pub is_asked : Has form m.asked
  pub ordered : IsForm form
  -- the earlier products, the one that is added, and the later ones
  pub earlier : List Monomial
  pub now : Monomial
  pub later : List Monomial
  pub split : form.products ≡ earlier ++ now ∷ later
  -- the numbers of the variable's row, and what the constant and the earlier variables gave
  pub numbers : Expression
  pub written : IsWritten m.list zeros columns (variable_form now.variable) numbers
  pub before : Expression
  pub gave : IsWritten m.list zeros columns (record { products = earlier; constant = form.constant }) before

-- ---- the pairs

-- an operation that adds
abbrev pub IsSumOrDifference : Operation → Type 0
IsSumOrDifference o = (o ≡ Sum) ⊎ (o ≡ Difference)

-- an operation that multiplies
abbrev pub IsProductOrQuotient : Operation → Type 0
IsProductOrQuotient o = (o ≡ Times) ⊎ (o ≡ Quotient)

-- a coefficient of the form, or its constant
pub data IsNumberOf (f : Linear) : ℚ → Type 0 where
  of_variable : (x : ℕ) → IsNumberOf f (factor_of x f.products)
  of_constant : IsNumberOf f f.constant

-- the operation, and the two numbers that a step gives it
pub data Makes (m : Moment) : Operation → ℚ → ℚ → Type 0 where
  -- terms: for a sum or difference two coefficients of one variable, or both constants
  coefficients : (o : Operands) → Has o m.operations → IsSumOrDifference o.operation → (x : ℕ)
      → Makes m o.operation (factor_of x o.left.products) (factor_of x o.right.products)
  constants : (o : Operands) → Has o m.operations → IsSumOrDifference o.operation
      → Makes m o.operation o.left.constant o.right.constant
  -- terms: for a product or quotient coefficients or constants of the two forms
  operands : (o : Operands) → Has o m.operations → IsProductOrQuotient o.operation → {a b : ℚ} → IsNumberOf o.left a
      → IsNumberOf o.right b → Makes m o.operation a b
  -- exchange: a number of the row, or 1, by the entry
  quotient : (x : Exchange m) (at : RowIndex) → IsRowIndex x.columns at
      → Makes m Quotient (number_at x.row.numbers at) (pivot_entry x)
  inverse : (x : Exchange m) → Makes m Quotient 1ℚ (pivot_entry x)
  -- exchange: another row's entry in the column, times such a quotient
  product : (x : Exchange m) (other : Row m x.zeros x.columns) (at : RowIndex) → IsRowIndex x.columns at
      → Makes m Times (other.numbers.entry x.column) (number_at x.row.numbers at /ℚ pivot_entry x)
  product_inverse : (x : Exchange m) (other : Row m x.zeros x.columns)
      → Makes m Times (other.numbers.entry x.column) (1ℚ /ℚ pivot_entry x)
  -- exchange: that other row's number less that product, at the quotient's place
  difference : (x : Exchange m) (other : Row m x.zeros x.columns) (at : RowIndex) → IsRowIndex x.columns at
      → Makes m Difference (number_at other.numbers at) (other.numbers.entry x.column *ℚ (number_at x.row.numbers at /ℚ pivot_entry x))
  -- adding a form: its coefficient of x and a number of x's row
  scaled : (a : Adding m) (at : RowIndex) → IsRowIndex a.columns at
      → Makes m Times a.now.factor (number_at a.numbers at)
  -- adding a form: what its constant and earlier variables gave at a place, and that product there
  added : (a : Adding m) (at : RowIndex) → IsRowIndex a.columns at
      → Makes m Sum (number_at a.before at) (a.now.factor *ℚ number_at a.numbers at)
  -- answers: a number of a row by one of its coefficients
  divided : (f : Linear) → Has f m.rows → {a : ℚ} → IsNumberOf f a → (x : ℕ) → (factor_of x f.products ≡ 0ℚ → ⊥)
      → Makes m Quotient a (factor_of x f.products)
  -- answers: two such quotients at one place, of a lower and an upper row for one variable
  between : (f g : Linear) → Has f m.rows → Has g m.rows → (x y : ℕ) → IsPositive (factor_of x f.products)
      → IsPositive (neg_ℚ (factor_of x g.products))
      → Makes m Difference (factor_of y f.products /ℚ factor_of x f.products) (factor_of y g.products /ℚ factor_of x g.products)
  between_constants : (f g : Linear) → Has f m.rows → Has g m.rows → (x : ℕ) → IsPositive (factor_of x f.products)
      → IsPositive (neg_ℚ (factor_of x g.products))
      → Makes m Difference (f.constant /ℚ factor_of x f.products) (g.constant /ℚ factor_of x g.products)

-- a step of the moment gives the pair's operation its two numbers, and it refuses them
pub record OverflowDue (m : Moment) (p : Pair) : Type 0 where
  pub made : Makes m p.operation p.left p.right
  pub refused : IsRefused p
