-- Dictionaries of a list of constraints: each of its quantities as a sum over a few of them.
-- (The dictionaries of the simplex method, with unrestricted variables and a set of quantities held at zero.)
use Rattle.std.specs.Prelude.{◌≡◌, ◌⊎◌, ℕ, ◌<◌, List, [], ◌∷◌, ⊤, length, slice_index_or}
use Rattle.spec_numbers.specs.Rational.{ℚ, 0ℚ, ◌+ℚ◌, ◌*ℚ◌, IsNotNegative}
use Rattle.spec_numbers.specs.Sums.{Mentions}
use Rattle.spec_linear.specs.declared.Relation.{Relation}
use Rattle.spec_linear.specs.declared.Relation.TheVariants.{Eq, Gt, Ge, Ne}
use Rattle.spec_linear.specs.Form.{Linear, value_at, constant_form, variable_form}
use Rattle.spec_projection.specs.Elimination.{IsInequality}
use Rattle.spec_linear.specs.Solution.{Constraint, number, Point, Solves, Has, SomeMentions}

-- ---- quantities

-- a variable, or the form of the list's member at a place, counted from 0
pub data Quantity : Type 0 where
  variable : ℕ → Quantity
  member : ℕ → Quantity

-- 0 = 0, in the place of a member that is not there
abbrev pub no_member : Constraint
no_member = record { relation = Eq; form = constant_form 0ℚ }

-- the member at a place
abbrev pub member_at : List Constraint → ℕ → Constraint
member_at l i = slice_index_or l i no_member

-- what a quantity is, as a form over the variables
abbrev pub form_of : List Constraint → Quantity → Linear
form_of l (variable x) = variable_form x
form_of l (member i) = (member_at l i).form

-- some form mentions x
abbrev pub SomeFormMentions : ℕ → List Linear → Type 0
SomeFormMentions x [] = ⊥
SomeFormMentions x (f ∷ asked) = Mentions x f.products ⊎ SomeFormMentions x asked

-- the quantities of the list while some forms are asked: its variables and theirs, and its members' forms
abbrev pub IsQuantity : List Constraint → List Linear → Quantity → Type 0
IsQuantity l asked (variable x) = SomeMentions x l ⊎ SomeFormMentions x asked
IsQuantity l asked (member i) = i < length l

-- the forms of `> 0` and `>= 0` are restricted
abbrev pub IsRestricted : List Constraint → Quantity → Type 0
IsRestricted l (variable x) = ⊥
IsRestricted l (member i) = (i < length l) × IsInequality (member_at l i).relation

-- no quantity stands twice
abbrev pub IsSet : List Quantity → Type 0
IsSet [] = ⊤
IsSet (q ∷ s) = (Has q s → ⊥) × IsSet s

-- ---- writing a form over some quantities, the columns

-- a constant, and an entry for each quantity; only those of the columns count
pub record Expression : Type 0 where
  pub constant : ℚ
  pub entry : Quantity → ℚ

-- what a quantity is where v gives the variables their values
abbrev pub amount : List Constraint → (ℕ → ℚ) → Quantity → ℚ
amount l v q = value_at v (form_of l q)

-- the sum over some quantities
abbrev pub sum_over : (Quantity → ℚ) → List Quantity → ℚ
sum_over g [] = 0ℚ
sum_over g (q ∷ s) = g q +ℚ sum_over g s

-- what an expression over the columns is there
abbrev pub expressed : List Constraint → (ℕ → ℚ) → List Quantity → Expression → ℚ
expressed l v columns e = e.constant +ℚ sum_over (λ q. e.entry q *ℚ amount l v q) columns

-- each of the quantities is zero there
abbrev pub AllZero : List Constraint → (ℕ → ℚ) → List Quantity → Type 0
AllZero l v [] = ⊤
AllZero l v (q ∷ s) = (amount l v q ≡ 0ℚ) × AllZero l v s

-- wherever the quantities of the zero set are zero, the form is the expression
pub record IsWritten (l : List Constraint) (zeros columns : List Quantity) (f : Linear) (e : Expression) : Type 0 where
  pub same : (v : ℕ → ℚ) → AllZero l v zeros → value_at v f ≡ expressed l v columns e

-- two expressions with one constant and, over the columns, the same entries
pub record AreOne (columns : List Quantity) (d e : Expression) : Type 0 where
  pub constant : d.constant ≡ e.constant
  pub entries : (q : Quantity) → Has q columns → d.entry q ≡ e.entry q

-- ---- dictionaries

-- a constraint in front of a list, unless it is a disequation
abbrev pub in_front_unless_disequation : Relation → Constraint → List Constraint → List Constraint
in_front_unless_disequation Eq c l = c ∷ l
in_front_unless_disequation Gt c l = c ∷ l
in_front_unless_disequation Ge c l = c ∷ l
in_front_unless_disequation Ne c l = l

-- the other constraints of the list, in their order
abbrev pub without_disequations : List Constraint → List Constraint
without_disequations [] = []
without_disequations (c ∷ l) = in_front_unless_disequation c.relation c (without_disequations l)

-- the columns are a dictionary of the list for the zero set, while some forms are asked
pub record IsDictionary (l : List Constraint) (asked : List Linear) (zeros columns : List Quantity) : Type 0 where
  -- the zero set is any set of quantities that are zero in every solution of the list without its disequations
  pub zeros_are_quantities : (q : Quantity) → Has q zeros → IsQuantity l asked q
  pub zero : (q : Quantity) → Has q zeros → (p : Point) → Solves p (without_disequations l) → amount l (number p) q ≡ 0ℚ
  -- the columns are a set of quantities outside the zero set
  pub columns_are_quantities : (q : Quantity) → Has q columns → IsQuantity l asked q
  pub once : IsSet columns
  pub outside : (q : Quantity) → Has q columns → Has q zeros → ⊥
  -- where the zero set is zero, each quantity is written by the columns in one way, and in no other
  pub some_way : (q : Quantity) → IsQuantity l asked q → (e : Expression) × IsWritten l zeros columns (form_of l q) e
  pub one_way : (q : Quantity) → IsQuantity l asked q → (d e : Expression) → IsWritten l zeros columns (form_of l q) d
      → IsWritten l zeros columns (form_of l q) e → AreOne columns d e

-- a dictionary from which the simplex method may start
pub record IsFeasible (l : List Constraint) (asked : List Linear) (zeros columns : List Quantity) : Type 0 where
  pub dictionary : IsDictionary l asked zeros columns
  -- the zero set has the equations' forms
  pub equations : (i : ℕ) → i < length l → (member_at l i).relation ≡ Eq → Has (member i) zeros
  -- each restricted quantity outside the columns and the zero set has a constant not below 0
  pub constants : (q : Quantity) → IsRestricted l q → (Has q columns → ⊥) → (Has q zeros → ⊥) → (e : Expression)
      → IsWritten l zeros columns (form_of l q) e → IsNotNegative e.constant
  -- a variable among the columns stands in no restricted quantity's row
  pub free : (x : ℕ) → Has (variable x) columns → (q : Quantity) → IsRestricted l q → (e : Expression)
      → IsWritten l zeros columns (form_of l q) e → e.entry (variable x) ≡ 0ℚ
