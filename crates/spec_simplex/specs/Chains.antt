-- Chains of exchanges from a feasible dictionary of a list, by the rule of the least numbers (Bland 1977).
use Rattle.std.specs.Prelude.{◌≡◌, ◌↔◌, ℕ, ◌<◌, Bool, true, List}
use Rattle.spec_numbers.specs.Rational.{ℚ}
use Rattle.spec_linear.specs.Form.{Linear}
use Rattle.spec_linear.specs.Solution.{Has}
use Rattle.spec_simplex.specs.Dictionary.{Dictionary, IsDictionary}
use Rattle.spec_simplex.specs.Rule.{Chain, IsDue}
use Rattle.spec_simplex.specs.LimitsDictionary.{Quantity, member, Expression, IsQuantity, IsRestricted, IsFeasible, IsWritten, form_of}
use Rattle.spec_simplex.specs.Overflow.{Moment}

-- numbers for some quantities, each its own, that ascend on the list's members
pub record IsNumbering (quantity : ℕ → Quantity) (size : ℕ) : Type 0 where
  pub once : (i j : ℕ) → i < size → j < size → quantity i ≡ quantity j → i ≡ j
  pub ascends : (i j a b : ℕ) → i < size → j < size → quantity i ≡ member a → quantity j ≡ member b → a < b → i < j

-- the expression has this constant and, over the columns, these entries
pub record HasNumbers (quantity : ℕ → Quantity) (is_column : ℕ → Bool) (e : Expression)
    (constant : ℚ) (entry : ℕ → ℚ) : Type 0 where
  pub constant_is : e.constant ≡ constant
  pub entries_are : (c : ℕ) → is_column c ≡ true → e.entry (quantity c) ≡ entry c

-- the form is written over the columns with this constant and these entries
pub record IsWrittenWith (m : Moment) (zeros columns : List Quantity) (quantity : ℕ → Quantity)
    (is_column : ℕ → Bool) (f : Linear) (constant : ℚ) (entry : ℕ → ℚ) : Type 0 where
  pub expression : Expression
  pub written : IsWritten m.list zeros columns f expression
  pub numbers : HasNumbers quantity is_column expression constant entry

-- the dictionary of numbered quantities is that of the moment's list over these columns, and asks for the form
pub record Shows (m : Moment) (zeros columns : List Quantity) (quantity : ℕ → Quantity)
    (f : Linear) (d : Dictionary) : Type 0 where
  pub columns_are : (c : ℕ) → (d.is_column c ≡ true) ↔ Has (quantity c) columns
  pub each_column : (q : Quantity) → Has q columns → (c : ℕ) × (quantity c ≡ q)
  pub rows_are : (q : ℕ) → d.is_row q ≡ true
      → IsQuantity m.list m.asked (quantity q) × (Has (quantity q) columns → ⊥) × (Has (quantity q) zeros → ⊥)
  -- each restricted quantity that is neither a column nor in the zero set is among the rows
  pub each_restricted : (q : Quantity) → IsRestricted m.list q → (Has q columns → ⊥) → (Has q zeros → ⊥)
      → (i : ℕ) × (d.is_row i ≡ true) × (quantity i ≡ q)
  pub rows : (q : ℕ) → d.is_row q ≡ true
      → IsWrittenWith m zeros columns quantity d.is_column (form_of m.list (quantity q)) (d.constant q) (d.entry q)
  pub asked : IsWrittenWith m zeros columns quantity d.is_column f d.value d.coefficient

-- from a feasible dictionary of the list there are n successive exchanges for an asked form, after which another is due
pub record IsBlandChain (m : Moment) (n : ℕ) : Type 0 where
  pub form : Linear
  pub is_asked : Has form m.asked
  pub zeros : List Quantity
  pub columns : List Quantity
  pub feasible : IsFeasible m.list m.asked zeros columns
  pub size : ℕ
  pub quantity : ℕ → Quantity
  pub numbering : IsNumbering quantity size
  pub restricted : ℕ → Bool
  pub flags : (q : ℕ) → q < size → (restricted q ≡ true) ↔ IsRestricted m.list (quantity q)
  pub first : Dictionary
  pub is_dictionary : IsDictionary size first
  pub shows : Shows m zeros columns quantity form first
  pub last : Dictionary
  pub chain : Chain size restricted first n last
  pub column : ℕ
  pub row : ℕ
  pub another : IsDue restricted last column row
