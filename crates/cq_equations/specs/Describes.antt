-- How the quantities of a table are those of a list of equations.
use Rattle.std.specs.Prelude.{◌≡◌, ◌⊎◌, ℕ, ◌+◌, ◌<◌, suc, List, [], ◌∷◌, ◌++◌, length, true}
use Rattle.spec_numbers.specs.Rational.{ℚ, 0ℚ, ◌+ℚ◌}
use Rattle.spec_numbers.specs.Sums.{Monomial}
use Rattle.spec_linear.specs.Form.{Linear, value_at}
use Rattle.spec_linear.specs.Solution.{Constraint, Has}
use Rattle.spec_linear.specs.declared.Relation.TheVariants.{Eq}
use Rattle.spec_simplex.specs.LimitsDictionary.{Quantity, variable, member, member_at, IsSet, IsQuantity, Expression, amount, form_of}
use Rattle.cq_frac.specs.declared.row.Entry.{Entry}
use Rattle.cq_frac.specs.Row.{Row}
use Rattle.cq_frac.specs.Rows.{sum_at, unit, IsRowFrom}
use Rattle.cq_dict.specs.declared.table.Role.{Role}
use Rattle.cq_dict.specs.declared.table.Role.TheVariants.{Basic}
use Rattle.cq_dict.specs.Roles.{IsAt, is_live, is_dropped, IsMet}

-- an assignment of the variables and one of the table's quantities give each quantity of the list the same
pub record Agree (l : List Constraint) (asked : List Linear) (place : Quantity → ℕ) (v x : ℕ → ℚ) : Type 0 where
  pub same : (q : Quantity) → IsQuantity l asked q → x (place q) ≡ amount l v q

-- the table speaks of the list: place gives each quantity its number; live and gone are the live and the dropped columns
pub record Describes (l : List Constraint) (asked : List Linear) (roles : List Role) (place : Quantity → ℕ) (live gone : List Quantity) : Type 0 where
  -- each assignment of the variables is one of the quantities that meets the rows, and each of these comes from one of the variables
  pub forth : (v : ℕ → ℚ) → (x : ℕ → ℚ) × IsMet x roles × Agree l asked place v x
  pub back : (x : ℕ → ℚ) → IsMet x roles → (v : ℕ → ℚ) × Agree l asked place v x
  -- the columns are quantities of the list, each once, and each column is among them
  pub columns : (q : Quantity) → Has q (live ++ gone) → IsQuantity l asked q
  pub once : IsSet (live ++ gone)
  pub apart : (q r : Quantity) → Has q (live ++ gone) → Has r (live ++ gone) → place q ≡ place r → q ≡ r
  pub live_is : (q : Quantity) → Has q live → is_live roles (place q) ≡ true
  pub gone_is : (q : Quantity) → Has q gone → is_dropped roles (place q) ≡ true
  pub each_live : (c : ℕ) → is_live roles c ≡ true → (q : Quantity) × Has q live × (place q ≡ c)
  pub each_gone : (c : ℕ) → is_dropped roles c ≡ true → (q : Quantity) × Has q gone × (place q ≡ c)
  -- every other quantity is a row
  pub others : (q : Quantity) → IsQuantity l asked q → Has q (live ++ gone) ⊎ ((r : Row) × IsAt roles (place q) (Basic r))

-- every row is a quantity of the list
abbrev pub NoOtherRows : List Constraint → List Linear → List Role → (Quantity → ℕ) → Type 0
NoOtherRows l asked roles place = (i : ℕ) (r : Row) → IsAt roles i (Basic r) → (q : Quantity) × IsQuantity l asked q × (place q ≡ i)

-- the list is one of equations, and each of its members' forms is a dropped column, or a row that is zero where these are
pub record IsSolved (l : List Constraint) (roles : List Role) (place : Quantity → ℕ) (gone : List Quantity) : Type 0 where
  pub equations : (i : ℕ) → i < length l → (member_at l i).relation ≡ Eq
  pub members : (i : ℕ) → i < length l → Has (member i) gone ⊎ ((r : Row) × IsAt roles (place (member i)) (Basic r) × (r.live ≡ []) × (r.constant ≡ 0ℚ))
  pub only : (q : Quantity) → Has q gone → (i : ℕ) × (i < length l) × (q ≡ member i)

-- the live entries of each row stand at columns that were made after it
pub record ReachesBehind (roles : List Role) : Type 0 where
  pub behind : (i : ℕ) (r : Row) → IsAt roles i (Basic r) → IsRowFrom (is_live roles) (i + 1) r.live

-- the members' forms, by their places from n on
abbrev pub members_from : ℕ → List Constraint → List Quantity
members_from n [] = []
members_from n (c ∷ l) = member n ∷ members_from (suc n) l

-- a form over variables as one over the table's quantities
abbrev pub placed : (Quantity → ℕ) → List Monomial → List Entry
placed place [] = []
placed place (m ∷ s) = record { quantity = place (variable m.variable); factor = m.factor } ∷ placed place s

-- the numbers of a row, by quantities
abbrev pub numbers : (Quantity → ℕ) → Row → Expression
numbers place r = record { constant = r.constant; entry = λ q. sum_at (unit (place q)) r.live +ℚ sum_at (unit (place q)) r.dropped }

-- what the row of number i is: a quantity of the list, or an asked form
pub record Known (l : List Constraint) (asked : List Linear) (roles : List Role) (place : Quantity → ℕ) (i : ℕ) : Type 0 where
  pub form : Linear
  pub kind : ((q : Quantity) × IsQuantity l asked q × (place q ≡ i) × (form_of l q ≡ form)) ⊎ Has form asked
  pub value : (v x : ℕ → ℚ) → IsMet x roles → Agree l asked place v x → value_at v form ≡ x i

-- each row of the table is one of these
abbrev pub AllKnown : List Constraint → List Linear → List Role → (Quantity → ℕ) → Type 0
AllKnown l asked roles place = (i : ℕ) (r : Row) → IsAt roles i (Basic r) → Known l asked roles place i

-- the list with an equation last
abbrev pub with_equation : List Constraint → Linear → List Constraint
with_equation l f = l ++ record { relation = Eq; form = f } ∷ []
