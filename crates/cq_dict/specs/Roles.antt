-- The quantities of a dictionary by their numbers: what is at each, a live or a dropped column, or a row over columns.
use Rattle.std.specs.Prelude.{◌≡◌, ℕ, zero, suc, List, [], ◌∷◌, ◌++◌, length, Bool, true, false}
use Rattle.spec_numbers.specs.Rational.{ℚ, 0ℚ, 1ℚ, ◌+ℚ◌, ◌*ℚ◌, ◌/ℚ◌}
use Rattle.cq_frac.specs.declared.Operation.{Operation}
use Rattle.cq_frac.specs.declared.Operation.TheVariants.{Sum, Difference, Product, Quotient}
use Rattle.cq_frac.specs.declared.row.Entry.{Entry}
use Rattle.cq_frac.specs.Row.{Row}
use Rattle.cq_frac.specs.Rows.{sum_at, unit, Has}
use Rattle.cq_frac.specs.Numbers.{right_side, IsOver, Site, IsNumber}
use Rattle.cq_dict.specs.declared.table.Role.{Role}
use Rattle.cq_dict.specs.declared.table.Role.TheVariants.{Live, Dropped, Basic}

-- the role of each quantity, and whether it is restricted, in the order of making
pub record Quantities : Type 0 where
  pub roles : List Role
  pub restricted : List Bool

-- the role of quantity i is s
abbrev pub IsAt : List Role → ℕ → Role → Type 0
IsAt [] i s = ⊥
IsAt (t ∷ ts) zero s = s ≡ t
IsAt (t ∷ ts) (suc i) s = IsAt ts i s

-- quantity i is a row
abbrev pub IsRow : List Role → ℕ → Type 0
IsRow roles i = (r : Row) × IsAt roles i (Basic r)

-- a live column, a dropped column, a row
abbrev pub live_role : Role → Bool
live_role Live = true
live_role Dropped = false
live_role (Basic r) = false

abbrev pub dropped_role : Role → Bool
dropped_role Live = false
dropped_role Dropped = true
dropped_role (Basic r) = false

abbrev pub row_role : Role → Bool
row_role Live = false
row_role Dropped = false
row_role (Basic r) = true

-- quantity c is a live column, a dropped column
abbrev pub is_live : List Role → ℕ → Bool
is_live [] c = false
is_live (t ∷ ts) zero = live_role t
is_live (t ∷ ts) (suc c) = is_live ts c

abbrev pub is_dropped : List Role → ℕ → Bool
is_dropped [] c = false
is_dropped (t ∷ ts) zero = dropped_role t
is_dropped (t ∷ ts) (suc c) = is_dropped ts c

-- the role of quantity q; past the end that of a column that stands nowhere
abbrev pub role_at : List Role → ℕ → Role
role_at [] q = Dropped
role_at (s ∷ roles) zero = s
role_at (s ∷ roles) (suc q) = role_at roles q

-- quantity q is a row
abbrev pub is_row : List Role → ℕ → Bool
is_row roles q = row_role (role_at roles q)

abbrev pub constant_in : Role → ℚ
constant_in Live = 0ℚ
constant_in Dropped = 0ℚ
constant_in (Basic r) = r.constant

abbrev pub factor_in : Role → ℕ → ℚ
factor_in Live c = 0ℚ
factor_in Dropped c = 0ℚ
factor_in (Basic r) c = sum_at (unit c) r.live

-- a row's constant; 0 of a column
abbrev pub constant_at : List Role → ℕ → ℚ
constant_at roles q = constant_in (role_at roles q)

-- a row's factor of the live column c, 0 where it has no entry there; 0 of a column
abbrev pub factor_at : List Role → ℕ → ℕ → ℚ
factor_at roles q c = factor_in (role_at roles q) c

-- quantity q is restricted
abbrev pub is_restricted : List Bool → ℕ → Bool
is_restricted [] q = false
is_restricted (b ∷ bs) zero = b
is_restricted (b ∷ bs) (suc q) = is_restricted bs q

-- the entries of each row are in order and without zeros, the live ones at live columns, the dropped ones at dropped columns
pub record AreOverColumns (roles : List Role) : Type 0 where
  pub rows : (i : ℕ) (r : Row) → IsAt roles i (Basic r) → IsOver (is_live roles) (is_dropped roles) r

-- rows over the columns, and a flag for each quantity
pub record AreQuantities (q : Quantities) : Type 0 where
  pub table : AreOverColumns q.roles
  pub flags : length q.restricted ≡ length q.roles

-- an assignment of all quantities meets each row
pub record IsMet (x : ℕ → ℚ) (roles : List Role) : Type 0 where
  pub rows : (i : ℕ) (r : Row) → IsAt roles i (Basic r) → x i ≡ right_side x r

-- for every choice of the columns' values there is an assignment that meets the rows
abbrev pub AreFree : List Role → Type 0
AreFree roles = (y : ℕ → ℚ) → (x : ℕ → ℚ) × IsMet x roles × ((c : ℕ) → is_live roles c ≡ true → x c ≡ y c) × ((c : ℕ) → is_dropped roles c ≡ true → x c ≡ y c)

-- a row over the columns whose value is the given one wherever an assignment meets the rows
pub record Expresses (roles : List Role) (value : (ℕ → ℚ) → ℚ) (r : Row) : Type 0 where
  pub over : IsOver (is_live roles) (is_dropped roles) r
  pub value_is : (x : ℕ → ℚ) → IsMet x roles → right_side x r ≡ value x

-- two rows of the same numbers
pub record SameNumbers (r s : Row) : Type 0 where
  pub live : r.live ≡ s.live
  pub dropped : r.dropped ≡ s.dropped
  pub constant : r.constant ≡ s.constant

-- over one table a value is expressed by one row alone
abbrev pub ExpressesUniquely : List Role → Type 0
ExpressesUniquely roles = (value : (ℕ → ℚ) → ℚ) (r s : Row) → Expresses roles value r → Expresses roles value s → SameNumbers r s

-- quantity i is a live column, a dropped column or a row as before
pub record IsOfOneKind (old new : List Role) (i : ℕ) : Type 0 where
  pub live : is_live new i ≡ is_live old i
  pub dropped : is_dropped new i ≡ is_dropped old i
  pub row : is_row new i ≡ is_row old i

-- the row has become a live column, the column a row, and each other quantity is of its kind
pub record IsExchanged (old : List Role) (row column : ℕ) (new : List Role) : Type 0 where
  pub size : length new ≡ length old
  pub leaves : IsAt new row Live
  pub enters : IsRow new column
  pub others : (i : ℕ) → (i ≡ row → ⊥) → (i ≡ column → ⊥) → IsOfOneKind old new i

-- the row has become a dropped column, the column a row, and each other quantity is of its kind
pub record IsEliminated (old : List Role) (row column : ℕ) (new : List Role) : Type 0 where
  pub size : length new ≡ length old
  pub leaves : IsAt new row Dropped
  pub enters : IsRow new column
  pub others : (i : ℕ) → (i ≡ row → ⊥) → (i ≡ column → ⊥) → IsOfOneKind old new i

-- the column is of this kind now, and each other quantity is of its kind
pub record ChangesKind (old : List Role) (column : ℕ) (kind : Role) (new : List Role) : Type 0 where
  pub size : length new ≡ length old
  pub own : IsAt new column kind
  pub others : (i : ℕ) → (i ≡ column → ⊥) → IsOfOneKind old new i

-- ---- what an exchange and a form make

-- a row with an entry in the live column
pub record HasEntry (roles : List Role) (row column : ℕ) : Type 0 where
  pub own : Row
  pub factor : ℚ
  pub is_row : IsAt roles row (Basic own)
  pub in_row : Has (record { quantity = column; factor = factor }) own.live

-- the operations of an exchange of the row and the column, by the row's entry there: quotients of the row's numbers, or of 1, by it;
-- and for each other row with an entry there products of that entry and those quotients, and differences of the other row's numbers and those products
pub data PivotPair (roles : List Role) (row column : ℕ) : Operation → ℚ → ℚ → Type 0 where
  pivot_quotient : (x : HasEntry roles row column) (at : Site) (n : ℚ) → IsNumber x.own at n → PivotPair roles row column Quotient n x.factor
  pivot_inverse : (x : HasEntry roles row column) → PivotPair roles row column Quotient 1ℚ x.factor
  pivot_product : (x : HasEntry roles row column) (i : ℕ) (y : HasEntry roles i column) → (i ≡ row → ⊥) → (at : Site) (n : ℚ) → IsNumber x.own at n → PivotPair roles row column Product y.factor (n /ℚ x.factor)
  pivot_product_inverse : (x : HasEntry roles row column) (i : ℕ) (y : HasEntry roles i column) → (i ≡ row → ⊥) → PivotPair roles row column Product y.factor (1ℚ /ℚ x.factor)
  pivot_difference : (x : HasEntry roles row column) (i : ℕ) (y : HasEntry roles i column) → (i ≡ row → ⊥) → (at : Site) (m n : ℚ) → IsNumber y.own at m → IsNumber x.own at n → PivotPair roles row column Difference m (y.factor *ℚ (n /ℚ x.factor))

-- one product of a form, with the row that expresses what the constant and the earlier products gave, and the row of its quantity
pub record Adding (roles : List Role) (form : List Entry) (constant : ℚ) : Type 0 where
  pub earlier : List Entry
  pub now : Entry
  pub later : List Entry
  pub split : form ≡ earlier ++ now ∷ later
  pub nonzero : now.factor ≡ 0ℚ → ⊥
  pub before : Row
  pub gave : Expresses roles (λ x. constant +ℚ sum_at x earlier) before
  pub own : Row
  pub expresses : Expresses roles (λ x. x now.quantity) own

-- the operations of adding a form, product by product in its order: products of the factor and the numbers of its quantity's row,
-- and sums of what came before at each place and that product
pub data FormPair (roles : List Role) (form : List Entry) (constant : ℚ) : Operation → ℚ → ℚ → Type 0 where
  form_product : (a : Adding roles form constant) (at : Site) (n : ℚ) → IsNumber a.own at n → FormPair roles form constant Product a.now.factor n
  form_sum : (a : Adding roles form constant) (at : Site) (m n : ℚ) → IsNumber a.before at m → IsNumber a.own at n → FormPair roles form constant Sum m (a.now.factor *ℚ n)
