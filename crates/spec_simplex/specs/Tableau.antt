-- A tableau of quantities, each written over the live and the dropped columns, and what a store keeps of it.
use Rattle.std.specs.Prelude.{◌≡◌, ℕ, ◌<◌, ◌≤◌, List, [], ◌∷◌, Bool, true, false, ◌⊎◌, ⊤}
use Rattle.std.specs.List.{AllByRecursion}
use Rattle.spec_numbers.specs.Rational.{ℚ, 0ℚ, 1ℚ, ◌+ℚ◌, ◌*ℚ◌, neg_ℚ, IsPositive, IsNotNegative}
use Rattle.spec_numbers.specs.Sums.{Monomial, sum_at, factor_of}
use Rattle.spec_linear.specs.declared.Relation.{Relation}
use Rattle.spec_linear.specs.declared.Relation.TheVariants.{Eq, Gt, Ge, Ne}
use Rattle.spec_linear.specs.Form.{Linear, value_at}
use Rattle.spec_linear.specs.Solution.{Constraint, Satisfies, Has, equal_zero}
use Rattle.spec_linear.specs.Weak.{above_zero, at_least_zero, weak}
use Rattle.spec_simplex.specs.Reach.{Rises, IsFlat, Stands}

-- a constant, and products of the columns' numbers
pub record Row : Type 0 where
  pub constant : ℚ
  pub live : List Monomial
  pub dropped : List Monomial

-- quantities by their numbers; a column's row is the column itself
pub record Tableau : Type 0 where
  pub count : ℕ
  pub form : ℕ → Linear
  pub is_restricted : ℕ → Bool
  pub is_live : ℕ → Bool
  pub is_dropped : ℕ → Bool
  pub row : ℕ → Row

-- no quantity yet
abbrev pub empty : Tableau
empty = record {
  count = 0;
  form = λ q. record { products = []; constant = 0ℚ };
  is_restricted = λ q. false;
  is_live = λ q. false;
  is_dropped = λ q. false;
  row = λ q. record { constant = 0ℚ; live = []; dropped = [] };
}

-- what the quantities are at an assignment of the variables
abbrev pub numbers : Tableau → (ℕ → ℚ) → ℕ → ℚ
numbers d v q = value_at v (d.form q)

-- what a row is where the quantities have the numbers x
abbrev pub right_side : (ℕ → ℚ) → Row → ℚ
right_side x r = r.constant +ℚ (sum_at x r.live +ℚ sum_at x r.dropped)

-- the dropped columns are zero
abbrev pub Within : Tableau → (ℕ → ℚ) → Type 0
Within d v = (c : ℕ) → d.is_dropped c ≡ true → numbers d v c ≡ 0ℚ

-- the products are of quantities that p picks
abbrev pub AllIn : (ℕ → Bool) → List Monomial → Type 0
AllIn p s = AllByRecursion (λ m. p m.variable ≡ true) s

-- an assignment where the live columns are as y says, and the dropped ones are zero
pub record Chosen (d : Tableau) (y : ℕ → ℚ) : Type 0 where
  pub at : ℕ → ℚ
  pub live : (c : ℕ) → d.is_live c ≡ true → numbers d at c ≡ y c
  pub dropped : Within d at

-- each quantity is written by the columns, and the live columns may be anything
pub record IsWritten (d : Tableau) : Type 0 where
  pub rows : (q : ℕ) → q < d.count → (v : ℕ → ℚ) → numbers d v q ≡ right_side (numbers d v) (d.row q)
  pub over_live : (q : ℕ) → q < d.count → AllIn d.is_live (d.row q).live
  pub over_dropped : (q : ℕ) → q < d.count → AllIn d.is_dropped (d.row q).dropped
  pub choose : (y : ℕ → ℚ) → Chosen d y
  pub made : (c : ℕ) → d.is_live c ≡ true → c < d.count
  pub made_dropped : (c : ℕ) → d.is_dropped c ≡ true → c < d.count
  pub made_restricted : (c : ℕ) → d.is_restricted c ≡ true → c < d.count

-- ---- how a program's rows come to be so
-- a row, taken at numbers of the quantities
abbrev pub MeetsRows : Tableau → (ℕ → ℚ) → Type 0
MeetsRows d x = (q : ℕ) → q < d.count → x q ≡ right_side x (d.row q)

-- the column alone
abbrev pub unit_of : ℕ → List Monomial
unit_of c = record { variable = c; factor = 1ℚ } ∷ []

-- rows are over columns, and a column's row is the column
pub record IsShaped (d : Tableau) : Type 0 where
  pub over_live : (q : ℕ) → q < d.count → AllIn d.is_live (d.row q).live
  pub over_dropped : (q : ℕ) → q < d.count → AllIn d.is_dropped (d.row q).dropped
  pub live_row : (c : ℕ) → d.is_live c ≡ true → d.row c ≡ record { constant = 0ℚ; live = unit_of c; dropped = [] }
  pub dropped_row : (c : ℕ) → d.is_dropped c ≡ true → d.row c ≡ record { constant = 0ℚ; live = []; dropped = unit_of c }
  pub not_live : (c : ℕ) → d.is_dropped c ≡ true → d.is_live c ≡ false
  pub made : (c : ℕ) → d.is_live c ≡ true → c < d.count
  pub made_dropped : (c : ℕ) → d.is_dropped c ≡ true → c < d.count
  pub made_restricted : (c : ℕ) → d.is_restricted c ≡ true → c < d.count

-- numbers obey the rows just where the forms give them at some assignment
pub record Linked (d : Tableau) : Type 0 where
  pub shaped : IsShaped d
  pub agrees : (v : ℕ → ℚ) → MeetsRows d (numbers d v)
  pub defines : (x : ℕ → ℚ) → MeetsRows d x → (v : ℕ → ℚ) × ((q : ℕ) → q < d.count → numbers d v q ≡ x q)

-- each quantity of a list is below a number
abbrev pub AllBelow : ℕ → List Monomial → Type 0
AllBelow n s = AllByRecursion (λ m. m.variable < n) s

-- a restricted quantity has no constant below zero, and no unrestricted live column in its row
pub record IsFeasible (d : Tableau) : Type 0 where
  pub constants : (q : ℕ) → q < d.count → d.is_restricted q ≡ true → IsNotNegative (d.row q).constant
  pub columns : (q : ℕ) → q < d.count → d.is_restricted q ≡ true → AllIn d.is_restricted (d.row q).live

-- the quantity of a form
pub record Place (d : Tableau) (f : Linear) : Type 0 where
  pub quantity : ℕ
  pub made : quantity < d.count
  pub form_is : d.form quantity ≡ f

-- zero wherever the dropped columns are
pub record IsNothing (r : Row) : Type 0 where
  pub constant : r.constant ≡ 0ℚ
  pub live : r.live ≡ []

-- a constant that is not zero, or an entry of a live column that is not
pub data IsSomething (r : Row) : Type 0 where
  by_constant : (r.constant ≡ 0ℚ → ⊥) → IsSomething r
  by_entry : (c : ℕ) → (factor_of c r.live ≡ 0ℚ → ⊥) → IsSomething r

-- what makes an assignment within, where no restricted quantity is below zero, solve a member as a weak row
abbrev pub Held : Tableau → Relation → Linear → Type 0
Held d Eq f = IsFlat (Within d) f
Held d Gt f = (p : Place d f) × (d.is_restricted p.quantity ≡ true)
Held d Ge f = (p : Place d f) × (d.is_restricted p.quantity ≡ true)
Held d Ne f = ⊤

-- a member by which a form is not below zero
abbrev pub Owned : List Constraint → Linear → Type 0
Owned l f = Has (at_least_zero f) l ⊎ (Has (above_zero f) l ⊎ Has (equal_zero f) l)

-- the tableau speaks of the weak list
pub record Sound (d : Tableau) (l : List Constraint) : Type 0 where
  pub written : IsWritten d
  pub feasible : IsFeasible d
  pub inside : (v : ℕ → ℚ) → Satisfies v (weak l) → Within d v
  pub held : (c : Constraint) → Has c l → Held d c.relation c.form
  pub restricted : (q : ℕ) → q < d.count → d.is_restricted q ≡ true → Owned l (d.form q)

-- what a store keeps of its tableau and its list: it speaks of the weak list, and each member stands
pub record Invariant (d : Tableau) (l : List Constraint) : Type 0 where
  pub sound : Sound d l
  pub stands : (c : Constraint) → Has c l → Stands (Within d) l c.relation c.form

-- a member as its row shows it
abbrev pub Placed : Tableau → List Constraint → Relation → Linear → Type 0
Placed d l Eq f = (p : Place d f) × IsNothing (d.row p.quantity)
Placed d l Gt f = (p : Place d f) × (d.is_restricted p.quantity ≡ true) × Rises l f
Placed d l Ge f = (p : Place d f) × (d.is_restricted p.quantity ≡ true) × (IsNothing (d.row p.quantity) ⊎ Rises l f)
Placed d l Ne f = (p : Place d f) × IsSomething (d.row p.quantity)

-- the same, read off the rows
pub record Shown (d : Tableau) (l : List Constraint) : Type 0 where
  pub written : IsWritten d
  pub feasible : IsFeasible d
  pub dropped : (v : ℕ → ℚ) → Satisfies v (weak l) → Within d v
  pub placed : (c : Constraint) → Has c l → Placed d l c.relation c.form
  pub restricted : (q : ℕ) → q < d.count → d.is_restricted q ≡ true → Owned l (d.form q)

-- e is d, on any basis, with the quantities in drops dropped, with those in restricts restricted, and maybe with new ones
pub record Changed (d e : Tableau) (drops restricts : List ℕ) : Type 0 where
  pub count : d.count ≤ e.count
  pub form : (z : ℕ) → z < d.count → e.form z ≡ d.form z
  pub drops_made : (z : ℕ) → Has z drops → z < d.count
  pub drops_each : (z : ℕ) → Has z drops → e.is_dropped z ≡ true
  pub dropped_still : (z : ℕ) → d.is_dropped z ≡ true → e.is_dropped z ≡ true
  pub dropped_only : (z : ℕ) → e.is_dropped z ≡ true → Has z drops ⊎ (d.is_dropped z ≡ true)
  pub restricts_made : (z : ℕ) → Has z restricts → z < d.count
  pub restricts_each : (z : ℕ) → Has z restricts → e.is_restricted z ≡ true
  pub restricted_still : (z : ℕ) → d.is_restricted z ≡ true → e.is_restricted z ≡ true
  pub restricted_only : (z : ℕ) → e.is_restricted z ≡ true → Has z restricts ⊎ (d.is_restricted z ≡ true)

-- e is d after an exchange of the row q and the live column c, with those in restricts restricted
pub record Exchanged (d e : Tableau) (q c : ℕ) (restricts : List ℕ) : Type 0 where
  pub changed : Changed d e [] restricts
  pub made : q < d.count
  pub column : d.is_live c ≡ true
  pub leaves : e.is_live q ≡ true
  pub others : (z : ℕ) → d.is_live z ≡ true → (z ≡ c → ⊥) → e.is_live z ≡ true

-- e is d after an exchange of the row q and the live column c, where q is dropped then
pub record Eliminated (d e : Tableau) (q c : ℕ) : Type 0 where
  pub changed : Changed d e (q ∷ []) []
  pub made : q < d.count
  pub others : (z : ℕ) → d.is_live z ≡ true → (z ≡ c → ⊥) → e.is_live z ≡ true

-- what makes a tableau without zeros in its rows feasible: a restricted quantity has no constant below zero, and no entry in
-- an unrestricted column
pub record HasFeasibleNumbers (d : Tableau) : Type 0 where
  pub constants : (q : ℕ) → q < d.count → d.is_restricted q ≡ true → IsNotNegative (d.row q).constant
  pub no_free_column : (q : ℕ) → q < d.count → d.is_restricted q ≡ true → (c : ℕ) → d.is_restricted c ≡ false → factor_of c (d.row q).live ≡ 0ℚ

-- the dropped columns that are not restricted, which are equations' own quantities, are zero
abbrev pub WithinEquations : Tableau → (ℕ → ℚ) → Type 0
WithinEquations d v = (c : ℕ) → d.is_dropped c ≡ true → d.is_restricted c ≡ false → numbers d v c ≡ 0ℚ

-- equations are zero by the dropped columns of equations alone; what a certificate needs beside the invariant
abbrev pub AreDropped : Tableau → List Constraint → Type 0
AreDropped d l = (c : Constraint) → Has c l → c.relation ≡ Eq → IsFlat (WithinEquations d) c.form

-- e is d, on any basis, with some dropped columns restored
pub record Restored (d e : Tableau) : Type 0 where
  pub count : e.count ≡ d.count
  pub form : (z : ℕ) → z < d.count → e.form z ≡ d.form z
  pub is_restricted : (z : ℕ) → e.is_restricted z ≡ d.is_restricted z
  pub dropped_only : (z : ℕ) → e.is_dropped z ≡ true → d.is_dropped z ≡ true

-- ---- what a row says of the greatest value
-- no live column can raise it: each is restricted, and no entry is above zero
abbrev pub IsOptimal : Tableau → List Monomial → Type 0
IsOptimal d s = AllByRecursion (λ m. (d.is_restricted m.variable ≡ true) × IsNotNegative (neg_ℚ m.factor)) s

-- a live column along which no restricted quantity falls
pub record IsUnlimited (d : Tableau) (c : ℕ) : Type 0 where
  pub is_live : d.is_live c ≡ true
  pub rows : (q : ℕ) → q < d.count → d.is_restricted q ≡ true → IsNotNegative (factor_of c (d.row q).live)

-- each restricted quantity has a constant above zero, or does not fall along the column c
abbrev pub HasRoom : Tableau → ℕ → Type 0
HasRoom d c = (q : ℕ) → q < d.count → d.is_restricted q ≡ true → IsPositive (d.row q).constant ⊎ IsNotNegative (factor_of c (d.row q).live)

-- each product of the row is zero
abbrev pub EachTermZero : (ℕ → ℚ) → List Monomial → Type 0
EachTermZero x s = AllByRecursion (λ m. m.factor *ℚ x m.variable ≡ 0ℚ) s
