-- What an operation on rows makes: rows with a constant, over live and dropped columns.
use Rattle.std.specs.Prelude.{◌≡◌, ℕ, Bool, true, nat_eq}
use Rattle.spec_numbers.specs.Rational.{ℚ, ◌+ℚ◌, ◌-ℚ◌, ◌*ℚ◌, ◌/ℚ◌}
use Rattle.cq_frac.specs.declared.Operation.{Operation}
use Rattle.cq_frac.specs.declared.Operation.TheVariants.{Product, Quotient}
use Rattle.cq_frac.specs.declared.Pair.{Pair}
use Rattle.cq_frac.specs.Refused.{IsRefused}
use Rattle.cq_frac.specs.declared.row.Entry.{Entry}
use Rattle.cq_frac.specs.declared.row.Joining.{Joining}
use Rattle.cq_frac.specs.declared.row.Joining.TheVariants.{Less}
use Rattle.cq_frac.specs.Row.{Row}
use Rattle.cq_frac.specs.Rows.{sum_at, IsRowFrom, Has, joined, operation_of, over, choose, unit, except}

-- what a row says its quantity is, where x gives the columns their values
abbrev pub right_side : (ℕ → ℚ) → Row → ℚ
right_side x r = r.constant +ℚ (sum_at x r.live +ℚ sum_at x r.dropped)

-- both lists are in order, without zeros, and over columns that pass the tests
pub record IsOver (live dropped : ℕ → Bool) (r : Row) : Type 0 where
  pub live_row : IsRowFrom live 0 r.live
  pub dropped_row : IsRowFrom dropped 0 r.dropped

-- where a number of a row stands
pub data Site : Type 0 where
  at_constant : Site
  at_live : ℕ → Site
  at_dropped : ℕ → Site

-- the row has this number at the place
pub data IsNumber (r : Row) : Site → ℚ → Type 0 where
  constant_number : IsNumber r at_constant r.constant
  live_number : (m : Entry) → Has m r.live → IsNumber r (at_live m.quantity) m.factor
  dropped_number : (m : Entry) → Has m r.dropped → IsNumber r (at_dropped m.quantity) m.factor

-- the row a with k times the row b joined to it
pub record IsJoined (a : Row) (how : Joining) (k : ℚ) (b r : Row) : Type 0 where
  pub over : (live dropped : ℕ → Bool) → IsOver live dropped a → IsOver live dropped b → IsOver live dropped r
  pub live : (x : ℕ → ℚ) → sum_at x r.live ≡ joined how (sum_at x a.live) (k *ℚ sum_at x b.live)
  pub dropped : (x : ℕ → ℚ) → sum_at x r.dropped ≡ joined how (sum_at x a.dropped) (k *ℚ sum_at x b.dropped)
  pub constant : r.constant ≡ joined how a.constant (k *ℚ b.constant)

-- the operations of that: products of k and a number of b, and at each place the number of a and that product
pub data JoinPair (a : Row) (how : Joining) (k : ℚ) (b : Row) : Operation → ℚ → ℚ → Type 0 where
  product_pair : (at : Site) (n : ℚ) → IsNumber b at n → JoinPair a how k b Product k n
  joined_pair : (at : Site) (m n : ℚ) → IsNumber a at m → IsNumber b at n → JoinPair a how k b (operation_of how) m (k *ℚ n)

-- one of these operations refuses the pair
abbrev pub RefusesJoin : Row → Joining → ℚ → Row → Pair → Type 0
RefusesJoin a how k b pair = JoinPair a how k b pair.operation pair.left pair.right × IsRefused pair

-- each number of the row by p
pub record IsDivided (row : Row) (p : ℚ) (q : Row) : Type 0 where
  pub live : q.live ≡ over p row.live
  pub dropped : q.dropped ≡ over p row.dropped
  pub constant : q.constant ≡ row.constant /ℚ p

-- the operations of that
pub data QuotientPair (row : Row) (p : ℚ) : Operation → ℚ → ℚ → Type 0 where
  quotient_pair : (at : Site) (n : ℚ) → IsNumber row at n → QuotientPair row p Quotient n p

abbrev pub RefusesQuotient : Row → ℚ → Pair → Type 0
RefusesQuotient row p pair = QuotientPair row p pair.operation pair.left pair.right × IsRefused pair

-- the test, and one more column
abbrev pub also : ℕ → (ℕ → Bool) → ℕ → Bool
also c p y = choose (nat_eq y c) true (p y)

-- the row of the column that enters: q is the leaving quantity's row by its entry there, and rate is 1 by that entry
pub record IsEntered (q : Row) (column leaving : ℕ) (rate : ℚ) (r : Row) : Type 0 where
  pub over : (live dropped : ℕ → Bool) → IsOver live dropped q → IsOver (also leaving (except column live)) dropped r
  pub value : (x : ℕ → ℚ) → right_side x r ≡ (rate *ℚ x leaving -ℚ right_side x q) +ℚ sum_at (unit column) q.live *ℚ x column

-- another row, which has the entry e in the column: e times q goes off, and e times rate comes in at the leaving quantity
pub record IsShifted (other : Row) (e : ℚ) (q : Row) (leaving : ℕ) (rate : ℚ) (r : Row) : Type 0 where
  pub over : (live dropped : ℕ → Bool) → IsOver live dropped other → IsOver live dropped q → IsOver (also leaving live) dropped r
  pub value : (x : ℕ → ℚ) → right_side x r ≡ (right_side x other -ℚ e *ℚ right_side x q) +ℚ (e *ℚ rate) *ℚ x leaving
  pub live : (x : ℕ → ℚ) → sum_at x r.live ≡ (sum_at x other.live -ℚ e *ℚ sum_at x q.live) +ℚ (e *ℚ rate) *ℚ x leaving

-- the operations of that
pub data ShiftPair (other : Row) (e : ℚ) (q : Row) (rate : ℚ) : Operation → ℚ → ℚ → Type 0 where
  of_rows : {o : Operation} {a b : ℚ} → JoinPair other Less e q o a b → ShiftPair other e q rate o a b
  of_rate : ShiftPair other e q rate Product e rate

abbrev pub RefusesShift : Row → ℚ → Row → ℚ → Pair → Type 0
RefusesShift other e q rate pair = ShiftPair other e q rate pair.operation pair.left pair.right × IsRefused pair

-- the entry of the column stands among the dropped ones
pub record IsDropped (row : Row) (column : ℕ) (r : Row) : Type 0 where
  pub over : (live dropped : ℕ → Bool) → IsOver live dropped row → IsOver (except column live) (also column dropped) r
  pub value : (x : ℕ → ℚ) → right_side x r ≡ right_side x row

-- the entry of the column stands among the live ones
pub record IsRestored (row : Row) (column : ℕ) (r : Row) : Type 0 where
  pub over : (live dropped : ℕ → Bool) → IsOver live dropped row → IsOver (also column live) (except column dropped) r
  pub value : (x : ℕ → ℚ) → right_side x r ≡ right_side x row
