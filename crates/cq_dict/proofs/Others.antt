-- The roles that are not looked at stay: no row among them holds the column.
use Rattle.std.proofs.Common.{◌≡◌, ℕ, List, length, refl, sym, subst, inl, inr}
use Rattle.std.specs.List.{Contains}
use Rattle.spec_numbers.specs.Rational.{ℚ}
use Rattle.cq_frac.specs.Row.{Row}
use Rattle.cq_frac.specs.Rows.{Lacks}
use Rattle.cq_dict.specs.declared.columns.Turn.{Turn}
use Rattle.cq_dict.specs.declared.columns.Turn.TheVariants.{Dropping, Restoring}
use Rattle.cq_dict.specs.declared.table.Change.{Change}
use Rattle.cq_dict.specs.declared.table.Role.{Role}
use Rattle.cq_dict.specs.declared.table.Role.TheVariants.{Live, Dropped, Basic}
use Rattle.cq_dict.specs.Changes.{Covers, Moved, IsSolved, Turned, IsTurnedRow}
use Rattle.cq_dict.specs.Holders.{AreTouched}
use Rattle.cq_dict.specs.Roles.{IsAt}
use Rattle.cq_dict.proofs.Exchanged.{when_kept, when_row}
use Rattle.cq_dict.proofs.Held.{contains_or_not}
use Rattle.cq_dict.proofs.Moves.{moved_none}
use Rattle.cq_dict.proofs.Turned.{turned_kept, turned_row, stays_dropped, stays_restored}
use Rattle.cq_dict.proofs.Written.{CoversThese}

-- where all others stay too, all roles are covered
pub these_all : (R : ℕ → Role → Role → Type 0) (roles : List Role) (numbers : List ℕ) (changes : List Change) → CoversThese R roles numbers changes → ((j : ℕ) (s : Role) → IsAt roles j s → (Contains numbers j → ⊥) → R j s s) → Covers R roles (length roles) changes
these_all R roles numbers changes w others = record {
  changed = w.changed;
  kept = λ j s l a. elim (contains_or_not numbers j) [ inl k ↦ w.kept j s k a | inr n ↦ inl (others j s a n) ];
}

module _ (roles : List Role) (column : ℕ) (rows : List ℕ) (touched : AreTouched roles column rows) (j : ℕ) (out : Contains rows j → ⊥) where
  other_column : j ≡ column → ⊥
  other_column e = out (subst (Contains rows) (sym e) touched.own)

  lacks_live : (o : Row) → IsAt roles j (Basic o) → Lacks column o.live
  lacks_live o a = λ m h e. out (touched.all j o a (m, inl h, e))

  lacks_dropped : (o : Row) → IsAt roles j (Basic o) → Lacks column o.dropped
  lacks_dropped o a = λ m h e. out (touched.all j o a (m, inr h, e))

  module _ (leaving : ℕ) (q : Row) (rate : ℚ) (solved : IsSolved roles leaving column q rate) where
    other_leaving : j ≡ leaving → ⊥
    other_leaving e = out (subst (Contains rows) (sym e) (touched.all leaving solved.entry.own solved.entry.is_row (record { quantity = column; factor = solved.entry.factor }, inl solved.entry.in_row, refl)))

    pub others_moved : (s : Role) → IsAt roles j s → Moved leaving column q rate j s s
    others_moved Live a = when_kept leaving column q rate j Live Live other_leaving other_column (λ r e. cc) refl
    others_moved Dropped a = when_kept leaving column q rate j Dropped Dropped other_leaving other_column (λ r e. cc) refl
    others_moved (Basic o) a =
        when_row leaving column q rate j (Basic o) (Basic o) other_leaving other_column o o refl refl (moved_none o q column leaving rate (lacks_live o a)) (λ e h. absurd (lacks_live o a (record { quantity = column; factor = e }) h refl))

  stays : (turn : Turn) (o : Row) → IsAt roles j (Basic o) → IsTurnedRow turn column o o
  stays Dropping o a = stays_dropped o column (lacks_live o a)
  stays Restoring o a = stays_restored o column (lacks_dropped o a)

  pub others_turned : (turn : Turn) (s : Role) → IsAt roles j s → Turned turn column j s s
  others_turned turn Live a = turned_kept turn column j Live Live other_column (λ r e. cc) refl
  others_turned turn Dropped a = turned_kept turn column j Dropped Dropped other_column (λ r e. cc) refl
  others_turned turn (Basic o) a = turned_row turn column j (Basic o) (Basic o) other_column o o refl refl (stays turn o a)
