-- Another row after an exchange.
use Rattle.std.proofs.Common.{◌≡◌, ℕ, [], ◌∷◌, Bool, true, false, nat_eq, refl, ap, ap₂, sym, subst, ◌∙◌, pos, ◌⊎◌, inl, inr}
use Rattle.spec_numbers.specs.Rational.{ℚ, 0ℚ, 1ℚ, ◌+ℚ◌, ◌-ℚ◌, ◌*ℚ◌}
use Rattle.spec_numbers.proofs.Ring.{var, int, ◌⊕◌, ◌⊗◌, minus}
use Rattle.spec_numbers.proofs.RationalLemmas.{ring}
use Rattle.cq_frac.specs.Row.{Row}
use Rattle.cq_frac.specs.Rows.{sum_at, everywhere, Has, Lacks, choose, unit, except}
use Rattle.cq_frac.specs.Numbers.{right_side, IsOver, also, IsShifted}
use Rattle.cq_frac.proofs.Shifts.{also_self, also_more}
use Rattle.cq_frac.proofs.Units.{row_weaker, vanished, no_entry, at_unit, unit_other, except_below, except_true, same_number}
use Rattle.cq_dict.specs.Changes.{IsMoved}

pub also_cases : (l y : ℕ) (p : ℕ → Bool) → also l p y ≡ true → (y ≡ l) ⊎ (p y ≡ true)
also_cases l y p h = go (nat_eq y l) refl h
  where
    go : (b : Bool) → nat_eq y l ≡ b → choose b true (p y) ≡ true → (y ≡ l) ⊎ (p y ≡ true)
    go true e k = inl (same_number y l e)
    go false e k = inr k

swapped : (c l : ℕ) (p : ℕ → Bool) (y : ℕ) → except c (also l p) y ≡ true → also l (except c p) y ≡ true
swapped c l p y h =
    let b = except_below c y (also l p) h in
    elim (also_cases l y p b.0) [
      | inl e ↦ subst (λ z. also l (except c p) z ≡ true) (sym e) (also_self l (except c p))
      | inr k ↦ also_more l (except c p) y (except_true c y p b.1 k)
    ]

pub moved_some : (other q r : Row) (c leaving : ℕ) (e rate : ℚ) → IsOver everywhere everywhere other → Has (record { quantity = c; factor = e }) other.live → sum_at (unit c) q.live ≡ 1ℚ → (leaving ≡ c → ⊥) → IsShifted other e q leaving rate r → IsMoved other c q leaving rate r
moved_some other q r c leaving e rate o h own n s =
    let f : sum_at (unit c) other.live ≡ e = at_unit everywhere 0 other.live (record { quantity = c; factor = e }) o.live_row h in
    let z : sum_at (unit c) r.live ≡ 0ℚ =
    s.live (unit c) ∙ ap₂ (λ a b. (a -ℚ e *ℚ b) +ℚ (e *ℚ rate) *ℚ unit c leaving) f own ∙ ap (λ u. (e -ℚ e *ℚ 1ℚ) +ℚ (e *ℚ rate) *ℚ u) (unit_other c leaving n)
    ∙ ring (e ∷ rate ∷ []) ((var 0 ⊕ minus (var 0 ⊗ int (pos 1))) ⊕ (var 0 ⊗ var 1) ⊗ int (pos 0)) (int (pos 0)) refl in
    record {
      over = λ live dropped h k.
          let v = s.over live dropped h k in
          record {
            live_row = row_weaker (except c (also leaving live)) (also leaving (except c live)) 0 r.live (swapped c leaving live) (vanished (also leaving live) 0 c r.live v.live_row z);
            dropped_row = v.dropped_row;
          };
      value = λ x. s.value x ∙ ap (λ w. (right_side x other -ℚ w *ℚ right_side x q) +ℚ (w *ℚ rate) *ℚ x leaving) (sym f);
    }

pub moved_none : (other q : Row) (c leaving : ℕ) (rate : ℚ) → Lacks c other.live → IsMoved other c q leaving rate other
moved_none other q c leaving rate h =
    let f : sum_at (unit c) other.live ≡ 0ℚ = no_entry c other.live h in
    record {
      over = λ live dropped o k. record {
        live_row = row_weaker (except c live) (also leaving (except c live)) 0 other.live (also_more leaving (except c live)) (vanished live 0 c other.live o.live_row f);
        dropped_row = o.dropped_row;
      };
      value = λ x.
          ring (right_side x other ∷ right_side x q ∷ rate ∷ x leaving ∷ []) (var 0) ((var 0 ⊕ minus (int (pos 0) ⊗ var 1)) ⊕ (int (pos 0) ⊗ var 2) ⊗ var 3) refl
          ∙ ap (λ w. (right_side x other -ℚ w *ℚ right_side x q) +ℚ (w *ℚ rate) *ℚ x leaving) (sym f);
    }
