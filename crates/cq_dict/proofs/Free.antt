-- The columns of a table are free; and a value is expressed by one row alone.
use Rattle.std.proofs.Common.{◌≡◌, ℕ, zero, suc, ◌+◌, ◌<◌, List, [], ◌∷◌, Bool, true, false, arith, refl, ap, ap₂, sym, subst, ◌∙◌, pos, ◌⊎◌, inl, inr}
use Rattle.spec_numbers.specs.Rational.{ℚ, 0ℚ, neg_ℚ, ◌+ℚ◌, ◌*ℚ◌}
use Rattle.spec_numbers.proofs.Ring.{var, int, ◌⊕◌, ◌⊗◌, minus}
use Rattle.spec_numbers.proofs.RationalLemmas.{ring}
use Rattle.cq_frac.specs.declared.row.Entry.{Entry}
use Rattle.cq_frac.specs.Row.{Row}
use Rattle.cq_frac.specs.Rows.{sum_at, IsRowFrom, unit}
use Rattle.cq_frac.specs.Numbers.{right_side, IsOver}
use Rattle.cq_frac.proofs.Shifts.{passes}
use Rattle.cq_frac.proofs.Units.{at_unit, unit_above, no_entry}
use Rattle.cq_dict.specs.declared.table.Role.{Role}
use Rattle.cq_dict.specs.declared.table.Role.TheVariants.{Live, Dropped, Basic}
use Rattle.cq_dict.specs.Roles.{IsAt, is_live, is_dropped, AreOverColumns, Expresses, SameNumbers, AreFree}
use Rattle.cq_dict.proofs.Roles.{role_live, role_dropped, dropped_at}

-- the value of a quantity, where the columns have those of y
abbrev value_in : Role → ℚ → (ℕ → ℚ) → ℚ
value_in Live d y = d
value_in Dropped d y = d
value_in (Basic r) d y = right_side y r

abbrev looked_up : List Role → ℕ → ℚ → (ℕ → ℚ) → ℚ
looked_up [] i d y = d
looked_up (s ∷ ss) zero d y = value_in s d y
looked_up (s ∷ ss) (suc i) d y = looked_up ss i d y

filled : List Role → (ℕ → ℚ) → ℕ → ℚ
filled roles y i = looked_up roles i (y i) y

looked_up_at : (roles : List Role) (i : ℕ) (s : Role) (d : ℚ) (y : ℕ → ℚ) → IsAt roles i s → looked_up roles i d y ≡ value_in s d y
looked_up_at [] i s d y h = absurd h
looked_up_at (t ∷ ts) zero s d y h = ap (λ (z : Role). value_in z d y) (sym h)
looked_up_at (t ∷ ts) (suc i) s d y h = looked_up_at ts i s d y h

pub sum_agrees : (p : ℕ → Bool) (lo : ℕ) (x y : ℕ → ℚ) (s : List Entry) → IsRowFrom p lo s → ((c : ℕ) → p c ≡ true → x c ≡ y c) → sum_at x s ≡ sum_at y s
sum_agrees p lo x y [] r h = refl
sum_agrees p lo x y (m ∷ s) r h = ap₂ (λ a b. m.factor *ℚ a +ℚ b) (h m.quantity r.1) (sum_agrees p (m.quantity + 1) x y s r.3 h)

filled_live : (roles : List Role) (y : ℕ → ℚ) (c : ℕ) → is_live roles c ≡ true → filled roles y c ≡ y c
unfolding filled
filled_live roles y c h = looked_up_at roles c Live (y c) y (role_live roles c h)

filled_dropped : (roles : List Role) (y : ℕ → ℚ) (c : ℕ) → is_dropped roles c ≡ true → filled roles y c ≡ y c
unfolding filled
filled_dropped roles y c h = looked_up_at roles c Dropped (y c) y (role_dropped roles c h)

filled_row : (roles : List Role) (y : ℕ → ℚ) (i : ℕ) (r : Row) → IsAt roles i (Basic r) → filled roles y i ≡ right_side y r
unfolding filled
filled_row roles y i r h = looked_up_at roles i (Basic r) (y i) y h

pub free : (roles : List Role) → AreOverColumns roles → AreFree roles
free roles t y = (
  filled roles y,
  record {
    rows = λ i r h.
        let o = t.rows i r h in
        filled_row roles y i r h
        ∙ sym (ap₂ (λ a b. r.constant +ℚ (a +ℚ b)) (sum_agrees (is_live roles) 0 (filled roles y) y r.live o.live_row (filled_live roles y)) (sum_agrees (is_dropped roles) 0 (filled roles y) y r.dropped o.dropped_row (filled_dropped roles y)));
  },
  filled_live roles y,
  filled_dropped roles y,
)

-- ---- the numbers of a row are its value's alone
pub tri : (a b : ℕ) → (a < b) ⊎ ((a ≡ b) ⊎ (b < a))
tri zero zero = inr (inl refl)
tri zero (suc b) = inl (omega arith)
tri (suc a) zero = inr (inr (omega arith))
tri (suc a) (suc b) = elim (tri a b) [ inl h ↦ inl (omega (arith, h)) | inr k ↦ elim k [ inl e ↦ inr (inl (ap suc e)) | inr h ↦ inr (inr (omega (arith, h))) ] ]

entry_same : (m n : Entry) → m.quantity ≡ n.quantity → m.factor ≡ n.factor → m ≡ n
entry_same m n e f = ap₂ (λ c q. record { quantity = c; factor = q }) e f

pub cancel_first : (a b c : ℚ) → a +ℚ b ≡ a +ℚ c → b ≡ c
cancel_first a b c e = ring (a ∷ b ∷ []) (var 1) (minus (var 0) ⊕ (var 0 ⊕ var 1)) refl ∙ ap (λ w. neg_ℚ a +ℚ w) e ∙ ring (a ∷ c ∷ []) (minus (var 0) ⊕ (var 0 ⊕ var 1)) (var 1) refl

same_list : (p : ℕ → Bool) (lo : ℕ) (s t : List Entry) → IsRowFrom p lo s → IsRowFrom p lo t → ((c : ℕ) → sum_at (unit c) s ≡ sum_at (unit c) t) → s ≡ t
same_list p lo [] [] r q h = refl
same_list p lo [] (n ∷ t) r q h = absurd (q.2 (sym (at_unit p lo (n ∷ t) n q (inl refl)) ∙ sym (h n.quantity)))
same_list p lo (m ∷ s) [] r q h = absurd (r.2 (sym (at_unit p lo (m ∷ s) m r (inl refl)) ∙ h m.quantity))
same_list p lo (m ∷ s) (n ∷ t) r q h =
    elim (tri m.quantity n.quantity) [
      | inl l ↦ absurd (r.2 (sym (at_unit p lo (m ∷ s) m r (inl refl)) ∙ h m.quantity ∙ unit_above p n.quantity m.quantity (n ∷ t) (omega arith, q.1, q.2, q.3) l))
      | inr k ↦ elim k [
        | inl e ↦
            let f : m.factor ≡ n.factor = sym (at_unit p lo (m ∷ s) m r (inl refl)) ∙ h m.quantity ∙ ap (λ c. sum_at (unit c) (n ∷ t)) e ∙ at_unit p lo (n ∷ t) n q (inl refl) in
            let g : m ≡ n = entry_same m n e f in
            ap₂ (λ a b. a ∷ b) g
            (same_list p (m.quantity + 1) s t r.3 (subst (λ c. IsRowFrom p (c + 1) t) (sym e) q.3)
            (λ c. cancel_first (m.factor *ℚ unit c m.quantity) (sum_at (unit c) s) (sum_at (unit c) t) (h c ∙ ap (λ (z : Entry). z.factor *ℚ unit c z.quantity +ℚ sum_at (unit c) t) (sym g))))
        | inr l ↦ absurd (q.2 (sym (at_unit p lo (n ∷ t) n q (inl refl)) ∙ sym (h n.quantity) ∙ unit_above p m.quantity n.quantity (m ∷ s) (omega arith, r.1, r.2, r.3) l))
      ]
    ]

pub nothing_at : (s : List Entry) → sum_at (λ c. 0ℚ) s ≡ 0ℚ
nothing_at [] = refl
nothing_at (m ∷ s) = ap (λ w. m.factor *ℚ 0ℚ +ℚ w) (nothing_at s) ∙ ring (m.factor ∷ []) (var 0 ⊗ int (pos 0) ⊕ int (pos 0)) (int (pos 0)) refl

absent : (p : ℕ → Bool) (c : ℕ) (s : List Entry) → IsRowFrom p 0 s → p c ≡ false → sum_at (unit c) s ≡ 0ℚ
absent p c s r f = no_entry c s (λ m h e. let t : p c ≡ true = subst (λ k. p k ≡ true) e (passes p 0 s m r h) in cc)

module _ (roles : List Role) (table : AreOverColumns roles) (value : (ℕ → ℚ) → ℚ) (r s : Row) (er : Expresses roles value r) (es : Expresses roles value s) where
  moved : (y x : ℕ → ℚ) (z : Row) → IsOver (is_live roles) (is_dropped roles) z → ((c : ℕ) → is_live roles c ≡ true → x c ≡ y c) → ((c : ℕ) → is_dropped roles c ≡ true → x c ≡ y c) → right_side x z ≡ right_side y z
  moved y x z o h k = ap₂ (λ a b. z.constant +ℚ (a +ℚ b)) (sum_agrees (is_live roles) 0 x y z.live o.live_row h) (sum_agrees (is_dropped roles) 0 x y z.dropped o.dropped_row k)

  everywhere_same : (y : ℕ → ℚ) → right_side y r ≡ right_side y s
  everywhere_same y =
      let f = free roles table y in
      sym (moved y f.0 r er.over f.2 f.3) ∙ er.value_is f.0 f.1 ∙ sym (es.value_is f.0 f.1) ∙ moved y f.0 s es.over f.2 f.3

  constant_only : (z : Row) → right_side (λ c. 0ℚ) z ≡ z.constant
  constant_only z = ap₂ (λ a b. z.constant +ℚ (a +ℚ b)) (nothing_at z.live) (nothing_at z.dropped) ∙ ring (z.constant ∷ []) (var 0 ⊕ (int (pos 0) ⊕ int (pos 0))) (var 0) refl

  constants : r.constant ≡ s.constant
  constants = sym (constant_only r) ∙ everywhere_same (λ c. 0ℚ) ∙ constant_only s

  both : (c : ℕ) → sum_at (unit c) r.live +ℚ sum_at (unit c) r.dropped ≡ sum_at (unit c) s.live +ℚ sum_at (unit c) s.dropped
  both c = cancel_first r.constant _ _ (everywhere_same (unit c) ∙ ap (λ w. w +ℚ (sum_at (unit c) s.live +ℚ sum_at (unit c) s.dropped)) (sym constants))

  at_zero_right : (a b : ℚ) → b ≡ 0ℚ → a +ℚ b ≡ a
  at_zero_right a b e = ap (λ w. a +ℚ w) e ∙ ring (a ∷ []) (var 0 ⊕ int (pos 0)) (var 0) refl

  -- a column is not live and dropped at once
  only_live : (c : ℕ) → is_live roles c ≡ true → is_dropped roles c ≡ false
  only_live c h = dropped_at roles c Live (role_live roles c h)

  live_same : (c : ℕ) → sum_at (unit c) r.live ≡ sum_at (unit c) s.live
  live_same c = go (is_live roles c) refl
    where
      go : (b : Bool) → is_live roles c ≡ b → sum_at (unit c) r.live ≡ sum_at (unit c) s.live
      go true e =
          sym (at_zero_right (sum_at (unit c) r.live) (sum_at (unit c) r.dropped) (absent (is_dropped roles) c r.dropped er.over.dropped_row (only_live c e)))
          ∙ both c ∙ at_zero_right (sum_at (unit c) s.live) (sum_at (unit c) s.dropped) (absent (is_dropped roles) c s.dropped es.over.dropped_row (only_live c e))
      go false e = absent (is_live roles) c r.live er.over.live_row e ∙ sym (absent (is_live roles) c s.live es.over.live_row e)

  dropped_same : (c : ℕ) → sum_at (unit c) r.dropped ≡ sum_at (unit c) s.dropped
  dropped_same c = cancel_first (sum_at (unit c) r.live) _ _ (both c ∙ ap (λ w. w +ℚ sum_at (unit c) s.dropped) (sym (live_same c)))

  pub same_numbers : SameNumbers r s
  same_numbers = record {
    live = same_list (is_live roles) 0 r.live s.live er.over.live_row es.over.live_row live_same;
    dropped = same_list (is_dropped roles) 0 r.dropped s.dropped er.over.dropped_row es.over.dropped_row dropped_same;
    constant = constants;
  }
