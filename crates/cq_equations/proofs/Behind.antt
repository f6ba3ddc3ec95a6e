-- After an equation is eliminated at its row's first live column, rows still reach behind their own numbers alone.
use Rattle.std.proofs.Common.{◌≡◌, ◌↔◌, ℕ, ◌+◌, ◌-◌, ◌<◌, ◌≤◌, List, [], ◌∷◌, ◌++◌, length, true, arith, refl, ap, ap₂, sym, subst, ◌∙◌, pos, ◌⊎◌, inl, inr}
use Rattle.spec_numbers.specs.Rational.{ℚ, 0ℚ, ◌+ℚ◌, ◌-ℚ◌, ◌*ℚ◌}
use Rattle.spec_numbers.proofs.Ring.{var, int, ◌⊕◌, ◌⊗◌, minus}
use Rattle.spec_numbers.proofs.RationalLemmas.{ring}
use Rattle.spec_numbers.proofs.Sign.{product_zero}
use Rattle.cq_frac.specs.declared.row.Entry.{Entry}
use Rattle.cq_frac.specs.Row.{Row}
use Rattle.cq_frac.specs.Rows.{sum_at, IsRowFrom, Has, unit}
use Rattle.cq_frac.specs.Numbers.{right_side, IsOver}
use Rattle.cq_frac.proofs.Units.{at_unit, no_entry, unit_other, has_least}
use Rattle.cq_dict.specs.declared.table.Role.{Role}
use Rattle.cq_dict.specs.declared.table.Role.TheVariants.{Live, Dropped, Basic}
use Rattle.cq_dict.specs.Roles.{IsAt, is_live, is_dropped, AreOverColumns, IsMet}
use Rattle.cq_equations.specs.Describes.{ReachesBehind}
use Rattle.cq_dict.proofs.Roles.{role_live, role_dropped, live_at, dropped_at, at_last, at_below}
use Rattle.cq_equations.proofs.Roles.{at_append, append_back}
use Rattle.cq_dict.proofs.Free.{free, sum_agrees, nothing_at, cancel_first}
use Rattle.cq_frac.proofs.Shifts.{passes}
use Rattle.cq_equations.proofs.Causes.{not_both}
use Rattle.cq_equations.proofs.Joining.{IsTurned, same_or_not}

at_most_or_more : (a b : ℕ) → (a ≤ b) ⊎ (b < a)
at_most_or_more a b = elim (same_or_not (a - b) 0) [ inl e ↦ inl (omega (arith, e)) | inr n ↦ inr (omega (arith, n)) ]

-- what two assignments that agree on some entries' quantities give
agrees_there : (x y : ℕ → ℚ) (s : List Entry) → ((m : Entry) → Has m s → x m.quantity ≡ y m.quantity) → sum_at x s ≡ sum_at y s
agrees_there x y [] h = refl
agrees_there x y (m ∷ s) h = ap₂ (λ a b. m.factor *ℚ a +ℚ b) (h m (inl refl)) (agrees_there x y s (λ n k. h n (inr k)))

cancel_factor : (f a b : ℚ) → (f ≡ 0ℚ → ⊥) → f *ℚ a ≡ f *ℚ b → a ≡ b
cancel_factor f a b n e =
    let z : f *ℚ (a -ℚ b) ≡ 0ℚ =
    ring (f ∷ a ∷ b ∷ []) (var 0 ⊗ (var 1 ⊕ minus (var 2))) (var 0 ⊗ var 1 ⊕ minus (var 0 ⊗ var 2)) refl
    ∙ ap (λ w. w -ℚ f *ℚ b) e ∙ ring (f ∷ b ∷ []) (var 0 ⊗ var 1 ⊕ minus (var 0 ⊗ var 1)) (int (pos 0)) refl in
    ring (a ∷ b ∷ []) (var 0) ((var 0 ⊕ minus (var 1)) ⊕ var 1) refl ∙ ap (λ w. w +ℚ b) (product_zero f (a -ℚ b) n z) ∙ ring (b ∷ []) (int (pos 0) ⊕ var 0) (var 0) refl

-- two assignments that meet the table and agree on the live columns behind i and on the dropped ones give i the same value
abbrev Depends : List Role → ℕ → Type 0
Depends roles i =
    (x y : ℕ → ℚ) → IsMet x roles → IsMet y roles → ((j : ℕ) → is_live roles j ≡ true → i < j → x j ≡ y j) → ((j : ℕ) → is_dropped roles j ≡ true → x j ≡ y j) → x i ≡ y i

module _ (roles : List Role) (table : AreOverColumns roles) (i : ℕ) (r : Row) (at : IsAt roles i (Basic r)) (depends : Depends roles i) where
  over : IsOver (is_live roles) (is_dropped roles) r
  over = table.rows i r at

  -- what the row says where the columns have the values of y
  chosen : (y : ℕ → ℚ) → (free roles table y).0 i ≡ right_side y r
  chosen y =
      let f = free roles table y in
      f.1.rows i r at ∙ ap₂ (λ a b. r.constant +ℚ (a +ℚ b)) (sum_agrees (is_live roles) 0 f.0 y r.live over.live_row f.2) (sum_agrees (is_dropped roles) 0 f.0 y r.dropped over.dropped_row f.3)

  no_entry_at : (m : Entry) → Has m r.live → m.quantity ≤ i → m.factor ≡ 0ℚ
  no_entry_at m h b =
      let live = passes (is_live roles) 0 r.live m over.live_row h in
      let f = free roles table (unit m.quantity) in
      let g = free roles table (λ c. 0ℚ) in
      let e : right_side (unit m.quantity) r ≡ right_side (λ c. 0ℚ) r =
      sym (chosen (unit m.quantity))
      ∙ depends f.0 g.0 f.1 g.1
      (λ j l k. f.2 j l ∙ unit_other m.quantity j (λ e. omega (arith, b, k, e)) ∙ sym (g.2 j l))
      (λ j d. f.3 j d ∙ unit_other m.quantity j (λ e. not_both roles j (subst (λ c. is_live roles c ≡ true) (sym e) live) d) ∙ sym (g.3 j d))
      ∙ chosen (λ c. 0ℚ) in
      ring (m.factor ∷ []) (var 0) (var 0 ⊕ int (pos 0)) refl
      ∙ ap₂ (λ a b. a +ℚ b) (sym (at_unit (is_live roles) 0 r.live m over.live_row h)) (sym (no_entry m.quantity r.dropped (λ n k e. not_both roles m.quantity live (subst (λ c. is_dropped roles c ≡ true) e (passes (is_dropped roles) 0 r.dropped n over.dropped_row k)))))
      ∙ cancel_first r.constant _ _ e ∙ ap₂ (λ a b. a +ℚ b) (nothing_at r.live) (nothing_at r.dropped) ∙ ring [] (int (pos 0) ⊕ int (pos 0)) (int (pos 0)) refl

  pub behind : IsRowFrom (is_live roles) (i + 1) r.live
  behind = from r.live over.live_row (λ m h b. no_entry_at m h b)
    where
      from : (s : List Entry) → IsRowFrom (is_live roles) 0 s → ((m : Entry) → Has m s → m.quantity ≤ i → m.factor ≡ 0ℚ) → IsRowFrom (is_live roles) (i + 1) s
      from [] o z = tt
      from (m ∷ s) o z = elim (at_most_or_more m.quantity i) [ inl b ↦ absurd (o.2 (z m (inl refl) b)) | inr b ↦ (omega (arith, b), o.1, o.2, o.3) ]

module _ (roles : List Role) (table : AreOverColumns roles) (reaches : ReachesBehind roles) (r : Row) (m : Entry) (rest : List Entry) (live_is : r.live ≡ m ∷ rest)
    (over : IsOver (is_live roles) (is_dropped roles) r) (new : List Role) (new_table : AreOverColumns new)
    (same : (x : ℕ → ℚ) → IsMet x (roles ++ Basic r ∷ []) ↔ IsMet x new) (turned : IsTurned (roles ++ Basic r ∷ []) (length roles) m.quantity new) where
  row_here : IsRowFrom (is_live roles) 0 (m ∷ rest)
  row_here = subst (IsRowFrom (is_live roles) 0) live_is over.live_row

  still_live : (j : ℕ) → is_live roles j ≡ true → (j ≡ m.quantity → ⊥) → is_live new j ≡ true
  still_live j h n =
      let b = at_below roles j Live (role_live roles j h) in
      live_at new j Live (turned.live j (λ e. omega (arith, b, e)) n (at_append roles (Basic r ∷ []) j Live (role_live roles j h)))

  still_dropped : (j : ℕ) → is_dropped roles j ≡ true → is_dropped new j ≡ true
  still_dropped j h = dropped_at new j Dropped (turned.dropped j (at_append roles (Basic r ∷ []) j Dropped (role_dropped roles j h)))

  module _ (x y : ℕ → ℚ) (mx : IsMet x new) (my : IsMet y new) (dropped : (j : ℕ) → is_dropped new j ≡ true → x j ≡ y j) where
    old_x : IsMet x (roles ++ Basic r ∷ [])
    old_x = (same x).1 mx

    old_y : IsMet y (roles ++ Basic r ∷ [])
    old_y = (same y).1 my

    gone_same : (s : Row) → IsOver (is_live roles) (is_dropped roles) s → sum_at x s.dropped ≡ sum_at y s.dropped
    gone_same s o = agrees_there x y s.dropped (λ n h. dropped n.quantity (still_dropped n.quantity (passes (is_dropped roles) 0 s.dropped n o.dropped_row h)))

    -- the column of the exchange depends on those behind it
    column_same : ((j : ℕ) → is_live new j ≡ true → m.quantity < j → x j ≡ y j) → x m.quantity ≡ y m.quantity
    column_same h =
        let e : right_side x r ≡ right_side y r =
        sym (old_x.rows (length roles) r (at_last roles (Basic r))) ∙ dropped (length roles) (dropped_at new (length roles) Dropped turned.drops) ∙ old_y.rows (length roles) r (at_last roles (Basic r)) in
        let rest_same : sum_at x rest ≡ sum_at y rest =
        agrees_there x y rest (λ n k.
        let b = has_least (is_live roles) (m.quantity + 1) rest n row_here.3 k in
        h n.quantity (still_live n.quantity (passes (is_live roles) (m.quantity + 1) rest n row_here.3 k) (λ z. omega (arith, b, z))) (omega (arith, b))) in
        let f : sum_at x r.live +ℚ sum_at x r.dropped ≡ sum_at y r.live +ℚ sum_at y r.dropped = cancel_first r.constant _ _ e in
        let g : (m.factor *ℚ x m.quantity +ℚ sum_at y rest) +ℚ sum_at y r.dropped ≡ (m.factor *ℚ y m.quantity +ℚ sum_at y rest) +ℚ sum_at y r.dropped =
        ap₂ (λ a b. (m.factor *ℚ x m.quantity +ℚ a) +ℚ b) (sym rest_same) (sym (gone_same r over))
        ∙ ap (λ s. sum_at x s +ℚ sum_at x r.dropped) (sym live_is) ∙ f ∙ ap (λ s. sum_at y s +ℚ sum_at y r.dropped) live_is in
        cancel_factor m.factor (x m.quantity) (y m.quantity) row_here.2
        (cancel_first (sum_at y rest +ℚ sum_at y r.dropped) _ _
        (ring ((m.factor *ℚ x m.quantity) ∷ sum_at y rest ∷ sum_at y r.dropped ∷ []) ((var 1 ⊕ var 2) ⊕ var 0) ((var 0 ⊕ var 1) ⊕ var 2) refl
        ∙ g ∙ ring ((m.factor *ℚ y m.quantity) ∷ sum_at y rest ∷ sum_at y r.dropped ∷ []) ((var 0 ⊕ var 1) ⊕ var 2) ((var 1 ⊕ var 2) ⊕ var 0) refl))

    row_same : (i : ℕ) (s : Row) → IsAt roles i (Basic s) → ((j : ℕ) → is_live new j ≡ true → i < j → x j ≡ y j) → x i ≡ y i
    row_same i s a h =
        let o = table.rows i s a in
        let b = reaches.behind i s a in
        let wide = at_append roles (Basic r ∷ []) i (Basic s) a in
        let one : (n : Entry) → Has n s.live → x n.quantity ≡ y n.quantity =
        λ n k.
        let l = has_least (is_live roles) (i + 1) s.live n b k in
        elim (same_or_not n.quantity m.quantity) [
          | inl e ↦ ap x e ∙ column_same (λ j w z. h j w (omega (arith, l, e, z))) ∙ ap y (sym e)
          | inr e ↦ h n.quantity (still_live n.quantity (passes (is_live roles) (i + 1) s.live n b k) e) (omega (arith, l))
        ] in
        old_x.rows i s wide ∙ ap₂ (λ u w. s.constant +ℚ (u +ℚ w)) (agrees_there x y s.live one) (gone_same s o) ∙ sym (old_y.rows i s wide)

  depends : (i : ℕ) (s : Row) → IsAt new i (Basic s) → Depends new i
  depends i s a x y mx my live dropped =
      elim (turned.back_rows i s a) [
        | inl e ↦ ap x e ∙ column_same x y mx my dropped (λ j w z. live j w (omega (arith, e, z))) ∙ ap y (sym e)
        | inr b ↦ elim (append_back roles (Basic r) (Basic b.1.0) i b.1.1) [
          | inl k ↦ row_same x y mx my dropped i b.1.0 k live
          | inr k ↦ absurd (b.0 k.0)
        ]
      ]

  pub reaches_still : ReachesBehind new
  reaches_still = record { behind = λ i s a. behind new new_table i s a (depends i s a) }
