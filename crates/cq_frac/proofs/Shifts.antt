-- The rows that an exchange, a drop and a restore make, from what their lists are.
use Rattle.std.proofs.Common.{◌≡◌, ℕ, ◌+◌, List, [], ◌∷◌, Bool, true, false, nat_eq, inl, inr, refl, ap, ap₂, sym, subst, ◌∙◌}
use Rattle.spec_numbers.specs.Rational.{ℚ, 0ℚ, neg_ℚ, ◌+ℚ◌, ◌-ℚ◌, ◌*ℚ◌}
use Rattle.spec_numbers.proofs.Ring.{var, ◌⊕◌, ◌⊗◌, minus}
use Rattle.spec_numbers.proofs.RationalLemmas.{ring}
use Rattle.spec_numbers.proofs.Sign.{product_zero}
use Rattle.cq_frac.specs.declared.row.Entry.{Entry}
use Rattle.cq_frac.specs.declared.row.Joining.TheVariants.{Less}
use Rattle.cq_frac.specs.Row.{Row}
use Rattle.cq_frac.specs.Rows.{sum_at, IsRowFrom, everywhere, Has, Lacks, choose, unit, except, negated, others}
use Rattle.cq_frac.specs.Numbers.{IsOver, IsJoined, also, IsEntered, IsShifted, IsDropped, IsRestored}
use Rattle.cq_frac.proofs.Units.{row_weaker, row_negated, row_others, sum_at-negated, sum_at-others, except_true, except_below, negated_has, others_has, at_unit}
use Rattle.spec_numbers.proofs.Tests.{nat_eq-self}

pub also_self : (c : ℕ) (p : ℕ → Bool) → also c p c ≡ true
also_self c p = ap (λ b. choose b true (p c)) (nat_eq-self c)

pub also_more : (c : ℕ) (p : ℕ → Bool) (y : ℕ) → p y ≡ true → also c p y ≡ true
also_more c p y h = go (nat_eq y c)
  where
    go : (b : Bool) → choose b true (p y) ≡ true
    go true = refl
    go false = h

pub anywhere : (p : ℕ → Bool) (lo : ℕ) (s : List Entry) → IsRowFrom p lo s → IsRowFrom everywhere lo s
anywhere p lo s r = row_weaker p everywhere lo s (λ c h. refl) r

pub over_anywhere : (live dropped : ℕ → Bool) (r : Row) → IsOver live dropped r → IsOver everywhere everywhere r
over_anywhere live dropped r o = record { live_row = anywhere live 0 r.live o.live_row; dropped_row = anywhere dropped 0 r.dropped o.dropped_row }

pub entry_not_zero : (p : ℕ → Bool) (lo : ℕ) (s : List Entry) (c : ℕ) (e : ℚ) → IsRowFrom p lo s → Has (record { quantity = c; factor = e }) s → e ≡ 0ℚ → ⊥
entry_not_zero p lo [] c e r h z = h
entry_not_zero p lo (m ∷ s) c e r (inl w) z = r.2 (ap (λ (t : Entry). t.factor) (sym w) ∙ z)
entry_not_zero p lo (m ∷ s) c e r (inr w) z = entry_not_zero p (m.quantity + 1) s c e r.3 w z

-- what is cut is a row, and lacks what it lacked
pub others_row : (c : ℕ) (s t : List Entry) → t ≡ others c s → IsRowFrom everywhere 0 s → IsRowFrom everywhere 0 t
others_row c s t e r = subst (IsRowFrom everywhere 0) (sym e) (anywhere (except c everywhere) 0 (others c s) (row_others everywhere 0 c s r))

pub negated_row : (s t : List Entry) → t ≡ negated s → IsRowFrom everywhere 0 s → IsRowFrom everywhere 0 t
negated_row s t e r = subst (IsRowFrom everywhere 0) (sym e) (row_negated everywhere 0 s r)

pub others_lacks : (c d : ℕ) (s t : List Entry) → t ≡ others c s → Lacks d s → Lacks d t
others_lacks c d s t e n = λ m h. n m (others_has c s m (subst (Has m) e h))

pub negated_lacks : (d : ℕ) (s t : List Entry) → t ≡ negated s → Lacks d s → Lacks d t
negated_lacks d s t e n = λ m h f. let w = negated_has s m (subst (Has m) e h) in n w.0 w.1 (sym w.2 ∙ f)

-- what `put` says of the list before it and after it
pub record IsPut (s : List Entry) (m : Entry) (t : List Entry) : Type 0 where
  pub row : (p : ℕ → Bool) → p m.quantity ≡ true → IsRowFrom p 0 s → IsRowFrom p 0 t
  pub value : (x : ℕ → ℚ) → sum_at x t ≡ sum_at x s +ℚ m.factor *ℚ x m.quantity

-- ---- the row of the column that enters
module _ (q r : Row) (column leaving : ℕ) (rate : ℚ) (rest opposite : List Entry)
    (rest_is : rest ≡ others column q.live) (opposite_is : opposite ≡ negated rest) (live_put : IsPut opposite (record { quantity = leaving; factor = rate }) r.live)
    (dropped_is : r.dropped ≡ negated q.dropped) (constant_is : r.constant ≡ neg_ℚ q.constant) where
  opposite_cut : opposite ≡ negated (others column q.live)
  opposite_cut = opposite_is ∙ ap negated rest_is

  pub entered_is : IsEntered q column leaving rate r
  entered_is = record {
    over = λ live dropped h. record {
      live_row =
          live_put.row (also leaving (except column live)) (also_self leaving (except column live))
          (subst (IsRowFrom (also leaving (except column live)) 0) (sym opposite_cut)
          (row_weaker (except column live) (also leaving (except column live)) 0 (negated (others column q.live)) (also_more leaving (except column live))
          (row_negated (except column live) 0 (others column q.live) (row_others live 0 column q.live h.live_row))));
      dropped_row = subst (IsRowFrom dropped 0) (sym dropped_is) (row_negated dropped 0 q.dropped h.dropped_row);
    };
    value = λ x.
        ap₂ (λ a b. a +ℚ b) constant_is
        (ap₂ (λ a b. a +ℚ b)
        (live_put.value x ∙ ap (λ a. a +ℚ rate *ℚ x leaving) (ap (sum_at x) opposite_cut ∙ sum_at-negated x (others column q.live) ∙ ap neg_ℚ (sum_at-others x column q.live)))
        (ap (sum_at x) dropped_is ∙ sum_at-negated x q.dropped))
        ∙ ring (q.constant ∷ sum_at x q.live ∷ sum_at x q.dropped ∷ sum_at (unit column) q.live ∷ rate ∷ x leaving ∷ x column ∷ [])
        (minus (var 0) ⊕ ((minus (var 1 ⊕ minus (var 3 ⊗ var 6)) ⊕ var 4 ⊗ var 5) ⊕ minus (var 2)))
        ((var 4 ⊗ var 5 ⊕ minus (var 0 ⊕ (var 1 ⊕ var 2))) ⊕ var 3 ⊗ var 6) refl;
  }

-- ---- another row
module _ (other q rest r : Row) (e rate gain : ℚ) (leaving : ℕ) (joined_is : IsJoined other Less e q rest) (gain_is : gain ≡ e *ℚ rate)
    (dropped_is : r.dropped ≡ rest.dropped) (constant_is : r.constant ≡ rest.constant) (live_put : IsPut rest.live (record { quantity = leaving; factor = gain }) r.live) where
  shifted_live : (x : ℕ → ℚ) → sum_at x r.live ≡ (sum_at x other.live -ℚ e *ℚ sum_at x q.live) +ℚ (e *ℚ rate) *ℚ x leaving
  shifted_live x = live_put.value x ∙ ap₂ (λ a b. a +ℚ b *ℚ x leaving) (joined_is.live x) gain_is

  pub shifted_is : IsShifted other e q leaving rate r
  shifted_is = record {
    over = λ live dropped h k.
        let o = joined_is.over live dropped h k in
        record {
          live_row = live_put.row (also leaving live) (also_self leaving live) (row_weaker live (also leaving live) 0 rest.live (also_more leaving live) o.live_row);
          dropped_row = subst (IsRowFrom dropped 0) (sym dropped_is) o.dropped_row;
        };
    value = λ x.
        ap₂ (λ a b. a +ℚ b) (constant_is ∙ joined_is.constant) (ap₂ (λ a b. a +ℚ b) (shifted_live x) (ap (sum_at x) dropped_is ∙ joined_is.dropped x))
        ∙ ring (other.constant ∷ sum_at x other.live ∷ sum_at x other.dropped ∷ q.constant ∷ sum_at x q.live ∷ sum_at x q.dropped ∷ e ∷ rate ∷ x leaving ∷ [])
        ((var 0 ⊕ minus (var 6 ⊗ var 3)) ⊕ (((var 1 ⊕ minus (var 6 ⊗ var 4)) ⊕ (var 6 ⊗ var 7) ⊗ var 8) ⊕ (var 2 ⊕ minus (var 6 ⊗ var 5))))
        (((var 0 ⊕ (var 1 ⊕ var 2)) ⊕ minus (var 6 ⊗ (var 3 ⊕ (var 4 ⊕ var 5)))) ⊕ (var 6 ⊗ var 7) ⊗ var 8) refl;
    live = shifted_live;
  }

pub gain_not_zero : (e rate gain : ℚ) → gain ≡ e *ℚ rate → (e ≡ 0ℚ → ⊥) → (rate ≡ 0ℚ → ⊥) → gain ≡ 0ℚ → ⊥
gain_not_zero e rate gain g n m z = m (product_zero e rate n (sym g ∙ z))

pub passes : (t : ℕ → Bool) (lo : ℕ) (s : List Entry) (m : Entry) → IsRowFrom t lo s → Has m s → t m.quantity ≡ true
passes t lo [] m r h = absurd h
passes t lo (x ∷ s) m r (inl e) = subst (λ (z : Entry). t z.quantity ≡ true) (sym e) r.1
passes t lo (x ∷ s) m r (inr h) = passes t (x.quantity + 1) s m r.3 h

lacking : (p : ℕ → Bool) (lo d : ℕ) (s : List Entry) → IsRowFrom p lo s → Lacks d s → IsRowFrom (except d p) lo s
lacking p lo d [] r n = tt
lacking p lo d (m ∷ s) r n = (r.0, except_true d m.quantity p (n m (inl refl)) r.1, r.2, lacking p (m.quantity + 1) d s r.3 (λ y h. n y (inr h)))

-- a joined row lacks what both rows lack
pub joined_lacks : (d : ℕ) (other q rest : Row) (e : ℚ) → IsJoined other Less e q rest → IsOver everywhere everywhere other → IsOver everywhere everywhere q → Lacks d other.live → Lacks d q.live → Lacks d rest.live
joined_lacks d other q rest e j o p n m =
    let r = j.over (except d everywhere) everywhere (record { live_row = lacking everywhere 0 d other.live o.live_row n; dropped_row = o.dropped_row }) (record { live_row = lacking everywhere 0 d q.live p.live_row m; dropped_row = p.dropped_row }) in
    λ y h f. let t = passes (except d everywhere) 0 rest.live y r.live_row h in (except_below d y.quantity everywhere t).1 f

-- ---- an entry that changes its list
pub dropped_is : (row r : Row) (column : ℕ) (factor : ℚ) → IsOver everywhere everywhere row → Has (record { quantity = column; factor = factor }) row.live → r.live ≡ others column row.live → IsPut row.dropped (record { quantity = column; factor = factor }) r.dropped → r.constant ≡ row.constant → IsDropped row column r
dropped_is row r column factor o h e p c = record {
  over = λ live dropped k. record {
    live_row = subst (IsRowFrom (except column live) 0) (sym e) (row_others live 0 column row.live k.live_row);
    dropped_row = p.row (also column dropped) (also_self column dropped) (row_weaker dropped (also column dropped) 0 row.dropped (also_more column dropped) k.dropped_row);
  };
  value = λ x.
      ap₂ (λ a b. a +ℚ b) c (ap₂ (λ a b. a +ℚ b) (ap (sum_at x) e ∙ sum_at-others x column row.live ∙ ap (λ u. sum_at x row.live -ℚ u *ℚ x column) (at_unit everywhere 0 row.live (record { quantity = column; factor = factor }) o.live_row h)) (p.value x))
      ∙ ring (row.constant ∷ sum_at x row.live ∷ sum_at x row.dropped ∷ factor ∷ x column ∷ []) (var 0 ⊕ ((var 1 ⊕ minus (var 3 ⊗ var 4)) ⊕ (var 2 ⊕ var 3 ⊗ var 4))) (var 0 ⊕ (var 1 ⊕ var 2)) refl;
}

pub restored_is : (row r : Row) (column : ℕ) (factor : ℚ) → IsOver everywhere everywhere row → Has (record { quantity = column; factor = factor }) row.dropped → r.dropped ≡ others column row.dropped → IsPut row.live (record { quantity = column; factor = factor }) r.live → r.constant ≡ row.constant → IsRestored row column r
restored_is row r column factor o h e p c = record {
  over = λ live dropped k. record {
    live_row = p.row (also column live) (also_self column live) (row_weaker live (also column live) 0 row.live (also_more column live) k.live_row);
    dropped_row = subst (IsRowFrom (except column dropped) 0) (sym e) (row_others dropped 0 column row.dropped k.dropped_row);
  };
  value = λ x.
      ap₂ (λ a b. a +ℚ b) c (ap₂ (λ a b. a +ℚ b) (p.value x) (ap (sum_at x) e ∙ sum_at-others x column row.dropped ∙ ap (λ u. sum_at x row.dropped -ℚ u *ℚ x column) (at_unit everywhere 0 row.dropped (record { quantity = column; factor = factor }) o.dropped_row h)))
      ∙ ring (row.constant ∷ sum_at x row.live ∷ sum_at x row.dropped ∷ factor ∷ x column ∷ []) (var 0 ⊕ ((var 1 ⊕ var 3 ⊗ var 4) ⊕ (var 2 ⊕ minus (var 3 ⊗ var 4)))) (var 0 ⊕ (var 1 ⊕ var 2)) refl;
}
