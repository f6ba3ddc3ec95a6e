-- One step of a merge of two lists.
use Rattle.std.proofs.Common.{◌≡◌, ℕ, ◌+◌, ◌<◌, ◌≤◌, List, [], ◌∷◌, ◌++◌, length, Bool, true, arith, rules, refl, ap, ap₂, sym, subst, ◌∙◌, pos, inl, inr, Option, Some, None, take, take_all, drop, drop_of_length-le}
use Rattle.spec_numbers.specs.Rational.{ℚ, 0ℚ, neg_ℚ, ◌+ℚ◌, ◌*ℚ◌}
use Rattle.spec_numbers.proofs.Ring.{var, int, ◌⊕◌, ◌⊗◌, minus}
use Rattle.spec_numbers.proofs.RationalLemmas.{ring}
use Rattle.cq_frac.specs.Refused.{Refuses, Tells}
use Rattle.cq_frac.proofs.Refusals.{never_both}
use Rattle.cq_frac.specs.declared.Operation.TheVariants.{Product}
use Rattle.cq_frac.specs.declared.Pair.{Pair}
use Rattle.cq_frac.specs.declared.row.Entry.{Entry}
use Rattle.cq_frac.specs.declared.row.Joining.{Joining}
use Rattle.cq_frac.specs.declared.row.Joining.TheVariants.{Plus, Less}
use Rattle.cq_frac.specs.Rows.{sum_at, IsRowFrom, Has, joined, operation_of, everywhere, times, IsJoinedPair, NoJoinedPair, StartsAbove, IsNextAt, multiplier, AcceptsScaled, TellsScaled, IsScaledPair, NoScaledPair}
use Rattle.cq_frac.proofs.Units.{row_lower, has_least, sum_at-times}
use Rattle.cq_frac.proofs.Steps.{has_next, drop-times, no_product_more}

-- each column is below hi
abbrev pub Below : ℕ → List Entry → Type 0
Below hi [] = Unit {0}
Below hi (m ∷ s) = (m.quantity < hi) × Below hi s

pub below_more : (hi to : ℕ) (s : List Entry) → hi ≤ to → Below hi s → Below to s
below_more hi to [] h b = tt
below_more hi to (m ∷ s) h b = (omega (arith, b.0, h), below_more hi to s h b.1)

below_end : (hi : ℕ) (s : List Entry) (m : Entry) → m.quantity < hi → Below hi s → Below hi (s ++ m ∷ [])
below_end hi [] m h b = (h, tt)
below_end hi (x ∷ s) m h b = (b.0, below_end hi s m h b.1)

row_end : (p : ℕ → Bool) (lo : ℕ) (s : List Entry) (m : Entry) → lo ≤ m.quantity → p m.quantity ≡ true → (m.factor ≡ 0ℚ → ⊥) → Below m.quantity s → IsRowFrom p lo s → IsRowFrom p lo (s ++ m ∷ [])
row_end p lo [] m l t n b r = (l, t, n, tt)
row_end p lo (x ∷ s) m l t n b r = (r.0, r.1, r.2, row_end p (x.quantity + 1) s m (omega (arith, b.0)) t n b.1 r.3)

-- some pair of the two rows is refused
pub record Refusing (a : List Entry) (how : Joining) (b : List Entry) : Type 0 where
  pub left : Entry
  pub right : Entry
  pub in_left : Has left a
  pub in_right : Has right b
  pub same : left.quantity ≡ right.quantity
  pub refused : Refuses (operation_of how) left.factor right.factor

-- ---- the state of the merge: what is done is below lo, what is to come is at least lo
pub record Going (how : Joining) (p : ℕ → Bool) (a b done : List Entry) (i j : ℕ) : Type 0 where
  pub lo : ℕ
  pub done_row : IsRowFrom p 0 done
  pub done_below : Below lo done
  pub a_row : IsRowFrom p lo (drop i a)
  pub b_row : IsRowFrom p lo (drop j b)
  -- a refused pair is still to come
  pub to_come : Refusing a how b → Refusing (drop i a) how (drop j b)

-- a refused pair does not use the first entry of a row, where the other row is above it
skip_left : (how : Joining) (p : ℕ → Bool) (x : Entry) (s b : List Entry) → IsRowFrom p (x.quantity + 1) b → Refusing (x ∷ s) how b → Refusing s how b
skip_left how p x s b r q = go q.in_left
  where
    go : Has q.left (x ∷ s) → Refusing s how b
    go (inl e) = absurd (omega (arith, has_least p (x.quantity + 1) b q.right r q.in_right, q.same, ap (λ (y : Entry). y.quantity) e))
    go (inr h) = record { left = q.left; right = q.right; in_left = h; in_right = q.in_right; same = q.same; refused = q.refused }

skip_right : (how : Joining) (p : ℕ → Bool) (a s : List Entry) (y : Entry) → IsRowFrom p (y.quantity + 1) a → Refusing a how (y ∷ s) → Refusing a how s
skip_right how p a s y r q = go q.in_right
  where
    go : Has q.right (y ∷ s) → Refusing a how s
    go (inl e) = absurd (omega (arith, has_least p (y.quantity + 1) a q.left r q.in_left, q.same, ap (λ (z : Entry). z.quantity) e))
    go (inr h) = record { left = q.left; right = q.right; in_left = q.in_left; in_right = h; same = q.same; refused = q.refused }

-- nor does it use the two first ones, where they are of one column and their pair is not refused
skip_both : (how : Joining) (p : ℕ → Bool) (x y : Entry) (s r : List Entry) → x.quantity ≡ y.quantity → (Refuses (operation_of how) x.factor y.factor → ⊥) → IsRowFrom p (x.quantity + 1) s → IsRowFrom p (y.quantity + 1) r → Refusing (x ∷ s) how (y ∷ r) → Refusing s how r
skip_both how p x y s r e n f q h = go h.in_left h.in_right
  where
    go : Has h.left (x ∷ s) → Has h.right (y ∷ r) → Refusing s how r
    go (inl a) (inl b) = absurd (n (subst (λ (z : Entry). Refuses (operation_of how) z.factor y.factor) a (subst (λ (z : Entry). Refuses (operation_of how) h.left.factor z.factor) b h.refused)))
    go (inl a) (inr b) = absurd (omega (arith, has_least p (y.quantity + 1) r h.right q b, h.same, ap (λ (z : Entry). z.quantity) a, e))
    go (inr a) (inl b) = absurd (omega (arith, has_least p (x.quantity + 1) s h.left f a, h.same, ap (λ (z : Entry). z.quantity) b, e))
    go (inr a) (inr b) = record { left = h.left; right = h.right; in_left = a; in_right = b; same = h.same; refused = h.refused }

module _ {how : Joining} {p : ℕ → Bool} {a b done : List Entry} {i j : ℕ} (g : Going how p a b done i j) where
  -- the first entry of what is left of a goes to the end, before all of b's
  pub take_left : (x : Entry) (more : List Entry) → drop i a ≡ x ∷ drop (i + 1) a → IsRowFrom p (x.quantity + 1) (drop j b) → more ≡ done ++ x ∷ [] → Going how p a b more (i + 1) j
  take_left x more e r f =
      let h : IsRowFrom p g.lo (x ∷ drop (i + 1) a) = subst (IsRowFrom p g.lo) e g.a_row in
      record {
        lo = x.quantity + 1;
        done_row = subst (IsRowFrom p 0) (sym f) (row_end p 0 done x (omega arith) h.1 h.2 (below_more g.lo x.quantity done h.0 g.done_below) g.done_row);
        done_below = subst (Below (x.quantity + 1)) (sym f) (below_end (x.quantity + 1) done x (omega arith) (below_more g.lo (x.quantity + 1) done (omega (arith, h.0)) g.done_below));
        a_row = h.3;
        b_row = r;
        to_come = λ q. skip_left how p x (drop (i + 1) a) (drop j b) r (subst (λ z. Refusing z how (drop j b)) e (g.to_come q));
      }

  -- likewise of b, whose factor is joined to nothing
  pub take_right : (y z : Entry) (more : List Entry) → drop j b ≡ y ∷ drop (j + 1) b → IsRowFrom p (y.quantity + 1) (drop i a) → z.quantity ≡ y.quantity → ((y.factor ≡ 0ℚ → ⊥) → z.factor ≡ 0ℚ → ⊥) → more ≡ done ++ z ∷ [] → Going how p a b more i (j + 1)
  take_right y z more e r w n f =
      let h : IsRowFrom p g.lo (y ∷ drop (j + 1) b) = subst (IsRowFrom p g.lo) e g.b_row in
      record {
        lo = y.quantity + 1;
        done_row = subst (IsRowFrom p 0) (sym f) (row_end p 0 done z (omega arith) (ap p w ∙ h.1) (n h.2) (below_more g.lo z.quantity done (omega (arith, h.0, w)) g.done_below) g.done_row);
        done_below = subst (Below (y.quantity + 1)) (sym f) (below_end (y.quantity + 1) done z (omega (arith, w)) (below_more g.lo (y.quantity + 1) done (omega (arith, h.0)) g.done_below));
        a_row = r;
        b_row = h.3;
        to_come = λ q. skip_right how p (drop i a) (drop (j + 1) b) y r (subst (λ t. Refusing (drop i a) how t) e (g.to_come q));
      }

  -- both first entries are of one column, and their pair is not refused: it is zero and left out, or goes to the end
  pub take_both : (x y : Entry) → drop i a ≡ x ∷ drop (i + 1) a → drop j b ≡ y ∷ drop (j + 1) b → x.quantity ≡ y.quantity → (Refuses (operation_of how) x.factor y.factor → ⊥) → Going how p a b done (i + 1) (j + 1)
  take_both x y e f s n =
      let h : IsRowFrom p g.lo (x ∷ drop (i + 1) a) = subst (IsRowFrom p g.lo) e g.a_row in
      let k : IsRowFrom p g.lo (y ∷ drop (j + 1) b) = subst (IsRowFrom p g.lo) f g.b_row in
      record {
        lo = x.quantity + 1;
        done_row = g.done_row;
        done_below = below_more g.lo (x.quantity + 1) done (omega (arith, h.0)) g.done_below;
        a_row = h.3;
        b_row = row_lower p (y.quantity + 1) (x.quantity + 1) (drop (j + 1) b) (omega (arith, s)) k.3;
        to_come = λ q. skip_both how p x y (drop (i + 1) a) (drop (j + 1) b) s n h.3 k.3
            (subst (λ z. Refusing z how (y ∷ drop (j + 1) b)) e (subst (λ z. Refusing (drop i a) how z) f (g.to_come q)));
      }

  pub put : (x y z : Entry) (more : List Entry) → drop i a ≡ x ∷ drop (i + 1) a → drop j b ≡ y ∷ drop (j + 1) b → x.quantity ≡ y.quantity → (Refuses (operation_of how) x.factor y.factor → ⊥) → z.quantity ≡ x.quantity → (z.factor ≡ 0ℚ → ⊥) → more ≡ done ++ z ∷ [] → Going how p a b more (i + 1) (j + 1)
  put x y z more e f s n w nz m =
      let h : IsRowFrom p g.lo (x ∷ drop (i + 1) a) = subst (IsRowFrom p g.lo) e g.a_row in
      let t = take_both x y e f s n in
      record {
        lo = x.quantity + 1;
        done_row = subst (IsRowFrom p 0) (sym m) (row_end p 0 done z (omega arith) (ap p w ∙ h.1) nz (below_more g.lo z.quantity done (omega (arith, h.0, w)) g.done_below) g.done_row);
        done_below = subst (Below (x.quantity + 1)) (sym m) (below_end (x.quantity + 1) done z (omega (arith, w)) (below_more g.lo (x.quantity + 1) done (omega (arith, h.0)) g.done_below));
        a_row = h.3;
        b_row = row_lower p (y.quantity + 1) (x.quantity + 1) (drop (j + 1) b) (omega (arith, s)) (subst (IsRowFrom p g.lo) f g.b_row).3;
        to_come = t.to_come;
      }

  -- at the end no pair is refused
  pub none_left : drop i a ≡ [] → NoJoinedPair a how b
  none_left e = λ m n h k s r.
      let q : Refusing (drop i a) how (drop j b) = g.to_come (record { left = m; right = n; in_left = h; in_right = k; same = s; refused = r }) in
      subst (Has q.left) e q.in_left

pub going_start : (how : Joining) (p : ℕ → Bool) (a b s : List Entry) → s ≡ [] → IsRowFrom p 0 a → IsRowFrom p 0 b → Going how p a b s 0 0
going_start how p a b s e r t = record { lo = 0; done_row = subst (IsRowFrom p 0) (sym e) tt; done_below = subst (Below 0) (sym e) tt; a_row = r; b_row = t; to_come = λ q. q }

-- ---- the value: what is done, and what is to come

pub sum_at-end : (v : ℕ → ℚ) (s more : List Entry) (m : Entry) → more ≡ s ++ m ∷ [] → sum_at v more ≡ sum_at v s +ℚ m.factor *ℚ v m.quantity
sum_at-end v s more m e = ap (sum_at v) e ∙ go s
  where
    go : (s : List Entry) → sum_at v (s ++ m ∷ []) ≡ sum_at v s +ℚ m.factor *ℚ v m.quantity
    go [] = ring ((m.factor *ℚ v m.quantity) ∷ []) (var 0 ⊕ int (pos 0)) (int (pos 0) ⊕ var 0) refl
    go (x ∷ s) = ap (λ w. x.factor *ℚ v x.quantity +ℚ w) (go s) ∙ ring ((x.factor *ℚ v x.quantity) ∷ sum_at v s ∷ (m.factor *ℚ v m.quantity) ∷ []) (var 0 ⊕ (var 1 ⊕ var 2)) (var 0 ⊕ var 1 ⊕ var 2) refl

pub record Adds (how : Joining) (a b done : List Entry) (i j : ℕ) : Type 0 where
  pub total : (v : ℕ → ℚ) → joined how (sum_at v a) (sum_at v b) ≡ sum_at v done +ℚ joined how (sum_at v (drop i a)) (sum_at v (drop j b))

pub adds_start : (how : Joining) (a b s : List Entry) → s ≡ [] → Adds how a b s 0 0
adds_start how a b s e = record {
  total = λ v. ring (joined how (sum_at v a) (sum_at v b) ∷ []) (var 0) (int (pos 0) ⊕ var 0) refl ∙ ap (λ w. sum_at v w +ℚ joined how (sum_at v a) (sum_at v b)) (sym e);
}

left_out : (how : Joining) (s f x a b : ℚ) → s +ℚ joined how (f *ℚ x +ℚ a) b ≡ (s +ℚ f *ℚ x) +ℚ joined how a b
left_out Plus s f x a b = ring (s ∷ f ∷ x ∷ a ∷ b ∷ []) (var 0 ⊕ (var 1 ⊗ var 2 ⊕ var 3 ⊕ var 4)) ((var 0 ⊕ var 1 ⊗ var 2) ⊕ (var 3 ⊕ var 4)) refl
left_out Less s f x a b = ring (s ∷ f ∷ x ∷ a ∷ b ∷ []) (var 0 ⊕ (var 1 ⊗ var 2 ⊕ var 3 ⊕ minus (var 4))) ((var 0 ⊕ var 1 ⊗ var 2) ⊕ (var 3 ⊕ minus (var 4))) refl

right_out : (how : Joining) (s f x a b : ℚ) → s +ℚ joined how a (f *ℚ x +ℚ b) ≡ (s +ℚ joined how 0ℚ f *ℚ x) +ℚ joined how a b
right_out Plus s f x a b = ring (s ∷ f ∷ x ∷ a ∷ b ∷ []) (var 0 ⊕ (var 3 ⊕ (var 1 ⊗ var 2 ⊕ var 4))) ((var 0 ⊕ (int (pos 0) ⊕ var 1) ⊗ var 2) ⊕ (var 3 ⊕ var 4)) refl
right_out Less s f x a b = ring (s ∷ f ∷ x ∷ a ∷ b ∷ []) (var 0 ⊕ (var 3 ⊕ minus (var 1 ⊗ var 2 ⊕ var 4))) ((var 0 ⊕ (int (pos 0) ⊕ minus (var 1)) ⊗ var 2) ⊕ (var 3 ⊕ minus (var 4))) refl

both_out : (how : Joining) (s f g x a b : ℚ) → s +ℚ joined how (f *ℚ x +ℚ a) (g *ℚ x +ℚ b) ≡ (s +ℚ joined how f g *ℚ x) +ℚ joined how a b
both_out Plus s f g x a b = ring (s ∷ f ∷ g ∷ x ∷ a ∷ b ∷ []) (var 0 ⊕ (var 1 ⊗ var 3 ⊕ var 4 ⊕ (var 2 ⊗ var 3 ⊕ var 5))) ((var 0 ⊕ (var 1 ⊕ var 2) ⊗ var 3) ⊕ (var 4 ⊕ var 5)) refl
both_out Less s f g x a b = ring (s ∷ f ∷ g ∷ x ∷ a ∷ b ∷ []) (var 0 ⊕ (var 1 ⊗ var 3 ⊕ var 4 ⊕ minus (var 2 ⊗ var 3 ⊕ var 5))) ((var 0 ⊕ (var 1 ⊕ minus (var 2)) ⊗ var 3) ⊕ (var 4 ⊕ minus (var 5))) refl

pub alone_not_zero : (how : Joining) (f z : ℚ) → z ≡ joined how 0ℚ f → (f ≡ 0ℚ → ⊥) → z ≡ 0ℚ → ⊥
alone_not_zero Plus f z e n h = n (ring (f ∷ []) (var 0) (int (pos 0) ⊕ var 0) refl ∙ sym e ∙ h)
alone_not_zero Less f z e n h = n (ring (f ∷ []) (var 0) (minus (int (pos 0) ⊕ minus (var 0))) refl ∙ ap neg_ℚ (sym e ∙ h) ∙ ring [] (minus (int (pos 0))) (int (pos 0)) refl)

module _ {how : Joining} {a b done : List Entry} {i j : ℕ} (g : Adds how a b done i j) where
  pub add_left : (x : Entry) (more : List Entry) → drop i a ≡ x ∷ drop (i + 1) a → more ≡ done ++ x ∷ [] → Adds how a b more (i + 1) j
  add_left x more e f = record {
    total = λ v.
        g.total v ∙ ap (λ s. sum_at v done +ℚ joined how (sum_at v s) (sum_at v (drop j b))) e
        ∙ left_out how (sum_at v done) x.factor (v x.quantity) (sum_at v (drop (i + 1) a)) (sum_at v (drop j b))
        ∙ ap (λ w. w +ℚ joined how (sum_at v (drop (i + 1) a)) (sum_at v (drop j b))) (sym (sum_at-end v done more x f));
  }

  pub add_right : (y : Entry) (z : ℚ) (more : List Entry) → drop j b ≡ y ∷ drop (j + 1) b → z ≡ joined how 0ℚ y.factor → more ≡ done ++ record { quantity = y.quantity; factor = z } ∷ [] → Adds how a b more i (j + 1)
  add_right y z more e w f = record {
    total = λ v.
        g.total v ∙ ap (λ s. sum_at v done +ℚ joined how (sum_at v (drop i a)) (sum_at v s)) e
        ∙ right_out how (sum_at v done) y.factor (v y.quantity) (sum_at v (drop i a)) (sum_at v (drop (j + 1) b))
        ∙ ap (λ q. (sum_at v done +ℚ q *ℚ v y.quantity) +ℚ joined how (sum_at v (drop i a)) (sum_at v (drop (j + 1) b))) (sym w)
        ∙ ap (λ s. s +ℚ joined how (sum_at v (drop i a)) (sum_at v (drop (j + 1) b))) (sym (sum_at-end v done more _ f));
  }

  opened_both : (v : ℕ → ℚ) (x y : Entry) → drop i a ≡ x ∷ drop (i + 1) a → drop j b ≡ y ∷ drop (j + 1) b → x.quantity ≡ y.quantity → joined how (sum_at v a) (sum_at v b) ≡ (sum_at v done +ℚ joined how x.factor y.factor *ℚ v x.quantity) +ℚ joined how (sum_at v (drop (i + 1) a)) (sum_at v (drop (j + 1) b))
  opened_both v x y e f s =
      g.total v ∙ ap₂ (λ l m. sum_at v done +ℚ joined how (sum_at v l) (sum_at v m)) e f
      ∙ ap (λ n. sum_at v done +ℚ joined how (x.factor *ℚ v x.quantity +ℚ sum_at v (drop (i + 1) a)) (y.factor *ℚ v n +ℚ sum_at v (drop (j + 1) b))) (sym s)
      ∙ both_out how (sum_at v done) x.factor y.factor (v x.quantity) (sum_at v (drop (i + 1) a)) (sum_at v (drop (j + 1) b))

  pub add_both : (x y : Entry) (z : ℚ) (more : List Entry) → drop i a ≡ x ∷ drop (i + 1) a → drop j b ≡ y ∷ drop (j + 1) b → x.quantity ≡ y.quantity → z ≡ joined how x.factor y.factor → more ≡ done ++ record { quantity = x.quantity; factor = z } ∷ [] → Adds how a b more (i + 1) (j + 1)
  add_both x y z more e f s w m = record {
    total = λ v.
        opened_both v x y e f s
        ∙ ap (λ q. (sum_at v done +ℚ q *ℚ v x.quantity) +ℚ joined how (sum_at v (drop (i + 1) a)) (sum_at v (drop (j + 1) b))) (sym w)
        ∙ ap (λ q. q +ℚ joined how (sum_at v (drop (i + 1) a)) (sum_at v (drop (j + 1) b))) (sym (sum_at-end v done more _ m));
  }

  pub add_none : (x y : Entry) (z : ℚ) → drop i a ≡ x ∷ drop (i + 1) a → drop j b ≡ y ∷ drop (j + 1) b → x.quantity ≡ y.quantity → z ≡ joined how x.factor y.factor → z ≡ 0ℚ → Adds how a b done (i + 1) (j + 1)
  add_none x y z e f s w n = record {
    total = λ v.
        opened_both v x y e f s
        ∙ ap (λ q. (sum_at v done +ℚ q *ℚ v x.quantity) +ℚ joined how (sum_at v (drop (i + 1) a)) (sum_at v (drop (j + 1) b))) (sym w ∙ n)
        ∙ ring (sum_at v done ∷ v x.quantity ∷ joined how (sum_at v (drop (i + 1) a)) (sum_at v (drop (j + 1) b)) ∷ []) ((var 0 ⊕ int (pos 0) ⊗ var 1) ⊕ var 2) (var 0 ⊕ var 2) refl;
  }

  pub add_end : drop i a ≡ [] → drop j b ≡ [] → (v : ℕ → ℚ) → sum_at v done ≡ joined how (sum_at v a) (sum_at v b)
  add_end e f v = sym (g.total v ∙ ap₂ (λ l m. sum_at v done +ℚ joined how (sum_at v l) (sum_at v m)) e f ∙ nothing how)
    where
      nothing : (how : Joining) → sum_at v done +ℚ joined how 0ℚ 0ℚ ≡ sum_at v done
      nothing Plus = ring (sum_at v done ∷ []) (var 0 ⊕ (int (pos 0) ⊕ int (pos 0))) (var 0) refl
      nothing Less = ring (sum_at v done ∷ []) (var 0 ⊕ (int (pos 0) ⊕ minus (int (pos 0)))) (var 0) refl

-- ---- the merge of a and k times b

-- the rest starts above a quantity
pub raised : (p : ℕ → Bool) (lo c : ℕ) (s : List Entry) → IsRowFrom p lo s → StartsAbove c s → IsRowFrom p (c + 1) s
raised p lo c [] r h = tt
raised p lo c (m ∷ s) r h = (omega (arith, h), r.1, r.2, r.3)

starts_times : (k : ℚ) (c : ℕ) (s : List Entry) → StartsAbove c s → StartsAbove c (times k s)
starts_times k c [] h = tt
starts_times k c (m ∷ s) h = h

pub times_next : (k : ℚ) (b : List Entry) (j : ℕ) (y : Entry) → IsNextAt b j y → IsNextAt (times k b) j (record { quantity = y.quantity; factor = k *ℚ y.factor })
times_next k b j y e = drop-times k b j ∙ ap (times k) e ∙ ap (λ s. record { quantity = y.quantity; factor = k *ℚ y.factor } ∷ s) (sym (drop-times k b (j + 1)))

pub times_above : (k : ℚ) (c : ℕ) (b : List Entry) (j : ℕ) → StartsAbove c (drop j b) → StartsAbove c (drop j (times k b))
times_above k c b j h = subst (StartsAbove c) (sym (drop-times k b j)) (starts_times k c (drop j b) h)

pub times_end : (k : ℚ) (b : List Entry) (j : ℕ) → length b ≤ j → drop j (times k b) ≡ []
times_end k b j l = drop-times k b j ∙ ap (times k) (drop_of_length-le b l)

no_scaled_start : (scale : Option ℚ) (b : List Entry) → NoScaledPair scale (take 0 b)
no_scaled_start None b = tt
no_scaled_start (Some k) b = λ m h r. h

no_scaled_more : (scale : Option ℚ) (s : List Entry) (j : ℕ) (m : Entry) (t : List Entry) → drop j s ≡ m ∷ t → NoScaledPair scale (take j s) → AcceptsScaled scale m.factor → NoScaledPair scale (take (j + 1) s)
no_scaled_more None s j m t e h a = tt
no_scaled_more (Some k) s j m t e h a = no_product_more k s j m t e h (λ r. never_both Product k m.factor a r)

-- all that the loop keeps
pub record State (how : Joining) (scale : Option ℚ) (a b done : List Entry) (i j : ℕ) : Type 0 where
  pub going : (p : ℕ → Bool) → IsRowFrom p 0 a → IsRowFrom p 0 (times (multiplier scale) b) → Going how p a (times (multiplier scale) b) done i j
  pub adds : Adds how a (times (multiplier scale) b) done i j
  pub products : NoScaledPair scale (take j b)

pub started : (how : Joining) (scale : Option ℚ) (a b s : List Entry) → s ≡ [] → State how scale a b s 0 0
started how scale a b s e = record { going = λ p h r. going_start how p a (times (multiplier scale) b) s e h r; adds = adds_start how a (times (multiplier scale) b) s e; products = no_scaled_start scale b }

module _ {how : Joining} {scale : Option ℚ} {a b done : List Entry} {i j : ℕ} (s : State how scale a b done i j) where
  pub left_more : (x : Entry) (more : List Entry) → IsNextAt a i x × StartsAbove x.quantity (drop j b) → more ≡ done ++ x ∷ [] → State how scale a b more (i + 1) j
  left_more x more n e = record {
    going = λ p h r. let g = s.going p h r in take_left g x more n.0 (raised p g.lo x.quantity (drop j (times (multiplier scale) b)) g.b_row (times_above (multiplier scale) x.quantity b j n.1)) e;
    adds = add_left s.adds x more n.0 e;
    products = s.products;
  }

  pub right_more : (y : Entry) (product z : ℚ) (more : List Entry) → IsNextAt b j y × StartsAbove y.quantity (drop i a) → product ≡ multiplier scale *ℚ y.factor → AcceptsScaled scale y.factor → z ≡ joined how 0ℚ product → more ≡ done ++ record { quantity = y.quantity; factor = z } ∷ [] → State how scale a b more i (j + 1)
  right_more y product z more n f r w e =
      let o = times_next (multiplier scale) b j y n.0 in
      let v : z ≡ joined how 0ℚ (multiplier scale *ℚ y.factor) = w ∙ ap (joined how 0ℚ) f in
      record {
        going = λ p h t. let g = s.going p h t in take_right g (record { quantity = y.quantity; factor = multiplier scale *ℚ y.factor }) (record { quantity = y.quantity; factor = z }) more o (raised p g.lo y.quantity (drop i a) g.a_row n.1) refl (alone_not_zero how (multiplier scale *ℚ y.factor) z v) e;
        adds = add_right s.adds (record { quantity = y.quantity; factor = multiplier scale *ℚ y.factor }) z more o v e;
        products = no_scaled_more scale b j y (drop (j + 1) b) n.0 s.products r;
      }

  module _ (x y : Entry) (product z : ℚ) (n : IsNextAt a i x × IsNextAt b j y × (x.quantity ≡ y.quantity)) (f : product ≡ multiplier scale *ℚ y.factor) (r : AcceptsScaled scale y.factor)
      (w : z ≡ joined how x.factor product) (t : Refuses (operation_of how) x.factor product → ⊥) where
    sum_is : z ≡ joined how x.factor (multiplier scale *ℚ y.factor)
    sum_is = w ∙ ap (joined how x.factor) f

    not_refused : Refuses (operation_of how) x.factor (multiplier scale *ℚ y.factor) → ⊥
    not_refused q = t (subst (Refuses (operation_of how) x.factor) (sym f) q)

    pub both_zero : z ≡ 0ℚ → State how scale a b done (i + 1) (j + 1)
    both_zero gone = record {
      going = λ p h u. take_both (s.going p h u) x (record { quantity = y.quantity; factor = multiplier scale *ℚ y.factor }) n.0 (times_next (multiplier scale) b j y n.1) n.2 not_refused;
      adds = add_none s.adds x (record { quantity = y.quantity; factor = multiplier scale *ℚ y.factor }) z n.0 (times_next (multiplier scale) b j y n.1) n.2 sum_is gone;
      products = no_scaled_more scale b j y (drop (j + 1) b) n.1 s.products r;
    }

    pub both_more : (more : List Entry) → (z ≡ 0ℚ → ⊥) → more ≡ done ++ record { quantity = x.quantity; factor = z } ∷ [] → State how scale a b more (i + 1) (j + 1)
    both_more more nonzero e = record {
      going = λ p h u. put (s.going p h u) x (record { quantity = y.quantity; factor = multiplier scale *ℚ y.factor }) (record { quantity = x.quantity; factor = z }) more n.0 (times_next (multiplier scale) b j y n.1) n.2 not_refused refl nonzero e;
      adds = add_both s.adds x (record { quantity = y.quantity; factor = multiplier scale *ℚ y.factor }) z more n.0 (times_next (multiplier scale) b j y n.1) n.2 sum_is e;
      products = no_scaled_more scale b j y (drop (j + 1) b) n.1 s.products r;
    }

  pub row_at_end : (p : ℕ → Bool) → IsRowFrom p 0 a → IsRowFrom p 0 (times (multiplier scale) b) → IsRowFrom p 0 done
  row_at_end p h r = (s.going p h r).done_row

  module _ (la : length a ≤ i) (lb : length b ≤ j) where
    pub value_end : (x : ℕ → ℚ) → sum_at x done ≡ joined how (sum_at x a) (multiplier scale *ℚ sum_at x b)
    value_end x = add_end s.adds (drop_of_length-le a la) (times_end (multiplier scale) b j lb) x ∙ ap (joined how (sum_at x a)) (sum_at-times x (multiplier scale) b)

    pub products_end : NoScaledPair scale b
    products_end = let e : take j b ≡ b = search (rules, take_all) in subst (NoScaledPair scale) e s.products

    pub joined_end : IsRowFrom everywhere 0 a → IsRowFrom everywhere 0 (times (multiplier scale) b) → NoJoinedPair a how (times (multiplier scale) b)
    joined_end h r = none_left (s.going everywhere h r) (drop_of_length-le a la)

-- the pair of a refused product
pub scaled_shown : (scale : Option ℚ) (b : List Entry) (j : ℕ) (y : Entry) (pair : Pair) → IsNextAt b j y → TellsScaled scale y.factor pair → IsScaledPair scale b pair
scaled_shown None b j y pair n t = t
scaled_shown (Some k) b j y pair n t = record { entry = y; in_row = has_next b j y (drop (j + 1) b) n; tells = t }

-- the pair of a refused sum
pub joined_shown : (how : Joining) (scale : Option ℚ) (a b : List Entry) (i j : ℕ) (x y : Entry) (product : ℚ) (pair : Pair) → IsNextAt a i x × IsNextAt b j y × (x.quantity ≡ y.quantity) → product ≡ multiplier scale *ℚ y.factor → Tells (operation_of how) x.factor product pair → IsJoinedPair a how (times (multiplier scale) b) pair
joined_shown how scale a b i j x y product pair n f t = record {
  left = x;
  right = record { quantity = y.quantity; factor = multiplier scale *ℚ y.factor };
  in_left = has_next a i x (drop (i + 1) a) n.0;
  in_right = has_next (times (multiplier scale) b) j _ (drop (j + 1) (times (multiplier scale) b)) (times_next (multiplier scale) b j y n.1);
  same = n.2;
  tells = subst (λ q. Tells (operation_of how) x.factor q pair) f t;
}
