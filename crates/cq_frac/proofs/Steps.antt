-- One more entry of a list that is divided, negated, cut or searched.
use Rattle.std.proofs.Common.{◌≡◌, ℕ, zero, suc, ◌+◌, ◌<◌, List, [], ◌∷◌, ◌++◌, length, take, drop, get_or, Bool, true, false, nat_eq, ◌⊎◌, inl, inr, arith, refl, ap, ap₂, sym, subst, ◌∙◌, append-nil}
use Rattle.spec_numbers.specs.Rational.{ℚ, neg_ℚ, ◌/ℚ◌}
use Rattle.cq_frac.specs.Refused.{Refuses}
use Rattle.cq_frac.specs.declared.Operation.TheVariants.{Product, Quotient}
use Rattle.cq_frac.specs.declared.row.Entry.{Entry}
use Rattle.cq_frac.specs.Rows.{Has, times, over, negated, others, choose, NoProductPair, NoQuotientPair}
use Rattle.spec_numbers.proofs.Tests.{nat_eq-self, nat_eq-apart}
use Rattle.spec_numbers.proofs.Places.{take-next}

over-end : (p : ℚ) (xs : List Entry) (m : Entry) → over p (xs ++ m ∷ []) ≡ over p xs ++ record { quantity = m.quantity; factor = m.factor /ℚ p } ∷ []
over-end p [] m = refl
over-end p (x ∷ xs) m = ap (λ s. record { quantity = x.quantity; factor = x.factor /ℚ p } ∷ s) (over-end p xs m)

negated-end : (xs : List Entry) (m : Entry) → negated (xs ++ m ∷ []) ≡ negated xs ++ record { quantity = m.quantity; factor = neg_ℚ m.factor } ∷ []
negated-end [] m = refl
negated-end (x ∷ xs) m = ap (λ s. record { quantity = x.quantity; factor = neg_ℚ x.factor } ∷ s) (negated-end xs m)

others-end : (c : ℕ) (xs : List Entry) (m : Entry) → others c (xs ++ m ∷ []) ≡ others c xs ++ others c (m ∷ [])
others-end c [] m = refl
others-end c (x ∷ xs) m = go (nat_eq x.quantity c) (others-end c xs m)
  where
    go : (b : Bool) → others c (xs ++ m ∷ []) ≡ others c xs ++ others c (m ∷ []) →
        choose b (others c (xs ++ m ∷ [])) (x ∷ others c (xs ++ m ∷ [])) ≡ choose b (others c xs) (x ∷ others c xs) ++ others c (m ∷ [])
    go true h = h
    go false h = ap (λ s. x ∷ s) h

pub has_end : (xs : List Entry) (m n : Entry) → Has m (xs ++ n ∷ []) → Has m xs ⊎ (m ≡ n)
has_end [] m n (inl e) = inr e
has_end [] m n (inr h) = absurd h
has_end (x ∷ xs) m n (inl e) = inl (inl e)
has_end (x ∷ xs) m n (inr h) = elim (has_end xs m n h) [ inl k ↦ inl (inr k) | inr e ↦ inr e ]

pub has_at : (xs : List Entry) (i : ℕ) (m : Entry) → i < length xs → m ≡ get_or xs i m → Has m xs
has_at [] i m l e = absurd (omega arith)
has_at (x ∷ xs) zero m l e = inl e
has_at (x ∷ xs) (suc i) m l e = inr (has_at xs i m (omega arith) e)

module _ (xs done next : List Entry) (i : ℕ) (m : Entry) (q : ℚ) (l : i < length xs) (e : m ≡ get_or xs i m) (f : next ≡ done ++ record { quantity = m.quantity; factor = q } ∷ []) where
  pub over_more : (p : ℚ) → done ≡ over p (take i xs) → q ≡ m.factor /ℚ p → next ≡ over p (take (i + 1) xs)
  over_more p h g =
      f ∙ ap₂ (λ s r. s ++ record { quantity = m.quantity; factor = r } ∷ []) h g ∙ sym (over-end p (take i xs) m) ∙ ap (over p) (sym (take-next xs i m l e))

  pub negated_more : done ≡ negated (take i xs) → q ≡ neg_ℚ m.factor → next ≡ negated (take (i + 1) xs)
  negated_more h g =
      f ∙ ap₂ (λ s r. s ++ record { quantity = m.quantity; factor = r } ∷ []) h g ∙ sym (negated-end (take i xs) m) ∙ ap negated (sym (take-next xs i m l e))

module _ (c : ℕ) (xs done : List Entry) (i : ℕ) (m : Entry) (l : i < length xs) (e : m ≡ get_or xs i m) (h : done ≡ others c (take i xs)) where
  pub others_skip : m.quantity ≡ c → done ≡ others c (take (i + 1) xs)
  others_skip z =
      let f : nat_eq m.quantity c ≡ true = subst (λ t. nat_eq t c ≡ true) (sym z) (nat_eq-self c) in
      let g : others c (m ∷ []) ≡ [] = ap (λ b. choose b [] (m ∷ [])) f in
      h ∙ sym (append-nil (others c (take i xs))) ∙ ap (λ s. others c (take i xs) ++ s) (sym g) ∙ sym (others-end c (take i xs) m) ∙ ap (others c) (sym (take-next xs i m l e))

  pub others_more : (next : List Entry) → (m.quantity ≡ c → ⊥) → next ≡ done ++ m ∷ [] → next ≡ others c (take (i + 1) xs)
  others_more next z f =
      let g : others c (m ∷ []) ≡ m ∷ [] = ap (λ b. choose b [] (m ∷ [])) (nat_eq-apart m.quantity c z) in
      f ∙ ap (λ s. s ++ m ∷ []) h ∙ ap (λ s. others c (take i xs) ++ s) (sym g) ∙ sym (others-end c (take i xs) m) ∙ ap (others c) (sym (take-next xs i m l e))

pub no_quotient_more : (xs : List Entry) (i : ℕ) (m : Entry) (k : ℚ) → i < length xs → m ≡ get_or xs i m → NoQuotientPair (take i xs) k → (Refuses Quotient m.factor k → ⊥) → NoQuotientPair (take (i + 1) xs) k
no_quotient_more xs i m k l e h n = λ y w r.
    elim (has_end (take i xs) y m (subst (Has y) (take-next xs i m l e) w)) [
      | inl z ↦ h y z r
      | inr z ↦ n (subst (λ (t : Entry). Refuses Quotient t.factor k) z r)
    ]

-- ---- the entry that stands at a place, where the rest is known

pub drop_next : (s : List Entry) (j : ℕ) → drop (j + 1) s ≡ drop (suc j) s
drop_next s j = let w : j + 1 ≡ suc j = omega arith in ap (λ i. drop i s) w

pub take_next : (s : List Entry) (j : ℕ) (m : Entry) (t : List Entry) → drop j s ≡ m ∷ t → take (suc j) s ≡ take j s ++ m ∷ []
take_next [] zero m t e = cc
take_next [] (suc j) m t e = cc
take_next (x ∷ s) zero m t e = let f : x ≡ m = cc in ap (λ y. y ∷ []) f
take_next (x ∷ s) (suc j) m t e = ap (λ r. x ∷ r) (take_next s j m t e)

pub has_next : (s : List Entry) (j : ℕ) (m : Entry) (t : List Entry) → drop j s ≡ m ∷ t → Has m s
has_next [] zero m t e = cc
has_next [] (suc j) m t e = cc
has_next (x ∷ s) zero m t e = let f : m ≡ x = cc in inl f
has_next (x ∷ s) (suc j) m t e = inr (has_next s j m t e)

pub no_product_more : (k : ℚ) (s : List Entry) (j : ℕ) (m : Entry) (t : List Entry) → drop j s ≡ m ∷ t → NoProductPair k (take j s) → (Refuses Product k m.factor → ⊥) → NoProductPair k (take (j + 1) s)
no_product_more k s j m t e h n = λ y w r.
    let l : j + 1 ≡ suc j = omega arith in
    elim (has_end (take j s) y m (subst (Has y) (ap (λ i. take i s) l ∙ take_next s j m t e) w)) [
      | inl z ↦ h y z r
      | inr z ↦ n (subst (λ (u : Entry). Refuses Product k u.factor) z r)
    ]

pub drop-times : (k : ℚ) (s : List Entry) (j : ℕ) → drop j (times k s) ≡ times k (drop j s)
drop-times k [] zero = refl
drop-times k [] (suc j) = refl
drop-times k (x ∷ s) zero = refl
drop-times k (x ∷ s) (suc j) = drop-times k s j

-- ---- a search
