-- Numbers for all texts, different ones for different texts, that agree with the numbers of a table.
use Rattle.std.proofs.Common.{◌≡◌, ℕ, zero, suc, ◌+◌, ◌<◌, ◌≤◌, arith, refl, sym, ap, ◌∙◌, [], ◌∷◌, Bool, true, false, cond, ◌⊎◌, inl, inr}
use Rattle.std.specs.Prelude.{bytes_eq}
use Rattle.std.proofs.lemmas.Bool.{cases_lt}
use Rattle.std.proofs.lemmas.Slice.Eq.{bytes_eq-Decides}
use Rattle.spec_numbers.specs.Texts.{Text}
use Rattle.spec_terms.specs.Names.{AreDifferentBelow}

-- ---- a number for each text

-- twice as often as the first number says, one more than twice the second
abbrev pair : ℕ → ℕ → ℕ
pair zero c = suc (c + c)
pair (suc x) c = pair x c + pair x c

abbrev number_of : Text → ℕ
number_of [] = 0
number_of (b ∷ bs) = pair b (number_of bs)

pair_positive : (x c : ℕ) → 0 < pair x c
pair_positive zero c = omega arith
pair_positive (suc x) c = let h : 0 < pair x c = pair_positive x c in omega (arith, h)

pair_same : (x c y d : ℕ) → pair x c ≡ pair y d → (x ≡ y) × (c ≡ d)
pair_same zero c zero d e = (refl, omega (arith, e))
pair_same zero c (suc y) d e = absurd (omega (arith, e))
pair_same (suc x) c zero d e = absurd (omega (arith, e))
pair_same (suc x) c (suc y) d e =
    let h : pair x c ≡ pair y d = omega (arith, e) in
    let k : (x ≡ y) × (c ≡ d) = pair_same x c y d h in
    (ap (λ n. suc n) k.0, k.1)

number_of_same : (s t : Text) → number_of s ≡ number_of t → s ≡ t
number_of_same [] [] e = refl
number_of_same [] (b ∷ bs) e = let h : 0 < pair b (number_of bs) = pair_positive b (number_of bs) in absurd (omega (arith, h, e))
number_of_same (a ∷ r) [] e = let h : 0 < pair a (number_of r) = pair_positive a (number_of r) in absurd (omega (arith, h, e))
number_of_same (a ∷ r) (b ∷ bs) e =
    let k : (a ≡ b) × (number_of r ≡ number_of bs) = pair_same a (number_of r) b (number_of bs) e in
    let h : r ≡ bs = number_of_same r bs k.1 in
    cc

-- ---- the numbers of a table

module _ (f : ℕ → Text) (n : ℕ) (different : AreDifferentBelow n f) where
  -- the number below k that has this text, or one past n that is the text's own
  abbrev number_below : ℕ → Text → ℕ
  number_below zero t = n + number_of t
  number_below (suc k) t = cond (bytes_eq (f k) t) k (number_below k t)

  abbrev IsNumber : ℕ → Text → ℕ → Type 0
  IsNumber k t a = ((a < k) × (f a ≡ t)) ⊎ (a ≡ n + number_of t)

  is_number : (k : ℕ) (t : Text) → IsNumber k t (number_below k t)
  is_number zero t = inr refl
  is_number (suc k) t = go (bytes_eq (f k) t) refl (is_number k t)
    where
      later : (a : ℕ) → IsNumber k t a → IsNumber (suc k) t a
      later a (inl h) = inl (omega (arith, h.0), h.1)
      later a (inr h) = inr h

      go : (b : Bool) → bytes_eq (f k) t ≡ b → IsNumber k t (number_below k t)
          → IsNumber (suc k) t (cond b k (number_below k t))
      go true e h = inl (omega arith, (bytes_eq-Decides (f k) t).0 e)
      go false e h = later (number_below k t) h

  -- the number of a text
  abbrev pub number : Text → ℕ
  number t = number_below n t

  pub number_same : (s t : Text) → number s ≡ number t → s ≡ t
  number_same s t e = go (number s) (number t) e (is_number n s) (is_number n t)
    where
      go : (a b : ℕ) → a ≡ b → IsNumber n s a → IsNumber n t b → s ≡ t
      go a b e (inl h) (inl k) = sym h.1 ∙ ap f e ∙ k.1
      go a b e (inl h) (inr k) = let l : a < n = h.0 in absurd (omega (arith, l, k, e))
      go a b e (inr h) (inl k) = let l : b < n = k.0 in absurd (omega (arith, h, l, e))
      go a b e (inr h) (inr k) = number_of_same s t (omega (arith, h, k, e))

  -- the number of a text of the table is in the table
  kept_below : (a k : ℕ) (b : Bool) → k < n → number_below k (f a) < n → cond b k (number_below k (f a)) < n
  kept_below a k true l m = l
  kept_below a k false l m = m

  found_below : (a k : ℕ) (b : Bool) → k < n → b ≡ true → cond b k (number_below k (f a)) < n
  found_below a k true l e = l
  found_below a k false l e = cc

  below : (a k : ℕ) → k ≤ n → a < k → number_below k (f a) < n
  below a zero le lt = absurd (omega (arith, lt))
  below a (suc k) le lt = elim (cases_lt a k) [
    | inl m ↦ kept_below a k (bytes_eq (f k) (f a)) (omega (arith, le)) (below a k (omega (arith, le)) m)
    | inr m ↦
        let e : k ≡ a = omega (arith, m, lt) in
        found_below a k (bytes_eq (f k) (f a)) (omega (arith, le)) ((bytes_eq-Decides (f k) (f a)).1 (ap f e))
  ]

  pub number_back : (a : ℕ) → a < n → number (f a) ≡ a
  number_back a h = go (number (f a)) (is_number n (f a)) (below a n (omega arith) h)
    where
      go : (b : ℕ) → IsNumber n (f a) b → b < n → b ≡ a
      go b (inl k) l = different b a l h k.1
      go b (inr k) l = absurd (omega (arith, k, l))
