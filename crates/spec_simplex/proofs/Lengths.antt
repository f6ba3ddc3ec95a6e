-- A chain of exchanges is shorter than the number of sets of quantities.
use Rattle.std.proofs.Common.{◌≡◌, ℕ, zero, suc, ◌+◌, ◌-◌, ◌*◌, ◌^◌, ◌<◌, ◌≤◌, Bool, true, false, arith, refl, ap, sym, subst, ◌∙◌, ◌⊎◌, inl, inr}
use Rattle.spec_simplex.specs.Dictionary.{Dictionary, Satisfies, IsFeasible}
use Rattle.spec_simplex.specs.Rule.{Chain}
use Rattle.spec_simplex.proofs.Sums.{equal_or_not}
use Rattle.spec_simplex.proofs.Solutions.{Writes, writes}
use Rattle.spec_simplex.proofs.Exchanges.{feasible_after}
use Rattle.spec_simplex.proofs.Cycles.{Step, no_cycle}

-- ---- pigeons
record Clash (f : ℕ → ℕ) (n : ℕ) : Type 0 where
  i : ℕ
  j : ℕ
  below : i < j
  within : j < n
  same : f i ≡ f j

-- some k below n has f k ≡ y, or none has
record Found (f : ℕ → ℕ) (y n : ℕ) : Type 0 where
  at : ℕ
  within : at < n
  is : f at ≡ y

look : (f : ℕ → ℕ) (y n : ℕ) → Found f y n ⊎ ((k : ℕ) → k < n → f k ≡ y → ⊥)
look f y zero = inr (λ (k : ℕ) h e. omega arith)
look f y (suc n) = go (equal_or_not (f n) y) (look f y n)
  where
    last : (f n ≡ y → ⊥) → ((k : ℕ) → k < n → f k ≡ y → ⊥) → (k : ℕ) → k < suc n → f k ≡ y → ⊥
    last h g k l e = elim (equal_or_not k n) [ inl z ↦ h (ap f (sym z) ∙ e) | inr z ↦ g k (omega (arith, z, l)) e ]

    go : (f n ≡ y) ⊎ (f n ≡ y → ⊥) → Found f y n ⊎ ((k : ℕ) → k < n → f k ≡ y → ⊥) → Found f y (suc n) ⊎ ((k : ℕ) → k < suc n → f k ≡ y → ⊥)
    go (inl e) r = inl (record { at = n; within = omega arith; is = e })
    go (inr h) (inl r) = inl (record { at = r.at; within = omega (arith, r.within); is = r.is })
    go (inr h) (inr g) = inr (last h g)

-- numbers below m + 1 without y, as numbers below m
open_lt : (y x : ℕ) → (y < x) ⊎ (x ≤ y)
open_lt y x = grind arith

module _ (y : ℕ) where
  abbrev smaller_by : (x : ℕ) → (y < x) ⊎ (x ≤ y) → ℕ
  smaller_by x (inl h) = x - 1
  smaller_by x (inr h) = x

smaller : ℕ → ℕ → ℕ
smaller y x = smaller_by y x (open_lt y x)

smaller_below : (y x m : ℕ) → y < suc m → x < suc m → (x ≡ y → ⊥) → smaller y x < m
unfolding smaller
smaller_below y x m h l n = go (open_lt y x)
  where
    go : (o : (y < x) ⊎ (x ≤ y)) → smaller_by y x o < m
    go (inl g) = omega (arith, g, l)
    go (inr g) = omega (arith, g, h, n)

smaller_apart : (y x z : ℕ) → (x ≡ y → ⊥) → (z ≡ y → ⊥) → smaller y x ≡ smaller y z → x ≡ z
unfolding smaller
smaller_apart y x z n k = go (open_lt y x) (open_lt y z)
  where
    go : (o : (y < x) ⊎ (x ≤ y)) (p : (y < z) ⊎ (z ≤ y)) → smaller_by y x o ≡ smaller_by y z p → x ≡ z
    go (inl g) (inl h) e = omega (arith, g, h, e)
    go (inl g) (inr h) e = omega (arith, g, h, e, k, n)
    go (inr g) (inl h) e = omega (arith, g, h, e, k, n)
    go (inr g) (inr h) e = e

pigeons : (m n : ℕ) (f : ℕ → ℕ) → m < n → ((k : ℕ) → k < n → f k < m) → Clash f n
pigeons zero n f h b = absurd (omega (arith, b 0 h))
pigeons (suc m) zero f h b = absurd (omega arith)
pigeons (suc m) (suc n) f h b = go (look f (f n) n) (λ g. pigeons m n (λ k. smaller (f n) (f k)) (omega arith) (λ (k : ℕ) l. smaller_below (f n) (f k) m (b n (omega arith)) (b k (omega arith)) (λ e. g k l e)))
  where
    go : Found f (f n) n ⊎ ((k : ℕ) → k < n → f k ≡ f n → ⊥) → (((k : ℕ) → k < n → f k ≡ f n → ⊥) → Clash (λ k. smaller (f n) (f k)) n) → Clash f (suc n)
    go (inl r) rec = record { i = r.at; j = n; below = r.within; within = omega arith; same = r.is }
    go (inr g) rec =
        let c = rec g in
        record { i = c.i; j = c.j; below = c.below; within = omega (arith, c.within); same = smaller_apart (f n) (f c.i) (f c.j) (λ e. g c.i (omega (arith, c.below, c.within)) e) (λ e. g c.j c.within e) c.same }

-- ---- a set of numbers as one number
abbrev bit : Bool → ℕ
bit true = 1
bit false = 0

abbrev code : ℕ → (ℕ → Bool) → ℕ
code zero f = 0
code (suc n) f = bit (f n) + 2 * code n f

bit_small : (b : Bool) → bit b ≤ 1
bit_small true = omega arith
bit_small false = omega arith

code_below : (n : ℕ) (f : ℕ → Bool) → code n f < 2 ^ n
code_below zero f = omega arith
code_below (suc n) f = omega (arith, code_below n f, bit_small (f n))

bits_same : (b d : Bool) (x y : ℕ) → bit b + 2 * x ≡ bit d + 2 * y → (b ≡ d) × (x ≡ y)
bits_same true true x y e = (refl, omega (arith, e))
bits_same true false x y e = absurd (omega (arith, e))
bits_same false true x y e = absurd (omega (arith, e))
bits_same false false x y e = (refl, omega (arith, e))

code_tells : (n : ℕ) (f g : ℕ → Bool) → code n f ≡ code n g → (q : ℕ) → q < n → f q ≡ g q
code_tells zero f g e q l = absurd (omega arith)
code_tells (suc n) f g e q l =
    let r = bits_same (f n) (g n) (code n f) (code n g) e in
    elim (equal_or_not q n) [ inl z ↦ ap f z ∙ r.0 ∙ ap g (sym z) | inr z ↦ code_tells n f g r.1 q (omega (arith, z, l)) ]

-- ---- chains
module _ (size : ℕ) (restricted : ℕ → Bool) (first : Dictionary) (n : ℕ) (last : Dictionary) (f : IsFeasible restricted first) (chain : Chain size restricted first n last) where
  stage_writes : (k : ℕ) → Writes size (Satisfies size first) (chain.stage k)
  stage_writes k = writes size first (chain.stage k) (chain.is k) (chain.alike k)

  pub stage_feasible : (k : ℕ) → k ≤ n → IsFeasible restricted (chain.stage k)
  stage_feasible zero h = subst (IsFeasible restricted) (sym chain.begins) f
  stage_feasible (suc k) h =
      let l : k < n = omega arith in
      feasible_after size (Satisfies size first) restricted (chain.stage k) (chain.stage (suc k)) (chain.column k) (chain.row k) (stage_writes k) (stage_writes (suc k)) (stage_feasible k (omega arith)) (chain.due k l) (chain.exchanged k l)

  step : (k : ℕ) → k < n → Step restricted (chain.stage k) (chain.stage (suc k)) (chain.column k) (chain.row k)
  step k l = record { feasible = stage_feasible k (omega arith); due = chain.due k l; exchanged = chain.exchanged k l }

  pub no_return : (j k : ℕ) → j < k → k ≤ n → ((q : ℕ) → (chain.stage k).is_row q ≡ (chain.stage j).is_row q) → ⊥
  no_return j k l h same =
      no_cycle size restricted (Satisfies size first) (λ i. chain.stage (j + i)) (λ i. chain.column (j + i)) (λ i. chain.row (j + i)) (λ i. stage_writes (j + i)) (k - j - 1)
      (λ (i : ℕ) b. let e : suc (j + i) ≡ j + suc i = omega arith in
      subst (λ z. Step restricted (chain.stage (j + i)) (chain.stage z) (chain.column (j + i)) (chain.row (j + i))) e (step (j + i) (omega (arith, b, h, l))))
      (λ q. ap (λ z. (chain.stage z).is_row q) there ∙ same q ∙ ap (λ z. (chain.stage z).is_row q) (sym here))
    where
      there : j + suc (k - j - 1) ≡ k
      there = omega (arith, l)

      here : j + 0 ≡ j
      here = omega arith

  far_or_near : (q : ℕ) → (q < size) ⊎ (size ≤ q)
  far_or_near q = grind arith

  no_row_far : (k q : ℕ) → size ≤ q → (chain.stage k).is_row q ≡ false
  no_row_far k q h = go ((chain.stage k).is_row q) refl
    where
      go : (b : Bool) → (chain.stage k).is_row q ≡ b → (chain.stage k).is_row q ≡ false
      go false e = e
      go true e = absurd (omega (arith, h, (chain.is k).rows_below q e))

  no_clash : Clash (λ k. code size (chain.stage k).is_row) (suc n) → ⊥
  no_clash c = no_return c.i c.j c.below (omega (arith, c.within)) (λ q. at q (far_or_near q))
    where
      at : (q : ℕ) → (q < size) ⊎ (size ≤ q) → (chain.stage c.j).is_row q ≡ (chain.stage c.i).is_row q
      at q (inl l) = sym (code_tells size (chain.stage c.i).is_row (chain.stage c.j).is_row c.same q l)
      at q (inr l) = no_row_far c.j q l ∙ sym (no_row_far c.i q l)

  pub chain_short : n < 2 ^ size
  chain_short = go (shorter n (2 ^ size))
    where
      shorter : (a b : ℕ) → (a < b) ⊎ (b ≤ a)
      shorter a b = grind arith

      go : (n < 2 ^ size) ⊎ (2 ^ size ≤ n) → n < 2 ^ size
      go (inl h) = h
      go (inr h) = absurd (no_clash (pigeons (2 ^ size) (suc n) (λ k. code size (chain.stage k).is_row) (omega arith) (λ (k : ℕ) l. code_below size (chain.stage k).is_row)))
