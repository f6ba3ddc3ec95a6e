-- A chain of no exchange, and a chain with one exchange more.
use Rattle.std.proofs.Common.{◌≡◌, ℕ, suc, ◌<◌, ◌≤◌, Bool, true, false, nat_lt, arith, refl, ap, sym, subst, ◌∙◌, ◌⊎◌, inl, inr}
use Rattle.spec_simplex.specs.Dictionary.{Dictionary, IsDictionary, AreEquivalent}
use Rattle.spec_simplex.specs.Rule.{Chain, IsDue, Exchanged}
use Rattle.spec_simplex.proofs.Solutions.{alike_itself}

pub no_exchange : (size : ℕ) (restricted : ℕ → Bool) (d : Dictionary) → IsDictionary size d → Chain size restricted d 0 d
no_exchange size restricted d w = record {
  stage = λ k. d;
  column = λ k. 0;
  row = λ k. 0;
  begins = refl;
  ends = refl;
  is = λ k. w;
  alike = λ k. alike_itself size d;
  due = λ k l. absurd (omega (arith, l));
  exchanged = λ k l. absurd (omega (arith, l));
}

-- what stands past a place, or what stood there
abbrev past : {A : Type 0} → Bool → A → A → A
past true new old = new
past false new old = old

past_is : (n k : ℕ) → n < k → nat_lt n k ≡ true
past_is n k h = grind arith

not_past : (n k : ℕ) → k ≤ n → nat_lt n k ≡ false
not_past n k h = grind arith

last_or_before : (n k : ℕ) → k < suc n → (k ≡ n) ⊎ (k < n)
last_or_before n k h = grind arith

module _ (size : ℕ) (restricted : ℕ → Bool) (first : Dictionary) (n : ℕ) (d e : Dictionary) (chain : Chain size restricted first n d) (c r : ℕ) (w : IsDictionary size e) (a : AreEquivalent size d e) (due : IsDue restricted d c r) (ex : Exchanged d c r e) where
  abbrev stage_after : ℕ → Dictionary
  stage_after k = past (nat_lt n k) e (chain.stage k)

  abbrev column_at : ℕ → ℕ
  column_at k = past (nat_lt k n) (chain.column k) c

  abbrev row_at : ℕ → ℕ
  row_at k = past (nat_lt k n) (chain.row k) r

  alike_to_last : AreEquivalent size first e
  alike_to_last x z =
      let p = subst (λ s. AreEquivalent size first s) chain.ends (chain.alike n) in
      (λ s. (a x z).0 ((p x z).0 s), λ s. (p x z).1 ((a x z).1 s))

  is_at : (b : Bool) (k : ℕ) → IsDictionary size (past b e (chain.stage k))
  is_at true k = w
  is_at false k = chain.is k

  alike_at : (b : Bool) (k : ℕ) → AreEquivalent size first (past b e (chain.stage k))
  alike_at true k = alike_to_last
  alike_at false k = chain.alike k

  -- the step from k, as that of the chain or as the new one
  module _ (R : Dictionary → ℕ → ℕ → Dictionary → Type 0) (old : (k : ℕ) → k < n → R (chain.stage k) (chain.column k) (chain.row k) (chain.stage (suc k))) (new : R d c r e) where
    step_at : (k : ℕ) → k < suc n → R (stage_after k) (column_at k) (row_at k) (stage_after (suc k))
    step_at k l = elim (last_or_before n k l) [ inl z ↦ at_last z | inr b ↦ before b ]
      where
        before : k < n → R (stage_after k) (column_at k) (row_at k) (stage_after (suc k))
        before b =
            let h : nat_lt n k ≡ false = not_past n k (omega arith) in
            let i : nat_lt n (suc k) ≡ false = not_past n (suc k) (omega arith) in
            let j : nat_lt k n ≡ true = past_is k n b in
            subst (λ x. R (past x e (chain.stage k)) (column_at k) (row_at k) (stage_after (suc k))) (sym h)
            (subst (λ x. R (chain.stage k) (column_at k) (row_at k) (past x e (chain.stage (suc k)))) (sym i)
            (subst (λ x. R (chain.stage k) (past x (chain.column k) c) (past x (chain.row k) r) (chain.stage (suc k))) (sym j) (old k b)))

        at_last : k ≡ n → R (stage_after k) (column_at k) (row_at k) (stage_after (suc k))
        at_last z =
            let h : nat_lt n k ≡ false = not_past n k (omega (arith, z)) in
            let i : nat_lt n (suc k) ≡ true = past_is n (suc k) (omega (arith, z)) in
            let j : nat_lt k n ≡ false = not_past k n (omega (arith, z)) in
            subst (λ x. R (past x e (chain.stage k)) (column_at k) (row_at k) (stage_after (suc k))) (sym h)
            (subst (λ x. R (chain.stage k) (column_at k) (row_at k) (past x e (chain.stage (suc k)))) (sym i)
            (subst (λ x. R (chain.stage k) (past x (chain.column k) c) (past x (chain.row k) r) e) (sym j)
            (subst (λ s. R s c r e) (sym (ap chain.stage z ∙ chain.ends)) new)))

  pub one_more : Chain size restricted first (suc n) e
  one_more = record {
    stage = stage_after;
    column = column_at;
    row = row_at;
    begins = ap (λ b. past b e (chain.stage 0)) (not_past n 0 (omega arith)) ∙ chain.begins;
    ends = ap (λ b. past b e (chain.stage (suc n))) (past_is n (suc n) (omega arith));
    is = λ k. is_at (nat_lt n k) k;
    alike = λ k. alike_at (nat_lt n k) k;
    due = step_at (λ d c r e. IsDue restricted d c r) chain.due due;
    exchanged = step_at (λ d c r e. Exchanged d c r e) chain.exchanged ex;
  }
