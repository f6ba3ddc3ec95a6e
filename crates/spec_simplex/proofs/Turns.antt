-- A chain of exchanges with restricted columns alone, and that it doesn't come back to earlier rows.
use Rattle.std.proofs.Common.{◌≡◌, ℕ, zero, suc, ◌<◌, ◌≤◌, min, Bool, true, false, arith, ap, sym, subst, ◌∙◌}
use Rattle.spec_numbers.specs.Rational.{IsNotNegative}
use Rattle.spec_simplex.specs.Dictionary.{Dictionary, IsDictionary}
use Rattle.spec_simplex.specs.Rule.{Chain, IsDue, Exchanged}
use Rattle.spec_simplex.proofs.Solutions.{true_not_false}
use Rattle.spec_simplex.proofs.Lengths.{no_return}
use Rattle.spec_simplex.proofs.Masks.{masked, masked_dictionary, masked_feasible, masked_due, masked_alike}

masked_exchanged : (restricted : ℕ → Bool) (d e : Dictionary) (c r : ℕ) → Exchanged d c r e → Exchanged (masked restricted d) c r (masked restricted e)
masked_exchanged restricted d e c r x = record { row = x.row; column = x.column; other_rows = x.other_rows; other_columns = x.other_columns }

module _ (size : ℕ) (restricted : ℕ → Bool) (first : Dictionary) (n : ℕ) (last : Dictionary) (chain : Chain size restricted first n last) where
  flags_apart : (p q : ℕ) → restricted p ≡ true → restricted q ≡ false → q ≡ p → ⊥
  flags_apart p q h k e = true_not_false (restricted p) h (sym (ap restricted e) ∙ k)

  -- a quantity that is not restricted stays a row, or none
  pub rows_stay : (k : ℕ) → k ≤ n → (q : ℕ) → restricted q ≡ false → (chain.stage k).is_row q ≡ first.is_row q
  rows_stay zero h q f = ap (λ (d : Dictionary). d.is_row q) chain.begins
  rows_stay (suc k) h q f =
      let l : k < n = omega arith in
      let due = chain.due k l in
      (chain.exchanged k l).other_rows q (flags_apart (chain.column k) q due.enters.raises.flag f) (flags_apart (chain.row k) q due.leaves.limits.flag f)
      ∙ rows_stay k (omega arith) q f

  columns_stay : (k : ℕ) → k ≤ n → (q : ℕ) → restricted q ≡ false → (chain.stage k).is_column q ≡ first.is_column q
  columns_stay zero h q f = ap (λ (d : Dictionary). d.is_column q) chain.begins
  columns_stay (suc k) h q f =
      let l : k < n = omega arith in
      let due = chain.due k l in
      (chain.exchanged k l).other_columns q (flags_apart (chain.column k) q due.enters.raises.flag f) (flags_apart (chain.row k) q due.leaves.limits.flag f)
      ∙ columns_stay k (omega arith) q f

  -- stages past the last are the last
  within : (k : ℕ) → k ≤ n → min k n ≡ k
  within k h = omega arith

  capped : (k : ℕ) → min k n ≤ n
  capped k = omega arith

  first_is : IsDictionary size first
  first_is = subst (IsDictionary size) chain.begins (chain.is 0)

  masked_chain : Chain size restricted (masked restricted first) n (masked restricted (chain.stage n))
  masked_chain = record {
    stage = λ k. masked restricted (chain.stage (min k n));
    column = chain.column;
    row = chain.row;
    begins = ap (masked restricted) (ap chain.stage (within 0 (omega arith)) ∙ chain.begins);
    ends = ap (λ k. masked restricted (chain.stage k)) (within n (omega arith));
    is = λ k. masked_dictionary restricted size (chain.stage (min k n)) (chain.is (min k n));
    alike = λ k. masked_alike restricted size first (chain.stage (min k n)) first_is (chain.is (min k n)) (chain.alike (min k n)) (λ c f. sym (columns_stay (min k n) (capped k) c f));
    due = λ k l. subst (λ i. IsDue restricted (masked restricted (chain.stage i)) (chain.column k) (chain.row k)) (sym (within k (omega (arith, l))))
        (masked_due restricted (chain.stage k) (chain.column k) (chain.row k) (chain.due k l));
    exchanged = λ k l.
        subst (λ i. Exchanged (masked restricted (chain.stage i)) (chain.column k) (chain.row k) (masked restricted (chain.stage (min (suc k) n)))) (sym (within k (omega (arith, l))))
        (subst (λ i. Exchanged (masked restricted (chain.stage k)) (chain.column k) (chain.row k) (masked restricted (chain.stage i))) (sym (within (suc k) (omega (arith, l))))
        (masked_exchanged restricted (chain.stage k) (chain.stage (suc k)) (chain.column k) (chain.row k) (chain.exchanged k l)));
  }

  module _ (constants : (q : ℕ) → first.is_row q ≡ true → restricted q ≡ true → IsNotNegative (first.constant q)) where
    pub no_rows_again : (j k : ℕ) → j < k → k ≤ n → ((q : ℕ) → (chain.stage k).is_row q ≡ (chain.stage j).is_row q) → ⊥
    unfolding masked_chain
    no_rows_again j k l h same =
        no_return size restricted (masked restricted first) n (masked restricted (chain.stage n)) (masked_feasible restricted first constants) masked_chain j k l h
        (λ q. ap (λ i. (chain.stage i).is_row q) (within k h) ∙ same q ∙ ap (λ i. (chain.stage i).is_row q) (sym (within j (omega (arith, l, h)))))
