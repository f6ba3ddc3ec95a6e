-- One more constraint in front of others.
use Rattle.std.proofs.Common.{◌≡◌, ◌∙◌, ◌-◌, ◌≤◌, ℕ, suc, codes, sym, ap, arith}
use Rattle.spec_syntax.specs.Trees.{Tree, binary}
use Rattle.spec_command.specs.Query.{before, lower, lowers, upper, uppers}

module _ (n m end : ℕ) (next : m ≡ suc n) (within : m ≤ end) (rest : Tree) where
  count : end - n ≡ suc (end - m)
  count = omega (arith, next, within)

  pub uppers_more : binary (codes ",") (upper n) (before (uppers m (end - m)) rest) ≡ before (uppers n (end - n)) rest
  uppers_more = (λ j. binary (codes ",") (upper n) (before (uppers (next j) (end - m)) rest)) ∙ sym (ap (λ c. before (uppers n c) rest) count)

  pub lowers_more : binary (codes ",") (lower n) (before (lowers m (end - m)) rest) ≡ before (lowers n (end - n)) rest
  lowers_more = (λ j. binary (codes ",") (lower n) (before (lowers (next j) (end - m)) rest)) ∙ sym (ap (λ c. before (lowers n c) rest) count)
