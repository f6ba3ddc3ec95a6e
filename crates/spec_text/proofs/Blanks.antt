-- A blank before a token is layout.
use Rattle.std.proofs.Common.{◌≡◌, ℕ, zero, suc, ◌+◌, List, [], ◌∷◌, ◌++◌, drop, length, Ok, refl, arith}
use Rattle.spec_syntax.specs.declared.grammar.Gap.TheVariants.{Between}
use Rattle.spec_syntax.specs.Gaps.{gap}
use Rattle.spec_syntax.specs.GrammarTokens.{token_at, next_token}

pub drop-before : (before more : List ℕ) → drop (length before) (before ++ more) ≡ more
drop-before [] more = refl
drop-before (b ∷ before) more = drop-before before more

pub drop-next : (before more : List ℕ) (b : ℕ) → drop (length before + 1) (before ++ b ∷ more) ≡ more
drop-next before more b = go before _ refl
  where
    go : (before : List ℕ) (n : ℕ) → n ≡ length before + 1 → drop n (before ++ b ∷ more) ≡ more
    go before zero e = absurd (omega arith)
    go [] (suc n) e = let z : n ≡ 0 = omega arith in rw z refl
    go (a ∷ before) (suc n) e = go before n (omega arith)

-- the token that stands there, where no layout and no comment does
pub found_there : (before more : List ℕ) → gap Between more (length before) ≡ Ok (length before) → next_token (before ++ more) (length before) ≡ token_at more (length before)
found_there before more no_gap = rw (drop-before before more, no_gap, drop-before before more) refl

-- the token behind a blank
pub found_behind : (before more : List ℕ) → gap Between more (length before + 1) ≡ Ok (length before + 1) →
    next_token (before ++ 32 ∷ more) (length before) ≡ token_at more (length before + 1)
found_behind before more no_gap = rw (drop-before before (32 ∷ more), no_gap, drop-next before more 32) refl
