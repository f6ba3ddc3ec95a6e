-- What the machine does behind a bracket at any other token than the one that closes it.
use Rattle.std.proofs.Common.{◌≡◌, ℕ, List, [], ◌∷◌, refl}
use Rattle.spec_syntax.specs.Operators.{Ops}
use Rattle.spec_syntax.specs.Machine.{Frame, InElements, InCurly, before_term, after_open_list, after_open_curly}
use Rattle.spec_numbers.specs.Texts.{Text}
use Rattle.cq_read.specs.declared.parse.tokens.Token.{Token}
use Rattle.cq_read.specs.declared.parse.tokens.Token.TheVariants as token
use Rattle.cq_read.specs.Views.{token_of}

module _ (ops : Ops) (texts : List Text) (m : ℕ) (k : List Frame) where
  pub list_begins : (t : Token) → (t ≡ token.CloseList → ⊥) → before_term ops 999 (InElements [] m ∷ k) (token_of texts t) ≡ after_open_list ops m k (token_of texts t)
  list_begins token.CloseList n = absurd (n refl)
  list_begins t n = refl

  pub curly_begins : (t : Token) → (t ≡ token.CloseCurly → ⊥) → before_term ops 1200 (InCurly m ∷ k) (token_of texts t) ≡ after_open_curly ops m k (token_of texts t)
  curly_begins token.CloseCurly n = absurd (n refl)
  curly_begins t n = refl
