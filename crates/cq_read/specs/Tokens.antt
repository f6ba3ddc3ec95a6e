-- What is known of a token before it is read.
use Rattle.std.specs.Prelude.{◌≡◌, ◌≤◌, List, ℕ, length, Some, ◌⊎◌, ⊤}
use Rattle.std.specs.Str.{IsUtf8}
use Rattle.spec_syntax.specs.declared.grammar.Kind.{Kind}
use Rattle.spec_syntax.specs.declared.grammar.Kind.TheVariants as kind
use Rattle.spec_syntax.specs.GrammarTokens as lexical
use Rattle.spec_syntax.specs.GrammarTokens.{bytes_of, IsInQuotes}
use Rattle.spec_syntax.specs.Tokens as grammar
use Rattle.spec_syntax.specs.TextTokens.{Variables, seen}

-- a token of a text that the grammar sees: its bytes are there, those of a name or a variable are UTF-8, and quotes hold a text
pub record IsToken (text : List ℕ) (t : lexical.Token) : Type 0 where
  pub forward : t.span.start ≤ t.span.end
  pub within : t.span.end ≤ length text
  pub word : (t.kind ≡ kind.Name) ⊎ (t.kind ≡ kind.Variable) → IsUtf8 (bytes_of text t.span)
  pub quotes : (t.kind ≡ kind.Quoted) ⊎ (t.kind ≡ kind.Codes) → IsInQuotes text t.span
  pub seen : (variables : Variables) → (tok : grammar.Token) × (seen text variables t ≡ Some tok)

-- a numeral, punctuation or an end
abbrev pub IsOther : Kind → Type 0
IsOther kind.Name = ⊥
IsOther kind.Quoted = ⊥
IsOther kind.Codes = ⊥
IsOther kind.Variable = ⊥
IsOther k = ⊤
