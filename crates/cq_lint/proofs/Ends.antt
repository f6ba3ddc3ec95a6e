-- Kinds of tokens.
use Rattle.std.proofs.Common.{◌≡◌, ◌≢◌, true, false, refl}
use Rattle.spec_syntax.specs.declared.grammar.Kind.{Kind}
use Rattle.spec_syntax.specs.declared.grammar.Kind.TheVariants as kind
use Rattle.cq_lint.specs.Variables.{is_end}

-- a token that is told to be the text's end is of that kind
pub ends_text : (k : Kind) → is_end k ≡ true → k ≡ kind.Eof
ends_text kind.Eof e = refl
ends_text kind.Name e = cc
ends_text kind.Quoted e = cc
ends_text kind.Codes e = cc
ends_text kind.Variable e = cc
ends_text kind.Numeral e = cc
ends_text kind.Punctuation e = cc
ends_text kind.End e = cc

-- any other token is of another kind
pub goes_further : (k : Kind) → is_end k ≡ false → k ≢ kind.Eof
goes_further kind.Eof e = cc
goes_further kind.Name e = λ h. cc
goes_further kind.Quoted e = λ h. cc
goes_further kind.Codes e = λ h. cc
goes_further kind.Variable e = λ h. cc
goes_further kind.Numeral e = λ h. cc
goes_further kind.Punctuation e = λ h. cc
goes_further kind.End e = λ h. cc
