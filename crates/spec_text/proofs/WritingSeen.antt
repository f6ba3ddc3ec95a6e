-- Each token that is written in quotes leaves a text, so no piece is left out.
use Rattle.std.proofs.Common.{◌≡◌, suc, Bool, true, false, List, [], ◌∷◌, ◌++◌, codes, length, refl, ap, arith, pos, negsuc}
use Rattle.std.specs.Prelude.{ℤ, ◌==◌, if◌then◌else◌}
use Rattle.std.proofs.lemmas.Bool.Decides.{nat_tests}
use Rattle.spec_numbers.specs.Rational.{ℚ}
use Rattle.spec_numbers.specs.Texts.{Text}
use Rattle.spec_syntax.specs.Tokens.{Token, Variable, Numeral, Codes, Named, Functor, Minus, Open, Close, OpenList, CloseList, OpenCurly, CloseCurly, Comma, Bar, End}
use Rattle.spec_syntax.specs.Writing.{needs_quotes}
use Rattle.spec_text.specs.Pieces.{Piece}
use Rattle.spec_text.specs.declared.writing.Style.TheVariants.{Quoted}
use Rattle.spec_text.specs.Numbers.{whole_text, under_text, number_text}
use Rattle.spec_text.specs.Texts.{is_quoted, in_quotes, name_text, token_text, text_of, seen}
use Rattle.spec_text.specs.Written.{counted_name}
use Rattle.spec_text.proofs.Wholes.{IsSome, some-append, whole_some}

number_some : (q : ℚ) → IsSome (number_text q)
number_some q = by q.numerator
  where
    by : (z : ℤ) → IsSome (elim z [ pos n ↦ whole_text n ++ under_text q.below | negsuc n ↦ codes "-" ++ whole_text (suc n) ++ under_text q.below ])
    by (pos n) = some-append (whole_text n) _ (whole_some n)
    by (negsuc n) = tt

name_by : (f : Text) (b : Bool) → is_quoted f ≡ b → IsSome (if b then in_quotes 39 f else f)
unfolding needs_quotes
name_by f true e = tt
name_by [] false e = cc
name_by (b ∷ bs) false e = tt

name_some : (f : Text) → IsSome (name_text Quoted f)
unfolding name_text
name_some f = name_by f (is_quoted f) refl

token_some : (tok : Token) → IsSome (token_text Quoted counted_name tok)
token_some (Variable v) = tt
token_some (Numeral q) = number_some q
token_some (Codes bytes) = tt
token_some (Named f quoted) = name_some f
token_some (Functor f) = name_some f
token_some Minus = tt
token_some Open = tt
token_some Close = tt
token_some OpenList = tt
token_some CloseList = tt
token_some OpenCurly = tt
token_some CloseCurly = tt
token_some Comma = tt
token_some Bar = tt
token_some End = tt

not_empty : (a : Text) → IsSome a → (length a == 0) ≡ false
not_empty [] h = elim h [ ]
not_empty (b ∷ bs) h = grind (arith, nat_tests)

pub all_seen : (ps : List Piece) → seen Quoted counted_name ps ≡ ps
all_seen [] = refl
all_seen (p ∷ ps) = rw (not_empty (text_of Quoted counted_name p) (token_some p.token)) (ap (λ qs. p ∷ qs) (all_seen ps))
