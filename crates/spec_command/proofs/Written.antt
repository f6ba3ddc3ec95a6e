-- A natural number is written as its digits.
use Rattle.std.proofs.Common.{◌≡◌, ◌∙◌, ℕ, Bool, true, [], ◌∷◌, pos, length, ap, append-nil, arith, ne_eqb}
use Rattle.std.specs.Prelude.{◌&&◌, if◌then◌else◌}
use Rattle.spec_numbers.specs.Texts.{Text}
use Rattle.spec_numbers.specs.Rational.{ℚ}
use Rattle.spec_terms.proofs.Rounded.{int_ℚ-is, whole_number}
use Rattle.spec_syntax.specs.Operators.{Ops}
use Rattle.spec_terms.specs.Term.{Number}
use Rattle.spec_syntax.specs.Tokens.{Numeral}
use Rattle.spec_syntax.specs.Trees.{natural}
use Rattle.spec_text.specs.Numbers.{number_text, whole_text, under_text}
use Rattle.spec_text.specs.Pieces.{piece, pieces_at}
use Rattle.spec_text.specs.Texts.{joined, seen}
use Rattle.spec_text.specs.Written.{shown, writeq}
use Rattle.spec_text.specs.declared.writing.Style.TheVariants.{Quoted}
use Rattle.spec_text.proofs.Wholes.{IsSome, some-append, whole_some}

not_empty : (t : Text) → IsSome t → length t ≡ 0 → ⊥
not_empty [] h e = h
not_empty (c ∷ t) h e = omega (arith, e)

-- a numeral by itself
alone : (name : ℕ → Text) (q : ℚ) → IsSome (number_text q) → joined Quoted name (seen Quoted name (piece (Numeral q) ∷ [])) ≡ number_text q
alone name q h =
    ap (λ (b : Bool). joined Quoted name (if b && true then [] else piece (Numeral q) ∷ [])) (ne_eqb (length (number_text q)) 0 (not_empty (number_text q) h))
    ∙ append-nil (number_text q)

written : (ops : Ops) (n : ℕ) → writeq ops (Number (whole_number (pos n))) ≡ number_text (whole_number (pos n))
unfolding pieces_at
written ops n = alone (shown [] []) (whole_number (pos n)) (some-append (whole_text n) (under_text 0) (whole_some n))

-- as by writeq, under any operators
pub whole_written : (ops : Ops) (n : ℕ) → writeq ops (natural n) ≡ whole_text n
whole_written ops n =
    ap (λ (q : ℚ). writeq ops (Number q)) (int_ℚ-is (pos n))
    ∙ written ops n
    ∙ append-nil (whole_text n)
