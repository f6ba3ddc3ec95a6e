-- Numbers that texts are.
use Rattle.std.proofs.Common.{◌≡◌, ◌<◌, ◌≤◌, ◌^◌, ℕ, Bool, true, false, Some, None, refl, sym, ap, ◌∙◌, subst, if◌then◌else◌}
use Rattle.std.specs.Str.Parse.{IsNumeral, digits_value, without_leading_plus}
use Rattle.clap.specs.ValueTests.{is_unsigned_in}
use Rattle.clap.specs.Values.{IsUnsignedIn}
use Rattle.clap.specs.declared.builder.value_parser.ValueParser.TheVariants as parser
use Rattle.clap.proofs.ValueTestLemmas.{Accepts-accepts, accepts-Accepts}
use Rattle.spec_numbers.specs.Texts.{Text}
use Rattle.cq_words.specs.Language.{number_to}

module _ (most : ℕ) (text : Text) where
  abbrev value : ℕ
  value = digits_value 10 (without_leading_plus text)

  is_in : IsUnsignedIn 1 most text → Some value ≡ number_to most text
  is_in h = ap (λ b. if b then Some value else None) (sym (Accepts-accepts false (parser.Unsigned 1 most) text h))

  is_out : (IsUnsignedIn 1 most text → ⊥) → None ≡ number_to most text
  is_out h = go (is_unsigned_in 1 most text) refl
    where
      go : (b : Bool) → is_unsigned_in 1 most text ≡ b → None ≡ number_to most text
      go true e = absurd (h (accepts-Accepts false (parser.Unsigned 1 most) text e))
      go false e = ap (λ b. if b then Some value else None) (sym e)

  abbrev IsRead : Type 0
  IsRead = IsNumeral 10 (without_leading_plus text) × (value < 2 ^ 64)

  pub in_range : (n : ℕ) → IsRead × (n ≡ value) → 1 ≤ n → n ≤ most → Some n ≡ number_to most text
  in_range n h low high = ap (λ x. Some x) h.1 ∙ is_in (h.0.0, h.0.1, subst (λ x. 1 ≤ x) h.1 low, subst (λ x. x ≤ most) h.1 high)

  pub no_number : (IsRead → ⊥) → None ≡ number_to most text
  no_number h = is_out (λ k. h (k.0, k.1))
