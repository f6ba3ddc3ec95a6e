use Rattle.std.proofs.Common.{◌≡◌, ◌∙◌, ap, ◌++◌, rules, string_bytes}
use Rattle.std.specs.Fmt.{signed_decimal}
use Rattle.spec_text.proofs.Decimals.{writes_integer, writes_quotient}
use Rattle.cq_write.proofs.numbers.push_number.Goals as goal

pub returns-in_ok-push_str-3 : goal.returns-in_ok-push_str-3
returns-in_ok-push_str-3 c =
    let old = string_bytes c.args.out.now in
    let parts = c.parts-numerator.ensures in
    let top : c.format.result.now ≡ signed_decimal c.parts-numerator.result.0 = search rules in
    let bottom : c.format-then-denominator-ne1.result.now ≡ signed_decimal c.parts-numerator.result.1 = search rules in
    writes_quotient c.args.number c.parts-numerator.result.0 c.parts-numerator.result.1 old (string_bytes c.push_str.new.self) (string_bytes c.push_str-then-denominator-ne1.new.self) (string_bytes c.push_str-then-denominator-ne1-2.new.self)
    parts.fits.num_fits parts.fits.den_fits parts.numerator parts.denominator c.if-denominator-ne1.true
    (c.in_ok-push_str.ensures.bytes ∙ ap (λ t. old ++ t) top)
    c.in_ok-push_str-2.ensures.bytes
    (c.in_ok-push_str-3.ensures.bytes ∙ ap (λ t. string_bytes c.push_str-then-denominator-ne1.new.self ++ t) bottom)

pub returns-else-denominator-ne1 : goal.returns-else-denominator-ne1
returns-else-denominator-ne1 c =
    let old = string_bytes c.args.out.now in
    let parts = c.parts-numerator.ensures in
    let top : c.format.result.now ≡ signed_decimal c.parts-numerator.result.0 = search rules in
    writes_integer c.args.number c.parts-numerator.result.0 c.parts-numerator.result.1 old (string_bytes c.push_str.new.self)
    parts.fits.num_fits parts.numerator parts.denominator c.if-denominator-ne1.false
    (c.in_ok-push_str.ensures.bytes ∙ ap (λ t. old ++ t) top)
