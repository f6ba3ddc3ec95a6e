use Rattle.std.proofs.Common.{◌≡◌, ◌∙◌, ap, ◌++◌, rules}
use Rattle.std.specs.Fmt.{signed_decimal}
use Rattle.spec_text.proofs.Decimals.{writes_integer, writes_quotient}
use Rattle.cq_answer.proofs.printing.numbers.push_number.Goals as goal

pub returns-in_ok-extend_from_slice-3 : goal.returns-in_ok-extend_from_slice-3
returns-in_ok-extend_from_slice-3 c =
    let old = c.args.out.now.items in
    let parts = c.parts-numerator.ensures in
    let top : c.format.result.now ≡ signed_decimal c.parts-numerator.result.0 = search rules in
    let bottom : c.format-then-denominator-ne1.result.now ≡ signed_decimal c.parts-numerator.result.1 = search rules in
    writes_quotient c.args.number c.parts-numerator.result.0 c.parts-numerator.result.1 old c.extend_from_slice.new.self.items c.extend_from_slice-then-denominator-ne1.new.self.items c.extend_from_slice-then-denominator-ne1-2.new.self.items
    parts.fits.num_fits parts.fits.den_fits parts.numerator parts.denominator c.if-denominator-ne1.true
    (c.in_ok-extend_from_slice.ensures.items ∙ ap (λ t. old ++ t) (c.as_bytes.ensures.value ∙ top))
    c.in_ok-extend_from_slice-2.ensures.items
    (c.in_ok-extend_from_slice-3.ensures.items ∙ ap (λ t. c.extend_from_slice-then-denominator-ne1.new.self.items ++ t) (c.as_bytes-then-denominator-ne1.ensures.value ∙ bottom))

pub returns-else-denominator-ne1 : goal.returns-else-denominator-ne1
returns-else-denominator-ne1 c =
    let old = c.args.out.now.items in
    let parts = c.parts-numerator.ensures in
    let top : c.format.result.now ≡ signed_decimal c.parts-numerator.result.0 = search rules in
    writes_integer c.args.number c.parts-numerator.result.0 c.parts-numerator.result.1 old c.extend_from_slice.new.self.items
    parts.fits.num_fits parts.numerator parts.denominator c.if-denominator-ne1.false
    (c.in_ok-extend_from_slice.ensures.items ∙ ap (λ t. old ++ t) (c.as_bytes.ensures.value ∙ top))
