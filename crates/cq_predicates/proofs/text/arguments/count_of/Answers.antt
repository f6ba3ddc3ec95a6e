use Rattle.std.proofs.Common.{◌≡◌, ◌∙◌, suc, arith, sym, subst, ap, of_z}
use mir.Syntax.{w64, w128}
use Rattle.std.specs.Int.{FitsUnsigned}
use Rattle.cq_predicates.proofs.Asked.{asks_never, asks_count, uncast, not_negative, fits_word}
use Rattle.cq_predicates.proofs.text.arguments.count_of.Goals as goal

pub returns-then-denominator-ne1 : goal.returns-then-denominator-ne1
returns-then-denominator-ne1 c = asks_never c.args.number (λ k lt top bottom. c.if-denominator-ne1.true (ap (of_z w128) c.parts-numerator.ensures.denominator ∙ (let one : suc c.args.number.below ≡ 1 = omega (arith, bottom) in one)))

pub returns-in-Ok : goal.returns-in-Ok
returns-in-Ok c =
    let one : suc c.args.number.below ≡ 1 = sym (ap (of_z w128) c.parts-numerator.ensures.denominator) ∙ c.if-denominator-ne1.false in
    let same = uncast c.parts-numerator.result.0 c.args.number.numerator c.parts-numerator.ensures.numerator c.parts-numerator.ensures.fits.num_fits in
    let h = c.in-Ok.ensures in
    asks_count c.args.number c.in-Ok.count (sym same ∙ not_negative _ c.in-Ok.count h.0.0 h.1) (omega (arith, one))

pub returns-in-Err : goal.returns-in-Err
returns-in-Err c = asks_never c.args.number (λ k lt top bottom.
    (let same = uncast c.parts-numerator.result.0 c.args.number.numerator c.parts-numerator.ensures.numerator c.parts-numerator.ensures.fits.num_fits in
    c.in-Err.ensures (subst (FitsUnsigned w64) (sym (same ∙ top)) (fits_word k lt))))
