use Rattle.std.proofs.Common.{◌≡◌, ◌<◌, ◌^◌, arith, pos, to_z, of_z, ap, sym, ◌∙◌}
use Rattle.std.specs.Int.{w128}
use Rattle.std.proofs.Math.Facts.{to_z_pos}
use Rattle.std.proofs.lemmas.Int.{of_z-to_z}
use Rattle.spec_numbers.specs.Rational.{quotient, ratio}
use Rattle.cq_cert.proofs.Fractions.{lowest_not}
use Rattle.cq_cert.proofs.words.lowest.Goals as goal
use Rattle.cq_cert.proofs.words.lowest.Goals.{else-a-n-via-then-a-n+else-b-d, else-a-n-via-else-a-n}

pub returns-else-a-n : goal.returns-else-a-n
returns-else-a-n c =
    let over : to_z w128 c.args.over ≡ pos c.args.over = to_z_pos w128 c.requires.over_fits in
    let under : to_z w128 c.args.under ≡ pos c.args.under = to_z_pos w128 c.requires.under_fits in
    let over_fits : c.args.over < 2 ^ 128 = omega (arith, c.requires.over_fits) in
    let under_fits : c.args.under < 2 ^ 128 = omega (arith, c.requires.under_fits) in
    let is : c.in-Ok.q ≡ ratio (pos c.args.over) c.args.under =
    c.in-Ok.ensures.value ∙ ap (λ n. quotient n (to_z w128 c.args.under)) over ∙ ap (quotient (pos c.args.over)) under in
    lowest_not c.args.over c.args.under c.in-Ok.q is (λ p. elim c.else-a-n.branch [
      | else-a-n-via-then-a-n+else-b-d w ↦ w.if-b-d.false (ap (of_z w128) (c.parts-a.ensures.denominator ∙ p.1 ∙ sym under) ∙ of_z-to_z w128 c.args.under under_fits)
      | else-a-n-via-else-a-n w ↦ w.if-a-n.false (ap (of_z w128) (c.parts-a.ensures.numerator ∙ p.0 ∙ sym over) ∙ of_z-to_z w128 c.args.over over_fits)
    ])
