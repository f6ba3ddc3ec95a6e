use Rattle.std.proofs.Common.{◌∙◌, sym, ap₂, arith, ◌*◌, ◌^◌}
use Rattle.std.specs.Int.{w128}
use Rattle.spec_numbers.proofs.Gcd.{gcd-zero}
use Rattle.cq_frac.proofs.Halves.{gcd-halved, gcd_fits, shifted}
use Rattle.cq_frac.proofs.wholes.halved_gcd.Goals as goal

pub returns-then-b-eq0 : goal.returns-then-b-eq0
returns-then-b-eq0 c = sym (gcd-zero _ _ c.if-b-eq0.true)

pub returns : goal.returns
returns c =
    shifted w128 c.odd_gcd.result c.min-twos.result _
    (ap₂ (λ x k. x * 2 ^ k) c.odd_gcd.ensures c.min-twos.ensures
    ∙ sym (gcd-halved c.args.a c.args.b c.odd_part.result c.odd_part-2.result _ _ c.odd_part.ensures.rest c.odd_part-2.ensures.rest c.odd_part.ensures.odd c.odd_part-2.ensures.odd))
    (gcd_fits _ _ _ (λ e. let p = c.requires in omega (arith, e)) c.ranges.a.fits)
