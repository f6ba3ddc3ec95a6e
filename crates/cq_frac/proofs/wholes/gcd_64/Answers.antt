use Rattle.std.proofs.Common.{◌∙◌, sym, ap₂, inl, inr, ◌*◌, ◌^◌}
use Rattle.std.specs.Int.{w64}
use Rattle.spec_numbers.proofs.Gcd.{gcd-zero, gcd_comm}
use Rattle.cq_frac.proofs.Halves.{gcd-one, gcd-halved, gcd_fits, shifted}
use Rattle.cq_frac.proofs.wholes.gcd_64.Goals as goal

pub returns-then-a-eq1 : goal.returns-then-a-eq1
returns-then-a-eq1 c = gcd-one _ _ (elim c.then-a-eq1.either [ inl e ↦ inl e | inr e ↦ inr e.1 ])

pub returns-then-a-eq0 : goal.returns-then-a-eq0
returns-then-a-eq0 c = sym (gcd_comm _ _ ∙ gcd-zero _ _ c.if-a-eq0.true)

pub returns-then-b-eq0 : goal.returns-then-b-eq0
returns-then-b-eq0 c = sym (gcd-zero _ _ c.if-b-eq0.true)

pub returns : goal.returns
returns c =
    shifted w64 c.odd_gcd_64.result c.min-twos.result _
    (ap₂ (λ x k. x * 2 ^ k) c.odd_gcd_64.ensures c.min-twos.ensures
    ∙ sym (gcd-halved c.args.a c.args.b c.odd_part_64.result c.odd_part_64-2.result _ _ c.odd_part_64.ensures.rest c.odd_part_64-2.ensures.rest c.odd_part_64.ensures.odd c.odd_part_64-2.ensures.odd))
    (gcd_fits _ _ _ c.if-a-eq0.false c.ranges.a.fits)
