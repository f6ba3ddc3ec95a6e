use Rattle.std.proofs.Common.{◌∙◌, sym, ap, inl, inr}
use Rattle.spec_numbers.specs.Gcd.{gcd as gcd_of}
use Rattle.spec_numbers.proofs.Gcd.{gcd-zero, gcd_comm, gcd-mod}
use Rattle.cq_frac.proofs.Halves.{gcd-one}
use Rattle.cq_frac.proofs.wholes.gcd.Goals as goal

pub returns-then-a-eq1 : goal.returns-then-a-eq1
returns-then-a-eq1 c = gcd-one _ _ (elim c.then-a-eq1.either [ inl e ↦ inl e | inr e ↦ inr e.1 ])

pub returns-then-a-eq0 : goal.returns-then-a-eq0
returns-then-a-eq0 c = sym (gcd_comm _ _ ∙ gcd-zero _ _ c.if-a-eq0.true)

pub returns-then-b-eq0 : goal.returns-then-b-eq0
returns-then-b-eq0 c = sym (gcd-zero _ _ c.if-b-eq0.true)

pub returns-then-a-b : goal.returns-then-a-b
returns-then-a-b c = c.halved_gcd.ensures ∙ ap (gcd_of c.args.b) c.rest.ensures ∙ sym (gcd-mod c.args.a c.args.b)

pub returns-then-b-a : goal.returns-then-b-a
returns-then-b-a c = c.halved_gcd-then-b-a.ensures ∙ ap (gcd_of c.args.a) c.rest-then-b-a.ensures ∙ sym (gcd-mod c.args.b c.args.a) ∙ gcd_comm c.args.b c.args.a
