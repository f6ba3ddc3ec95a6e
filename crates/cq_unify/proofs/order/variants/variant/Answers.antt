use Rattle.std.proofs.Common.{ap, sym, ◌∙◌, refl, eqb-true}
use Rattle.cq_term.specs.Meaning.{at}
use Rattle.cq_unify.proofs.Matches.{itself_variant, unlike_variants, variables_variant}
use Rattle.cq_unify.proofs.order.variants.variant.Goals as goal

pub returns-then-eq : goal.returns-then-eq
returns-then-eq c =
    let ts = c.args.heap.now.now.terms in
    (λ h. itself_variant (at ts c.args.a) (at ts c.args.b) (ap (at ts) (eqb-true c.args.a c.args.b (sym c.eq.ensures ∙ c.if-eq.true))), λ h. refl)

pub returns-in-Same : goal.returns-in-Same
returns-in-Same c = (λ h. itself_variant (at c.args.heap.now.now.terms c.args.a) (at c.args.heap.now.now.terms c.args.b) c.in-Same.ensures.1, λ h. refl)

pub returns-in-Different : goal.returns-in-Different
returns-in-Different c = (λ h. cc, λ h. absurd (unlike_variants (at c.args.heap.now.now.terms c.args.a) (at c.args.heap.now.now.terms c.args.b) c.in-Different.ensures h))

pub returns-in-Variables : goal.returns-in-Variables
returns-in-Variables c = (λ h. variables_variant (at c.args.heap.now.now.terms c.args.a) (at c.args.heap.now.now.terms c.args.b) c.in-Variables.field-0.0 c.in-Variables.field-1.0 c.in-Variables.ensures.0 c.in-Variables.ensures.1, λ h. refl)
