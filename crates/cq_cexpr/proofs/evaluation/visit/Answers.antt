use Rattle.std.proofs.Common.{◌*◌, None, sym}
use Rattle.spec_terms.specs.Term.{size}
use Rattle.cq_term.specs.Meaning.{at}
use Rattle.cq_cexpr.specs.declared.evaluation.Step.TheVariants as step
use Rattle.cq_cexpr.specs.Work.{read_at}
use Rattle.cq_cexpr.proofs.Steps as steps
use Rattle.cq_cexpr.proofs.Steps.{others_wait, something_to_do}
use Rattle.cq_cexpr.proofs.evaluation.visit.Goals as goal

pub returns-else-arity-eq2 : goal.returns-else-arity-eq2
returns-else-arity-eq2 c = λ all can.
    let ts = c.args.heap.now.now.terms in
    steps.returns c.args.atoms.now ts all c.args.under_way.now.items (read_at c.args.atoms.now ts c.args.id) (3 * size (at ts c.args.id)) (step.Return None)
    (sym (others_wait c.args.atoms.now (at ts c.args.id) c.in-Compound.name c.in-Compound.arity (sym c.in-Compound.ensures.view) c.if-arity-eq1.false c.if-arity-eq2.false))
    (λ o h. absurd h) (something_to_do (at ts c.args.id))
