use Rattle.std.proofs.Common.{◌∙◌, sym, subst}
use Rattle.spec_branch.specs.Checks.{expression_error}
use Rattle.cq_term.specs.Texts.{text_of}
use Rattle.cq_term.specs.Meaning.{at}
use Rattle.cq_term.specs.Trees.{tree}
use Rattle.cq_built.specs.Faults.{IsFound}
use Rattle.cq_goals.proofs.Heads.{many_expression}
use Rattle.cq_goals.proofs.checks.look_at_expression.Goals as goal

pub returns-else-arity-eq2-clause-fault : goal.returns-else-arity-eq2-clause-fault
returns-else-arity-eq2-clause-fault c =
    let texts = c.args.atoms.now in
    let ts = c.args.heap.now.now.terms in
    subst (IsFound texts ts (expression_error (tree texts ts c.args.id))) (sym c.not_evaluable-else-arity-eq2.ensures)
    (many_expression (text_of texts) (at ts c.args.id) c.in-Compound.name c.in-Compound.arity (sym c.view.ensures.view ∙ c.in-Compound.is) c.if-arity-eq1.false c.if-arity-eq2.false)
