use Rattle.std.proofs.Common.{sym, ◌∙◌}
use Rattle.cq_term.specs.Meaning.{at}
use Rattle.cq_cexpr.proofs.Sides.{other_terms_wait}
use Rattle.cq_cexpr.proofs.relations.linearise.Goals as goal

pub returns-in_ok-waiting-in-Compound-clause-lin : goal.returns-in_ok-waiting-in-Compound-clause-lin
returns-in_ok-waiting-in-Compound-clause-lin c =
    c.in_ok-waiting-in-Compound.ensures.lin
    ∙ sym (other_terms_wait c.args.atoms.now (at c.args.heap.now.now.terms c.args.term) c.in-Compound.name c.in-Compound.arity (sym c.in-Compound.ensures.view) c.if-arity-eq2.false)
