use Rattle.std.proofs.Common.{sym, ◌∙◌, eqb-true}
use Rattle.cq_term.specs.Meaning.{at}
use Rattle.cq_unify.proofs.Ranks.{stands_same, stands_compounds}
use Rattle.cq_unify.proofs.order.order.rank_heads.Goals as goal

pub returns-then-eq : goal.returns-then-eq
returns-then-eq c = stands_same c.args.atoms.now c.args.heap.now.now.terms c.args.left c.args.right (eqb-true c.args.left c.args.right (sym c.eq.ensures ∙ c.if-eq.true))

pub returns-in-Compound-shown-2 : goal.returns-in-Compound-shown-2
returns-in-Compound-shown-2 c =
    let ts = c.args.heap.now.now.terms in
    stands_compounds c.args.atoms.now (at ts c.args.left) (at ts c.args.right) c.in-Compound.f c.in-Compound.n c.in-Compound-shown-2.g c.in-Compound-shown-2.m c.compounds.result
    (sym c.view.ensures.view ∙ c.in-Compound.is) (sym c.view-shown.ensures.view ∙ c.in-Compound-shown-2.is) c.compounds.ensures
