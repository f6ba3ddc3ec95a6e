use Rattle.cq_unify.proofs.Progress.{alike_unified, bound_unified, inside_unified}
use Rattle.cq_unify.proofs.unification.unify.Goals as goal

pub returns-in-Same-clause-unified : goal.returns-in-Same-clause-unified
returns-in-Same-clause-unified c = λ _. alike_unified c.args.heap.now c.args.a c.args.b c.requires.a c.requires.b c.args.newly.now c.in-Same.ensures

pub returns-in-Bind-clause-unified : goal.returns-in-Bind-clause-unified
returns-in-Bind-clause-unified c = λ e.
    bound_unified c.args.heap.now c.args.a c.args.b c.requires.a c.requires.b c.args.newly.now c.in-Bind.variable c.in-Bind.term c.in-Bind.ensures c.bind_apart.new.heap c.bind_apart.new.newly
    (c.bind_apart.ensures.bound e) c.bind_apart.ensures.names c.bind_apart.ensures.saved c.bind_apart.ensures.room (c.bind_apart.ensures.told e)

pub returns-in-Bind-clause-none : goal.returns-in-Bind-clause-none
returns-in-Bind-clause-none c = λ e.
    inside_unified c.args.heap.now c.args.a c.args.b c.requires.a c.requires.b c.args.newly.now c.in-Bind.variable c.in-Bind.term c.in-Bind.ensures (c.bind_apart.ensures.inside e)
