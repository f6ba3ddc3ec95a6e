use Rattle.std.proofs.Common.{◌<◌, ◌-◌, arith}
use Rattle.cq_term.specs.Meaning.{at}
use Rattle.cq_term.specs.Shown.{arguments}
use Rattle.cq_term.proofs.WalkArguments.{pushes_more, argument_at, live_at}
use Rattle.cq_term.proofs.walk.visits.push_arguments.Goals as goal

pub loop-i-preserved : goal.loop-i-preserved
loop-i-preserved c =
    let ts = c.args.heap.now.now.terms in
    let us = arguments (at c.args.heap.now.now.terms c.args.id) in
    let lt : c.loop-i.i - 1 < c.args.arity = omega arith in
    pushes_more ts (at c.args.heap.now.now.terms c.args.id) c.loop-i.i (c.loop-i.i - 1) c.args.work.now.items c.loop-i.work.items c.push.new.self.items c.index-ids-i.result
    (omega arith) c.loop-i.invariant
    (live_at ts us c.args-ids.result.now c.args.arity (c.loop-i.i - 1) c.index-ids-i.result c.args-ids.ensures.args c.requires.arity lt c.index-ids-i.is c.args-ids.ensures.live)
    (argument_at ts us c.args-ids.result.now c.args.arity (c.loop-i.i - 1) c.index-ids-i.result c.args-ids.ensures.args c.requires.arity lt c.index-ids-i.is)
    c.in_ok-push.ensures.items
