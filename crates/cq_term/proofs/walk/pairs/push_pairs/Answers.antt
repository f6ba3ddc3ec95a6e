use Rattle.std.proofs.Common.{◌<◌, ◌-◌, arith}
use Rattle.cq_term.specs.Meaning.{at}
use Rattle.cq_term.specs.Shown.{arguments}
use Rattle.cq_term.proofs.WalkArguments.{argument_at, live_at}
use Rattle.cq_term.proofs.SideBySide.{pushes_none, pushes_more}
use Rattle.cq_term.proofs.walk.pairs.push_pairs.Goals as goal

pub loop-i-init : goal.loop-i-init
loop-i-init c = pushes_none c.args.heap.now.now.terms c.args.left c.args.right c.args.arity c.args.work.now.items (omega arith)

pub loop-i-preserved : goal.loop-i-preserved
loop-i-preserved c =
    let ts = c.args.heap.now.now.terms in
    let lt : c.loop-i.i - 1 < c.args.arity = omega arith in
    pushes_more ts c.args.left c.args.right c.loop-i.i (c.loop-i.i - 1) c.args.work.now.items c.loop-i.work.items c.push.new.self.items (record { left = c.index-lefts-i.result; right = c.index-rights-i.result })
    (omega arith) c.loop-i.invariant
    (live_at ts (arguments (at c.args.heap.now.now.terms c.args.left)) c.args-lefts.result.now c.args.arity (c.loop-i.i - 1) c.index-lefts-i.result c.args-lefts.ensures.args c.requires.left_arity lt c.index-lefts-i.is c.args-lefts.ensures.live, live_at ts (arguments (at c.args.heap.now.now.terms c.args.right)) c.args-rights.result.now c.args.arity (c.loop-i.i - 1) c.index-rights-i.result c.args-rights.ensures.args c.requires.right_arity lt c.index-rights-i.is c.args-rights.ensures.live)
    (argument_at ts (arguments (at c.args.heap.now.now.terms c.args.left)) c.args-lefts.result.now c.args.arity (c.loop-i.i - 1) c.index-lefts-i.result c.args-lefts.ensures.args c.requires.left_arity lt c.index-lefts-i.is)
    (argument_at ts (arguments (at c.args.heap.now.now.terms c.args.right)) c.args-rights.result.now c.args.arity (c.loop-i.i - 1) c.index-rights-i.result c.args-rights.ensures.args c.requires.right_arity lt c.index-rights-i.is)
    c.in_ok-push.ensures.items
