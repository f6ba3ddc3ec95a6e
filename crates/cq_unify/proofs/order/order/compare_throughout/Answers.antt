use Rattle.cq_term.specs.Meaning.{at}
use Rattle.cq_term.proofs.Arguments.{length-arguments}
use Rattle.cq_term.proofs.SideBySide.{pop_less, push_less}
use Rattle.cq_unify.proofs.Ranks.{tell_past, tell_spread}
use Rattle.cq_unify.proofs.order.order.compare_throughout.Goals as goal

pub loop-pair-smaller-in-Same : goal.loop-pair-smaller-in-Same
loop-pair-smaller-in-Same c = pop_less c.args.heap.now.now.terms c.loop-pair.work.items c.pop.new.self.items c.in-Some.pair c.in-Some.ensures.items

pub loop-pair-preserved-in-Same : goal.loop-pair-preserved-in-Same
loop-pair-preserved-in-Same c = tell_past c.args.atoms.now c.args.heap.now.now.terms _ c.loop-pair.work.items c.pop.new.self.items c.in-Some.pair c.in-Some.ensures.items c.loop-pair.invariant c.in-Same.ensures

pub push_pairs-requires-clause-left_arity : goal.push_pairs-requires-clause-left_arity
push_pairs-requires-clause-left_arity c = length-arguments (at c.args.heap.now.now.terms c.in-Some.pair.left) c.in-Arguments.ensures.left_name c.in-Arguments.arity c.in-Arguments.ensures.left

pub push_pairs-requires-clause-right_arity : goal.push_pairs-requires-clause-right_arity
push_pairs-requires-clause-right_arity c = length-arguments (at c.args.heap.now.now.terms c.in-Some.pair.right) c.in-Arguments.ensures.right_name c.in-Arguments.arity c.in-Arguments.ensures.right

pub loop-pair-smaller : goal.loop-pair-smaller
loop-pair-smaller c =
    push_less c.args.heap.now.now.terms c.loop-pair.work.items c.pop.new.self.items c.in-Some.pair c.in-Some.ensures.items c.push_pairs.new.work.items c.in_ok-push_pairs-in-Arguments.ensures
    c.in-Arguments.ensures.left_name c.in-Arguments.arity c.in-Arguments.ensures.left

pub loop-pair-preserved : goal.loop-pair-preserved
loop-pair-preserved c =
    tell_spread c.args.atoms.now c.args.heap.now.now.terms _ c.loop-pair.work.items c.pop.new.self.items c.in-Some.pair c.in-Some.ensures.items c.loop-pair.invariant c.in-Arguments.arity c.push_pairs.new.work.items c.in-Arguments.ensures c.in_ok-push_pairs-in-Arguments.ensures
