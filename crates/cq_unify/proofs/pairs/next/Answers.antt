use Rattle.std.proofs.Common.{sym, ◌∙◌}
use Rattle.cq_term.specs.Meaning.{at}
use Rattle.cq_term.proofs.Arguments.{length-arguments}
use Rattle.cq_term.proofs.SideBySide.{pop_less, push_less}
use Rattle.cq_unify.proofs.Equations.{remains_same, remains_spread, remains_clash, remains_bind, equates_none}
use Rattle.cq_unify.proofs.pairs.next.Goals as goal

pub loop-pair-smaller-in-Same : goal.loop-pair-smaller-in-Same
loop-pair-smaller-in-Same c = pop_less c.args.heap.now.now.terms c.loop-pair.work.items c.pop.new.self.items c.in-Some.pair c.in-Some.ensures.items

pub loop-pair-preserved-in-Same : goal.loop-pair-preserved-in-Same
loop-pair-preserved-in-Same c = remains_same c.args.heap.now.now c.args.work.now.items c.loop-pair.work.items c.pop.new.self.items c.in-Some.pair c.in-Some.ensures.items c.loop-pair.invariant c.in-Same.ensures

pub returns-in-Clash : goal.returns-in-Clash
returns-in-Clash c = remains_clash c.args.heap.now.now c.args.work.now.items c.loop-pair.work.items c.pop.new.self.items c.in-Some.pair c.in-Some.ensures.items c.loop-pair.invariant c.in-Clash.ensures

pub returns-in-Bind : goal.returns-in-Bind
returns-in-Bind c = remains_bind c.args.heap.now.now c.args.work.now.items c.loop-pair.work.items c.pop.new.self.items c.in-Some.pair c.in-Some.ensures.items c.loop-pair.invariant c.in-Bind.variable c.in-Bind.term c.in-Bind.ensures

pub push_pairs-requires-clause-left_arity : goal.push_pairs-requires-clause-left_arity
push_pairs-requires-clause-left_arity c = length-arguments (at c.args.heap.now.now.terms c.in-Some.pair.left) c.in-Arguments.ensures.0 c.in-Arguments.arity c.in-Arguments.ensures.1

pub push_pairs-requires-clause-right_arity : goal.push_pairs-requires-clause-right_arity
push_pairs-requires-clause-right_arity c = length-arguments (at c.args.heap.now.now.terms c.in-Some.pair.right) c.in-Arguments.ensures.0 c.in-Arguments.arity c.in-Arguments.ensures.2

pub loop-pair-smaller : goal.loop-pair-smaller
loop-pair-smaller c =
    push_less c.args.heap.now.now.terms c.loop-pair.work.items c.pop.new.self.items c.in-Some.pair c.in-Some.ensures.items c.push_pairs.new.work.items c.in_ok-push_pairs-in-Arguments.ensures
    c.in-Arguments.ensures.0 c.in-Arguments.arity c.in-Arguments.ensures.1

pub loop-pair-preserved : goal.loop-pair-preserved
loop-pair-preserved c = remains_spread c.args.heap.now.now c.args.work.now.items c.loop-pair.work.items c.pop.new.self.items c.in-Some.pair c.in-Some.ensures.items c.loop-pair.invariant c.in-Arguments.arity c.push_pairs.new.work.items c.in-Arguments.ensures c.in_ok-push_pairs-in-Arguments.ensures

pub returns : goal.returns
returns c = λ s. let n = c.in_default.ensures.cases in equates_none s c.args.heap.now.now.terms c.args.work.now.items c.loop-pair.work.items c.loop-pair.invariant (sym c.loop-pair.work.ok.0 ∙ n.0)
