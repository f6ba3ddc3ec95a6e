use Rattle.std.proofs.Common.{arith}
use Rattle.cq_built.proofs.Splitting.{taken_apart_starts, part_live, takes, takes_less, all_found}
use Rattle.cq_lint.specs.Goals.{goals_of}
use Rattle.cq_lint.proofs.goals.goals.Goals as goal

pub loop-id-init : goal.loop-id-init
loop-id-init c =
    taken_apart_starts goals_of c.args.atoms.now c.args.heap.now.now.terms c.new-found.result.items c.in_ok-waiting.waiting.items c.args.goal c.requires.live c.new-found.ensures.items c.in_ok-waiting.ensures.items

pub take_goal-requires-clause-live : goal.take_goal-requires-clause-live
take_goal-requires-clause-live c =
    part_live goals_of c.args.atoms.now c.args.heap.now.now.terms _ c.loop-id.found.items c.loop-id.waiting.items c.pop.new.self.items c.in-Some.id c.loop-id.invariant c.in-Some.ensures.items

pub loop-id-preserved : goal.loop-id-preserved
loop-id-preserved c =
    takes goals_of c.args.atoms.now c.args.heap.now.now.terms _ c.loop-id.found.items c.loop-id.waiting.items c.pop.new.self.items c.in-Some.id c.loop-id.invariant c.in-Some.ensures.items
    c.take_goal.new.found.items c.take_goal.new.waiting.items c.in_ok-take_goal.ensures

pub loop-id-smaller : goal.loop-id-smaller
loop-id-smaller c =
    takes_less goals_of c.args.atoms.now c.args.heap.now.now.terms _ c.loop-id.found.items c.loop-id.waiting.items c.pop.new.self.items c.in-Some.id c.loop-id.invariant c.in-Some.ensures.items
    c.take_goal.new.found.items c.take_goal.new.waiting.items c.in_ok-take_goal.ensures

pub returns-clause-goals : goal.returns-clause-goals
returns-clause-goals c =
    all_found goals_of c.args.atoms.now c.args.heap.now.now.terms _ c.loop-id.found.items c.loop-id.waiting.items c.loop-id.invariant (omega (arith, c.in_default.ensures.cases.0, c.loop-id.waiting.ok.0))
