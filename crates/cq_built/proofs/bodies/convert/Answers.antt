use Rattle.spec_builtins.specs.Bodies.{converted_body}
use Rattle.cq_built.proofs.Growing.{grows_both}
use Rattle.cq_term.specs.Trees.{tree}
use Rattle.cq_built.proofs.Tasks.{can_join, goes_on, goes_less}
use Rattle.cq_built.proofs.bodies.convert.Goals as goal

pub take_turn-requires-clause-two : goal.take_turn-requires-clause-two
take_turn-requires-clause-two c =
    can_join c.args.atoms.now c.loop-task.heap.now.terms (converted_body (tree c.args.atoms.now c.args.heap.now.now.terms c.args.body)) c.loop-task.tasks.items c.pop.new.self.items c.loop-task.done.items
    c.in-Some.task c.loop-task.invariant.way c.in-Some.ensures.items

pub loop-task-smaller : goal.loop-task-smaller
loop-task-smaller c =
    goes_less c.args.atoms.now c.loop-task.heap.now.terms (converted_body (tree c.args.atoms.now c.args.heap.now.now.terms c.args.body)) c.loop-task.tasks.items c.pop.new.self.items c.loop-task.done.items
    c.in-Some.task c.loop-task.invariant.way c.in-Some.ensures.items c.take_turn.new.heap.now.terms c.take_turn.new.tasks.items c.take_turn.new.done.items c.in_ok-take_turn.ensures.turns

pub loop-task-preserved : goal.loop-task-preserved
loop-task-preserved c =
    let texts = c.args.atoms.now in
    record {
      way = goes_on texts c.loop-task.heap.now.terms (converted_body (tree texts c.args.heap.now.now.terms c.args.body)) c.loop-task.tasks.items c.pop.new.self.items c.loop-task.done.items
          c.in-Some.task c.loop-task.invariant.way c.in-Some.ensures.items c.take_turn.new.heap.now.terms c.take_turn.new.tasks.items c.take_turn.new.done.items c.in_ok-take_turn.ensures.turns;
      grows = grows_both texts texts texts c.args.heap.now c.loop-task.heap c.take_turn.new.heap c.loop-task.invariant.grows c.in_ok-take_turn.ensures.grows;
      names = c.in_ok-take_turn.ensures.grows.names c.loop-task.invariant.names;
    }
