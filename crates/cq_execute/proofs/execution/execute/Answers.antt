use Rattle.cq_machine.specs.Machines.{now}
use Rattle.cq_execute.proofs.Done.{at_goal}
use Rattle.cq_execute.proofs.execution.execute.Goals as goal

pub execute_builtin-requires-clause-at : goal.execute_builtin-requires-clause-at
execute_builtin-requires-clause-at c =
    let m = c.args.m.now in
    let s = c.requires.selected.3 in
    at_goal m c.args.goal c.args.height c.args.rest c.requires.sound c.requires.selected
    (c.selected_goals_lead.ensures.there m.atoms (now m).0 c.args.goal c.requires.selected.2 s.reads.0)

pub execute_builtin-requires-clause-calls : goal.execute_builtin-requires-clause-calls
execute_builtin-requires-clause-calls c = rw c.in-Some.is at c.requires.known

pub execute_goal-requires : goal.execute_goal-requires
execute_goal-requires c =
    let m = c.args.m.now in
    let s = c.requires.selected.3 in
    record {
      at = at_goal m c.args.goal c.args.height c.args.rest c.requires.sound c.requires.selected
          (c.selected_goals_lead.ensures.there m.atoms (now m).0 c.args.goal c.requires.selected.2 s.reads.0);
    }
