use Rattle.std.proofs.Common.{◌<◌, length}
use Rattle.cq_built.specs.Errors.{error_tree}
use Rattle.cq_machine.specs.Machines.{now, terms}
use Rattle.cq_execute.proofs.Done.{at_goal}
use Rattle.cq_execute.proofs.Outcomes.{called_nothing}
use Rattle.cq_execute.proofs.small.execute_small.Goals as goal

pub find_callee-requires-clause-live : goal.find_callee-requires-clause-live
find_callee-requires-clause-live c =
    let m = c.args.m.now in
    c.selected_goals_lead.ensures.there m.atoms (now m).0 c.args.goal c.requires.selected.2 c.requires.selected.3.reads.0

pub execute_row-requires-clause-at : goal.execute_row-requires-clause-at
execute_row-requires-clause-at c =
    let m = c.args.m.now in
    let live : c.args.goal < length (terms m) = c.selected_goals_lead.ensures.there m.atoms (now m).0 c.args.goal c.requires.selected.2 c.requires.selected.3.reads.0 in
    at_goal m c.args.goal c.args.height c.args.rest c.requires.sound c.requires.selected live

pub execute_row-requires-clause-calls : goal.execute_row-requires-clause-calls
execute_row-requires-clause-calls c = rw c.in-Builtin.is at c.find_callee.ensures

pub execute_procedure-requires-clause-at : goal.execute_procedure-requires-clause-at
execute_procedure-requires-clause-at c =
    let m = c.args.m.now in
    let live : c.args.goal < length (terms m) = c.selected_goals_lead.ensures.there m.atoms (now m).0 c.args.goal c.requires.selected.2 c.requires.selected.3.reads.0 in
    at_goal m c.args.goal c.args.height c.args.rest c.requires.sound c.requires.selected live

pub execute_procedure-requires-clause-calls : goal.execute_procedure-requires-clause-calls
execute_procedure-requires-clause-calls c = rw c.in-Procedure.is at c.find_callee.ensures

pub returns-in-Nothing : goal.returns-in-Nothing
returns-in-Nothing c =
    let m = c.args.m.now in
    let error = rw c.in-Nothing.is at c.find_callee.ensures in
    called_nothing m c.args.goal c.args.height c.args.rest c.requires.sound (error_tree m.atoms (terms m) error.0) error.1
