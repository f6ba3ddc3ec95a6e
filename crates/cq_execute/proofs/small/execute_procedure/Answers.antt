use Rattle.cq_machine.specs.Machines.{StillStands}
use Rattle.cq_execute.proofs.Called.{as_row, call_done}
use Rattle.cq_execute.proofs.Done.{somewhere}
use Rattle.cq_execute.proofs.Outcomes.{call_refuses, small_done}
use Rattle.cq_execute.proofs.small.execute_procedure.Goals as goal

pub call_procedure-requires-clause-selected : goal.call_procedure-requires-clause-selected
call_procedure-requires-clause-selected c = somewhere c.args.m.now c.args.goal c.args.height c.args.rest c.requires.at.selected

pub call_procedure-requires-clause-predicate : goal.call_procedure-requires-clause-predicate
call_procedure-requires-clause-predicate c = c.requires.calls.predicate

pub returns : goal.returns
returns c =
    let m = c.args.m.now in
    let new = c.call_procedure.new.m in
    let r = c.call_procedure.result in
    small_done m new c.args.goal c.args.height c.args.rest c.requires.at.selected _ c.called.result
    (as_row m new c.args.goal c.args.height c.args.rest c.args.predicate r
    (call_done m new c.args.goal c.args.height c.args.rest c.requires.calls.callable c.requires.calls.is_user c.args.predicate r
    c.call_procedure.ensures.row c.call_procedure.ensures.goes c.call_procedure.ensures.raises c.call_procedure.ensures.sound c.call_procedure.ensures.program c.call_procedure.ensures.err))
    (call_refuses (StillStands m new) c.args.predicate r)
    (c.called.ensures c.args.predicate)
