use Rattle.cq_execute.proofs.Outcomes.{small_done, another_row}
use Rattle.cq_execute.proofs.small.execute_row.Goals as goal

pub execute_common-requires-clause-calls : goal.execute_common-requires-clause-calls
execute_common-requires-clause-calls c = rw c.in-Common.is at c.requires.calls

pub returns-in-Common : goal.returns-in-Common
returns-in-Common c =
    let done = c.execute_common.ensures in
    small_done c.args.m.now c.execute_common.new.m c.args.goal c.args.height c.args.rest c.requires.at.selected c.execute_common.result c.small.result done.done done.refuses
    c.small.ensures

pub returns-in_default : goal.returns-in_default
returns-in_default c =
    another_row c.args.m.now c.args.goal c.args.height c.args.rest c.args.builtin c.requires.at.sound c.requires.calls c.in_default.not-Common
