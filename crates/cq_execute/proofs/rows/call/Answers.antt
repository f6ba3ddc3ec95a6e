use Rattle.std.proofs.Common.{◌≡◌, length, sym, ap, ◌∙◌}
use Rattle.std.proofs.lemmas.List.{length-map}
use Rattle.spec_search.specs.Builtins.{Call}
use Rattle.cq_term.specs.Texts.{text_of}
use Rattle.cq_term.specs.Meaning.{at}
use Rattle.cq_term.specs.Shown.{arguments}
use Rattle.cq_machine.specs.Machines.{terms}
use Rattle.cq_execute.proofs.Table.{some_of_call}
use Rattle.cq_execute.proofs.Done.{quiet_done, row_done, rows_at, call_alone}
use Rattle.cq_execute.proofs.rows.call.Goals as goal

pub call-requires-clause-one : goal.call-requires-clause-one
call-requires-clause-one c =
    let ts = terms c.args.m.now in
    ap length (sym c.args-given.ensures.args) ∙ length-map c.args-given.result.now (at ts) ∙ c.if-given-eq1.true

pub call_with_more-requires-clause-some : goal.call_with_more-requires-clause-some
call_with_more-requires-clause-some c = some_of_call (text_of c.args.m.now.atoms) (at (terms c.args.m.now) c.args.goal) c.requires.calls

pub returns-then-given-eq1 : goal.returns-then-given-eq1
returns-then-given-eq1 c =
    let m = c.args.m.now in
    let new = c.call.new.m in
    let r = c.call.result in
    let ts = terms m in
    let one : length (arguments (at ts c.args.goal)) ≡ 1 = ap length (sym c.args-given.ensures.args) ∙ length-map c.args-given.result.now (at ts) ∙ c.if-given-eq1.true in
    let row = call_alone m new c.args.goal c.args.height c.args.rest r one c.call.ensures.row in
    quiet_done m new c.args.goal c.args.height c.args.rest _ c.quiet.result
    (row_done m new c.args.goal c.args.height c.args.rest Call c.requires.calls r row c.call.ensures.goes c.call.ensures.raises c.call.ensures.sound c.call.ensures.program c.call.ensures.err)
    c.quiet.ensures

pub returns-else-given-eq1 : goal.returns-else-given-eq1
returns-else-given-eq1 c =
    let m = c.args.m.now in
    let new = c.call_with_more.new.m in
    let r = c.call_with_more.result in
    let row = rows_at m new c.args.goal c.args.height c.args.rest Call c.requires.calls r c.call_with_more.ensures.row in
    quiet_done m new c.args.goal c.args.height c.args.rest _ c.quiet-else-given-eq1.result
    (row_done m new c.args.goal c.args.height c.args.rest Call c.requires.calls r row c.call_with_more.ensures.goes c.call_with_more.ensures.raises
    c.call_with_more.ensures.sound c.call_with_more.ensures.program c.call_with_more.ensures.err)
    c.quiet-else-given-eq1.ensures
