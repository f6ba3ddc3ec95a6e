use Rattle.std.proofs.Common.{◌≡◌, None, ap, sym, ◌∙◌, subst}
use Rattle.std.specs.Option.{option_map}
use Rattle.std.specs.declared.alloc.AllocError.{AllocError}
use Rattle.std.specs.declared.result.Result.{Result}
use Rattle.spec_builtins.specs.Built.{indicator_of}
use Rattle.spec_search.specs.Builtins.{builtin_of}
use Rattle.cq_predicates.specs.TableNames.{as_builtin}
use Rattle.cq_term.specs.Trees.{tree}
use Rattle.cq_machine.specs.Machines.{terms}
use Rattle.cq_machine.specs.declared.step.Step.{Step}
use Rattle.cq_execute.specs.Rows.{IsRowDone, as_stop}
use Rattle.cq_execute.proofs.Called.{as_row, call_done}
use Rattle.cq_execute.proofs.Done.{quiet_done, somewhere}
use Rattle.cq_execute.proofs.execution.execute_named.Goals as goal

pub execute_builtin-requires-clause-calls : goal.execute_builtin-requires-clause-calls
execute_builtin-requires-clause-calls c =
    let s = c.requires.at.sound in
    ap builtin_of (sym c.requires.predicate.indicator) ∙ sym (c.get.ensures c.args.m.now.atoms s.known.builtins s.different c.requires.predicate.known) ∙ ap (option_map as_builtin) c.in-Some.is

pub call_procedure-called-requires-clause-selected : goal.call_procedure-called-requires-clause-selected
call_procedure-called-requires-clause-selected c = somewhere c.args.m.now c.args.goal c.args.height c.args.rest c.requires.at.selected

pub returns-in-None : goal.returns-in-None
returns-in-None c =
    let m = c.args.m.now in
    let s = c.requires.at.sound in
    let none : builtin_of (indicator_of (tree m.atoms (terms m) c.args.goal)) ≡ None =
    ap builtin_of (sym c.requires.predicate.indicator) ∙ sym (c.get.ensures m.atoms s.known.builtins s.different c.requires.predicate.known) ∙ ap (option_map as_builtin) c.in-None.is in
    quiet_done m c.call_procedure-called.new.m c.args.goal c.args.height c.args.rest _ c.quiet.result
    (subst (λ (r : Result Step AllocError). IsRowDone m c.call_procedure-called.new.m c.args.goal c.args.height c.args.rest (as_stop r)) (sym c.stepped.ensures)
    (as_row m c.call_procedure-called.new.m c.args.goal c.args.height c.args.rest c.args.predicate c.call_procedure-called.result
    (call_done m c.call_procedure-called.new.m c.args.goal c.args.height c.args.rest c.requires.callable none c.args.predicate c.call_procedure-called.result c.call_procedure-called.ensures.row
    c.call_procedure-called.ensures.goes c.call_procedure-called.ensures.raises c.call_procedure-called.ensures.sound c.call_procedure-called.ensures.program c.call_procedure-called.ensures.err)))
    c.quiet.ensures
