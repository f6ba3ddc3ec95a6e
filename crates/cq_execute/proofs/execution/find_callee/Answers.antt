use Rattle.std.proofs.Common.{ap, sym, ◌∙◌}
use Rattle.std.specs.Option.{option_map}
use Rattle.spec_search.specs.Builtins.{builtin_of}
use Rattle.cq_predicates.specs.TableNames.{as_builtin}
use Rattle.cq_execute.proofs.execution.find_callee.Goals as goal

pub returns-in-Some : goal.returns-in-Some
returns-in-Some c =
    let s = c.requires.sound in
    let is = c.in-Ok.ensures.predicate in
    ap builtin_of (sym is.indicator) ∙ sym (c.get.ensures c.args.m.now.atoms s.known.builtins s.different is.known) ∙ ap (option_map as_builtin) c.in-Some.is

pub returns-in-None : goal.returns-in-None
returns-in-None c =
    let s = c.requires.sound in
    let is = c.in-Ok.ensures.predicate in
    record {
      callable = c.in-Ok.ensures.callable;
      predicate = is;
      is_user = ap builtin_of (sym is.indicator) ∙ sym (c.get.ensures c.args.m.now.atoms s.known.builtins s.different is.known) ∙ ap (option_map as_builtin) c.in-None.is;
    }

pub returns-in-Err : goal.returns-in-Err
returns-in-Err c = (c.in-Err.field-0, c.in-Err.ensures.error)
