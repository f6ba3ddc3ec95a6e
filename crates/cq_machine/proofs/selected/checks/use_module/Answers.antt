use Rattle.std.proofs.Common.{◌≡◌, Option, true, sym, ap, subst, ◌∙◌}
use Rattle.spec_syntax.specs.Trees.{Tree}
use Rattle.spec_builtins.specs.Clauses.{use_module_error}
use Rattle.spec_search.specs.Builtins.{UseModule}
use Rattle.spec_search.specs.Replies.{Reply, goes_on, succeeds_if, unless_error}
use Rattle.cq_machine.specs.Machines.{now}
use Rattle.cq_machine.specs.Stepping.{row_of, IsStep}
use Rattle.cq_machine.proofs.Kept.{argument_is}
use Rattle.cq_machine.proofs.selected.checks.use_module.Goals as goal

pub returns-in-Ok-clause-row : goal.returns-in-Ok-clause-row
returns-in-Ok-clause-row c = λ height p behind g s.
    let m = c.args.m.now in
    let a = argument_is m.atoms (now m).0 p.state c.args.goal 0 c.arg-module.result g s.reads c.arg-module.ensures.live c.arg-module.ensures.arg in
    let row : row_of UseModule p g ≡ succeeds_if true p =
    ap (λ (o : Option Tree). unless_error o (goes_on p p.rest)) (ap use_module_error (sym a) ∙ c.in-Ok.ensures.lawful) in
    subst (λ (r : Reply). IsStep m c.succeed_if.result p behind r) (sym row) (c.succeed_if.ensures.row m c.args.goal height p behind g s)

pub returns-in-Err-clause-row : goal.returns-in-Err-clause-row
returns-in-Err-clause-row c = λ height p behind g s.
    let m = c.args.m.now in
    let a = argument_is m.atoms (now m).0 p.state c.args.goal 0 c.arg-module.result g s.reads c.arg-module.ensures.live c.arg-module.ensures.arg in
    ap (λ (o : Option Tree). unless_error o (goes_on p p.rest)) (ap use_module_error (sym a) ∙ c.in-Err.ensures.error)
