use Rattle.std.proofs.Common.{◌≡◌, ◌∷◌, ℕ, List, Option, None, Some, ap, subst, ◌∙◌}
use Rattle.std.specs.Prelude.{IfSome}
use Rattle.spec_syntax.specs.Trees.{Tree}
use Rattle.spec_branch.specs.Branch.{read}
use Rattle.spec_search.specs.Turns.{place_of}
use Rattle.cq_control.specs.Items.{items_at}
use Rattle.spec_engine.specs.declared.machine.cell.Cell.{Cell}
use Rattle.spec_engine.specs.declared.machine.cell.Cell.TheVariants.{Goal}
use Rattle.cq_predicates.specs.declared.table.builtins.Builtin.{Builtin}
use Rattle.cq_machine.specs.declared.machine.Machine.{Machine}
use Rattle.cq_execute.specs.Executions.{Reaches}
use Rattle.cq_execute.specs.Rows.{IsCallOf}
use Rattle.cq_engine.specs.Turning.{CallsAt}
use Rattle.cq_engine.proofs.Selections.{goal_next, call_next}
use Rattle.cq_engine.proofs.Stops.{may_stop}
use Rattle.cq_engine.proofs.events.cells.execute_cell.Goals as goal

pub execute-requires-clause-selected : goal.execute-requires-clause-selected
execute-requires-clause-selected c =
    let m = c.args.m.now in
    let w = c.requires.going in
    let f = c.requires.front in
    let s = w.1 in
    let x = goal_next m w.0 c.args.k c.args.rest s w.2 f.earlier c.in-Goal.goal c.in-Goal.height (f.cells ∙ ap (λ (x : Cell). x ∷ items_at m.world.second.now c.args.rest) c.in-Goal.is) in
    (place_of s x.0.state x.0.items x.0.cut x.0.behind, x.0.behind, read x.0.state x.0.goal, x.1)

some_known : (m : Machine) (k t height : ℕ) (cells : List Cell) (o : Option Builtin) → IfSome o (CallsAt m k) → items_at m.world.second.now k ≡ Goal t height ∷ cells
    → IfSome o (IsCallOf m t)
some_known m k t height cells None f e = tt
some_known m k t height cells (Some b) f e = f t height cells e

pub execute-requires-clause-known : goal.execute-requires-clause-known
execute-requires-clause-known c =
    let m = c.args.m.now in
    some_known m c.args.k c.in-Goal.goal c.in-Goal.height (items_at m.world.second.now c.args.rest) c.args.known c.requires.known
    (c.requires.front.cells ∙ ap (λ (x : Cell). x ∷ items_at m.world.second.now c.args.rest) c.in-Goal.is)

pub returns-in-Ok-clause-row : goal.returns-in-Ok-clause-row
returns-in-Ok-clause-row c = λ n s j.
    let m = c.args.m.now in
    let f = c.requires.front in
    let x = goal_next m n c.args.k c.args.rest s j f.earlier c.in-Goal.goal c.in-Goal.height (f.cells ∙ ap (λ (x : Cell). x ∷ items_at m.world.second.now c.args.rest) c.in-Goal.is) in
    let g = read x.0.state x.0.goal in
    record { next = x.0; reaches = c.in-Ok.ensures.row (place_of s x.0.state x.0.items x.0.cut x.0.behind) x.0.behind g x.1 }

pub returns-in-Err-clause-stop : goal.returns-in-Err-clause-stop
returns-in-Err-clause-stop c = λ n s j.
    let m = c.args.m.now in
    let f = c.requires.front in
    let x = goal_next m n c.args.k c.args.rest s j f.earlier c.in-Goal.goal c.in-Goal.height (f.cells ∙ ap (λ (x : Cell). x ∷ items_at m.world.second.now c.args.rest) c.in-Goal.is) in
    may_stop m n c.args.rest c.in-Err.fault s
    (record { next = x.0; stopped = c.in-Err.ensures.stop (place_of s x.0.state x.0.items x.0.cut x.0.behind) x.0.behind (read x.0.state x.0.goal) x.1 })

pub execute_call-requires-clause-selected : goal.execute_call-requires-clause-selected
execute_call-requires-clause-selected c =
    let m = c.args.m.now in
    let w = c.requires.going in
    let f = c.requires.front in
    let s = w.1 in
    let x = call_next m w.0 c.args.k c.args.rest s w.2 f.earlier c.in-Call.called (f.cells ∙ ap (λ (x : Cell). x ∷ items_at m.world.second.now c.args.rest) c.in-Call.is) in
    (place_of s x.0.state x.0.items x.0.cut x.0.behind, x.0.behind, read x.0.state x.1, x.3)

pub returns-in-Ok-execute_call-clause-row : goal.returns-in-Ok-execute_call-clause-row
returns-in-Ok-execute_call-clause-row c = λ n s j.
    let m = c.args.m.now in
    let new = c.execute_call.new.m in
    let f = c.requires.front in
    let x = call_next m n c.args.k c.args.rest s j f.earlier c.in-Call.called (f.cells ∙ ap (λ (x : Cell). x ∷ items_at m.world.second.now c.args.rest) c.in-Call.is) in
    let d = c.in-Ok-execute_call.executed in
    let place = place_of s x.0.state x.0.items x.0.cut x.0.behind in
    record {
      next = x.0;
      reaches = subst (λ (t : Tree). Reaches new d.step d.output.items place x.0.behind t) x.2 (c.in-Ok-execute_call.ensures.row place x.0.behind (read x.0.state x.1) x.3);
    }
