use Rattle.std.proofs.Common.{Bool, None, Some, ap, sym, ◌∙◌}
use Rattle.std.specs.Prelude.{if◌then◌else◌}
use Rattle.cq_attr.specs.declared.susp.Susp.{Susp}
use Rattle.cq_settle.specs.Steps.{goal_that_wakes}
use Rattle.cq_settle.proofs.Ways.{found_live}
use Rattle.cq_settle.proofs.Again.{wakes_none, wakes_goal}
use Rattle.cq_settle.proofs.closing.wake_one.Goals as goal

pub returns-in-Delayed-clause-wakes : goal.returns-in-Delayed-clause-wakes
returns-in-Delayed-clause-wakes c =
    wakes_none c.args.heap.now.now.images c.args.number c.args.attrs.now.now c.args.goals.now.items c.susp.result.now c.susp.ensures
    (ap (goal_that_wakes c.args.heap.now.now.images) c.in-Delayed.is)

pub is_variable-requires : goal.is_variable-requires
is_variable-requires c =
    (found_live c.args.heap.now.now c.args.attrs.now.now.waiting c.args.number _ c.requires.live (c.susp.ensures ∙ ap (λ (s : Susp). Some s) c.in-Goal.is)).0

pub returns-then-is_variable-clause-wakes : goal.returns-then-is_variable-clause-wakes
returns-then-is_variable-clause-wakes c =
    wakes_none c.args.heap.now.now.images c.args.number c.args.attrs.now.now c.args.goals.now.items c.susp.result.now c.susp.ensures
    (ap (goal_that_wakes c.args.heap.now.now.images) c.in-Goal.is
    ∙ ap (λ (b : Bool). if b then None else Some c.in-Goal.goal) (sym c.is_variable.ensures ∙ c.if-is_variable.true))

pub returns-in_ok-push-in-Goal-clause-wakes : goal.returns-in_ok-push-in-Goal-clause-wakes
returns-in_ok-push-in-Goal-clause-wakes c =
    wakes_goal c.args.heap.now.now.images c.args.number c.args.attrs.now.now c.take.new.self.now c.args.goals.now.items c.push.new.self.items c.susp.result.now c.susp.ensures
    c.in-Goal.goal
    (ap (goal_that_wakes c.args.heap.now.now.images) c.in-Goal.is
    ∙ ap (λ (b : Bool). if b then None else Some c.in-Goal.goal) (sym c.is_variable.ensures ∙ c.if-is_variable.false))
    c.in_ok-take-in-Goal.ensures.ok c.in_ok-push-in-Goal.ensures.items
