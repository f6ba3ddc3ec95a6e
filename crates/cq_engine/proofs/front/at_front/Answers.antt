use Rattle.std.proofs.Common.{Some}
use Rattle.cq_control.specs.Items.{items_at}
use Rattle.cq_engine.proofs.Engines.{kept_where, answers_next, halts_out, gains_none, comes_at_once, mark_next}
use Rattle.cq_engine.proofs.front.at_front.Goals as goal

pub first-requires : goal.first-requires
first-requires c = let w = c.requires.works in w.2.current.3.there

pub returns-in_default-clause-next : goal.returns-in_default-clause-next
returns-in_default-clause-next c = (λ budgets e b s j. answers_next budgets c.args.m.now c.args.selected c.args.k s c.in_default.ensures.none j, tt)

pub returns-in_default-clause-kept : goal.returns-in_default-clause-kept
returns-in_default-clause-kept c = kept_where c.args.m.now c.requires.sound

pub returns-in_default-clause-program : goal.returns-in_default-clause-program
returns-in_default-clause-program c = gains_none c.args.m.now

pub returns-then-not-is_goal-clause-next : goal.returns-then-not-is_goal-clause-next
returns-then-not-is_goal-clause-next c = (
  λ steps n s j. comes_at_once c.args.m.now steps n (Some c.args.k) s j,
  c.requires.sound,
  mark_next (items_at c.args.m.now.world.second.now c.args.k) (items_at c.args.m.now.world.second.now c.in-Some._rest) c.in-Some.cell c.in-Some.ensures.some
      (c.is_goal.ensures.mark c.if-not-is_goal.true (items_at c.args.m.now.world.second.now c.in-Some._rest)) c.requires.front,
)

pub halt-requires : goal.halt-requires
halt-requires c = kept_where c.args.m.now c.requires.sound

pub returns-then-is_spent-clause-next : goal.returns-then-is_spent-clause-next
returns-then-is_spent-clause-next c = (
  λ budgets e b s j.
      halts_out budgets c.args.m.now c.halt.new.m c.args.selected c.args.k c.in-Some._rest c.args.steps c.in-Some.cell s c.halt.ensures.program c.halt.ensures.none_left e
      (c.is_spent.ensures.spent c.if-is_spent.true) c.in-Some.ensures.earlier c.in-Some.ensures.some (c.is_goal.ensures.goal c.if-not-is_goal.false) j,
  tt,
)

pub returns-clause-next : goal.returns-clause-next
returns-clause-next c = (
  λ budgets e b s j. comes_at_once c.args.m.now budgets.steps c.args.selected (Some c.args.k) s j,
  record {
    sound = c.requires.sound;
    rest = c.in-Some._rest;
    earlier = c.in-Some.ensures.earlier;
    cell = c.in-Some.cell;
    cells = c.in-Some.ensures.some;
    goal = c.is_goal.ensures.goal c.if-not-is_goal.false;
    few = c.is_spent.ensures.few c.if-is_spent.false;
  },
)
