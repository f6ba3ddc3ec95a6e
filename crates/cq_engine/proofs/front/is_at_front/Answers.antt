use Rattle.std.proofs.Common.{sym, subst}
use Rattle.cq_control.specs.Items.{items_at}
use Rattle.cq_branch.specs.Marks.{IsFront}
use Rattle.cq_engine.proofs.front.is_at_front.Goals as goal

pub returns-in-Some : goal.returns-in-Some
returns-in-Some c = λ e. subst IsFront (sym c.in-Some.ensures.some) (c.is_clear.ensures e (items_at c.args.m.now.world.second.now c.in-Some._rest))

pub returns-in-None : goal.returns-in-None
returns-in-None c = λ e. subst IsFront (sym c.in-None.ensures.none) tt
