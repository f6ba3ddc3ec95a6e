use Rattle.std.proofs.Common.{sym}
use Rattle.cq_unify.proofs.order.order.compare.Goals as goal

pub returns-in-Same : goal.returns-in-Same
returns-in-Same c = sym c.in-Same.ensures

pub returns-in-Apart : goal.returns-in-Apart
returns-in-Apart c = sym c.in-Apart.ensures.0
