use Rattle.cq_branch.specs.Worlds.{value}
use Rattle.cq_branch.proofs.Budgets.{same_budget}
use Rattle.cq_choices.proofs.taking.take_ways.Goals as goal

pub returns-clause-budget : goal.returns-clause-budget
returns-clause-budget c =
    same_budget c.args.world.now.first c.args.world.now.second.saved c.args.choices.now (value c.retry.new.world.first c.retry.new.world.second.now)
    c.retry.result c.retry.ensures.open.0 c.retry.ensures.open.1
