use Rattle.cq_cexpr.proofs.Overflowing.{first_order, second_order}
use Rattle.cq_cexpr.proofs.relations.related.Goals as goal

pub returns-in-Equals-clause-overflow : goal.returns-in-Equals-clause-overflow
returns-in-Equals-clause-overflow c = λ pair e. first_order c.args.left c.args.right pair (c.of_difference.ensures.overflow pair e)

pub returns-in-Differs-clause-overflow : goal.returns-in-Differs-clause-overflow
returns-in-Differs-clause-overflow c = λ pair e. first_order c.args.left c.args.right pair (c.of_difference-in-Differs.ensures.overflow pair e)

pub returns-in-Greater-clause-overflow : goal.returns-in-Greater-clause-overflow
returns-in-Greater-clause-overflow c = λ pair e. first_order c.args.left c.args.right pair (c.of_difference-in-Greater.ensures.overflow pair e)

pub returns-in-GreaterOrEqual-clause-overflow : goal.returns-in-GreaterOrEqual-clause-overflow
returns-in-GreaterOrEqual-clause-overflow c = λ pair e. first_order c.args.left c.args.right pair (c.of_difference-in-GreaterOrEqual.ensures.overflow pair e)

pub returns-in-Lesser-clause-overflow : goal.returns-in-Lesser-clause-overflow
returns-in-Lesser-clause-overflow c = λ pair e. second_order c.args.left c.args.right pair (c.of_difference-in-Lesser.ensures.overflow pair e)

pub returns-in-LesserOrEqual-clause-overflow : goal.returns-in-LesserOrEqual-clause-overflow
returns-in-LesserOrEqual-clause-overflow c = λ pair e. second_order c.args.left c.args.right pair (c.of_difference-in-LesserOrEqual.ensures.overflow pair e)
