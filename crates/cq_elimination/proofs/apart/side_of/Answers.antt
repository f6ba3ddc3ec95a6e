use Rattle.cq_elimination.proofs.Bounds.{is_negative}
use Rattle.cq_elimination.proofs.apart.side_of.Goals as goal

pub returns-else-is_positive : goal.returns-else-is_positive
returns-else-is_positive c = is_negative c.args.factor c.requires.nonzero c.if-is_positive.ensures.otherwise
