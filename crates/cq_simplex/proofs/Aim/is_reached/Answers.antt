use Rattle.cq_simplex.proofs.Turns.{positive_reached}
use Rattle.cq_simplex.proofs.Aim.is_reached.Goals as goal

pub returns-in-Positive : goal.returns-in-Positive
returns-in-Positive c = positive_reached c.is_positive.result c.args.self c.args.value c.in-Positive.is c.is_positive.ensures.positive c.is_positive.ensures.otherwise
