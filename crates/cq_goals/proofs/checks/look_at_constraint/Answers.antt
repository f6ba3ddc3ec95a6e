use Rattle.cq_goals.proofs.checks.look_at_constraint.Goals as goal

pub returns-in-None-clause-culprit : goal.returns-in-None-clause-culprit
returns-in-None-clause-culprit c = c.no_sides_error.ensures.culprit c.args.atoms.now
