use Rattle.cq_builtin.proofs.functors.of_unbound.Goals as goal

pub returns-in-Err-clause-culprit : goal.returns-in-Err-clause-culprit
returns-in-Err-clause-culprit c = c.in-Err.ensures.culprit c.args.atoms.now
