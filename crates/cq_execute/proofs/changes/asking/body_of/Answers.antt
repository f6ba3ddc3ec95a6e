use Rattle.std.proofs.Common.{codes, refl}
use Rattle.cq_execute.proofs.ChangesAsked.{built_none}
use Rattle.cq_execute.proofs.changes.asking.body_of.Goals as goal

pub returns-in-Some-clause-more : goal.returns-in-Some-clause-more
returns-in-Some-clause-more c = built_none c.args.m.now

pub returns-in_ok-truth-in-None-clause-built : goal.returns-in_ok-truth-in-None-clause-built
returns-in_ok-truth-in-None-clause-built c = rw c.in-None.is (c.in_ok-truth-in-None.ensures.built (codes "true") c.requires.sound.known.truth)
