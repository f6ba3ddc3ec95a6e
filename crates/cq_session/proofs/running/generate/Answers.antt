use Rattle.std.proofs.Common.{refl}
use Rattle.cq_session.proofs.Causes.{broken_caused, whole_caused, writing_caused}
use Rattle.cq_session.proofs.Outcomes.{gen_broken, gen_whole}
use Rattle.cq_session.proofs.running.generate.Goals as goal

pub returns-in-Ok-clause-shows : goal.returns-in-Ok-clause-shows
returns-in-Ok-clause-shows g c = gen_whole _ _ _ c.in-Ok.lines c.in-Ok.ensures.whole

pub returns-in-Ok-clause-cause : goal.returns-in-Ok-clause-cause
returns-in-Ok-clause-cause g c = λ absent refused failed taken.
    whole_caused _ _ _ refl c.in-Ok.lines.faulty c.in-Ok.lines.stopped (record { loads = refl; refusals = refl; reads = refl; writes = c.in-Ok.ensures.cause })

pub returns-in-Err-clause-shows : goal.returns-in-Err-clause-shows
returns-in-Err-clause-shows g c = gen_broken _ _ _ c.in-Err.halt c.in-Err.ensures.part

pub returns-in-Err-clause-cause : goal.returns-in-Err-clause-cause
returns-in-Err-clause-cause g c = λ absent refused failed taken.
    broken_caused _ _ _ refl c.in-Err.halt (writing_caused _ _ refl refl refl _ refl c.in-Err.halt c.in-Err.ensures.cause)
