use Rattle.cq_words.specs.Asked.{as_asked}
use Rattle.cq_session.proofs.Outcomes.{if_some_all, no_memory_at_first}
use Rattle.cq_session.proofs.running.transcribe.Goals as goal

pub returns-in-Err-clause-part : goal.returns-in-Err-clause-part
returns-in-Err-clause-part g c = if_some_all _ _ (λ o. no_memory_at_first o _ _ (as_asked c.args.asked.now))
