use Rattle.std.proofs.Common.{Err, ap}
use Rattle.std.specs.Prelude.{is_some}
use Rattle.cq_words.specs.Asked.{as_asked}
use Rattle.cq_words.specs.Language.{asked_by}
use Rattle.cq_session.proofs.Asked.{may_answer, may_generate}
use Rattle.cq_session.proofs.Causes.{whole_caused, without_words_caused}
use Rattle.cq_session.proofs.Outcomes.{gen_shows, gen_without_words, if_some, if_some_all, whole_shows, without_words_shows}
use Rattle.cq_session.proofs.running.answer.Goals as goal

pub returns-in-Err-clause-shows : goal.returns-in-Err-clause-shows
returns-in-Err-clause-shows g c = if_some_all _ _ (λ o. without_words_shows o _ _ (asked_by c.args.words.now) c.in-Err.fault c.without_words.result
    c.without_words.ensures (λ e. c.in-Err.ensures.refused (ap (λ f. Err f) e)))

pub returns-in-Err-clause-cause : goal.returns-in-Err-clause-cause
returns-in-Err-clause-cause g c = without_words_caused _ (asked_by c.args.words.now) c.in-Err.fault c.without_words.result c.without_words.ensures
    (λ e. c.in-Err.ensures.refused (ap (λ f. Err f) e))

pub transcribe-requires : goal.transcribe-requires
transcribe-requires g c = may_answer c.args.words.now (as_asked c.in-Run.asked) (rw c.in-Run.is at c.in-Ok.ensures.asked)

pub returns-in-Ok-transcribe-clause-shows : goal.returns-in-Ok-transcribe-clause-shows
returns-in-Ok-transcribe-clause-shows g c = if_some _ _ _ (λ o h. whole_shows o (as_asked c.in-Run.asked) _ _ _ (asked_by c.args.words.now) (rw c.in-Run.is at c.in-Ok.ensures.asked)
    c.in-Ok-transcribe.lines h) c.in-Ok-transcribe.ensures.whole

pub returns-in-Ok-transcribe-clause-cause : goal.returns-in-Ok-transcribe-clause-cause
returns-in-Ok-transcribe-clause-cause g c =
    let asked = rw c.in-Run.is at c.in-Ok.ensures.asked in
    whole_caused _ _ (asked_by c.args.words.now) (ap is_some asked) c.in-Ok-transcribe.lines.faulty c.in-Ok-transcribe.lines.stopped c.in-Ok-transcribe.ensures.cause

-- ---- a number

pub generate-requires : goal.generate-requires
generate-requires g c =
    let h = may_generate c.args.words.now c.in-Gen.number (rw c.in-Gen.is at c.in-Ok.ensures.asked) in
    record { some = h.0; few = h.1 }

pub returns-clause-shows : goal.returns-clause-shows
returns-clause-shows g c = if_some_all _ _ (λ o. gen_shows o _ c.in-Gen.number (asked_by c.args.words.now) (rw c.in-Gen.is at c.in-Ok.ensures.asked) _ _ _ c.generate.ensures.shows)

pub returns-in-Err-clause-generates : goal.returns-in-Err-clause-generates
returns-in-Err-clause-generates g c = λ n asked. gen_without_words n _ c.in-Err.fault c.without_words.result c.without_words.ensures
    (λ e. let none = c.in-Err.ensures.refused (ap (λ f. Err f) e) in cc)
