use Rattle.std.proofs.Common.{refl}
use Rattle.cq_words.specs.Language.{asked_by}
use Rattle.cq_session.proofs.Outcomes.{complete, ended, gen_complete, gen_ended, if_some, tells}
use Rattle.cq_session.proofs.running.run.Goals as goal

pub returns-clause-text : goal.returns-clause-text
returns-clause-text g c = if_some _ _ _ (λ o h. ended _ c.status_of.result c.status_of.ensures o _ (asked_by c.args.words.now) _ _ _ c.tell.ensures h)
    c.answer-how.ensures.shows

pub returns-clause-line : goal.returns-clause-line
returns-clause-line g c = tells _ c.status_of.result c.status_of.ensures _ c.tell.ensures

pub returns-clause-complete : goal.returns-clause-complete
returns-clause-complete g c = if_some _ _ _ (λ o h. complete _ c.status_of.result c.status_of.ensures o _ (asked_by c.args.words.now) _ _ _ _
    c.completeness_follows.ensures.run c.answer-how.ensures.cause h) c.answer-how.ensures.shows

pub returns-clause-generates : goal.returns-clause-generates
returns-clause-generates g c = λ n asked. gen_ended n _ c.status_of.result c.status_of.ensures _ _ _ c.tell.ensures (c.answer-how.ensures.generates n asked)

pub returns-clause-generates_whole : goal.returns-clause-generates_whole
returns-clause-generates_whole g c = λ n asked clear.
    gen_complete n _ c.status_of.result c.status_of.ensures _ _ _ _ c.completeness_follows.ensures.generated (asked_by c.args.words.now) asked
    c.answer-how.ensures.cause (c.answer-how.ensures.generates n asked) clear

pub returns-clause-limits : goal.returns-clause-limits
returns-clause-limits g c = (refl, refl, refl, refl, refl, refl)
