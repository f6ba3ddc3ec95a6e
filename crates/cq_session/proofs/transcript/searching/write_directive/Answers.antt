use Rattle.std.proofs.Common.{◌∙◌, ap, refl}
use Rattle.std.proofs.lemmas.Result.{err_from_is_err_and}
use Rattle.spec_transcript.specs.Session.{ADirective}
use Rattle.cq_session.proofs.Steps.{appends_nothing}
use Rattle.cq_session.proofs.Searches.{comes_at_once, comes_writing, breaks_writing, ends_failing, ends_raising, ends_stopping, ends_succeeding, ended, finished, unfinished, wants_memory}
use Rattle.cq_session.proofs.transcript.searching.write_directive.Goals as goal

pub events-init : goal.events-init
events-init g c = record { came = λ s stands. comes_at_once _ _ s ADirective _ stands; kept = c.requires.kept; budgets = refl; later = refl; faults = refl }

pub next-requires : goal.next-requires
next-requires g c =
    let h = c.events.invariant.came c.requires.runs.0 c.requires.runs.1 in
    record { kept = c.events.invariant.kept; runs = (h.reached, h.stands) }

pub returns-in_err-text-clause-part : goal.returns-in_err-text-clause-part
returns-in_err-text-clause-part g c =
    let p = err_from_is_err_and c.from_residual.result c.from_residual.ensures.1 in
    rw (p.1, p.2) (λ s stands o r. wants_memory _ _ s ADirective ADirective _ _ (c.events.invariant.came s stands) o r)

pub returns-in_err-write_whole-in-Wrote-clause-part :
    goal.returns-in_err-write_whole-in-Wrote-clause-part
returns-in_err-write_whole-in-Wrote-clause-part g c =
    let p = err_from_is_err_and c.from_residual-in_err-write_whole-in-Wrote.result c.from_residual-in_err-write_whole-in-Wrote.ensures.1 in
    let i = c.events.invariant in
    let event = rw (c.in-Wrote.is, i.budgets) at c.in_ok-text.ensures.event in
    let part = rw c.deref.ensures.value at c.in_err-write_whole-in-Wrote.ensures.part in
    rw (p.1, p.2)
    (λ s stands o r.
    let h = i.came s stands in
    breaks_writing _ _ _ _ _ s ADirective ADirective _ _ h c.in-Wrote.text.items _ (event h.reached h.stands) part o r)

pub events-preserved : goal.events-preserved
events-preserved g c =
    let i = c.events.invariant in
    let event = rw (c.in-Wrote.is, i.budgets) at c.in_ok-text.ensures.event in
    let whole = rw c.deref.ensures.value at c.in_ok-write_whole-in-Wrote.ensures.whole in
    let h = i.came c.requires.runs.0 c.requires.runs.1 in
    record {
      came = λ s stands. let j = i.came s stands in comes_writing _ _ _ _ _ s ADirective ADirective _ _ j c.in-Wrote.text.items _ (event j.reached j.stands) whole;
      kept = c.in_ok-text.ensures.kept;
      budgets = c.in_ok-text.ensures.budgets ∙ i.budgets;
      later = ap (λ x. x.later) (event h.reached h.stands).program ∙ i.later;
      faults = c.in_ok-write_whole-in-Wrote.ensures.cause ∙ i.faults;
    }

pub returns-in-Answer-clause-whole : goal.returns-in-Answer-clause-whole
returns-in-Answer-clause-whole g c =
    let i = c.events.invariant in
    let event = rw (c.in-Answer.is, i.budgets) at c.in_ok-text.ensures.event in
    rw c.none.ensures
    (λ s stands o r.
    let h = i.came s stands in
    ended _ _ _ ADirective ADirective _ _ _ i.came _ _ _ (ends_succeeding _ _ _ _ _ _ event) s stands o r (appends_nothing _))

pub returns-in-Fail-clause-whole : goal.returns-in-Fail-clause-whole
returns-in-Fail-clause-whole g c =
    let i = c.events.invariant in
    let event = rw (c.in-Fail.is, i.budgets) at c.in_ok-text.ensures.event in
    finished _ _ _ ADirective ADirective _ _ _ i.came _ _ _ (ends_failing _ _ _ _ ADirective event) _ c.finish.result c.none-in-Fail.ensures c.finish.ensures.lines c.finish.ensures.whole

pub returns-in-Fail-clause-part : goal.returns-in-Fail-clause-part
returns-in-Fail-clause-part g c =
    let i = c.events.invariant in
    let event = rw (c.in-Fail.is, i.budgets) at c.in_ok-text.ensures.event in
    unfinished _ _ _ ADirective ADirective _ _ _ i.came _ _ _ (ends_failing _ _ _ _ ADirective event) c.finish.result c.finish.ensures.part

pub returns-in-Ball-clause-whole : goal.returns-in-Ball-clause-whole
returns-in-Ball-clause-whole g c =
    let i = c.events.invariant in
    let event = rw (c.in-Ball.is, i.budgets) at c.in_ok-text.ensures.event in
    finished _ _ _ ADirective ADirective _ _ _ i.came _ c.in-Ball.line.items _ (ends_raising _ _ _ _ ADirective c.in-Ball.line.items event) _ c.finish-in-Ball.result c.error.ensures c.finish-in-Ball.ensures.lines (rw c.deref-in-Ball.ensures.value at c.finish-in-Ball.ensures.whole)

pub returns-in-Ball-clause-part : goal.returns-in-Ball-clause-part
returns-in-Ball-clause-part g c =
    let i = c.events.invariant in
    let event = rw (c.in-Ball.is, i.budgets) at c.in_ok-text.ensures.event in
    unfinished _ _ _ ADirective ADirective _ _ _ i.came _ c.in-Ball.line.items _ (ends_raising _ _ _ _ ADirective c.in-Ball.line.items event) c.finish-in-Ball.result (rw c.deref-in-Ball.ensures.value at c.finish-in-Ball.ensures.part)

pub returns-in-Stop-clause-whole : goal.returns-in-Stop-clause-whole
returns-in-Stop-clause-whole g c =
    let i = c.events.invariant in
    let event = rw (c.in-Stop.is, i.budgets) at c.in_ok-text.ensures.event in
    finished _ _ _ ADirective ADirective _ _ _ i.came _ c.in-Stop.line.now _ (ends_stopping _ _ _ _ ADirective c.in-Stop.line.now event) _ c.finish-in-Stop.result c.stop.ensures c.finish-in-Stop.ensures.lines c.finish-in-Stop.ensures.whole

pub returns-in-Stop-clause-part : goal.returns-in-Stop-clause-part
returns-in-Stop-clause-part g c =
    let i = c.events.invariant in
    let event = rw (c.in-Stop.is, i.budgets) at c.in_ok-text.ensures.event in
    unfinished _ _ _ ADirective ADirective _ _ _ i.came _ c.in-Stop.line.now _ (ends_stopping _ _ _ _ ADirective c.in-Stop.line.now event) c.finish-in-Stop.result c.finish-in-Stop.ensures.part
