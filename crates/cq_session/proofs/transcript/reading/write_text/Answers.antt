use Rattle.std.proofs.Common.{◌∙◌, refl}
use Rattle.std.proofs.lemmas.Result.{err_from_is_err_and}
use Rattle.cq_session.proofs.Steps.{broken_more}
use Rattle.cq_session.proofs.Clauses.{stands_at_once, stands_both}
use Rattle.cq_session.proofs.transcript.reading.write_text.Goals as goal

pub clauses-init : goal.clauses-init
clauses-init g c = record {
  stands = λ o r at. rw c.none-lines.ensures (stands_at_once _ o r _ _ _ _ at);
  place = c.requires.place;
  short = λ s. s;
  bytes = refl;
  finished = refl;
  kept = c.requires.kept;
  budgets = refl;
  faults = refl;
}

pub returns-in_err-pause-clause-part : goal.returns-in_err-pause-clause-part
returns-in_err-pause-clause-part g c =
    let p = err_from_is_err_and c.from_residual.result c.from_residual.ensures.1 in
    let i = c.clauses.invariant in
    let part = rw i.budgets at c.in_err-pause.ensures.part in
    rw (p.1, p.2)
    (λ o r at.
    let h = i.stands o r at in
    broken_more _ o _ _ _ _ _ h.advanced _ _ (part o h.reader h.is_at))

pub returns-in-Pauses-clause-whole : goal.returns-in-Pauses-clause-whole
returns-in-Pauses-clause-whole g c =
    let i = c.clauses.invariant in
    let whole = rw (c.in-Pauses.is, i.budgets) at c.in_ok-pause.ensures.whole in
    λ o r at. stands_both _ o r _ _ _ _ _ _ _ _ _ _ _ (i.stands o r at) (whole o)

pub clauses-preserved : goal.clauses-preserved
clauses-preserved g c =
    let i = c.clauses.invariant in
    let next = c.in_ok-pause.ensures in
    let whole = rw (c.in-Goes.is, i.budgets) at next.whole in
    record {
      stands = λ o r at. rw c.and-lines.ensures (stands_both _ o r _ _ _ _ _ _ _ _ _ _ _ (i.stands o r at) (whole o));
      place = next.place;
      short = λ s. next.short (i.short s);
      bytes = next.bytes ∙ i.bytes;
      finished = next.finished ∙ i.finished;
      kept = next.kept;
      budgets = next.budgets ∙ i.budgets;
      faults = next.cause ∙ i.faults;
    }

pub returns-in-Pauses-clause-short : goal.returns-in-Pauses-clause-short
returns-in-Pauses-clause-short g c = λ s. c.in_ok-pause.ensures.short (c.clauses.invariant.short s)
