use Rattle.std.proofs.Common.{◌<◌, ◌≤◌, ◌∙◌, refl, subst, arith, length}
use Rattle.std.proofs.lemmas.Result.{err_from_is_err_and}
use Rattle.cq_session.proofs.Steps.{at_start}
use Rattle.cq_session.proofs.Consulting.{next_file, next_breaks, all_files}
use Rattle.cq_session.proofs.transcript.texts.write_files.Goals as goal

pub loop-name-init : goal.loop-name-init
loop-name-init g c = record {
  advanced = λ o told. rw c.none-lines.ensures (at_start _ o _ _);
  unread = λ none. refl;
  files = refl;
  none_waits = c.requires.none_waits;
  kept = c.requires.kept;
  budgets = refl;
  counts = λ failed taken. refl;
}

pub returns-in_err-more-clause-part : goal.returns-in_err-more-clause-part
returns-in_err-more-clause-part g c =
    let p = err_from_is_err_and c.from_residual.result c.from_residual.ensures.1 in
    let i = c.loop-name.invariant in
    let within : c.loop-name.name-index < length c.args.files.now = omega arith in
    let part = rw (i.budgets, i.files) at c.in_err-more.ensures.part in
    rw (p.1, p.2) (λ o left told. next_breaks _ o _ c.args.files.now c.loop-name.name-index _ within _ (g.P.Interpreter.program c.loop-name.program) _ _ (i.advanced o told) left _ _ (λ names. part o left names told))

pub returns-in_err-more-clause-cause : goal.returns-in_err-more-clause-cause
returns-in_err-more-clause-cause g c = λ failed taken.
    let p = err_from_is_err_and c.from_residual.result c.from_residual.ensures.1 in
    let cause = c.in_err-more.ensures.cause failed taken in
    rw (p.1, p.2) (rw (c.loop-name.invariant.counts failed taken) at cause)

pub loop-name-preserved : goal.loop-name-preserved
loop-name-preserved g c =
    let i = c.loop-name.invariant in
    let e = c.in_ok-more.ensures in
    let within : c.loop-name.name-index < length c.args.files.now = omega arith in
    let whole = rw (i.budgets, i.files) at e.whole in
    record {
      advanced = λ o told.
          rw c.and-lines.ensures
          (next_file _ o _ c.args.files.now c.loop-name.name-index _ within _ (g.P.Interpreter.program c.loop-name.program) _ _ (i.advanced o told) _
          (g.P.Interpreter.program c.write_file.new.program) _ (λ names. whole o names told));
      unread = λ none. let no : c.loop-name.name-index < 0 = subst (λ l. c.loop-name.name-index < length l) none within in absurd (omega (arith, no));
      files = e.files ∙ i.files;
      none_waits = e.none_waits;
      kept = e.kept;
      budgets = e.budgets ∙ i.budgets;
      counts = λ failed taken. e.cause failed taken ∙ i.counts failed taken;
    }

pub returns-clause-whole : goal.returns-clause-whole
returns-clause-whole g c =
    let past : length c.args.files.now ≤ c.loop-name.name-index = omega arith in
    λ o told. all_files _ o _ c.args.files.now c.loop-name.name-index past _ (g.P.Interpreter.program c.loop-name.program) _ _ (c.loop-name.invariant.advanced o told)
