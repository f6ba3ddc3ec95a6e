use Rattle.std.proofs.Common.{refl, ap}
use Rattle.std.proofs.lemmas.Result.{err_from_is_err_and}
use Rattle.cq_session.proofs.Causes.{writing_caused}
use Rattle.cq_session.proofs.Consulting.{missing_breaks, reader, reader_is_at, text_broken, text_ends, goals_broken, file_whole}
use Rattle.cq_session.proofs.transcript.files.write_file.Goals as goal

pub returns-in_err-text-clause-part : goal.returns-in_err-text-clause-part
returns-in_err-text-clause-part g c =
    let p = err_from_is_err_and c.from_residual.result c.from_residual.ensures.1 in
    rw (p.1, p.2) (λ o left names told. missing_breaks _ o left (g.P.Interpreter.program c.args.program.now) _ names _ _ (rw told at c.in_err-text.ensures.missing))

pub returns-in_err-text-clause-cause : goal.returns-in_err-text-clause-cause
returns-in_err-text-clause-cause g c =
    let p = err_from_is_err_and c.from_residual.result c.from_residual.ensures.1 in
    rw (p.1, p.2) (λ failed taken. c.in_err-text.ensures.cause failed taken _)

pub returns-in_err-lines-clause-part : goal.returns-in_err-lines-clause-part
returns-in_err-lines-clause-part g c =
    let p = err_from_is_err_and c.from_residual-in_err-lines.result c.from_residual-in_err-lines.ensures.1 in
    let b = g.P.Interpreter.budgets c.args.program.now in
    let from = g.P.Interpreter.program c.args.program.now in
    let held = g.O.Sink.held c.args.out.now in
    rw (p.1, p.2)
    (λ o left names told.
    let l = rw told at c.in_ok-text.ensures.text in
    text_broken b o from c.args.name.now names c.in_ok-text.text held l.0 l.1 l.2 c.requires.none_waits _ left _
    (c.in_err-lines.ensures.part o (reader b o from c.args.name.now names c.in_ok-text.text held l.0 l.1 l.2 c.requires.none_waits)
    (reader_is_at b o from c.args.name.now names c.in_ok-text.text held l.0 l.1 l.2 c.requires.none_waits)))

pub returns-in_err-lines-clause-cause : goal.returns-in_err-lines-clause-cause
returns-in_err-lines-clause-cause g c =
    let p = err_from_is_err_and c.from_residual-in_err-lines.result c.from_residual-in_err-lines.ensures.1 in
    rw (p.1, p.2)
    (λ failed taken.
    let same = c.in_ok-text.ensures.cause failed taken (g.O.Sink.faults c.args.out.now) in
    writing_caused _ _ (ap (λ k. k.shelf_faults) same) (ap (λ k. k.shelf_refused) same) refl (g.O.Sink.faults c.args.out.now) refl c.in_err-lines.field-0.0
    c.in_err-lines.ensures.cause)

pub returns-in_err-more-clause-cause : goal.returns-in_err-more-clause-cause
returns-in_err-more-clause-cause g c =
    let p = err_from_is_err_and c.from_residual-in_err-more.result c.from_residual-in_err-more.ensures.1 in
    rw (p.1, p.2)
    (λ failed taken.
    let same = c.in_ok-text.ensures.cause failed taken (g.O.Sink.faults c.args.out.now) in
    writing_caused _ _ (ap (λ k. k.shelf_faults) same) (ap (λ k. k.shelf_refused) same) refl (g.O.Sink.faults c.write_text.new.out) c.in_ok-lines.ensures.cause
    c.in_err-more.field-0.0 c.in_err-more.ensures.cause)

pub returns-in_err-more-clause-part : goal.returns-in_err-more-clause-part
returns-in_err-more-clause-part g c =
    let p = err_from_is_err_and c.from_residual-in_err-more.result c.from_residual-in_err-more.ensures.1 in
    let b = g.P.Interpreter.budgets c.args.program.now in
    let from = g.P.Interpreter.program c.args.program.now in
    let held = g.O.Sink.held c.args.out.now in
    let e = c.in_ok-lines.ensures in
    let part = rw e.budgets at c.in_err-more.ensures.part in
    rw (p.1, p.2)
    (λ o left names told.
    let l = rw told at c.in_ok-text.ensures.text in
    let at = reader_is_at b o from c.args.name.now names c.in_ok-text.text held l.0 l.1 l.2 c.requires.none_waits in
    let stands = e.whole o (reader b o from c.args.name.now names c.in_ok-text.text held l.0 l.1 l.2 c.requires.none_waits) at in
    goals_broken b o from c.args.name.now names c.in_ok-text.text held l.0 l.1 l.2 c.requires.none_waits _ _ _ c.write_text.new.text _ e.bytes e.finished stands e.pause _ left _
    (part o stands.reader _ stands.is_at.later
    (text_ends b o from c.args.name.now names c.in_ok-text.text held l.0 l.1 l.2 c.requires.none_waits _ _ _ c.write_text.new.text _ e.bytes e.finished stands e.pause)))

pub returns-clause-whole : goal.returns-clause-whole
returns-clause-whole g c =
    let b = g.P.Interpreter.budgets c.args.program.now in
    let from = g.P.Interpreter.program c.args.program.now in
    let held = g.O.Sink.held c.args.out.now in
    let e = c.in_ok-lines.ensures in
    let whole = rw e.budgets at c.in_ok-more.ensures.whole in
    rw c.and.ensures
    (λ o names told.
    let l = rw told at c.in_ok-text.ensures.text in
    let at = reader_is_at b o from c.args.name.now names c.in_ok-text.text held l.0 l.1 l.2 c.requires.none_waits in
    let stands = e.whole o (reader b o from c.args.name.now names c.in_ok-text.text held l.0 l.1 l.2 c.requires.none_waits) at in
    file_whole b o from c.args.name.now names c.in_ok-text.text held l.0 l.1 l.2 c.requires.none_waits _ _ _ c.write_text.new.text _ e.bytes e.finished stands e.pause _ (g.P.Interpreter.program c.write_waiting.new.program) _
    (whole o stands.reader _ stands.is_at.later
    (text_ends b o from c.args.name.now names c.in_ok-text.text held l.0 l.1 l.2 c.requires.none_waits _ _ _ c.write_text.new.text _ e.bytes e.finished stands e.pause)))

pub returns-clause-cause : goal.returns-clause-cause
returns-clause-cause g c = λ failed taken. rw (c.in_ok-more.ensures.cause, c.in_ok-lines.ensures.cause) (c.in_ok-text.ensures.cause failed taken (g.O.Sink.faults c.args.out.now))
