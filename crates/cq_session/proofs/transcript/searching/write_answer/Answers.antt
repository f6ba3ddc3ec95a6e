use Rattle.std.proofs.Common.{rules, ◌≡◌, ◌++◌, ◌-◌, codes, arith}
use Rattle.std.proofs.lemmas.Result.{err_from_is_err_and}
use Rattle.spec_transcript.specs.Session.{AQuery, Reading, Searching, unmarked}
use Rattle.spec_engine.specs.Parts.{a_stop}
use Rattle.cq_session.proofs.Steps.{nothing_yet}
use Rattle.cq_session.proofs.Searches.{answer_written, answer_broken, stop_writes, last_writes, next_writes}
use Rattle.cq_session.proofs.transcript.searching.write_answer.Goals as goal

pub returns-in_err-line-clause-part : goal.returns-in_err-line-clause-part
returns-in_err-line-clause-part g c =
    let p = err_from_is_err_and c.from_residual.result c.from_residual.ensures.1 in
    rw (p.1, p.2) (λ s t a o r. nothing_yet _ o _ _)

pub returns-in_err-finish-in-Stop-clause-part : goal.returns-in_err-finish-in-Stop-clause-part
returns-in_err-finish-in-Stop-clause-part g c =
    let p = err_from_is_err_and c.from_residual-in_err-finish-in-Stop.result c.from_residual-in_err-finish-in-Stop.ensures.1 in
    let e = rw c.in-Stop.is at c.in_ok-line.ensures.lines in
    rw (p.1, p.2, c.in_err-finish-in-Stop.ensures.part.0)
    (answer_broken _ _ _ _ _ _ c.in-Stop.line.now a_stop (λ t r. Reading t.database r) (stop_writes _ _ _ _ c.in-Stop.line.now e) c.in_err-finish-in-Stop.ensures.part.1)

pub returns-in_err-extend_from_slice-in-Lines-clause-part :
    goal.returns-in_err-extend_from_slice-in-Lines-clause-part
returns-in_err-extend_from_slice-in-Lines-clause-part g c =
    let p = err_from_is_err_and c.from_residual-in_err-extend_from_slice-in-Lines.result c.from_residual-in_err-extend_from_slice-in-Lines.ensures.1 in
    rw (p.1, p.2) (λ s t a o r. nothing_yet _ o _ _)

pub returns-in_err-extend_from_slice-in-Lines-2-clause-part :
    goal.returns-in_err-extend_from_slice-in-Lines-2-clause-part
returns-in_err-extend_from_slice-in-Lines-2-clause-part g c =
    let p = err_from_is_err_and c.from_residual-in_err-extend_from_slice-in-Lines-2.result c.from_residual-in_err-extend_from_slice-in-Lines-2.ensures.1 in
    rw (p.1, p.2) (λ s t a o r. nothing_yet _ o _ _)

pub returns-in_err-write_whole-in-Lines-clause-part :
    goal.returns-in_err-write_whole-in-Lines-clause-part
returns-in_err-write_whole-in-Lines-clause-part g c =
    let p = err_from_is_err_and c.from_residual-in_err-write_whole-in-Lines.result c.from_residual-in_err-write_whole-in-Lines.ensures.1 in
    let e = rw c.in-Lines.is at c.in_ok-line.ensures.lines in
    let u : c.deref.result.now ≡ c.in-Lines.text.items ++ codes ";\n" = search rules in
    rw (p.1, p.2)
    (answer_broken _ _ _ _ _ _ c.deref.result.now unmarked (λ t r. Searching t (AQuery (g.P.Interpreter.names c.args.program.now) (c.args.left - 1)) r)
    (next_writes _ _ _ _ c.in-Lines.text.items e c.deref.result.now u (omega (arith, c.if-left-gt1.true))) c.in_err-write_whole-in-Lines.ensures.part)

pub returns-then-left-gt1-clause-whole : goal.returns-then-left-gt1-clause-whole
returns-then-left-gt1-clause-whole g c =
    let e = rw c.in-Lines.is at c.in_ok-line.ensures.lines in
    let u : c.deref.result.now ≡ c.in-Lines.text.items ++ codes ";\n" = search rules in
    answer_written _ _ _ _ _ _ c.deref.result.now unmarked (λ t r. Searching t (AQuery (g.P.Interpreter.names c.args.program.now) (c.args.left - 1)) r)
    (next_writes _ _ _ _ c.in-Lines.text.items e c.deref.result.now u (omega (arith, c.if-left-gt1.true))) c.in_ok-write_whole-in-Lines.ensures.whole

pub returns-in_err-finish-in-Lines-clause-part : goal.returns-in_err-finish-in-Lines-clause-part
returns-in_err-finish-in-Lines-clause-part g c =
    let p = err_from_is_err_and c.from_residual-in_err-finish-in-Lines.result c.from_residual-in_err-finish-in-Lines.ensures.1 in
    let e = rw c.in-Lines.is at c.in_ok-line.ensures.lines in
    let u : c.deref-in-Lines.result.now ≡ (c.in-Lines.text.items ++ codes ";\n") ++ codes "more\n" = search rules in
    rw (p.1, p.2, c.in_err-finish-in-Lines.ensures.part.0)
    (answer_broken _ _ _ _ _ _ c.deref-in-Lines.result.now unmarked (λ t r. Reading t.database r)
    (last_writes _ _ _ _ c.in-Lines.text.items e c.deref-in-Lines.result.now u (omega (arith, c.if-left-gt1.false, c.requires.some))) c.in_err-finish-in-Lines.ensures.part.1)

pub returns-in_ok-finish-in-Stop-clause-whole : goal.returns-in_ok-finish-in-Stop-clause-whole
returns-in_ok-finish-in-Stop-clause-whole g c =
    let e = rw c.in-Stop.is at c.in_ok-line.ensures.lines in
    rw (c.in_ok-finish-in-Stop.ensures.lines, c.stop.ensures)
    (answer_written _ _ _ _ _ _ c.in-Stop.line.now a_stop (λ t r. Reading t.database r) (stop_writes _ _ _ _ c.in-Stop.line.now e) c.in_ok-finish-in-Stop.ensures.whole)

pub returns-in_ok-finish-in-Lines-clause-whole : goal.returns-in_ok-finish-in-Lines-clause-whole
returns-in_ok-finish-in-Lines-clause-whole g c =
    let e = rw c.in-Lines.is at c.in_ok-line.ensures.lines in
    let u : c.deref-in-Lines.result.now ≡ (c.in-Lines.text.items ++ codes ";\n") ++ codes "more\n" = search rules in
    rw (c.in_ok-finish-in-Lines.ensures.lines, c.none.ensures)
    (answer_written _ _ _ _ _ _ c.deref-in-Lines.result.now unmarked (λ t r. Reading t.database r)
    (last_writes _ _ _ _ c.in-Lines.text.items e c.deref-in-Lines.result.now u (omega (arith, c.if-left-gt1.false, c.requires.some))) c.in_ok-finish-in-Lines.ensures.whole)
