use Rattle.std.proofs.Common.{refl}
use Rattle.std.proofs.lemmas.Result.{err_from_is_err_and}
use Rattle.cq_session.proofs.generating.writing.write_gen.Goals as goal

pub returns-in_err-course-clause-part : goal.returns-in_err-course-clause-part
returns-in_err-course-clause-part g c =
    let p = err_from_is_err_and c.from_residual.result c.from_residual.ensures.1 in
    rw (p.1, p.2) refl

pub returns-in_err-write_whole-clause-part : goal.returns-in_err-write_whole-clause-part
returns-in_err-write_whole-clause-part g c =
    let p = err_from_is_err_and c.from_residual-in_err-write_whole.result c.from_residual-in_err-write_whole.ensures.1 in
    let part = rw c.deref.ensures.value at c.in_err-write_whole.ensures.part in
    rw (p.1, p.2) (record { line = c.in_ok-course.course.line.items; stops = c.in_ok-course.course.stopped; writes = c.in_ok-course.ensures; written = part })

pub returns-clause-whole : goal.returns-clause-whole
returns-clause-whole g c =
    let whole = rw c.deref.ensures.value at c.in_ok-write_whole.ensures.whole in
    rw c.lines_of.ensures (record { line = c.in_ok-course.course.line.items; writes = c.in_ok-course.ensures; no_error = refl; written = whole })
