use Rattle.std.proofs.Common.{◌≡◌, ◌∙◌, ap, rules}
use Rattle.std.proofs.lemmas.Result.{err_from_is_err_and}
use Rattle.spec_transcript.specs.Purposes.{syntax_line}
use Rattle.cq_session.proofs.Steps.{nothing_yet}
use Rattle.cq_session.proofs.Clauses.{ends_finished, goes_short, stays_short, stays, adds, waits, error_written, error_broken, syntax_step, refusal_step, searched, search_broken, directive_step, query_step}
use Rattle.cq_session.proofs.transcript.reading.write_next.Goals as goal

pub returns-in_err-read-clause-part : goal.returns-in_err-read-clause-part
returns-in_err-read-clause-part g c =
    let p = err_from_is_err_and c.from_residual.result c.from_residual.ensures.1 in
    rw (p.1, p.2) (λ o r at. nothing_yet _ o _ _)

pub returns-in_err-line-in-Syntax-clause-part : goal.returns-in_err-line-in-Syntax-clause-part
returns-in_err-line-in-Syntax-clause-part g c =
    let p = err_from_is_err_and c.from_residual-in_err-line-in-Syntax.result c.from_residual-in_err-line-in-Syntax.ensures.1 in
    rw (p.1, p.2) (λ o r at. nothing_yet _ o _ _)

-- ---- nothing more is read

pub returns-in-Needs-clause-whole : goal.returns-in-Needs-clause-whole
returns-in-Needs-clause-whole g c =
    let h = rw c.in-Needs.is at c.in_ok-read.ensures.sentence in
    let e = c.in_ok-read.ensures in
    λ o r at. stays r _ _ _ at _ o _ _ e.bytes e.finished _ h.2 h.3

pub returns-in-End-clause-whole : goal.returns-in-End-clause-whole
returns-in-End-clause-whole g c =
    let h = rw c.in-End.is at c.in_ok-read.ensures.sentence in
    let e = c.in_ok-read.ensures in
    λ o r at. stays r _ _ _ at _ o _ _ e.bytes e.finished _ h.1 h.2

pub returns-in-End-clause-turn : goal.returns-in-End-clause-turn
returns-in-End-clause-turn g c =
    let h = rw c.in-End.is at c.in_ok-read.ensures.sentence in
    let e = c.in_ok-read.ensures in
    rw (e.finished, e.bytes, h.2, h.1) (ends_finished (g.P.Interpreter.program c.args.program.now) c.args.text.now c.requires.place h.0, h.0.reads)

-- ---- clauses

pub returns-in-Added-clause-whole : goal.returns-in-Added-clause-whole
returns-in-Added-clause-whole g c =
    let h = rw c.in-Added.is at c.in_ok-read.ensures.sentence in
    let e = c.in_ok-read.ensures in
    rw c.none.ensures (λ o r at. adds r _ _ _ at _ o _ _ e.bytes e.finished _ h.0 h.1 h.2 h.3 h.4)

pub returns-in-Waits-clause-whole : goal.returns-in-Waits-clause-whole
returns-in-Waits-clause-whole g c =
    let h = rw c.in-Waits.is at c.in_ok-read.ensures.sentence in
    let e = c.in_ok-read.ensures in
    rw c.none-in-Waits.ensures (λ o r at. waits r _ _ _ at _ o _ _ e.bytes e.finished _ h.0 h.1 h.2 h.3)

-- ---- lines of errors

pub returns-in_err-write_whole-in-Syntax-clause-part :
    goal.returns-in_err-write_whole-in-Syntax-clause-part
returns-in_err-write_whole-in-Syntax-clause-part g c =
    let p = err_from_is_err_and c.from_residual-in_err-write_whole-in-Syntax.result c.from_residual-in_err-write_whole-in-Syntax.ensures.1 in
    let h = rw c.in-Syntax.is at c.in_ok-read.ensures.sentence in
    let u : c.as_bytes.result.now ≡ syntax_line c.in-Syntax.at = search rules in
    rw (p.1, p.2) (λ o r at. error_broken r _ _ _ at _ o _ h.1 c.read.new.text _ _ _ (syntax_step r _ _ _ at _ o c.read.new.text c.in-Syntax.at _ h.0 u) c.in_err-write_whole-in-Syntax.ensures.part)

pub returns-in_ok-write_whole-in-Syntax-clause-whole :
    goal.returns-in_ok-write_whole-in-Syntax-clause-whole
returns-in_ok-write_whole-in-Syntax-clause-whole g c =
    let h = rw c.in-Syntax.is at c.in_ok-read.ensures.sentence in
    let e = c.in_ok-read.ensures in
    let u : c.as_bytes.result.now ≡ syntax_line c.in-Syntax.at = search rules in
    rw c.error.ensures
    (λ o r at. error_written r _ _ _ at _ o _ h.1 c.read.new.text _ _ _ e.bytes e.finished (syntax_step r _ _ _ at _ o c.read.new.text c.in-Syntax.at _ h.0 u) c.in_ok-write_whole-in-Syntax.ensures.whole)

pub returns-in_err-write_whole-in-Refused-clause-part :
    goal.returns-in_err-write_whole-in-Refused-clause-part
returns-in_err-write_whole-in-Refused-clause-part g c =
    let p = err_from_is_err_and c.from_residual-in_err-write_whole-in-Refused.result c.from_residual-in_err-write_whole-in-Refused.ensures.1 in
    let h = rw c.in-Refused.is at c.in_ok-read.ensures.sentence in
    let part = rw c.deref.ensures.value at c.in_err-write_whole-in-Refused.ensures.part in
    rw (p.1, p.2) (λ o r at. error_broken r _ _ _ at _ o _ h.6 c.read.new.text _ _ _ (refusal_step r _ _ _ at _ o c.read.new.text h.0 h.1 h.2 _ h.3 h.4 h.5) part)

pub returns-in_ok-write_whole-in-Refused-clause-whole :
    goal.returns-in_ok-write_whole-in-Refused-clause-whole
returns-in_ok-write_whole-in-Refused-clause-whole g c =
    let h = rw c.in-Refused.is at c.in_ok-read.ensures.sentence in
    let e = c.in_ok-read.ensures in
    let whole = rw c.deref.ensures.value at c.in_ok-write_whole-in-Refused.ensures.whole in
    rw c.error-in-Refused.ensures
    (λ o r at. error_written r _ _ _ at _ o _ h.6 c.read.new.text _ _ _ e.bytes e.finished (refusal_step r _ _ _ at _ o c.read.new.text h.0 h.1 h.2 _ h.3 h.4 h.5) whole)

-- ---- searches

pub write_directive-requires : goal.write_directive-requires
write_directive-requires g c =
    let h = rw c.in-Directive.is at c.in_ok-read.ensures.sentence in
    record { kept = c.in_ok-read.ensures.kept; runs = (_, h.3.stands) }

pub returns-in_err-write_directive-in-Directive-clause-part :
    goal.returns-in_err-write_directive-in-Directive-clause-part
returns-in_err-write_directive-in-Directive-clause-part g c =
    let p = err_from_is_err_and c.from_residual-in_err-write_directive-in-Directive.result c.from_residual-in_err-write_directive-in-Directive.ensures.1 in
    let h = rw c.in-Directive.is at c.in_ok-read.ensures.sentence in
    let part = rw c.in_ok-read.ensures.budgets at c.in_err-write_directive-in-Directive.ensures.part in
    rw (p.1, p.2)
    (λ o r at. search_broken r _ _ _ at _ o (g.P.Interpreter.program c.read.new.self) c.read.new.text _ _ _
    (directive_step r _ _ _ at _ o c.read.new.text h.0 h.1 h.3.base h.2) _ (part _ h.3.stands o (record r { at = c.read.new.text.place })))

pub returns-in_ok-write_directive-in-Directive-clause-whole :
    goal.returns-in_ok-write_directive-in-Directive-clause-whole
returns-in_ok-write_directive-in-Directive-clause-whole g c =
    let h = rw c.in-Directive.is at c.in_ok-read.ensures.sentence in
    let e = c.in_ok-read.ensures in
    let done = c.in_ok-write_directive-in-Directive.ensures in
    let whole = rw e.budgets at done.whole in
    λ o r at. searched r _ _ _ at _ o _ c.read.new.text _ _ _
    (directive_step r _ _ _ at _ o c.read.new.text h.0 h.1 h.3.base h.2) _ e.bytes e.finished (done.later ∙ ap (λ x. x.later) h.4)
    (whole _ h.3.stands o (record r { at = c.read.new.text.place }))

pub write_query-requires : goal.write_query-requires
write_query-requires g c =
    let h = rw c.in-Query.is at c.in_ok-read.ensures.sentence in
    record { kept = c.in_ok-read.ensures.kept; runs = (_, h.3.stands); some = c.requires.some }

pub returns-in_err-write_query-in-Query-clause-part :
    goal.returns-in_err-write_query-in-Query-clause-part
returns-in_err-write_query-in-Query-clause-part g c =
    let p = err_from_is_err_and c.from_residual-in_err-write_query-in-Query.result c.from_residual-in_err-write_query-in-Query.ensures.1 in
    let h = rw c.in-Query.is at c.in_ok-read.ensures.sentence in
    let part = rw c.in_ok-read.ensures.budgets at c.in_err-write_query-in-Query.ensures.part in
    rw (p.1, p.2)
    (λ o r at. search_broken r _ _ _ at _ o (g.P.Interpreter.program c.read.new.self) c.read.new.text _ _ _
    (query_step r _ _ _ at _ o c.read.new.text h.0 h.1 h.3.base _ _ h.2 c.requires.answers h.3.names_are) _ (part _ h.3.stands o (record r { at = c.read.new.text.place })))

pub returns-in_ok-write_query-in-Query-clause-whole :
    goal.returns-in_ok-write_query-in-Query-clause-whole
returns-in_ok-write_query-in-Query-clause-whole g c =
    let h = rw c.in-Query.is at c.in_ok-read.ensures.sentence in
    let e = c.in_ok-read.ensures in
    let done = c.in_ok-write_query-in-Query.ensures in
    let whole = rw e.budgets at done.whole in
    λ o r at. searched r _ _ _ at _ o _ c.read.new.text _ _ _
    (query_step r _ _ _ at _ o c.read.new.text h.0 h.1 h.3.base _ _ h.2 c.requires.answers h.3.names_are) _ e.bytes e.finished (done.later ∙ ap (λ x. x.later) h.4)
    (whole _ h.3.stands o (record r { at = c.read.new.text.place }))

-- ---- where reading goes on

pub returns-in-Needs-clause-short : goal.returns-in-Needs-clause-short
returns-in-Needs-clause-short g c =
    let h = rw c.in-Needs.is at c.in_ok-read.ensures.sentence in
    let e = c.in_ok-read.ensures in
    stays_short c.args.text.now c.read.new.text h.3 e.bytes e.finished

pub returns-in-End-clause-short : goal.returns-in-End-clause-short
returns-in-End-clause-short g c =
    let h = rw c.in-End.is at c.in_ok-read.ensures.sentence in
    let e = c.in_ok-read.ensures in
    stays_short c.args.text.now c.read.new.text h.2 e.bytes e.finished

pub returns-in-Added-clause-short : goal.returns-in-Added-clause-short
returns-in-Added-clause-short g c =
    let h = rw c.in-Added.is at c.in_ok-read.ensures.sentence in
    let e = c.in_ok-read.ensures in
    goes_short (g.P.Interpreter.program c.args.program.now) c.args.text.now c.read.new.text _ c.requires.place h.2.settled (λ n. n) e.bytes e.finished

pub returns-in-Waits-clause-short : goal.returns-in-Waits-clause-short
returns-in-Waits-clause-short g c =
    let h = rw c.in-Waits.is at c.in_ok-read.ensures.sentence in
    let e = c.in_ok-read.ensures in
    goes_short (g.P.Interpreter.program c.args.program.now) c.args.text.now c.read.new.text _ c.requires.place h.2.settled (λ n. n) e.bytes e.finished

pub returns-in_ok-write_whole-in-Syntax-clause-short : goal.returns-in_ok-write_whole-in-Syntax-clause-short
returns-in_ok-write_whole-in-Syntax-clause-short g c =
    let h = rw c.in-Syntax.is at c.in_ok-read.ensures.sentence in
    let e = c.in_ok-read.ensures in
    goes_short (g.P.Interpreter.program c.args.program.now) c.args.text.now c.read.new.text _ c.requires.place h.0 (λ n. n) e.bytes e.finished

pub returns-in_ok-write_whole-in-Refused-clause-short : goal.returns-in_ok-write_whole-in-Refused-clause-short
returns-in_ok-write_whole-in-Refused-clause-short g c =
    let h = rw c.in-Refused.is at c.in_ok-read.ensures.sentence in
    let e = c.in_ok-read.ensures in
    goes_short (g.P.Interpreter.program c.args.program.now) c.args.text.now c.read.new.text _ c.requires.place h.3.settled (λ n. n) e.bytes e.finished

pub returns-in_ok-write_directive-in-Directive-clause-short : goal.returns-in_ok-write_directive-in-Directive-clause-short
returns-in_ok-write_directive-in-Directive-clause-short g c =
    let h = rw c.in-Directive.is at c.in_ok-read.ensures.sentence in
    let e = c.in_ok-read.ensures in
    goes_short (g.P.Interpreter.program c.args.program.now) c.args.text.now c.read.new.text _ c.requires.place h.2.settled (λ n. n) e.bytes e.finished

pub returns-in_ok-write_query-in-Query-clause-short : goal.returns-in_ok-write_query-in-Query-clause-short
returns-in_ok-write_query-in-Query-clause-short g c =
    let h = rw c.in-Query.is at c.in_ok-read.ensures.sentence in
    let e = c.in_ok-read.ensures in
    goes_short (g.P.Interpreter.program c.args.program.now) c.args.text.now c.read.new.text _ c.requires.place h.2.settled (λ n. n) e.bytes e.finished
