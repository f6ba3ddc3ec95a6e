use Rattle.std.proofs.Common.{◌++◌, subst}
use Rattle.std.specs.Prelude.{codes}
use Rattle.std.proofs.lemmas.Result.{err_from_is_err_and, on_err_weaker}
use Rattle.cq_outside.specs.Bytes.{Adds, Appends, Begins}
use Rattle.cq_outside.proofs.Told.{appends_more}
use Rattle.lint.proofs.Lines.{longer, behind}
use Rattle.lint.proofs.running.write_named.Goals as goal

pub returns-in_err-write_whole-clause-part : goal.returns-in_err-write_whole-clause-part
returns-in_err-write_whole-clause-part g c =
    let p = err_from_is_err_and c.from_residual.result c.from_residual.ensures.1 in
    rw p.1 (longer _ _ (c.args.before.now ++ c.args.name.now) (codes "\n") (longer _ _ c.args.before.now c.args.name.now c.in_err-write_whole.ensures.part))

pub returns-in_err-write_whole-2-clause-part : goal.returns-in_err-write_whole-2-clause-part
returns-in_err-write_whole-2-clause-part g c =
    let p = err_from_is_err_and c.from_residual-in_err-write_whole-2.result c.from_residual-in_err-write_whole-2.ensures.1 in
    rw p.1
    (longer _ _ (c.args.before.now ++ c.args.name.now) (codes "\n")
    (behind _ _ _ c.args.before.now c.args.name.now c.in_ok-write_whole.ensures.whole
    (subst (λ t. Adds (g.E.Sink.held c.write_whole.new.sink) (g.E.Sink.held c.write_whole-2.new.sink) (λ part. Begins part t)) c.as_bytes.ensures.value
    c.in_err-write_whole-2.ensures.part)))

pub returns-clause-part : goal.returns-clause-part
returns-clause-part g c = on_err_weaker c.write_whole-3.result (λ h. behind _ _ _ (c.args.before.now ++ c.args.name.now) (codes "\n")
    (appends_more _ _ _ c.args.before.now c.args.name.now c.in_ok-write_whole.ensures.whole
    (subst (λ t. Appends (g.E.Sink.held c.write_whole.new.sink) (g.E.Sink.held c.write_whole-2.new.sink) t) c.as_bytes.ensures.value
    c.in_ok-write_whole-2.ensures.whole)) h) c.write_whole-3.ensures.part
