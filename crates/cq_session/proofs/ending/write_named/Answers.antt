use Rattle.std.proofs.Common.{◌++◌, subst}
use Rattle.std.specs.Prelude.{codes}
use Rattle.cq_outside.specs.Bytes.{Adds, Appends, Begins}
use Rattle.cq_outside.proofs.Told.{appends_more}
use Rattle.cq_session.proofs.Lines.{on_err, on_err_if, longer, behind}
use Rattle.cq_session.proofs.ending.write_named.Goals as goal

pub returns-in_err-write_whole-clause-part : goal.returns-in_err-write_whole-clause-part
returns-in_err-write_whole-clause-part g c = on_err c.from_residual.result _ (longer _ _ (c.args.before.now ++ c.args.name.now) (codes "\n")
    (longer _ _ c.args.before.now c.args.name.now c.in_err-write_whole.ensures.part))

pub returns-in_err-write_whole-2-clause-part : goal.returns-in_err-write_whole-2-clause-part
returns-in_err-write_whole-2-clause-part g c = on_err c.from_residual-in_err-write_whole-2.result _ (longer _ _ (c.args.before.now ++ c.args.name.now) (codes "\n")
    (behind _ _ _ c.args.before.now c.args.name.now c.in_ok-write_whole.ensures.whole
    (subst (λ t. Adds (g.E.Sink.held c.write_whole.new.sink) (g.E.Sink.held c.write_whole-2.new.sink) (λ part. Begins part t)) c.as_bytes.ensures.value
    c.in_err-write_whole-2.ensures.part)))

pub returns-clause-part : goal.returns-clause-part
returns-clause-part g c = on_err_if c.write_whole-3.result _ _ (λ h. behind _ _ _ (c.args.before.now ++ c.args.name.now) (codes "\n")
    (appends_more _ _ _ c.args.before.now c.args.name.now c.in_ok-write_whole.ensures.whole
    (subst (λ t. Appends (g.E.Sink.held c.write_whole.new.sink) (g.E.Sink.held c.write_whole-2.new.sink) t) c.as_bytes.ensures.value
    c.in_ok-write_whole-2.ensures.whole)) h) c.write_whole-3.ensures.part
