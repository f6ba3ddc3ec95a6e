use Rattle.std.proofs.Common.{◌-◌, length, refl, arith}
use Rattle.std.proofs.lemmas.Option.{slice_get_read}
use Rattle.cq_builtin.proofs.Shown.{argument_found, no_argument, not_zero}
use Rattle.cq_builtin.proofs.arguments.argument_there.Goals as goal

pub returns-then-number-arguments-clause-offered : goal.returns-then-number-arguments-clause-offered
returns-then-number-arguments-clause-offered c = λ texts.
    no_argument texts c.args.heap.now.now.terms c.args.term c.args.argument c.args-arguments.result.now c.args-arguments.ensures.args c.args.number c.if-number-arguments.true

pub returns-clause-offered : goal.returns-clause-offered
returns-clause-offered c = λ texts.
    argument_found texts c.args.heap.now.now.terms c.args.term c.args.argument c.args-arguments.result.now c.args-arguments.ensures.args c.args.number (c.args.number - 1) c.index-arguments-place.result (not_zero c.args.number c.if-number-eq0.false)
    (slice_get_read c.args-arguments.result.now (length c.args-arguments.result.now) (c.args.number - 1) c.index-arguments-place.result refl
    (omega (arith, c.if-number-arguments.false, not_zero c.args.number c.if-number-eq0.false)) c.index-arguments-place.is)
