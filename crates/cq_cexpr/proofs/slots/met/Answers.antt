use Rattle.std.proofs.Common.{◌∙◌, ap, sym}
use Rattle.cq_frac.specs.Rows.{joined}
use Rattle.cq_cexpr.proofs.slots.met.Goals as goal

pub returns-then-is_zero-clause-value : goal.returns-then-is_zero-clause-value
returns-then-is_zero-clause-value c = c.alone.ensures ∙ ap (λ q. joined c.args.how q c.args.factor) (sym (c.is_zero.ensures.0 c.if-is_zero.true))
