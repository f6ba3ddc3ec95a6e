use Rattle.std.proofs.Common.{◌∙◌, arith}
use Rattle.cq_frac.proofs.Small.{small_peak}
use Rattle.cq_frac.proofs.wholes.sum_parts.Goals as goal

pub returns-then-d-le-SMALL : goal.returns-then-d-le-SMALL
returns-then-d-le-SMALL c =
    let r = c.small_sum-negative.ensures in (
      small_peak c.args.first_negative c.args.a c.args.b c.args.second_negative c.args.c c.args.d (omega arith) (omega arith) (omega arith) (omega arith),
      record { sign_is = r.sign_is; top_is = c.from.ensures ∙ r.top_is; bottom_is = c.from-then-d-le-SMALL.ensures ∙ r.bottom_is },
    )
