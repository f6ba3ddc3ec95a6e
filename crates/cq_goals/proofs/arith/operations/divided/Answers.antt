use Rattle.std.proofs.Common.{sym, ap, ◌∙◌}
use Rattle.std.proofs.lemmas.Int.{rem_is}
use mir.Syntax.{w128}
use Rattle.spec_terms.specs.Operations.{whole_value}
use Rattle.spec_terms.proofs.Rounded.{remainder_is}
use Rattle.cq_goals.proofs.arith.operations.divided.Goals as goal

pub returns-in-Remainder-clause-value : goal.returns-in-Remainder-clause-value
returns-in-Remainder-clause-value c =
    rem_is w128 c.args.dividend c.args.divisor c.ranges.dividend c.ranges.divisor
    ∙ sym (remainder_is c.args.dividend c.args.divisor)
    ∙ ap (λ o. whole_value o c.args.dividend c.args.divisor) (sym c.in-Remainder.is)
