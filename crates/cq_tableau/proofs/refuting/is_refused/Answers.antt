use Rattle.std.proofs.Common.{sym, subst}
use Rattle.cq_tableau.specs.Refuted.{IsTooSmall}
use Rattle.cq_tableau.proofs.Certified.{strict_small, weak_small}
use Rattle.cq_tableau.proofs.refuting.is_refused.Goals as goal

pub returns-in-Gt : goal.returns-in-Gt
returns-in-Gt c = subst (λ r. IsTooSmall r c.args.greatest) (sym c.in-Gt.is) (strict_small c.args.greatest c.requires.short)

pub returns-in_default : goal.returns-in_default
returns-in_default c =
    weak_small c.args.relation c.requires.inequality c.in_default.not-Gt c.args.greatest c.requires.short c.is_negative.result c.is_negative.ensures.negative.0
    c.is_negative.ensures.otherwise
