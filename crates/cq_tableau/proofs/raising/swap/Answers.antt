use Rattle.std.proofs.Common.{◌<◌, sym, subst}
use Rattle.cq_dict.specs.declared.table.Role.TheVariants.{Basic}
use Rattle.cq_dict.proofs.Roles.{at_below}
use Rattle.cq_tableau.proofs.raising.swap.Goals as goal

pub restrict-requires : goal.restrict-requires
restrict-requires c =
    subst (λ n. c.args.q < n) (sym c.in_ok-pivot.ensures.kinds.size) (at_below c.args.dict.now.roles c.args.q (Basic c.requires.own) c.requires.is_row)
