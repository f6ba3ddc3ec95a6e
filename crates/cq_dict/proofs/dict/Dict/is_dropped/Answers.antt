use Rattle.std.proofs.Common.{sym, subst}
use Rattle.cq_dict.specs.declared.table.Role.TheVariants.{Dropped}
use Rattle.cq_dict.specs.Roles.{IsAt}
use Rattle.cq_dict.proofs.Roles.{dropped_at, not_dropped_role}
use Rattle.cq_dict.proofs.dict.Dict.is_dropped.Goals as goal

pub returns-in-Dropped : goal.returns-in-Dropped
returns-in-Dropped c = sym (dropped_at c.args.self.now.roles c.args.q Dropped (subst (IsAt c.args.self.now.roles c.args.q) c.in-Dropped.is c.role.ensures.role))

pub returns-in_default : goal.returns-in_default
returns-in_default c = not_dropped_role c.args.self.now.roles c.args.q c.role.result.now c.role.ensures.role c.in_default.not-Dropped
