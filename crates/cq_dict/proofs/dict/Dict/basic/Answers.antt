use Rattle.std.proofs.Common.{subst}
use Rattle.cq_dict.specs.declared.table.Role.TheVariants.{Basic}
use Rattle.cq_dict.specs.Roles.{IsAt}
use Rattle.cq_dict.proofs.Roles.{at_below, at_one}
use Rattle.cq_dict.proofs.dict.Dict.basic.Goals as goal

pub role-requires : goal.role-requires
role-requires c = at_below c.args.self.now.roles c.args.r (Basic c.requires.0) c.requires.1

pub unreachable-requires : goal.unreachable-requires
unreachable-requires c = c.in_default.not-Basic c.requires.0 (at_one c.args.self.now.roles c.args.r _ (Basic c.requires.0) c.role.ensures.role c.requires.1)

pub returns-clause-row : goal.returns-clause-row
returns-clause-row c = subst (IsAt c.args.self.now.roles c.args.r) c.in-Basic.is c.role.ensures.role

pub returns-clause-columns : goal.returns-clause-columns
returns-clause-columns c = c.role.ensures.table.rows c.args.r _ (subst (IsAt c.args.self.now.roles c.args.r) c.in-Basic.is c.role.ensures.role)
