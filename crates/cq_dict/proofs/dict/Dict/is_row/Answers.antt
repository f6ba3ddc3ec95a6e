use Rattle.std.proofs.Common.{subst}
use Rattle.cq_dict.specs.Roles.{IsAt}
use Rattle.cq_dict.proofs.Roles.{column_role}
use Rattle.cq_dict.proofs.dict.Dict.is_row.Goals as goal

pub returns-in-Basic : goal.returns-in-Basic
returns-in-Basic c = (c.in-Basic.field-0, subst (IsAt c.args.self.now.roles c.args.q) c.in-Basic.is c.role.ensures.role)

pub returns-in_default : goal.returns-in_default
returns-in_default c = column_role c.args.self.now.roles c.args.q c.role.result.now c.role.ensures.role c.in_default.not-Basic
