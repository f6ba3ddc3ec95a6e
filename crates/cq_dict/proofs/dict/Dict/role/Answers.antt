use Rattle.cq_dict.proofs.Roles.{at_get}
use Rattle.cq_dict.proofs.dict.Dict.role.Goals as goal

pub returns-clause-role : goal.returns-clause-role
returns-clause-role c = rw (← c.self.view_is) (at_get _ c.args.q _ c.get.ensures)
