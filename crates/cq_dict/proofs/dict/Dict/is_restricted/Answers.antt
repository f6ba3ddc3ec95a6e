use Rattle.std.proofs.Common.{arith}
use Rattle.cq_dict.proofs.Roles.{flag_get}
use Rattle.cq_dict.proofs.dict.Dict.is_restricted.Goals as goal

pub get-requires : goal.get-requires
get-requires c = omega (arith, rw (← c.self.view_is) at c.requires, c.self.invariant.0.now.flags)

pub returns : goal.returns
returns c = rw (← c.self.view_is) (flag_get _ c.args.q _ c.get.ensures)
