use Rattle.std.proofs.Common.{inl}
use Rattle.cq_tableau.proofs.Faces.{zero_now}
use Rattle.cq_tableau.proofs.face.facing.is_zero_now.Goals as goal

pub returns-in-Some : goal.returns-in-Some
returns-in-Some c = zero_now c.args.dict.now.roles c.args.n c.in-Some.number c.in-Some.ensures c.is_zero.result c.is_zero.ensures

pub returns-in-None : goal.returns-in-None
returns-in-None c = inl c.in-None.ensures
