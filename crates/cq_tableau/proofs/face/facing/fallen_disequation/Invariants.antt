-- The disequations so far are not zero.
use Rattle.std.proofs.Common.{ℕ, ◌<◌}
use Rattle.cq_tableau.specs.Looked.{IsApart}
use Rattle.cq_tableau.specs.Stored.{IsMemberOf}
use Rattle.cq_tableau.specs.Faced.{IsNotZero}
use Rattle.cq_tableau.proofs.face.facing.fallen_disequation.Given as goal

abbrev pub invariant-loop-q : goal.invariant-loop-q
invariant-loop-q l = (z : ℕ) → z < l.q → IsMemberOf IsApart l.told l.names.now z → IsNotZero l.dict.roles z
