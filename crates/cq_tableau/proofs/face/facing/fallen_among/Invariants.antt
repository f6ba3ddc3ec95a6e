-- The disequations so far are not zero.
use Rattle.std.proofs.Common.{ℕ, ◌<◌}
use Rattle.std.specs.Prelude.{slice_index}
use Rattle.cq_tableau.specs.Looked.{IsApart}
use Rattle.cq_tableau.specs.Stored.{IsMemberOf}
use Rattle.cq_tableau.specs.Faced.{IsNotZero}
use Rattle.cq_tableau.proofs.face.facing.fallen_among.Given as goal

abbrev pub invariant-loop-q : goal.invariant-loop-q
invariant-loop-q l = (k : ℕ) → k < l.q-index → IsMemberOf IsApart l.told l.names.now (slice_index l.rows k) → IsNotZero l.dict.roles (slice_index l.rows k)
