-- The columns so far are dropped.
use Rattle.std.proofs.Common.{◌≡◌, ◌≤◌, take}
use Rattle.cq_tableau.specs.Dropped.{quantities, DropsEach}
use Rattle.cq_tableau.proofs.dropping.drop_all.Given as goal

abbrev pub invariant-loop-m : goal.invariant-loop-m
invariant-loop-m l =
    DropsEach l.fn.dict.roles (quantities (take l.m-index l.columns)) l.dict.roles
    × (l.dict.restricted ≡ l.fn.dict.restricted) × (l.dict.saved ≡ l.fn.dict.saved) × (l.fn.dict.room ≤ l.dict.room)
