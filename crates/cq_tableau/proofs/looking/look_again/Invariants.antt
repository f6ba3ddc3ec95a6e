-- The quantities so far are seen.
use Rattle.std.proofs.Common.{◌≡◌, ◌≤◌}
use Rattle.cq_tableau.specs.Looked.{LooksOn}
use Rattle.cq_tableau.proofs.Looks.{StandBelow}
use Rattle.cq_tableau.proofs.looking.look_again.Given as goal

abbrev pub invariant-loop-q : goal.invariant-loop-q
invariant-loop-q l =
    LooksOn l.fn.dict.roles l.dict.roles l.fn.dict.restricted
    × StandBelow l.told l.names.now l.fn.dict.roles l.dict.roles l.fn.dict.restricted l.q
    × (l.dict.restricted ≡ l.fn.dict.restricted) × (l.dict.saved ≡ l.fn.dict.saved) × (l.fn.dict.room ≤ l.dict.room)
