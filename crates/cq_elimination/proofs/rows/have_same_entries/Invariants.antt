use Rattle.std.proofs.Common.{◌≡◌, take}
use Rattle.cq_elimination.proofs.rows.have_same_entries.Given as goal

abbrev pub invariant-entries : goal.invariant-entries
invariant-entries l = take l.i l.a ≡ take l.i l.b
