use Rattle.std.proofs.Common.{◌≤◌, ◌+◌, ◌*◌, [], length, drop}
use Rattle.std.specs.Prelude.{if◌then◌else◌, nat_lt}
use Rattle.cq_term.specs.Places.{numbers_of}
use Rattle.cq_settle.specs.Standing.{constraints}
use Rattle.cq_settle.specs.Worlds.{now_of}
use Rattle.cq_settle.specs.Settled.{KeepsMarks}
use Rattle.cq_settle.specs.Underway.{GoesOn, to_do}
use Rattle.cq_settle.proofs.closing.close.Given as goal

abbrev pub invariant-loop-seen : goal.invariant-loop-seen
invariant-loop-seen l = record {
  goes : GoesOn l.atoms (now_of l.fn.world) (now_of l.world) (to_do [] [] (numbers_of l.fn.newly) (numbers_of l.fn.newly))
      (to_do [] [] (numbers_of (drop l.seen l.newly)) (numbers_of l.newly));
  seen : l.seen ≤ length l.newly;
  marks : KeepsMarks l.fn.world l.world;
}

-- a pass in which nothing joins is the last one
abbrev pub decreases-loop-seen : goal.decreases-loop-seen
decreases-loop-seen l = 2 * length (constraints l.world.attrs.now) + (if nat_lt l.seen (length l.newly) then 1 else 0)
