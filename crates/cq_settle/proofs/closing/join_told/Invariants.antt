use Rattle.std.proofs.Common.{[], drop}
use Rattle.cq_term.specs.Places.{numbers_of}
use Rattle.cq_settle.specs.Worlds.{now_of}
use Rattle.cq_settle.specs.Settled.{KeepsMarks}
use Rattle.cq_settle.specs.Underway.{GoesOn, to_do}
use Rattle.cq_settle.proofs.closing.join_told.Given as goal

abbrev pub invariant-loop-term : goal.invariant-loop-term
invariant-loop-term l = record {
  goes : GoesOn l.atoms (now_of l.fn.world) (now_of l.world) (to_do l.told [] (numbers_of l.fn.newly) (numbers_of l.fn.newly))
      (to_do (drop l.term-index l.told) [] (numbers_of l.newly) (numbers_of l.newly));
  marks : KeepsMarks l.fn.world l.world;
}
