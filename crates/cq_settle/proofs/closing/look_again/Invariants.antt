use Rattle.std.proofs.Common.{[], drop, length}
use Rattle.std.specs.Prelude.{All, Contains}
use Rattle.cq_attr.specs.Attributes.{numbers}
use Rattle.cq_term.specs.Places.{numbers_of}
use Rattle.cq_settle.specs.Worlds.{now_of}
use Rattle.cq_settle.specs.Settled.{KeepsMarks}
use Rattle.cq_settle.specs.Steps.{HasFewer}
use Rattle.cq_settle.specs.Underway.{GoesOn, to_do}
use Rattle.cq_settle.proofs.closing.look_again.Given as goal

abbrev pub invariant-loop-number : goal.invariant-loop-number
invariant-loop-number l = record {
  goes : GoesOn l.atoms (now_of l.fn.world) (now_of l.world) (to_do [] l.woken [] (numbers_of l.fn.newly))
      (to_do [] (drop l.number-index l.woken) (numbers_of (drop (length l.fn.newly) l.newly)) (numbers_of l.newly));
  waits : All (λ n. Contains (numbers l.world.attrs.now.waiting) n) (drop l.number-index l.woken);
  fewer : HasFewer (now_of l.fn.world) (now_of l.world) l.fn.newly l.newly;
  marks : KeepsMarks l.fn.world l.world;
}
