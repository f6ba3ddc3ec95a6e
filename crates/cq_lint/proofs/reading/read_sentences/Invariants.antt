use Rattle.std.proofs.Common.{◌-◌, length}
use Rattle.cq_ops.specs.Tables.{AreNamed, named}
use Rattle.cq_lint.proofs.Standing.{IsPassed}
use Rattle.cq_lint.proofs.reading.read_sentences.Given as goal

abbrev pub invariant-sentences : goal.invariant-sentences
invariant-sentences l = record {
  operators : AreNamed l.atoms l.ops;
  passed : IsPassed l.text (named l.fn.atoms l.fn.ops) (named l.atoms l.ops) l.place l.found.items;
}

abbrev pub decreases-sentences : goal.decreases-sentences
decreases-sentences l = length l.text - l.place
