use Rattle.std.proofs.Common.{◌≡◌}
use Rattle.cq_outside.proofs.real.reader_source.ReaderSourceSource.read.Given as goal

-- no read has answered yet
abbrev pub invariant-loop : goal.invariant-loop
invariant-loop g l = (l.self.faults ≡ l.initial.self.faults) × (l.self.taken ≡ l.initial.self.taken)
