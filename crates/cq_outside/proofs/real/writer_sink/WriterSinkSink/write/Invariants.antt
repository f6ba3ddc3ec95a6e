use Rattle.std.proofs.Common.{◌≡◌}
use Rattle.cq_outside.proofs.real.writer_sink.WriterSinkSink.write.Given as goal

-- no write has answered yet
abbrev pub invariant-loop : goal.invariant-loop
invariant-loop g l = l.self.faults ≡ l.initial.self.faults
