use Rattle.std.specs.Option.{option_map}
use Rattle.cq_cert.specs.Pieces.{pieces, size}
use Rattle.cq_cert.proofs.Pairs.{InRun}
use Rattle.cq_cert.proofs.lines.run.Given as goal

abbrev pub invariant-loop-rest : goal.invariant-loop-rest
invariant-loop-rest l = InRun l.members (pieces 32 (option_map (λ r. r.now) l.initial.rest)) (pieces 32 (option_map (λ r. r.now) l.rest)) l.found.items

abbrev pub decreases-loop-rest : goal.decreases-loop-rest
decreases-loop-rest l = size (option_map (λ r. r.now) l.rest)
