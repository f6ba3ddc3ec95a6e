use Rattle.std.proofs.Common.{◌≡◌, ◌+◌, ◌<◌, ◌≤◌, ◌∷◌, length}
use Rattle.std.specs.Option.{option_map}
use Rattle.spec_log.specs.Verdicts.{check_from, verdict}
use Rattle.cq_cert.specs.Pieces.{pieces, size}
use Rattle.cq_cert.specs.Places.{place_of, counts, IsSound}
use Rattle.cq_cert.proofs.check.check_log.Given as goal

abbrev pub invariant-loop-rest : goal.invariant-loop-rest
invariant-loop-rest l = record {
  same : verdict l.fn.log ≡ check_from l.line (place_of l.place) (l.text ∷ pieces 10 (option_map (λ r. r.now) l.rest));
  sound : IsSound l.place;
  first : 0 < l.line;
  room : counts l.place + length l.text + size (option_map (λ r. r.now) l.rest) ≤ length l.fn.log;
  lines : l.line + size (option_map (λ r. r.now) l.rest) ≤ length l.fn.log + 1;
}

abbrev pub decreases-loop-rest : goal.decreases-loop-rest
decreases-loop-rest l = size (option_map (λ r. r.now) l.rest)
