use Rattle.std.proofs.Common.{◌+◌, ◌≤◌}
use Rattle.std.specs.Option.{option_map}
use Rattle.cq_form.specs.Entries.{products_of}
use Rattle.cq_cert.specs.Pieces.{pieces, size}
use Rattle.cq_cert.proofs.Pairs.{InOrder}
use Rattle.cq_cert.proofs.lines.products.Given as goal

abbrev pub invariant-loop-rest : goal.invariant-loop-rest
invariant-loop-rest l = record {
  read : InOrder l.fn.seen (pieces 32 (option_map (λ r. r.now) l.fn.line)) (pieces 32 (option_map (λ r. r.now) l.rest)) (products_of l.entries.items) l.greatest l.last;
  room : l.greatest + size (option_map (λ r. r.now) l.rest) ≤ l.fn.seen + size (option_map (λ r. r.now) l.fn.line);
}

abbrev pub decreases-loop-rest : goal.decreases-loop-rest
decreases-loop-rest l = size (option_map (λ r. r.now) l.rest)
