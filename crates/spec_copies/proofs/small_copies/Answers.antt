use Rattle.spec_copies.proofs.Known.{positive_known, successor_known, product_known, frozen_known, free_known}
use Rattle.spec_copies.proofs.KeptCopy.{apart_is_copied}
use Rattle.spec_copies.proofs.small_copies.Goals as goal

pub returns : goal.returns
returns c = record {
  inequality = positive_known;
  projected = successor_known;
  waits = product_known;
  sleeps = frozen_known;
  left_behind = free_known;
  kept = apart_is_copied;
}
