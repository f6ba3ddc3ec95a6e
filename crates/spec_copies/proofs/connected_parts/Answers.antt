use Rattle.spec_copies.proofs.Apart.{part_same}
use Rattle.spec_copies.proofs.Parts.{cut, is_part, one_part}
use Rattle.spec_copies.proofs.connected_parts.Goals as goal

pub returns : goal.returns
returns c = record {
  exists = λ xs l. ((cut xs l).part, is_part xs l);
  one = one_part;
  says = part_same;
}
