use Rattle.spec_builtins.proofs.Splitting.{all_parts, parts_listed, part_row}
use Rattle.spec_builtins.proofs.sub_atom_parts.Goals as goal

pub returns : goal.returns
returns c = λ text h. (all_parts text h, parts_listed text h, part_row text h)
