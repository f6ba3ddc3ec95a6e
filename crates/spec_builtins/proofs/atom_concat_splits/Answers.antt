use Rattle.spec_builtins.proofs.Splitting.{splits, splits_listed, split_row}
use Rattle.spec_builtins.proofs.Elements.{texts_joined}
use Rattle.spec_builtins.proofs.atom_concat_splits.Goals as goal

pub returns : goal.returns
returns c = record {
  joined = texts_joined;
  split = λ text h. (splits text h, splits_listed text h, split_row text h);
}
