use Rattle.spec_simplex.proofs.Lengths.{no_return, chain_short}
use Rattle.spec_simplex.proofs.chains_end.Goals as goal

pub returns : goal.returns
returns c = record {
  no_return = λ size restricted first n last f chain j k l h same. no_return size restricted first n last f chain j k l h same;
  short = λ size restricted first n last f chain. chain_short size restricted first n last f chain;
}
