use Rattle.spec_simplex.proofs.Chains.{no_exchange, one_more}
use Rattle.spec_simplex.proofs.chains_go_on.Goals as goal

pub returns : goal.returns
returns c = record {
  begin = no_exchange;
  go_on = λ size restricted first n d e c r chain w a due ex. one_more size restricted first n d e chain c r w a due ex;
}
