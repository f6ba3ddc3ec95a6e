use Rattle.spec_existence.proofs.Whole.{exists, begins}
use Rattle.spec_existence.proofs.each_input_has_a_transcript.Goals as goal

pub returns : goal.returns
returns c = record {
  some = exists;
  beginning = λ budgets shelf input files text some_answer there w. begins budgets shelf input files text some_answer there w;
}
