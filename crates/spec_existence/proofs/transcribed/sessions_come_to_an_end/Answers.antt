use Rattle.spec_existence.proofs.Going.{runs_ready, goes_to_an_end}
use Rattle.spec_existence.proofs.transcribed.sessions_come_to_an_end.Goals as goal

pub returns : goal.returns
returns c = record {
  ready = λ budgets shelf input a b text marks some_answer ready runs. runs_ready budgets shelf input some_answer runs ready;
  end = λ budgets shelf input a some_answer forms ready. goes_to_an_end budgets shelf input some_answer forms a ready;
}
