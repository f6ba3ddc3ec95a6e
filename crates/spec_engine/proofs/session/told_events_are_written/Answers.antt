use Rattle.spec_engine.proofs.Told as told
use Rattle.spec_engine.proofs.session.told_events_are_written.Goals as goal

pub returns : goal.returns
returns c = record {
  output = told.output;
  answer = λ budgets shelf input s t r st ops names n text. told.answer budgets shelf input s t r st ops names text n;
  last = told.last;
  success = told.success;
  failure = told.failure;
  ball = told.ball;
}
