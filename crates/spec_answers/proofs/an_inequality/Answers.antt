use Rattle.spec_answers.proofs.Inequality.{positive_answer}
use Rattle.spec_answers.proofs.an_inequality.Goals as goal

pub returns : goal.returns
returns c = positive_answer
