use Rattle.spec_answers.proofs.Plain.{plain_answer}
use Rattle.spec_answers.proofs.answers_without_constraints.Goals as goal

pub returns : goal.returns
returns c = plain_answer
