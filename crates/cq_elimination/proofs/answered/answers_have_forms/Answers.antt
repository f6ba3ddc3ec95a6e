use Rattle.cq_elimination.proofs.AnsweredLemmas.{answer_exists}
use Rattle.cq_elimination.proofs.answered.answers_have_forms.Goals as goal

pub returns : goal.returns
returns c = answer_exists
