use Rattle.cq_questions.proofs.Answered.{entailed_step, broken_step, not_linear_step, extent_step, unbounded_step, false_step, waits_step}
use Rattle.cq_questions.proofs.laws.answers_are_steps.Goals as goal

pub returns-clause-entailed : goal.returns-clause-entailed
returns-clause-entailed c = entailed_step

pub returns-clause-broken : goal.returns-clause-broken
returns-clause-broken c = broken_step

pub returns-clause-not_linear : goal.returns-clause-not_linear
returns-clause-not_linear c = λ p goal ms b m r w. not_linear_step p goal ms b r m w

pub returns-clause-extent : goal.returns-clause-extent
returns-clause-extent c = λ p goal side e f q r w. extent_step p goal side e f r q w

pub returns-clause-unbounded : goal.returns-clause-unbounded
returns-clause-unbounded c = unbounded_step

pub returns-clause-falsehood : goal.returns-clause-falsehood
returns-clause-falsehood c = false_step

pub returns-clause-waits : goal.returns-clause-waits
returns-clause-waits c = waits_step
