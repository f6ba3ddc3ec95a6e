use Rattle.cq_control.specs.Open.{open_choices}
use Rattle.cq_catch.proofs.Outlasting.{open_still, stack_still}
use Rattle.cq_catch.proofs.matching.laws.choices_outlast_changes.Goals as goal

pub returns-clause-tried : goal.returns-clause-tried
returns-clause-tried c = λ texts old new k saved choices can. open_still texts old new k (open_choices saved choices) can

pub returns-clause-same : goal.returns-clause-same
returns-clause-same c = λ texts old new k saved choices can. stack_still texts old new k (open_choices saved choices) can
