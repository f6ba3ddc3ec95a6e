use Rattle.spec_branch.proofs.Truth.{expression_worth, relation_worth}
use Rattle.spec_branch.proofs.told.nothing_waits_for_no_variable.Goals as goal

pub returns : goal.returns
returns c = record { expression = expression_worth; relation = relation_worth }
