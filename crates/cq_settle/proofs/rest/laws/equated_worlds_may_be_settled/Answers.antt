use Rattle.cq_settle.proofs.RestEquated.{equated_called, equated_calls, works, none_of_trees}
use Rattle.cq_settle.proofs.rest.laws.equated_worlds_may_be_settled.Goals as goal

pub returns : goal.returns
returns c = record { called = equated_called; each = equated_calls; work = works; none = none_of_trees }
