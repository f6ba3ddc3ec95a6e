use Rattle.cq_control.proofs.Below.{length-below, waiting-last}
use Rattle.cq_control.proofs.laws.a_cut_of_choices_is_a_cut_of_branches.Goals as goal

pub returns-clause-below : goal.returns-clause-below
returns-clause-below g c = λ size branches each choices height. length-below size branches each choices height

pub returns-clause-cut : goal.returns-clause-cut
returns-clause-cut g c = λ size branches each choices height. waiting-last size branches each choices height
