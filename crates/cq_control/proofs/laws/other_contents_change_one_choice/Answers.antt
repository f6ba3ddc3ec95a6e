use Rattle.cq_control.proofs.Opened.{open-around}
use Rattle.cq_control.proofs.laws.other_contents_change_one_choice.Goals as goal

pub returns : goal.returns
returns g c = λ saved newer older content marked. open-around saved newer older content marked
