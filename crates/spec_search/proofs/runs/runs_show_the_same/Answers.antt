use Rattle.spec_search.proofs.SameRuns.{runs_agree, catches_up}
use Rattle.spec_search.proofs.runs.runs_show_the_same.Goals as goal

pub returns : goal.returns
returns c = record { same = runs_agree; goes_on = catches_up }
