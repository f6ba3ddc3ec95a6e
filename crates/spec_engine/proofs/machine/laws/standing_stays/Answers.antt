use Rattle.spec_engine.proofs.Kept.{items_older, items_last, items_read_on, waiting-last, waiting_reread, continuation_reread}
use Rattle.spec_engine.proofs.machine.laws.standing_stays.Goals as goal

pub returns-clause-pushed : goal.returns-clause-pushed
returns-clause-pushed g c = λ texts. items_older (g.R.StateWorlds.is_state texts) (g.R.StateWorlds.term texts)

pub returns-clause-cut : goal.returns-clause-cut
returns-clause-cut g c = λ texts. items_last (g.R.StateWorlds.is_state texts) (g.R.StateWorlds.term texts)

pub returns-clause-read_on : goal.returns-clause-read_on
returns-clause-read_on g c = λ texts. items_read_on (g.R.StateWorlds.is_state texts) (g.R.StateWorlds.term texts)

pub returns-clause-waiting : goal.returns-clause-waiting
returns-clause-waiting g c = λ texts. waiting-last (g.R.StateWorlds.is_state texts) (g.R.StateWorlds.term texts)

pub returns-clause-texts : goal.returns-clause-texts
returns-clause-texts g c =
    λ texts more. waiting_reread (g.R.StateWorlds.is_state texts) (g.R.StateWorlds.is_state more) (g.R.StateWorlds.term texts) (g.R.StateWorlds.term more)

pub returns-clause-texts_now : goal.returns-clause-texts_now
returns-clause-texts_now g c =
    λ texts more. continuation_reread (g.R.StateWorlds.is_state texts) (g.R.StateWorlds.is_state more) (g.R.StateWorlds.term texts) (g.R.StateWorlds.term more)
