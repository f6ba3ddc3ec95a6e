use Rattle.spec_engine.proofs.Thrown.{query_begins}
use Rattle.spec_engine.proofs.machine.laws.queries_begin.Goals as goal

pub returns : goal.returns
returns g c = λ texts. query_begins (g.R.StateWorlds.is_state texts) (g.R.StateWorlds.term texts)
