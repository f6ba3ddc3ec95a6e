use Rattle.spec_engine.proofs.Passed.{one_begun, clause_begun, way_begun, ball_taken, clause_compared}
use Rattle.spec_engine.proofs.Gathered.{list_begun}
use Rattle.spec_engine.proofs.machine.laws.choices_are_come_back_to.Goals as goal

pub returns-clause-one : goal.returns-clause-one
returns-clause-one g c = λ texts steps db n older v now s k rest j. one_begun (g.R.StateWorlds.is_state texts) (g.R.StateWorlds.term texts) steps db n older v now s rest k j

pub returns-clause-clause : goal.returns-clause-clause
returns-clause-clause g c = λ texts. clause_begun (g.R.StateWorlds.is_state texts) (g.R.StateWorlds.term texts) 0

pub returns-clause-way : goal.returns-clause-way
returns-clause-way g c = λ texts. way_begun (g.R.StateWorlds.is_state texts) (g.R.StateWorlds.term texts) 0

pub returns-clause-caught : goal.returns-clause-caught
returns-clause-caught g c = λ texts. ball_taken (g.R.StateWorlds.is_state texts) (g.R.StateWorlds.term texts) 0

pub returns-clause-gathers : goal.returns-clause-gathers
returns-clause-gathers g c = λ texts steps db n older v now s t copies k. list_begun (g.R.StateWorlds.is_state texts) (g.R.StateWorlds.term texts) db n older v now s steps t copies k

pub returns-clause-matches : goal.returns-clause-matches
returns-clause-matches g c = λ texts. clause_compared (g.R.StateWorlds.is_state texts) (g.R.StateWorlds.term texts) 0
