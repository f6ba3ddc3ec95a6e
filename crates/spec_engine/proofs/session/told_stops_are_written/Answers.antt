use Rattle.spec_engine.proofs.Told as told
use Rattle.spec_engine.proofs.session.told_stops_are_written.Goals as goal

pub returns : goal.returns
returns c = record { stop = told.stop; answer = told.stop_at_answer }
