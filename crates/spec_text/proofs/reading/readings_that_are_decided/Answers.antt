use Rattle.spec_text.proofs.Decides.{decided_when_closed, full_stop_there}
use Rattle.spec_text.proofs.Anywhere.{may_go_on, read_earlier}
use Rattle.spec_text.proofs.reading.readings_that_are_decided.Goals as goal

pub returns : goal.returns
returns c = record { decided = decided_when_closed; stop = full_stop_there; anyway = may_go_on; earlier = read_earlier }
