use Rattle.spec_text.proofs.Onward.{some_reading}
use Rattle.spec_text.proofs.ByMachine.{read_once}
use Rattle.spec_text.proofs.reading.one_reading.Goals as goal

pub returns : goal.returns
returns c = record { one = read_once; some = some_reading }
