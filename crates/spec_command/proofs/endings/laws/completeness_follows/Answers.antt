use Rattle.spec_command.proofs.EndingsWhole.{completeness, gen_completeness}
use Rattle.spec_command.proofs.endings.laws.completeness_follows.Goals as goal

pub returns : goal.returns
returns c = record { run = completeness; generated = gen_completeness }
