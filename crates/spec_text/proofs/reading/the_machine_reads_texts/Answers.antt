use Rattle.spec_text.proofs.ByMachine.{by_machine, from_machine}
use Rattle.spec_text.proofs.reading.the_machine_reads_texts.Goals as goal

pub returns : goal.returns
returns c ops text at r = (by_machine ops text at r, from_machine ops text at r)
