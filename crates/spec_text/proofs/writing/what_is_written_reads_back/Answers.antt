use Rattle.spec_text.proofs.Law.{reads_back}
use Rattle.spec_text.proofs.writing.what_is_written_reads_back.Goals as goal

pub returns : goal.returns
returns c ops t are bare can = reads_back ops t are bare can
