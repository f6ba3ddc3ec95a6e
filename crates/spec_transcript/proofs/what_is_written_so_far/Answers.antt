use Rattle.spec_transcript.proofs.Written.{whole, beginning}
use Rattle.spec_transcript.proofs.what_is_written_so_far.Goals as goal

pub returns : goal.returns
returns c = record { whole = whole; beginning = beginning }
