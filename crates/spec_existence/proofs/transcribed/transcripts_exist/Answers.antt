use Rattle.spec_existence.proofs.Going.{transcript_exists}
use Rattle.spec_existence.proofs.transcribed.transcripts_exist.Goals as goal

pub returns : goal.returns
returns c = λ budgets shelf input files some_answer there forms. transcript_exists budgets shelf input some_answer forms files there
