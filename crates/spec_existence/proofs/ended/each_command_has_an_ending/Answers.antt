use Rattle.spec_existence.proofs.AnswersAllowed.{answers_allowed}
use Rattle.spec_existence.proofs.Opened.{command_ends}
use Rattle.spec_existence.proofs.ended.each_command_has_an_ending.Goals as goal

pub returns : goal.returns
returns c = record { answers = answers_allowed; some = command_ends }
