use Rattle.spec_existence.proofs.ProgressLemmas.{start_sound}
use Rattle.spec_existence.proofs.Turning.{turn_sound}
use Rattle.spec_existence.proofs.progress.soundness_is_kept.Goals as goal

pub returns : goal.returns
returns c = record { start = start_sound; turn = λ s t e h k. turn_sound s k t e h }
