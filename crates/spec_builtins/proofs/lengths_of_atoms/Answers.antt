use Rattle.std.proofs.Common.{length, refl, ap, ◌∙◌, length-append, chars}
use Rattle.std.proofs.lemmas.Str.{chars-append}
use Rattle.spec_builtins.proofs.lengths_of_atoms.Goals as goal

pub returns : goal.returns
returns c = record { told = λ a n. refl; joined = λ d e h. ap length (chars-append d e h) ∙ length-append (chars d) (chars e) }
