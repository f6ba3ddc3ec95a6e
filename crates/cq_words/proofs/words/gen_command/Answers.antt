use Rattle.std.proofs.Common.{◌∙◌, ap₂}
use Rattle.clap.specs.Simple.{with_rule}
use Rattle.cq_words.proofs.words.gen_command.Goals as goal

pub returns : goal.returns
returns c = c.in_ok-whole.ensures.shape c.numeral-number.ensures.local ∙ ap₂ with_rule c.new-bare.ensures.app c.numeral-number.ensures.rule
