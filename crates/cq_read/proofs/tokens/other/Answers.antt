use Rattle.std.proofs.Common.{refl, ◌∙◌}
use Rattle.cq_read.specs.LexShown.{shown}
use Rattle.cq_read.proofs.Seen.{no_value, no_other, sees_mark}
use Rattle.cq_read.proofs.tokens.other.Goals as goal

pub unreachable-requires : goal.unreachable-requires
unreachable-requires c = no_value c.args.text.now (shown c.args.token.now) c.requires.token c.in-Numeral.is c.in-None.is

pub unreachable-requires-in_default : goal.unreachable-requires-in_default
unreachable-requires-in_default c =
    no_other c.args.text.now (shown c.args.token.now) c.args.token.now.kind refl c.requires.token c.requires.kind c.in_default.not-Numeral c.in_default.not-Punctuation c.in_default.not-End

pub returns-in-Punctuation-clause-token : goal.returns-in-Punctuation-clause-token
returns-in-Punctuation-clause-token c texts variables = sees_mark c.args.text.now variables (shown c.args.token.now) c.in-Punctuation.is ∙ c.punctuation.ensures.token texts
