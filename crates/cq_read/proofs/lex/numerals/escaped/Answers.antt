use Rattle.std.proofs.Common.{arith, length, ◌∙◌}
use Rattle.spec_syntax.specs.Quotes.{escape}
use Rattle.cq_read.proofs.Readings.{escaped_there}
use Rattle.cq_read.proofs.lex.numerals.escaped.Goals as goal

pub returns-in-Some : goal.returns-in-Some
returns-in-Some c =
    let w = c.whole.ensures in
    escaped_there (escape c.args.text.now 1) c.in-Ok.escape c.in-Some.c (length c.args.text.now) c.whole.result c.in-Ok.ensures.value c.in-Some.is (omega arith) c.in-Ok.ensures.within
    (w.over ∙ c.from-in-Some.ensures ∙ c.from.ensures) w.under w.size
