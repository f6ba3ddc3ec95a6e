use Rattle.std.proofs.Common.{arith, ◌∙◌}
use Rattle.cq_read.proofs.Readings.{character_there}
use Rattle.cq_read.proofs.lex.numerals.character.Goals as goal

pub returns-in-Some-first_char : goal.returns-in-Some-first_char
returns-in-Some-first_char c =
    let w = c.whole-in-Some-first_char in
    character_there c.args.text.now c.in-Some.field-0-0.now c.in-Some.tail.now c.in-Some-first_char.c w.result c.in-Some.ensures.cases.0 c.if-b-eq39.false c.if-b-eq92.false c.if-b-eq10.false
    c.in-Some-first_char.ensures.value (omega arith) (w.ensures.over ∙ c.from-in-Some-first_char.ensures ∙ c.from.ensures) w.ensures.under (omega (arith, w.ensures.size, c.width.ensures))
