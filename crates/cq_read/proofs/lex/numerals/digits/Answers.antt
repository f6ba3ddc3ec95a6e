use Rattle.std.proofs.Common.{arith, ◌^◌}
use Rattle.cq_read.proofs.Readings.{digit_of, large_next}
use Rattle.cq_read.proofs.lex.numerals.digits.Goals as goal

pub returns-in-None-with_digit-clause-value : goal.returns-in-None-with_digit-clause-value
returns-in-None-with_digit-clause-value c =
    let b = c.in-Some.field-0-0.now in
    let digit = digit_of b c.from.result c.args.base c.in-Some-to_digit.digit c.from.ensures c.in-Some-to_digit.ensures.value in
    large_next c.args.base c.loop-b.value b c.in-Some-to_digit.digit (2 ^ 127) c.loop-b.rest.now c.in-Some.tail.now _ (omega arith) c.in-Some.ensures.cases.0 digit c.in-None-with_digit.ensures c.loop-b.invariant.value
