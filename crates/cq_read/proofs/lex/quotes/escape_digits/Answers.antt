use Rattle.std.proofs.Common.{arith, length, ap}
use Rattle.cq_read.proofs.Readings.{digit_of, capped_next, len_next}
use Rattle.cq_read.proofs.lex.quotes.escape_digits.Goals as goal

pub loop-b-preserved : goal.loop-b-preserved
loop-b-preserved c =
    let b = c.in-Some.field-0-0.now in
    let split = c.in-Some.ensures.cases.0 in
    let digit = digit_of b c.from.result c.args.base c.in-Some-to_digit.digit c.from.ensures c.in-Some-to_digit.ensures.value in
    let before = c.loop-b.invariant in
    record {
      value = capped_next c.args.base c.loop-b.value b c.in-Some-to_digit.digit 0x11_0000 c.min-value.result c.loop-b.rest.now c.in-Some.tail.now _ (omega arith) split digit c.min-value.ensures before.value;
      most = omega (arith, c.min-value.ensures);
      len = len_next c.args.base b c.loop-b.len c.loop-b.rest.now c.in-Some.tail.now _ split digit.0 before.len;
      place = omega (arith, ap length split, before.place);
    }
