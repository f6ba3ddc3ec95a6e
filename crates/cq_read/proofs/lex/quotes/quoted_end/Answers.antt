use Rattle.std.proofs.Common.{arith, length, ap}
use Rattle.cq_read.proofs.Readings.{ends_skip, ends_go}
use Rattle.cq_read.proofs.lex.quotes.quoted_end.Goals as goal
use Rattle.cq_read.proofs.lex.quotes.quoted_end.Goals.{then-skip-gt0, else-skip-gt0+in-Go}

pub loop-tail-preserved : goal.loop-tail-preserved
loop-tail-preserved c =
    let split = c.in-Some.ensures.cases.0 in
    let before = c.loop-tail.invariant in
    record {
      same = elim c.if-skip-gt0.branch [
        | then-skip-gt0 w ↦ ends_skip c.args.quote c.loop-tail.skip c.if-skip-gt0.skip c.loop-tail.place c.in-Some.field-0-0.now c.loop-tail.rest.now c.in-Some.tail.now _ split (omega arith) w.skip-is before.same
        | else-skip-gt0+in-Go w ↦ ends_go c.args.quote c.loop-tail.skip c.if-skip-gt0.skip _ c.loop-tail.place c.in-Some.field-0-0.now _ c.loop-tail.rest.now c.in-Some.tail.now _ split (omega arith) w.skip-is w.in-Go.ensures before.same
      ];
      place = omega (arith, ap length split, before.place);
    }
