use Rattle.std.proofs.Common.{◌+◌, arith, length, ap, ◌∙◌}
use Rattle.std.specs.String.{string_bytes}
use Rattle.spec_syntax.specs.Quotes.{quoted}
use Rattle.cq_read.specs.Turns.{behind}
use Rattle.cq_read.proofs.Readings.{behind_skip, behind_go}
use Rattle.cq_read.proofs.lex.quotes.text_inside.Goals as goal
use Rattle.cq_read.proofs.lex.quotes.text_inside.Goals.{then-skip-gt0, else-skip-gt0+in-Go+in_ok-append-in-Go}

pub loop-tail-preserved : goal.loop-tail-preserved
loop-tail-preserved c =
    let split = c.in-Some.ensures.cases.0 in
    let before = c.loop-tail.invariant in
    record {
      same = elim c.if-skip-gt0.branch [
        | then-skip-gt0 w ↦
            ap (λ out. behind (string_bytes out) (quoted c.args.quote c.if-skip-gt0.skip c.in-Some.tail.now (c.loop-tail.place + 1))) w.out-is
            ∙ behind_skip (string_bytes c.loop-tail.out) c.args.quote c.loop-tail.skip c.if-skip-gt0.skip c.loop-tail.place c.in-Some.field-0-0.now c.loop-tail.rest.now c.in-Some.tail.now _ split (omega arith) w.skip-is before.same
        | else-skip-gt0+in-Go+in_ok-append-in-Go w ↦
            behind_go (string_bytes c.loop-tail.out) (string_bytes c.if-skip-gt0.out) c.args.quote c.loop-tail.skip c.if-skip-gt0.skip _ c.loop-tail.place c.in-Some.field-0-0.now _ c.loop-tail.rest.now c.in-Some.tail.now _
            split (omega arith) w.skip-is (ap string_bytes w.out-is ∙ w.in_ok-append-in-Go.ensures) w.in-Go.ensures before.same
      ];
      place = omega (arith, ap length split, before.place);
    }
