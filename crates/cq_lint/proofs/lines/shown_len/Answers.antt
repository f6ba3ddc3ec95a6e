use Rattle.std.proofs.Common.{sym, ◌∙◌, arith}
use Rattle.cq_lint.specs.Lines.{shown_from}
use Rattle.cq_lint.proofs.Shown.{shown_goes, shown_stops, shown_ends}
use Rattle.cq_lint.proofs.lines.shown_len.Goals as goal

pub loop-shown-preserved : goal.loop-shown-preserved
loop-shown-preserved c = record {
  within = omega arith;
  same = shown_goes c.args.line.now (shown_from 0 c.args.line.now) c.loop-shown.shown (omega arith) (sym c.ends_shown.ensures ∙ c.if-ends_shown.false) c.loop-shown.invariant.same;
}

pub returns-then-ends_shown-clause-shown : goal.returns-then-ends_shown-clause-shown
returns-then-ends_shown-clause-shown c =
    shown_stops c.args.line.now (shown_from 0 c.args.line.now) c.loop-shown.shown (omega arith) (sym c.ends_shown.ensures ∙ c.if-ends_shown.true) c.loop-shown.invariant.same

pub returns-clause-shown : goal.returns-clause-shown
returns-clause-shown c = shown_ends c.args.line.now (shown_from 0 c.args.line.now) c.loop-shown.shown (omega arith) c.loop-shown.invariant.same
