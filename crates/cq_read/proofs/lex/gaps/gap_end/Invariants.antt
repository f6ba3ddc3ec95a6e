use Rattle.std.proofs.Common.{◌≡◌, ◌+◌, length, drop}
use Rattle.spec_syntax.specs.Gaps.{gap}
use Rattle.spec_syntax.specs.declared.grammar.Gap.TheVariants.{Between}
use Rattle.cq_read.proofs.lex.gaps.gap_end.Given as goal

abbrev pub invariant-loop-b : goal.invariant-loop-b
invariant-loop-b l = record {
  same : gap l.gap l.rest l.place ≡ gap Between (drop l.fn.at l.fn.text) l.fn.at;
  place : l.place + length l.rest ≡ length l.fn.text;
}

abbrev pub decreases-loop-b : goal.decreases-loop-b
decreases-loop-b l = length l.rest
