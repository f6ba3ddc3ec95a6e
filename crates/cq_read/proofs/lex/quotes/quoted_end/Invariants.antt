use Rattle.std.proofs.Common.{◌≡◌, ◌+◌, length}
use Rattle.spec_syntax.specs.Quotes.{quoted, ends}
use Rattle.cq_read.proofs.lex.quotes.quoted_end.Given as goal

abbrev pub invariant-loop-tail : goal.invariant-loop-tail
invariant-loop-tail l = record {
  same : ends (quoted l.quote l.skip l.rest l.place) ≡ ends (quoted l.quote 0 l.fn.text l.fn.at);
  place : l.place + length l.rest ≡ l.fn.at + length l.fn.text;
}

abbrev pub decreases-loop-tail : goal.decreases-loop-tail
decreases-loop-tail l = length l.rest
