use Rattle.std.proofs.Common.{◌≡◌, ◌+◌, length}
use Rattle.std.specs.String.{string_bytes}
use Rattle.spec_syntax.specs.Quotes.{quoted}
use Rattle.cq_read.specs.Turns.{behind}
use Rattle.cq_read.proofs.lex.quotes.text_inside.Given as goal

abbrev pub invariant-loop-tail : goal.invariant-loop-tail
invariant-loop-tail l = record {
  same : behind (string_bytes l.out) (quoted l.quote l.skip l.rest l.place) ≡ quoted l.quote 0 l.fn.text l.fn.at;
  place : l.place + length l.rest ≡ l.fn.at + length l.fn.text;
}

abbrev pub decreases-loop-tail : goal.decreases-loop-tail
decreases-loop-tail l = length l.rest
