use Rattle.std.proofs.Common.{◌≡◌, ◌+◌, length}
use Rattle.spec_syntax.specs.Characters.{name_end}
use Rattle.cq_read.proofs.lex.characters.name_end.Given as goal

abbrev pub invariant-loop-lead : goal.invariant-loop-lead
invariant-loop-lead l = record {
  same : name_end l.skip l.rest l.place ≡ name_end l.fn.skip l.fn.text l.fn.at;
  place : l.place + length l.rest ≡ l.fn.at + length l.fn.text;
}

abbrev pub decreases-loop-lead : goal.decreases-loop-lead
decreases-loop-lead l = length l.rest
