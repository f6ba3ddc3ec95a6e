use Rattle.std.proofs.Common.{◌≡◌, false}
use Rattle.tests_texts.proofs.read.are_read.Given as goal

abbrev pub invariant-loop-piece : goal.invariant-loop-piece
invariant-loop-piece l = l.feed.finished ≡ false
