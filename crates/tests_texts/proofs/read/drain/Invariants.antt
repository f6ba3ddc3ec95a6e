use Rattle.std.proofs.Common.{◌≡◌}
use Rattle.tests_texts.proofs.read.drain.Given as goal

abbrev pub invariant-loop-turn : goal.invariant-loop-turn
invariant-loop-turn l = l.feed.finished ≡ l.fn.feed.finished
