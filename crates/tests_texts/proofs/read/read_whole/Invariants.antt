use Rattle.std.proofs.Common.{◌≤◌, length}
use Rattle.tests_texts.proofs.read.read_whole.Given as goal

abbrev pub invariant-loop-turn : goal.invariant-loop-turn
invariant-loop-turn l = l.place ≤ length l.text
