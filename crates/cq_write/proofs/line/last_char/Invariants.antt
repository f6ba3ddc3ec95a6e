use Rattle.std.proofs.Common.{◌≡◌}
use Rattle.spec_text.specs.Texts.{last_of}
use Rattle.cq_write.proofs.line.last_char.Given as goal

abbrev pub invariant-loop-c : goal.invariant-loop-c
invariant-loop-c l = l.last ≡ last_of l.yielded
