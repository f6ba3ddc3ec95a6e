use Rattle.std.proofs.Common.{◌≡◌, ◌+◌, drop}
use Rattle.std.specs.List.{prefix_len}
use Rattle.cq_write.specs.Looks.{continues_word}
use Rattle.cq_write.proofs.looks.word_len.Given as goal

abbrev pub invariant-loop-len : goal.invariant-loop-len
invariant-loop-len l = l.len + prefix_len continues_word (drop l.len l.text) ≡ prefix_len continues_word l.text
