use Rattle.std.proofs.Common.{◌≡◌, ◌+◌, drop}
use Rattle.std.specs.List.{prefix_len}
use Rattle.spec_syntax.specs.Characters.{is_layout}
use Rattle.cq_predicates.proofs.codes.numerals.layout_len.Given as goal

abbrev pub invariant-loop-len : goal.invariant-loop-len
invariant-loop-len l = l.len + prefix_len is_layout (drop l.len l.text) ≡ prefix_len is_layout l.text
