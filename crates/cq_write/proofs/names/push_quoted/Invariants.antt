use Rattle.std.proofs.Common.{◌≡◌, ◌++◌, ◌∷◌, string_bytes}
use Rattle.spec_text.specs.Texts.{all_escaped}
use Rattle.cq_write.proofs.names.push_quoted.Given as goal

abbrev pub invariant-loop-c : goal.invariant-loop-c
invariant-loop-c l = string_bytes l.out ≡ string_bytes l.fn.out ++ 39 ∷ all_escaped 39 l.yielded
