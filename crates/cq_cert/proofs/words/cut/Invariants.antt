use Rattle.std.proofs.Common.{◌≡◌, false, take, All}
use Rattle.std.specs.Prelude.{◌==◌}
use Rattle.cq_cert.proofs.words.cut.Given as goal

abbrev pub invariant-loop-i : goal.invariant-loop-i
invariant-loop-i l = All (λ b. (b == l.at) ≡ false) (take l.i l.text)
