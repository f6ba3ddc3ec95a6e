use Rattle.std.proofs.Common.{◌≡◌, take}
use Rattle.std.specs.Prelude.{fold}
use Rattle.cq_lint.specs.Findings.{known_with}
use Rattle.cq_lint.proofs.known.Known.add_all.Given as goal

abbrev pub invariant-loop-sentence : goal.invariant-loop-sentence
invariant-loop-sentence l = l.self ≡ fold known_with l.initial.self (take l.sentence-index l.sentences)
