use Rattle.std.proofs.Common.{◌≡◌, ◌++◌, drop}
use Rattle.cq_lint.specs.Findings.{findings_behind, findings_of}
use Rattle.cq_lint.proofs.findings.findings_of.Given as goal

abbrev pub invariant-loop-sentence : goal.invariant-loop-sentence
invariant-loop-sentence l = l.found.items ++ findings_behind l.known l.passed (drop l.sentence-index l.sentences) ≡ findings_of l.known l.sentences
