use Rattle.std.proofs.Common.{arith}
use Rattle.cq_lint.specs.Findings.{findings_of}
use Rattle.cq_lint.proofs.Found.{findings_step, findings_end}
use Rattle.cq_lint.proofs.findings.findings_of.Goals as goal

pub loop-sentence-preserved : goal.loop-sentence-preserved
loop-sentence-preserved c =
    findings_step c.args.known.now c.loop-sentence.passed c.look_at.new.passed c.args.sentences.now c.loop-sentence.sentence-index c.sentence-item.result
    c.loop-sentence.found.items c.look_at.new.found.items (findings_of c.args.known.now c.args.sentences.now) (omega (arith, c.loop-sentence-test.true)) c.sentence-item.is
    c.in_ok-look_at.ensures.found c.in_ok-look_at.ensures.passed c.loop-sentence.invariant

pub returns : goal.returns
returns c =
    findings_end c.args.known.now c.loop-sentence.passed c.args.sentences.now c.loop-sentence.sentence-index c.loop-sentence.found.items (findings_of c.args.known.now c.args.sentences.now)
    (omega (arith, c.loop-sentence-test.false)) c.loop-sentence.invariant
