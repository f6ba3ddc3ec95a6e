use Rattle.std.proofs.Common.{arith}
use Rattle.cq_cert.proofs.Cuts.{cut_found, none_more, cut_nowhere}
use Rattle.cq_cert.proofs.words.cut.Goals as goal

pub returns-then-b-at-clause-parts : goal.returns-then-b-at-clause-parts
returns-then-b-at-clause-parts c = cut_found c.args.at c.args.text.now c.loop-i.i (omega arith) c.if-b-at.true c.loop-i.invariant

pub loop-i-preserved : goal.loop-i-preserved
loop-i-preserved c = none_more c.args.at c.args.text.now c.loop-i.i (omega arith) c.if-b-at.false c.loop-i.invariant

pub returns-clause-parts : goal.returns-clause-parts
returns-clause-parts c = cut_nowhere c.args.at c.args.text.now c.loop-i.i (omega arith) c.loop-i.invariant
