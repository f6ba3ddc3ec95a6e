use Rattle.cq_ops.specs.Tables.{named}
use Rattle.cq_lint.proofs.Standing.{all_passed}
use Rattle.cq_lint.proofs.reading.read_sentences.Goals as goal

pub returns-in-None-clause-stand : goal.returns-in-None-clause-stand
returns-in-None-clause-stand c =
    let e = rw c.in-None.is at c.in_ok-sentence.ensures.stands in
    all_passed c.args.text.now (named c.args.atoms.now c.args.ops.now) (named c.sentences.atoms c.sentences.ops) (named c.read_sentence.new.atoms c.read_sentence.new.ops)
    c.sentences.place c.sentences.found.items c.sentences.invariant.passed e.0 e.1
