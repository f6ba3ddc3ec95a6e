use Rattle.cq_built.proofs.Growing.{grows_both}
use Rattle.cq_predicates.proofs.text.ways.count_terms.Goals as goal

pub returns-in_err-after-clause-grows : goal.returns-in_err-after-clause-grows
returns-in_err-after-clause-grows c =
    let texts = c.args.atoms.now in
    grows_both texts texts texts c.args.heap.now c.whole-2.new.heap c.whole-3.new.heap (grows_both texts texts texts c.args.heap.now c.whole.new.heap c.whole-2.new.heap c.whole.ensures.grows c.whole-2.ensures.grows) c.whole-3.ensures.grows

pub returns-clause-grows : goal.returns-clause-grows
returns-clause-grows c =
    let texts = c.args.atoms.now in
    grows_both texts texts texts c.args.heap.now c.whole-2.new.heap c.whole-3.new.heap (grows_both texts texts texts c.args.heap.now c.whole.new.heap c.whole-2.new.heap c.whole.ensures.grows c.whole-2.ensures.grows) c.whole-3.ensures.grows
