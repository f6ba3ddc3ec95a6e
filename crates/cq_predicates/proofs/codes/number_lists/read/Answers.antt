use Rattle.std.proofs.Common.{refl}
use Rattle.spec_terms.specs.Term.{Number}
use Rattle.spec_numbers.proofs.Prefixes.{prefix_same}
use Rattle.cq_built.proofs.Growing.{grows_names, grows_term}
use Rattle.cq_predicates.proofs.codes.number_lists.read.Goals as goal

pub returns-in_err-right-in-Some-clause-grows : goal.returns-in_err-right-in-Some-clause-grows
returns-in_err-right-in-Some-clause-grows c =
    let texts = c.args.atoms.now in
    let e = c.in_err-right-in-Some.ensures in
    grows_names texts texts c.args.heap.now c.number.new.self (prefix_same texts texts refl) e.err e.saved e.room

pub returns-in_ok-right-in-Some-clause-grows : goal.returns-in_ok-right-in-Some-clause-grows
returns-in_ok-right-in-Some-clause-grows c =
    let texts = c.args.atoms.now in
    let e = c.in_ok-right-in-Some.ensures in
    grows_term texts texts c.args.heap.now c.number.new.self (Number c.in-Some.found) (prefix_same texts texts refl) e.terms e.images (λ known. tt) e.saved e.room
