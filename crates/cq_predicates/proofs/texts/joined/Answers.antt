use Rattle.std.proofs.Common.{ap, ◌∙◌, arith}
use Rattle.cq_predicates.proofs.Givings.{nth_is, offered_alone, gives_none_new}
use Rattle.spec_builtins.specs.Alternatives.{Offers}
use Rattle.spec_builtins.specs.Texts.{atom_concat_row}
use Rattle.cq_term.specs.Trees.{tree}
use Rattle.cq_predicates.proofs.texts.joined.Goals as goal

pub returns-clause-offered : goal.returns-clause-offered
returns-clause-offered c =
    let f = tree c.args.atoms.now c.args.heap.now.now.terms in
    let xs = c.args.args.now in
    let e0 = nth_is f xs 0 c.index-args-0.result (omega arith) c.index-args-0.is in
    let e1 = nth_is f xs 1 c.index-args-1.result (omega arith) c.index-args-1.is in
    let e2 = nth_is f xs 2 c.index-args-2.result (omega arith) c.index-args-2.is in
    gives_none_new c.concat_ways.new.atoms c.args.heap.now.now c.concat_ways.new.heap.now _ _
    ((λ i. atom_concat_row (e0 i) (e1 i) (e2 i)) ∙ c.in_ok-ways.ensures.ok ∙ ap Offers (offered_alone c.concat_ways.new.atoms c.concat_ways.new.heap.now.terms c.in_ok-ways.ways))
    c.concat_ways.ensures.grows.images
