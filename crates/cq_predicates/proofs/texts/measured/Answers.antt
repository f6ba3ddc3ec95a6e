use Rattle.std.proofs.Common.{ap, ◌∙◌, arith}
use Rattle.cq_predicates.proofs.Givings.{nth_is, offered_alone, gives_none_new}
use Rattle.spec_builtins.specs.Alternatives.{Offers}
use Rattle.spec_builtins.specs.Texts.{atom_length_row}
use Rattle.cq_term.specs.Trees.{tree}
use Rattle.cq_predicates.proofs.texts.measured.Goals as goal

pub returns-clause-offered : goal.returns-clause-offered
returns-clause-offered c =
    let f = tree c.args.atoms.now c.args.heap.now.now.terms in
    let xs = c.args.args.now in
    let e0 = nth_is f xs 0 c.index-args-0.result (omega arith) c.index-args-0.is in
    let e1 = nth_is f xs 1 c.index-args-1.result (omega arith) c.index-args-1.is in
    gives_none_new c.args.atoms.now c.args.heap.now.now c.length_ways.new.heap.now _ _
    ((λ i. atom_length_row (e0 i) (e1 i)) ∙ c.in_ok-ways.ensures.ok ∙ ap Offers (offered_alone c.args.atoms.now c.length_ways.new.heap.now.terms c.in_ok-ways.ways))
    c.length_ways.ensures.grows.images
