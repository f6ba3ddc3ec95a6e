use Rattle.std.proofs.Common.{ap, ◌∙◌, refl, arith}
use Rattle.cq_predicates.proofs.Givings.{nth_is, offered_alone, gives_none_new}
use Rattle.spec_builtins.specs.Alternatives.{Offers}
use Rattle.spec_builtins.specs.Texts.{sub_atom_row}
use Rattle.cq_term.specs.Trees.{tree}
use Rattle.cq_predicates.proofs.texts.parted.Goals as goal

pub returns-clause-offered : goal.returns-clause-offered
returns-clause-offered c =
    let f = tree c.args.atoms.now c.args.heap.now.now.terms in
    let xs = c.args.args.now in
    let e0 = nth_is f xs 0 c.index-args-0.result (omega arith) c.index-args-0.is in
    let e1 = nth_is f xs 1 c.index-args-1.result (omega arith) c.index-args-1.is in
    let e2 = nth_is f xs 2 c.index-args-2.result (omega arith) c.index-args-2.is in
    let e3 = nth_is f xs 3 c.index-args-3.result (omega arith) c.index-args-3.is in
    let e4 = nth_is f xs 4 c.index-args-4.result (omega arith) c.index-args-4.is in
    gives_none_new c.args.atoms.now c.args.heap.now.now c.args.heap.now.now _ _
    ((λ i. sub_atom_row (e0 i) (e1 i) (e2 i) (e3 i) (e4 i)) ∙ c.in_ok-ways.ensures.ok ∙ ap Offers (offered_alone c.args.atoms.now c.args.heap.now.now.terms c.in_ok-ways.ways))
    refl
