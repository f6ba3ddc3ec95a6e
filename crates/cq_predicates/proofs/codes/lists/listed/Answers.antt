use Rattle.std.proofs.Common.{◌∙◌, ap}
use Rattle.spec_syntax.specs.Trees.{list_tree}
use Rattle.spec_builtins.specs.Alternatives.{◌≐◌}
use Rattle.cq_term.specs.Trees.{trees}
use Rattle.cq_built.proofs.Growing.{grows_both}
use Rattle.cq_built.proofs.Trees.{kept}
use Rattle.cq_predicates.proofs.codes.lists.listed.Goals as goal

pub returns-clause-offered : goal.returns-clause-offered
returns-clause-offered c =
    let texts = c.args.atoms.now in
    let more = c.list.new.atoms in
    let grows = grows_both texts c.elements.new.atoms more c.args.heap.now c.elements.new.heap c.list.new.heap c.elements.ensures.grows c.list.ensures.grows in
    let left = kept texts more c.args.heap.now c.list.new.heap grows c.requires.names c.args.list c.requires.list in
    let right =
    c.in_ok-right.ensures.built ∙ ap (λ ids. list_tree (trees c.elements.new.atoms c.elements.new.heap.now.terms ids)) c.deref.ensures.value
    ∙ ap list_tree c.in_ok-ids.ensures.built in
    (λ i. left i ≐ right i)
