use Rattle.std.proofs.Common.{◌≡◌, ◌∷◌, ◌∙◌, [], map, length, refl, sym, ap}
use Rattle.spec_numbers.proofs.Prefixes.{prefix_same, prefix_get_or}
use Rattle.spec_terms.specs.Term.{Name, named}
use Rattle.spec_syntax.specs.Trees.{list_tree}
use Rattle.spec_builtins.specs.Alternatives.{◌≐◌, one_way}
use Rattle.cq_term.specs.Texts.{text_of}
use Rattle.cq_term.specs.Meaning.{at, blank}
use Rattle.cq_term.specs.Shown.{arguments}
use Rattle.cq_term.specs.Trees.{trees}
use Rattle.cq_built.specs.Growing.{Grows}
use Rattle.cq_built.proofs.Growing.{grows_both, grows_term}
use Rattle.cq_built.proofs.Trees.{kept, tree_last, known_at, trees_map}
use Rattle.cq_term.proofs.Named.{functor_below}
use Rattle.cq_builtin.proofs.Shown.{univ-compound}
use Rattle.cq_builtin.proofs.lists.taken_apart.Goals as goal
use Rattle.cq_builtin.proofs.lists.taken_apart.Goals.{In_ok-first}

first_grows : (c : In_ok-first) → Grows c.args.atoms.now c.args.heap.now c.args.atoms.now c.atom.new.self
first_grows c =
    grows_term c.args.atoms.now c.args.atoms.now c.args.heap.now c.atom.new.self (Name c.args.name) (prefix_same c.args.atoms.now c.args.atoms.now refl) c.in_ok-first.ensures.terms c.in_ok-first.ensures.images
    (λ _. functor_below (length c.args.atoms.now) (at c.args.heap.now.now.terms c.args.term) c.args.name c.requires.shown.0 c.requires.shown.1
    (known_at c.args.atoms.now c.args.heap.now.now.terms c.args.term c.requires.names c.requires.term)) c.in_ok-first.ensures.saved c.in_ok-first.ensures.room

pub returns-in_err-right-clause-grows : goal.returns-in_err-right-clause-grows
returns-in_err-right-clause-grows c =
    grows_both c.args.atoms.now c.args.atoms.now c.list.new.atoms c.args.heap.now c.atom.new.self c.list.new.heap
    (first_grows (goal.at.returns-in_err-right-clause-grows c).In_ok-first) c.list.ensures.grows

pub returns-clause-offered : goal.returns-clause-offered
returns-clause-offered c =
    let k = (goal.at.returns-clause-offered c).In_ok-first in
    let texts = c.args.atoms.now in
    let ts = c.args.heap.now.now.terms in
    let us = c.atom.new.self.now.terms in
    let t = at ts c.args.term in
    let ids = c.deref.result.now in
    let grown = grows_both texts texts c.list.new.atoms c.args.heap.now c.atom.new.self c.list.new.heap (first_grows k) c.list.ensures.grows in
    let left = kept texts c.list.new.atoms c.args.heap.now c.list.new.heap grown c.requires.names c.args.list c.requires.list in
    let elements : trees texts us ids ≡ Name (text_of texts c.args.name) ∷ map (named (text_of texts)) (arguments t) =
    sym (trees_map texts us ids)
    ∙ ap (λ xs. map (named (text_of texts)) (map (at us) xs)) c.deref.ensures.value
    ∙ ap (map (named (text_of texts))) c.in_ok-elements.ensures.terms
    ∙ (λ i. tree_last texts ts us (Name c.args.name) c.in_ok-first.first c.in_ok-first.ensures.terms c.in_ok-first.ensures.id i
    ∷ map (named (text_of texts)) (arguments (prefix_get_or ts us c.args.term blank (first_grows k).terms c.requires.term i))) in
    univ-compound (text_of texts) t c.args.name c.requires.shown.0 _ c.requires.shown.1
    ∙ (λ i. one_way ((sym left i ≐ sym (c.in_ok-right.ensures.built ∙ ap list_tree elements) i) ∷ []))

pub returns-clause-grows : goal.returns-clause-grows
returns-clause-grows c =
    grows_both c.args.atoms.now c.args.atoms.now c.list.new.atoms c.args.heap.now c.atom.new.self c.list.new.heap
    (first_grows (goal.at.returns-clause-grows c).In_ok-first) c.list.ensures.grows
