use Rattle.std.proofs.Common.{◌≡◌, ◌<◌, ◌∷◌, ◌∙◌, [], map, length, refl, sym, ap}
use Rattle.std.proofs.lemmas.Option.{slice_get-get_or}
use Rattle.spec_numbers.proofs.Prefixes.{prefix_same}
use Rattle.spec_terms.specs.Term.{with_arguments}
use Rattle.spec_builtins.specs.Alternatives.{◌≐◌, one_way}
use Rattle.spec_builtins.specs.Terms.{univ_built}
use Rattle.cq_term.specs.Texts.{text_of}
use Rattle.cq_term.specs.Meaning.{at}
use Rattle.cq_term.specs.Shown.{view_of}
use Rattle.cq_term.specs.declared.view.View.TheVariants as view
use Rattle.cq_term.specs.Trees.{tree, trees}
use Rattle.cq_built.specs.Growing.{Grows}
use Rattle.cq_built.proofs.Growing.{grows_term}
use Rattle.cq_built.proofs.Trees.{kept, tree_over, over_known, known_at}
use Rattle.cq_term.proofs.Named.{name_below}
use Rattle.cq_builtin.proofs.Shown.{named-name}
use Rattle.cq_builtin.proofs.lists.from_first.Goals as goal
use Rattle.cq_builtin.proofs.lists.from_first.Goals.{In_ok-right-in-Name-view}

module _ (c : In_ok-right-in-Name-view) where
  shows : view_of (at c.args.heap.now.now.terms c.args.first) ≡ view.Name c.in-Name-view.name
  shows = sym c.view-else-is_empty.ensures.view ∙ c.in-Name-view.is

  below : c.in-Name-view.name < length c.args.atoms.now
  below = name_below (length c.args.atoms.now) (at c.args.heap.now.now.terms c.args.first) c.in-Name-view.name shows (known_at c.args.atoms.now c.args.heap.now.now.terms c.args.first c.requires.names c.requires.first)

  grown : Grows c.args.atoms.now c.args.heap.now c.args.atoms.now c.compound.new.self
  grown =
      grows_term c.args.atoms.now c.args.atoms.now c.args.heap.now c.compound.new.self (with_arguments c.in-Name-view.name (map (at c.args.heap.now.now.terms) c.args.rest.now))
      (prefix_same c.args.atoms.now c.args.atoms.now refl) c.in_ok-right-in-Name-view.ensures.terms c.in_ok-right-in-Name-view.ensures.images
      (λ known. over_known c.args.atoms.now c.args.heap.now.now.terms c.in-Name-view.name c.args.rest.now below c.requires.rest known)
      c.in_ok-right-in-Name-view.ensures.saved c.in_ok-right-in-Name-view.ensures.room

pub returns-in_ok-right-in-Name-view-clause-offered : goal.returns-in_ok-right-in-Name-view-clause-offered
returns-in_ok-right-in-Name-view-clause-offered c =
    let k = (goal.at.returns-in_ok-right-in-Name-view-clause-offered c).In_ok-right-in-Name-view in
    let texts = c.args.atoms.now in
    let ts = c.args.heap.now.now.terms in
    let name = c.in-Name-view.name in
    let right =
    tree_over texts ts c.compound.new.self.now.terms name c.in_ok-right-in-Name-view.right (text_of texts name) c.args.rest.now c.in_ok-right-in-Name-view.ensures.terms
    c.in_ok-right-in-Name-view.ensures.id (slice_get-get_or texts name [] (below k)) in
    let left = kept texts texts c.args.heap.now c.compound.new.self (grown k) c.requires.names c.args.term c.requires.term in
    ap (λ x. univ_built (tree texts ts c.args.term) (x ∷ trees texts ts c.args.rest.now)) (named-name (text_of texts) (at ts c.args.first) name (shows k))
    ∙ (λ i. one_way ((sym left i ≐ sym right i) ∷ []))

pub returns-in_ok-right-in-Name-view-clause-grows : goal.returns-in_ok-right-in-Name-view-clause-grows
returns-in_ok-right-in-Name-view-clause-grows c = grown (goal.at.returns-in_ok-right-in-Name-view-clause-grows c).In_ok-right-in-Name-view
