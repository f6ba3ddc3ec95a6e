use Rattle.std.proofs.Common.{◌∷◌, ◌∙◌, [], length, refl}
use Rattle.std.proofs.lemmas.Result.{IfOk-weaker}
use Rattle.spec_numbers.proofs.Prefixes.{prefix_same}
use Rattle.spec_terms.specs.Term.{Name}
use Rattle.spec_syntax.specs.Trees.{natural}
use Rattle.spec_builtins.specs.Alternatives.{◌≐◌}
use Rattle.cq_term.specs.Texts.{text_of}
use Rattle.cq_term.specs.Meaning.{at}
use Rattle.cq_term.specs.Trees.{tree}
use Rattle.cq_built.specs.Growing.{Grows}
use Rattle.cq_built.proofs.Growing.{grows_both, grows_term}
use Rattle.cq_built.proofs.Trees.{kept, tree_last, known_at}
use Rattle.cq_term.proofs.Named.{functor_below}
use Rattle.cq_builtin.proofs.Over.{functor-compound, offers_alone}
use Rattle.cq_builtin.specs.Functors.{functor_of}
use Rattle.cq_builtin.proofs.functors.of_compound.Goals as goal
use Rattle.cq_builtin.proofs.functors.of_compound.Goals.{In_ok-found}

found_grows : (c : In_ok-found) → Grows c.args.atoms.now c.args.heap.now c.args.atoms.now c.atom.new.self
found_grows c =
    grows_term c.args.atoms.now c.args.atoms.now c.args.heap.now c.atom.new.self (Name c.args.functor) (prefix_same c.args.atoms.now c.args.atoms.now refl) c.in_ok-found.ensures.terms c.in_ok-found.ensures.images
    (λ _. functor_below (length c.args.atoms.now) (at c.args.heap.now.now.terms c.args.term) c.args.functor c.args.count c.requires.shown
    (known_at c.args.atoms.now c.args.heap.now.now.terms c.args.term c.requires.names c.requires.term)) c.in_ok-found.ensures.saved c.in_ok-found.ensures.room

pub returns-clause-offered : goal.returns-clause-offered
returns-clause-offered c =
    let k = (goal.at.returns-clause-offered c).In_ok-found in
    let texts = c.args.atoms.now in
    let old = c.args.heap.now in
    let mid = c.atom.new.self in
    let new = c.name_and_arity.new.heap in
    let t = tree texts old.now.terms in
    let name = kept texts texts old mid (found_grows k) c.requires.names c.args.name c.requires.name in
    let arity = kept texts texts old mid (found_grows k) c.requires.names c.args.arity c.requires.arity in
    let found = tree_last texts old.now.terms mid.now.terms (Name c.args.functor) c.in_ok-found.found c.in_ok-found.ensures.terms c.in_ok-found.ensures.id in
    let grown = grows_both texts texts texts old mid new (found_grows k) c.name_and_arity.ensures.grows in
    IfOk-weaker c.name_and_arity.result _ _ (λ a e.
    offers_alone texts old.now new.now (functor_of texts old.now c.args.term c.args.name c.args.arity) a.pairs.items
    ((t c.args.name ≐ Name (text_of texts c.args.functor)) ∷ (t c.args.arity ≐ natural c.args.count) ∷ [])
    (functor-compound (text_of texts) (at old.now.terms c.args.term) c.args.functor c.args.count (length old.now.images) (t c.args.name) (t c.args.arity) c.requires.shown)
    (e ∙ (λ i. (name i ≐ found i) ∷ (arity i ≐ natural c.args.count) ∷ [])) grown.images) c.name_and_arity.ensures.offered

pub returns-clause-grows : goal.returns-clause-grows
returns-clause-grows c =
    grows_both c.args.atoms.now c.args.atoms.now c.args.atoms.now c.args.heap.now c.atom.new.self c.name_and_arity.new.heap (found_grows (goal.at.returns-clause-grows c).In_ok-found) c.name_and_arity.ensures.grows
