use Rattle.std.proofs.Common.{◌≡◌, ◌<◌, ◌-◌, ◌∙◌, ◌++◌, ◌∷◌, [], ℕ, List, length, map, take, drop, reverse, ap, refl, arith}
use Rattle.std.proofs.lemmas.List.{take_rest}
use Rattle.std.proofs.lemmas.List.Elements.{All-drop}
use Rattle.spec_terms.specs.Term.{with_arguments}
use Rattle.cq_term.specs.Meaning.{at}
use Rattle.cq_resolve.proofs.Built.{all_reverse, built_compound}
use Rattle.cq_resolve.proofs.StoredNamed.{named_over}
use Rattle.cq_resolve.proofs.stored.building.add_compound.Goals as goal
use Rattle.cq_resolve.proofs.stored.building.add_compound.Goals.{In_ok-whole}

module _ (c : In_ok-whole) where
  abbrev old : List ℕ
  old = c.args.built.now.items

  abbrev before : ℕ
  before = c.len.result - c.args.arity

  abbrev arguments : List ℕ
  arguments = reverse (drop before old)

  made : c.compound_reversed.new.self.now.terms ≡ c.args.heap.now.now.terms ++ with_arguments c.args.name (map (at c.args.heap.now.now.terms) arguments) ∷ []
  made = c.in_ok-whole.ensures.terms
      ∙ ap (λ xs. c.args.heap.now.now.terms ++ with_arguments c.args.name (map (at c.args.heap.now.now.terms) (reverse xs)) ∷ []) (take_rest c.deref.result.now before ∙ ap (drop before) c.deref.ensures.value)

pub returns-clause-built : goal.returns-clause-built
returns-clause-built c =
    let k = (goal.at.returns-clause-built c).In_ok-whole in
    let ts = c.args.heap.now.now.terms in
    built_compound ts c.compound_reversed.new.self.now.terms c.args.name c.args.arity (before k) (old k) (take (before k) (old k)) (drop (before k) (old k)) (arguments k) c.push.new.self.items c.in_ok-whole.whole
    refl refl (omega (arith, c.len.ensures, c.args.built.now.ok, c.requires.enough)) refl (made k) c.in_ok-whole.ensures.id
    (c.in_ok-push.ensures.items ∙ ap (λ xs. xs ++ c.in_ok-whole.whole ∷ []) c.truncate.ensures.items) c.requires.live

pub returns-clause-names : goal.returns-clause-names
returns-clause-names c =
    let k = (goal.at.returns-clause-names c).In_ok-whole in
    let ts = c.args.heap.now.now.terms in
    let live = all_reverse (λ i. i < length ts) (drop (before k) (old k)) (All-drop (λ i. i < length ts) (before k) (old k) c.requires.live) in
    λ n lt all. named_over n c.args.name ts c.compound_reversed.new.self.now.terms (arguments k) (made k) live lt all
