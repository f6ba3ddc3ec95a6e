use Rattle.std.proofs.Common.{◌<◌, ◌++◌, ◌∷◌, ◌∙◌, [], map, length, take, ap, sym, arith}
use Rattle.std.proofs.lemmas.List.{map-append, take_more}
use Rattle.std.proofs.lemmas.List.Elements.{All-push, All-same}
use Rattle.spec_numbers.proofs.Prefixes.{prefix_all_within}
use Rattle.spec_builtins.specs.Texts.{element_of}
use Rattle.cq_term.specs.Trees.{tree, trees}
use Rattle.cq_built.proofs.Growing.{grows_both}
use Rattle.cq_built.proofs.Trees.{trees_kept}
use Rattle.cq_predicates.specs.Elements.{kind_of}
use Rattle.cq_predicates.proofs.codes.elements.elements.Goals as goal

pub returns-in_err-id-clause-grows : goal.returns-in_err-id-clause-grows
returns-in_err-id-clause-grows c =
    grows_both c.args.atoms.now c.loop-character.atoms c.element.new.atoms c.args.heap.now c.loop-character.heap c.element.new.heap c.loop-character.invariant.grows c.element.ensures.grows

pub returns-in_err-push-clause-grows : goal.returns-in_err-push-clause-grows
returns-in_err-push-clause-grows c =
    grows_both c.args.atoms.now c.loop-character.atoms c.element.new.atoms c.args.heap.now c.loop-character.heap c.element.new.heap c.loop-character.invariant.grows c.element.ensures.grows

pub loop-character-preserved : goal.loop-character-preserved
loop-character-preserved c =
    let cs = c.args.characters.now in
    let i = c.loop-character.character-index in
    let inv = c.loop-character.invariant in
    let ids = c.loop-character.ids.items in
    let id = c.in_ok-id.id in
    let more = c.element.new.atoms in
    let us = c.element.new.heap.now.terms in
    let g = c.element.ensures.grows in
    let f = element_of (kind_of c.args.kind) in
    let item = c.character-item.result in
    let pushed = c.in_ok-push.ensures.items in
    let lt : i < length cs = omega arith in
    let old = trees_kept c.loop-character.atoms more c.loop-character.heap.now.terms us g.longer g.terms (inv.grows.names c.requires.names) ids inv.live in
    record {
      live = All-same (λ k. k < length us) c.push.new.self.items (ids ++ id ∷ []) pushed
          (All-push (λ k. k < length us) ids id (prefix_all_within c.loop-character.heap.now.terms us ids g.terms inv.live) c.in_ok-id.ensures.live);
      built = ap (trees more us) pushed ∙ map-append (tree more us) ids (id ∷ []) ∙ (λ j. (old ∙ inv.built) j ++ c.in_ok-id.ensures.built j ∷ [])
          ∙ sym (map-append f (take i cs) (item ∷ [])) ∙ ap (λ x. map f (take i cs ++ x ∷ [])) c.character-item.is ∙ ap (map f) (sym (take_more cs i item lt));
      grows = grows_both c.args.atoms.now c.loop-character.atoms more c.args.heap.now c.loop-character.heap c.element.new.heap inv.grows g;
    }
