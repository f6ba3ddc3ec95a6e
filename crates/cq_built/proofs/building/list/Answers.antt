use Rattle.std.proofs.Common.{◌≡◌, ◌<◌, ◌-◌, ◌+◌, ◌∙◌, ◌∷◌, [], codes, drop, length, ap, refl, sym, subst, arith}
use Rattle.std.proofs.Math.Seq.{drop-length}
use Rattle.std.proofs.lemmas.List.{drop_more}
use Rattle.std.proofs.lemmas.List.Elements.{All-get_or}
use Rattle.spec_numbers.proofs.Prefixes.{prefix_length, prefix_same}
use Rattle.spec_syntax.specs.Trees.{binary, list_tree}
use Rattle.cq_term.specs.Trees.{trees}
use Rattle.cq_built.proofs.Growing.{grows_both, grows_names, longer_by_text}
use Rattle.cq_built.proofs.Trees.{name_known, tree_kept}
use Rattle.cq_built.proofs.building.list.Goals as goal

pub loop-i-init : goal.loop-i-init
loop-i-init c =
    let texts = c.atom.new.atoms in
    let more = c.intern.new.self in
    let grown = c.in_ok-whole.ensures.grows in
    let ts = c.atom.new.heap.now.terms in
    let longer = longer_by_text texts more (codes ".") c.in_ok-dot.ensures.texts in
    let none : drop (length c.args.elements.now) c.args.elements.now ≡ [] = drop-length c.args.elements.now in
    record {
      whole = c.in_ok-whole.ensures.live;
      list = tree_kept texts more ts ts longer (prefix_same ts ts refl) (grown.names c.requires.names) c.in_ok-whole.whole c.in_ok-whole.ensures.live
          ∙ c.in_ok-whole.ensures.built ∙ ap (λ ids. list_tree (trees c.args.atoms.now c.args.heap.now.now.terms ids)) (sym none);
      grows = grows_both c.args.atoms.now texts more c.args.heap.now c.atom.new.heap c.atom.new.heap grown
          (grows_names texts more c.atom.new.heap c.atom.new.heap longer refl refl (omega arith));
    }

pub over_known-requires-clause-name : goal.over_known-requires-clause-name
over_known-requires-clause-name c = name_known c.intern.new.self c.in_ok-dot.dot (codes ".") c.in_ok-dot.ensures.number

pub over_known-requires-clause-first : goal.over_known-requires-clause-first
over_known-requires-clause-first c =
    let ts = c.args.heap.now.now.terms in
    let es = c.args.elements.now in
    let head = c.index-elements-i.result in
    let lt : c.loop-i.i - 1 < length es = omega (arith, c.loop-i.auto.i) in
    let live : head < length ts = subst (λ id. id < length ts) (sym c.index-elements-i.is) (All-get_or (λ id. id < length ts) es (c.loop-i.i - 1) head lt c.requires.live) in
    omega (arith, live, prefix_length ts c.loop-i.heap.now.terms c.loop-i.invariant.grows.terms)

pub loop-i-preserved : goal.loop-i-preserved
loop-i-preserved c =
    let ts = c.args.heap.now.now.terms in
    let es = c.args.elements.now in
    let more = c.intern.new.self in
    let grown = c.loop-i.invariant.grows in
    let head = c.index-elements-i.result in
    let lt : c.loop-i.i - 1 < length es = omega (arith, c.loop-i.auto.i) in
    let live : head < length ts = subst (λ id. id < length ts) (sym c.index-elements-i.is) (All-get_or (λ id. id < length ts) es (c.loop-i.i - 1) head lt c.requires.live) in
    let next : c.loop-i.i - 1 + 1 ≡ c.loop-i.i = omega arith in
    let rest : drop (c.loop-i.i - 1) es ≡ head ∷ drop c.loop-i.i es = drop_more es (c.loop-i.i - 1) head lt ∙ (λ j. sym c.index-elements-i.is j ∷ drop (next j) es) in
    let kept = tree_kept c.args.atoms.now more ts c.loop-i.heap.now.terms grown.longer grown.terms c.requires.names head live in
    record {
      whole = c.in_ok-whole-2.ensures.live;
      list = c.in_ok-whole-2.ensures.built (codes ".") c.in_ok-dot.ensures.number ∙ (λ j. binary (codes ".") (kept j) (c.loop-i.invariant.list j))
          ∙ ap (λ ids. list_tree (trees c.args.atoms.now ts ids)) (sym rest);
      grows = grows_both c.args.atoms.now more more c.args.heap.now c.loop-i.heap c.over_known.new.heap grown c.over_known.ensures.grows;
    }
