use Rattle.std.proofs.Common.{◌≡◌, ◌∙◌, ◌+◌, ◌-◌, [], ◌∷◌, ap, rules, take, drop, arith}
use Rattle.spec_builtins.specs.Texts.{name_of}
use Rattle.cq_term.specs.Trees.{tree}
use Rattle.cq_built.proofs.Growing.{grows_both}
use Rattle.cq_built.proofs.Trees.{tree_kept}
use Rattle.cq_predicates.proofs.Kept.{part_made}
use Rattle.cq_predicates.proofs.text.ways.part_alternative.Goals as goal

pub returns-clause-built : goal.returns-clause-built
returns-clause-built c =
    let g = c.atom_of.ensures.grows in
    let h = c.count_terms.ensures.grows in
    let cs = c.args.characters.now in
    let same = tree c.atom_of.new.atoms c.count_terms.new.heap.now.terms in
    let items : c.in_ok-pairs.pairs.items ≡ c.pair.result ∷ c.pair-2.result ∷ c.pair-3.result ∷ c.pair-4.result ∷ [] = search rules in
    let kept = tree_kept c.atom_of.new.atoms c.atom_of.new.atoms c.atom_of.new.heap.now.terms c.count_terms.new.heap.now.terms h.longer h.terms (g.names c.requires.names) c.in_ok-part.part c.in_ok-part.ensures.live in
    let whole : c.args.place.before + c.args.place.len - c.args.place.before ≡ c.args.place.len = omega arith in
    part_made c.args.atoms.now c.atom_of.new.atoms c.args.heap.now c.count_terms.new.heap (grows_both c.args.atoms.now c.atom_of.new.atoms c.atom_of.new.atoms c.args.heap.now c.atom_of.new.heap c.count_terms.new.heap g h)
    c.requires.names c.args.args c.requires.live cs c.args.place (record { pairs = c.in_ok-pairs.pairs }) c.pair.result c.pair-2.result c.pair-3.result c.pair-4.result items
    c.pair.ensures.left (ap same c.pair.ensures.right ∙ c.in_ok-counts.ensures.before)
    c.pair-2.ensures.left (ap same c.pair-2.ensures.right ∙ c.in_ok-counts.ensures.len)
    c.pair-3.ensures.left (ap same c.pair-3.ensures.right ∙ c.in_ok-counts.ensures.after)
    c.pair-4.ensures.left (ap same c.pair-4.ensures.right ∙ kept ∙ c.in_ok-part.ensures.built ∙ ap (λ n. name_of (take n (drop c.args.place.before cs))) whole)
