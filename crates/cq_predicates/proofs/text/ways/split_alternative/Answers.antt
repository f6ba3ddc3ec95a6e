use Rattle.std.proofs.Common.{◌≡◌, ◌∙◌, [], ◌∷◌, ap, rules}
use Rattle.spec_builtins.specs.Texts.{name_of}
use Rattle.cq_term.specs.Trees.{tree}
use Rattle.cq_built.proofs.Growing.{grows_both}
use Rattle.cq_built.proofs.Trees.{tree_kept}
use Rattle.cq_predicates.proofs.Kept.{split_made}
use Rattle.cq_predicates.proofs.text.ways.split_alternative.Goals as goal

pub returns-clause-built : goal.returns-clause-built
returns-clause-built c =
    let g = c.atom_of.ensures.grows in
    let h = c.atom_of-2.ensures.grows in
    let cs = c.args.characters.now in
    let same = tree c.atom_of-2.new.atoms c.atom_of-2.new.heap.now.terms in
    let items : c.in_ok-pairs.pairs.items ≡ c.pair.result ∷ c.pair-2.result ∷ [] = search rules in
    let kept = tree_kept c.atom_of.new.atoms c.atom_of-2.new.atoms c.atom_of.new.heap.now.terms c.atom_of-2.new.heap.now.terms h.longer h.terms (g.names c.requires.names) c.in_ok-first.first c.in_ok-first.ensures.live in
    split_made c.args.atoms.now c.atom_of-2.new.atoms c.args.heap.now c.atom_of-2.new.heap (grows_both c.args.atoms.now c.atom_of.new.atoms c.atom_of-2.new.atoms c.args.heap.now c.atom_of.new.heap c.atom_of-2.new.heap g h)
    c.requires.names c.args.args c.requires.live cs c.args.count (record { pairs = c.in_ok-pairs.pairs }) c.pair.result c.pair-2.result items
    c.pair.ensures.left (ap same c.pair.ensures.right ∙ kept ∙ c.in_ok-first.ensures.built ∙ ap name_of c.split_at.ensures.front)
    c.pair-2.ensures.left (ap same c.pair-2.ensures.right ∙ c.in_ok-last.ensures.built ∙ ap name_of c.split_at.ensures.back)
