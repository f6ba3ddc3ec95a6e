use Rattle.std.proofs.Common.{◌∙◌, ◌++◌, chars, encode_utf8_all, ap}
use Rattle.spec_terms.specs.Term.{Name}
use Rattle.cq_built.proofs.Trees.{tree_kept}
use Rattle.cq_predicates.specs.Ways.{one_pair}
use Rattle.cq_predicates.proofs.Asked.{if_ok}
use Rattle.cq_predicates.proofs.text.concatenation.joined_names.Goals as goal

pub returns-clause-ok : goal.returns-clause-ok
returns-clause-ok c =
    let texts = c.args.atoms.now in
    let g = c.atom.ensures.grows in
    let kept = tree_kept texts c.atom.new.atoms c.args.heap.now.now.terms c.atom.new.heap.now.terms g.longer g.terms c.requires.names c.args.whole c.requires.whole in
    let built =
    c.in_ok-joined.ensures.built ∙ ap (λ t. Name t) (c.deref.ensures ∙ c.in_ok-text.ensures)
    ∙ (λ i. Name (encode_utf8_all (chars (c.text.ensures.value i) ++ chars (c.text-2.ensures.value i)))) in
    if_ok c.one_way.result c.one_way.ensures.offered (λ ways h. h c.atom.new.atoms ∙ (λ i. one_pair (kept i) (built i)))
