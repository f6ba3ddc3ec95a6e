use Rattle.std.proofs.Common.{◌∙◌, chars, length, ap}
use Rattle.spec_syntax.specs.Trees.{natural}
use Rattle.cq_built.proofs.Trees.{tree_kept}
use Rattle.cq_predicates.specs.Ways.{one_pair}
use Rattle.cq_predicates.proofs.Asked.{if_ok}
use Rattle.cq_predicates.proofs.text.lengths.told_length.Goals as goal

pub returns-clause-ok : goal.returns-clause-ok
returns-clause-ok c =
    let texts = c.args.atoms.now in
    let g = c.whole.ensures.grows in
    let kept = tree_kept texts texts c.args.heap.now.now.terms c.whole.new.heap.now.terms g.longer g.terms c.requires.names c.args.len c.requires.len in
    let built = c.in_ok-count.ensures.built ∙ ap natural (c.count.ensures ∙ ap (λ t. length (chars t)) c.text.ensures.value) in
    if_ok c.one_way.result c.one_way.ensures.offered (λ ways h. h texts ∙ (λ i. one_pair (kept i) (built i)))
