use Rattle.std.proofs.Common.{◌∙◌}
use Rattle.std.proofs.lemmas.Result.{IfOk-weaker}
use Rattle.spec_syntax.specs.Trees.{binary}
use Rattle.cq_built.proofs.Growing.{grows_both}
use Rattle.cq_built.proofs.Trees.{kept}
use Rattle.cq_built.proofs.balls.blaming.Goals as goal

pub returns-clause-built : goal.returns-clause-built
returns-clause-built c =
    let first = c.culprit_term in
    let blamed =
    kept first.new.atoms c.atom.new.atoms first.new.heap c.atom.new.heap c.atom.ensures.grows (first.ensures.grows.names c.requires.names) c.in_ok-culprit.culprit c.in_ok-culprit.ensures.live
    ∙ c.in_ok-culprit.ensures.built in
    IfOk-weaker c.over_two.result _ _ (λ id e. e ∙ (λ i. binary c.args.text.now (c.in_ok-first.ensures.built i) (blamed i))) c.over_two.ensures.built

pub returns-clause-grows : goal.returns-clause-grows
returns-clause-grows c =
    let first = c.culprit_term in
    grows_both c.args.atoms.now c.atom.new.atoms c.over_two.new.atoms c.args.heap.now c.atom.new.heap c.over_two.new.heap
    (grows_both c.args.atoms.now first.new.atoms c.atom.new.atoms c.args.heap.now first.new.heap c.atom.new.heap first.ensures.grows c.atom.ensures.grows) c.over_two.ensures.grows
