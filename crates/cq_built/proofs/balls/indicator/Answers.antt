use Rattle.std.proofs.Common.{◌∙◌, codes}
use Rattle.std.proofs.lemmas.Result.{IfOk-weaker}
use Rattle.spec_syntax.specs.Trees.{binary}
use Rattle.cq_built.proofs.Growing.{grows_both}
use Rattle.cq_built.proofs.Trees.{kept}
use Rattle.cq_built.proofs.balls.indicator.Goals as goal

pub returns-in_err-arity-clause-grows : goal.returns-in_err-arity-clause-grows
returns-in_err-arity-clause-grows c = grows_both c.args.atoms.now c.args.atoms.now c.args.atoms.now c.args.heap.now c.named.new.heap c.whole.new.heap c.named.ensures.grows c.whole.ensures.grows

pub over_two-requires-clause-names : goal.over_two-requires-clause-names
over_two-requires-clause-names c = c.whole.ensures.grows.names (c.named.ensures.grows.names c.requires.names)

pub returns-clause-built : goal.returns-clause-built
returns-clause-built c =
    let texts = c.args.atoms.now in
    let name = kept texts texts c.named.new.heap c.whole.new.heap c.whole.ensures.grows (c.named.ensures.grows.names c.requires.names) c.in_ok-name.name c.in_ok-name.ensures.live ∙ c.in_ok-name.ensures.built in
    IfOk-weaker c.over_two.result _ _ (λ id e. e ∙ (λ i. binary (codes "/") (name i) (c.in_ok-arity.ensures.built i))) c.over_two.ensures.built

pub returns-clause-grows : goal.returns-clause-grows
returns-clause-grows c =
    grows_both c.args.atoms.now c.args.atoms.now c.over_two.new.atoms c.args.heap.now c.whole.new.heap c.over_two.new.heap
    (grows_both c.args.atoms.now c.args.atoms.now c.args.atoms.now c.args.heap.now c.named.new.heap c.whole.new.heap c.named.ensures.grows c.whole.ensures.grows) c.over_two.ensures.grows
