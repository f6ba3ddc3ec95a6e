use Rattle.std.proofs.Common.{◌∙◌, codes, ap}
use Rattle.std.proofs.lemmas.Result.{IfOk-weaker}
use Rattle.spec_syntax.specs.Trees.{binary}
use Rattle.spec_builtins.specs.Built.{indicator_term}
use Rattle.cq_built.proofs.Growing.{grows_both}
use Rattle.cq_built.proofs.Trees.{kept, indicator_kept}
use Rattle.cq_built.proofs.balls.raised.Goals as goal

pub returns-clause-built : goal.returns-clause-built
returns-clause-built c =
    let first = c.error_term in
    let second = c.indicator in
    let error =
    kept first.new.atoms second.new.atoms first.new.heap second.new.heap second.ensures.grows (first.ensures.grows.names c.requires.names) c.in_ok-term.term c.in_ok-term.ensures.live
    ∙ c.in_ok-term.ensures.built in
    let predicate = c.in_ok-predicate.ensures.built ∙ ap indicator_term (indicator_kept c.args.atoms.now first.new.atoms c.args.heap.now first.new.heap first.ensures.grows c.args.goal c.requires.goal) in
    IfOk-weaker c.over_two.result _ _ (λ id e. e ∙ (λ i. binary (codes "error") (error i) (predicate i))) c.over_two.ensures.built

pub returns-clause-grows : goal.returns-clause-grows
returns-clause-grows c =
    let first = c.error_term in
    let second = c.indicator in
    grows_both c.args.atoms.now second.new.atoms c.over_two.new.atoms c.args.heap.now second.new.heap c.over_two.new.heap
    (grows_both c.args.atoms.now first.new.atoms second.new.atoms c.args.heap.now first.new.heap second.new.heap first.ensures.grows second.ensures.grows) c.over_two.ensures.grows
