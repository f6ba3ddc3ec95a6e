use Rattle.std.proofs.Common.{◌≡◌, ◌<◌, ◌∙◌, ap, subst, length}
use Rattle.spec_terms.specs.Variables.{variables_after}
use Rattle.cq_term.specs.Trees.{tree}
use Rattle.cq_term.specs.Places.{numbers_of}
use Rattle.cq_answer.specs.Shown.{IsLive}
use Rattle.cq_answer.proofs.Asleep.{live_at, after_constraint}
use Rattle.cq_answer.proofs.residual.wanted.add_constraints.Goals as goal
use Rattle.cq_answer.proofs.residual.wanted.add_constraints.Goals.{in-Delayed+in_ok-add_variables-in-Delayed, in-Goal}

pub add_variables-requires : goal.add_variables-requires
add_variables-requires c =
    let h = c.args.heap.now.now in
    subst (IsLive h) c.in-Delayed.is (live_at h c.args.waiting.now c.waiting.waits-index c.waits-item.result c.waiting-test.true c.waits-item.is c.requires)

pub waiting-preserved : goal.waiting-preserved
waiting-preserved c texts =
    let h = c.args.heap.now.now in
    let ks = c.args.waiting.now in
    let i = c.waiting.waits-index in
    let old = numbers_of c.args.found.now.keys in
    elim c.match-waits.branch [
      | in-Delayed+in_ok-add_variables-in-Delayed w ↦
          rw w.found-is (
          w.in_ok-add_variables-in-Delayed.ensures texts
          ∙ ap (λ vs. variables_after vs (tree texts h.terms w.in-Delayed.term)) (c.waiting.invariant texts)
          ∙ after_constraint texts h ks i c.waits-item.result c.waiting-test.true c.waits-item.is old _ w.in-Delayed.is)
      | in-Goal w ↦
          rw w.found-is (c.waiting.invariant texts ∙ after_constraint texts h ks i c.waits-item.result c.waiting-test.true c.waits-item.is old _ w.in-Goal.is)
    ]
