use Rattle.std.proofs.Common.{◌≡◌, ◌<◌, ◌∙◌, ap, ap₂, subst, length}
use Rattle.spec_terms.specs.Term.{named}
use Rattle.spec_terms.specs.Variables.{variables_after}
use Rattle.cq_term.specs.Texts.{text_of}
use Rattle.cq_term.specs.Trees.{tree}
use Rattle.cq_term.specs.Places.{numbers_of}
use Rattle.cq_answer.specs.Shown.{IsLive}
use Rattle.cq_answer.proofs.Asleep.{live_at, after_goal}
use Rattle.cq_answer.proofs.residual.wanted.add_goals.Goals as goal
use Rattle.cq_answer.proofs.residual.wanted.add_goals.Goals.{in-Goal+in_ok-add_variables-in-Goal+in_ok-add_variables-in-Goal-2, in-Delayed}

pub var_term-requires : goal.var_term-requires
var_term-requires c =
    let h = c.args.heap.now.now in
    (subst (IsLive h) c.in-Goal.is (live_at h c.args.waiting.now c.waiting.waits-index c.waits-item.result c.waiting-test.true c.waits-item.is c.requires)).0

pub add_variables-requires-in-Goal : goal.add_variables-requires-in-Goal
add_variables-requires-in-Goal c =
    let h = c.args.heap.now.now in
    (subst (IsLive h) c.in-Goal.is (live_at h c.args.waiting.now c.waiting.waits-index c.waits-item.result c.waiting-test.true c.waits-item.is c.requires)).1

pub waiting-preserved : goal.waiting-preserved
waiting-preserved c texts =
    let h = c.args.heap.now.now in
    let ks = c.args.waiting.now in
    let i = c.waiting.waits-index in
    let old = numbers_of c.args.found.now.keys in
    elim c.match-waits.branch [
      | in-Goal+in_ok-add_variables-in-Goal+in_ok-add_variables-in-Goal-2 w ↦
          rw w.found-is (
          w.in_ok-add_variables-in-Goal-2.ensures texts
          ∙ ap (λ vs. variables_after vs (tree texts h.terms w.in-Goal.goal)) (
          w.in_ok-add_variables-in-Goal.ensures texts
          ∙ ap₂ variables_after (c.waiting.invariant texts) (ap (named (text_of texts)) w.var_term.ensures.term))
          ∙ after_goal texts h ks i c.waits-item.result c.waiting-test.true c.waits-item.is old _ w.in-Goal.is)
      | in-Delayed w ↦
          rw w.found-is (c.waiting.invariant texts ∙ after_goal texts h ks i c.waits-item.result c.waiting-test.true c.waits-item.is old _ w.in-Delayed.is)
    ]
