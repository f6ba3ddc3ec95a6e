use Rattle.std.proofs.Common.{◌≡◌, ◌<◌, ◌++◌, ◌∙◌, ap, subst, length, map, take}
use Rattle.spec_answers.specs.Lines.{lines_text}
use Rattle.cq_term.specs.Trees.{tree}
use Rattle.cq_write.specs.Meaning.{operators}
use Rattle.cq_answer.specs.Shown.{constraint_trees, IsLive}
use Rattle.cq_answer.proofs.Asleep.{live_at}
use Rattle.cq_answer.specs.Lines.{constraint_line}
use Rattle.cq_answer.proofs.Joining.{line_step, constraints_on, none_more}
use Rattle.cq_answer.proofs.lines.push_constraints.Goals as goal
use Rattle.cq_answer.proofs.lines.push_constraints.Goals.{in-Delayed+in_ok-push_constraint-in-Delayed, in-Goal}

pub push_constraint-requires-clause-live : goal.push_constraint-requires-clause-live
push_constraint-requires-clause-live c =
    let h = c.args.heap.now.now in
    subst (IsLive h) c.in-Delayed.is (live_at h c.args.waiting.now c.waiting.waits-index c.waits-item.result c.waiting-test.true c.waits-item.is c.requires.live)

pub waiting-preserved : goal.waiting-preserved
waiting-preserved c =
    let w = c.args.writing.now in
    let texts = w.atoms.now in
    let h = c.args.heap.now.now in
    let F = constraint_line (operators w.atoms.now w.ops.now) w.names.now in
    let old = c.args.out.now.items in
    let ks = c.args.waiting.now in
    let i = c.waiting.waits-index in
    let k = c.waits-item.result in
    let here : i < length ks = c.waiting-test.true in
    elim c.match-waits.branch [
      | in-Delayed+in_ok-push_constraint-in-Delayed b ↦
          rw b.out-is (
          line_step F old (constraint_trees texts h (take i ks)) (tree texts h.terms b.in-Delayed.term) c.waiting.out.items b.push_constraint.new.out.items c.waiting.invariant
          b.in_ok-push_constraint-in-Delayed.ensures
          ∙ constraints_on F old texts h ks i k here c.waits-item.is _ b.in-Delayed.is)
      | in-Goal b ↦
          rw b.out-is (none_more F old c.waiting.out.items (constraint_trees texts h (take i ks)) c.waiting.invariant ∙ constraints_on F old texts h ks i k here c.waits-item.is _ b.in-Goal.is)
    ]
