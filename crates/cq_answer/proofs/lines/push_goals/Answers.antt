use Rattle.std.proofs.Common.{◌≡◌, ◌<◌, ◌++◌, ◌∙◌, sym, ap, subst, length, map, take, codes}
use Rattle.spec_builtins.specs.Built.{compound2}
use Rattle.spec_answers.specs.Lines.{lines_text}
use Rattle.cq_term.specs.HeapValue.{Terms}
use Rattle.cq_term.specs.Trees.{tree, KnowsTerms}
use Rattle.cq_write.specs.Meaning.{operators}
use Rattle.cq_answer.specs.Shown.{goal_trees, IsLive}
use Rattle.cq_answer.proofs.Asleep.{live_at}
use Rattle.cq_answer.specs.Lines.{goal_line}
use Rattle.cq_answer.proofs.Joining.{line_step, goals_on, none_more}
use Rattle.cq_answer.proofs.lines.push_goals.Goals as goal
use Rattle.cq_answer.proofs.lines.push_goals.Goals.{in-Goal+in_ok-push_goal-in-Goal, in-Delayed}

pub push_goal-requires : goal.push_goal-requires
push_goal-requires c =
    let h = c.args.heap.now.now in
    let same = sym c.waiting.invariant.now in
    let live = subst (IsLive h) c.in-Goal.is (live_at h c.args.waiting.now c.waiting.waits-index c.waits-item.result c.waiting-test.true c.waits-item.is c.requires.live) in
    record {
      freeze = c.requires.freeze;
      variable = subst (λ (x : Terms). c.in-Goal.variable.0 < length x.images) same live.0;
      goal = subst (λ (x : Terms). c.in-Goal.goal < length x.terms) same live.1;
      known = subst (λ (x : Terms). KnowsTerms c.args.writing.now.atoms.now x.terms) same c.requires.known;
    }

pub waiting-preserved : goal.waiting-preserved
waiting-preserved c =
    let w = c.args.writing.now in
    let texts = w.atoms.now in
    let h = c.args.heap.now.now in
    let F = goal_line (operators w.atoms.now w.ops.now) w.names.now in
    let old = c.args.out.now.items in
    let ks = c.args.waiting.now in
    let i = c.waiting.waits-index in
    let k = c.waits-item.result in
    let here : i < length ks = c.waiting-test.true in
    let inv = c.waiting.invariant in
    elim c.match-waits.branch [
      | in-Goal+in_ok-push_goal-in-Goal b ↦
          let e = b.in_ok-push_goal-in-Goal.ensures in
          let line = e.line ∙ ap (λ (x : Terms). c.waiting.out.items ++ (F (compound2 "freeze" (tree texts x.images b.in-Goal.variable.0) (tree texts x.terms b.in-Goal.goal)) ++ codes "\n")) inv.now in
          rw (b.out-is, b.heap-is) (record {
            lines =
                line_step F old (goal_trees texts h (take i ks)) (compound2 "freeze" (tree texts h.images b.in-Goal.variable.0) (tree texts h.terms b.in-Goal.goal)) c.waiting.out.items b.push_goal.new.out.items
                inv.lines line
                ∙ goals_on F old texts h ks i k here c.waits-item.is _ b.in-Goal.is;
            now = e.now ∙ inv.now;
            saved = e.saved ∙ inv.saved;
          })
      | in-Delayed b ↦
          rw (b.out-is, b.heap-is) (record {
            lines = none_more F old c.waiting.out.items (goal_trees texts h (take i ks)) inv.lines ∙ goals_on F old texts h ks i k here c.waits-item.is _ b.in-Delayed.is;
            now = inv.now;
            saved = inv.saved;
          })
    ]
