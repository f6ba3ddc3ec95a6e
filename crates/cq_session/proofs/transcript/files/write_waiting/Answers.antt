use Rattle.std.proofs.Common.{◌∙◌, refl}
use Rattle.std.proofs.lemmas.Result.{err_from_is_err_and}
use Rattle.cq_session.proofs.Steps.{memory_here}
use Rattle.cq_session.proofs.Consulting.{none_begun, goal_more, goal_broken}
use Rattle.cq_session.proofs.transcript.files.write_waiting.Goals as goal

pub goals-init : goal.goals-init
goals-init g c = record {
  advanced = λ o r ops same ends. rw c.none-lines.ensures (none_begun _ o r ops ends _ _ same);
  kept = c.requires.kept;
  budgets = refl;
  faults = refl;
}

pub returns-in_err-begin_later-clause-part : goal.returns-in_err-begin_later-clause-part
returns-in_err-begin_later-clause-part g c =
    let p = err_from_is_err_and c.from_residual.result c.from_residual.ensures.1 in
    rw (p.1, p.2) (λ o r ops same ends. memory_here _ o _ _ _ _ _ (c.goals.invariant.advanced o r ops same ends))

pub goals-preserved : goal.goals-preserved
goals-preserved g c =
    let i = c.goals.invariant in
    let first = c.in_ok-begin_later.ensures in
    let b = rw c.if-not-branch.false at first.begun in
    let done = c.in_ok-more.ensures in
    let whole = rw (first.budgets, i.budgets) at done.whole in
    record {
      advanced = λ o r ops same ends.
          rw c.and-lines.ensures
          (goal_more _ o r ops ends _ _ _ (g.P.Interpreter.program c.begin_later.new.self) _ _ (i.advanced o r ops same ends) b.0 b.1 b.3.base b.2 b.4 _ _ _ done.later
          (whole _ b.3.stands o (record r { later = (g.P.Interpreter.program c.begin_later.new.self).later })));
      kept = done.kept;
      budgets = done.budgets ∙ first.budgets ∙ i.budgets;
      faults = done.cause ∙ i.faults;
    }

pub returns-in_err-more-clause-part : goal.returns-in_err-more-clause-part
returns-in_err-more-clause-part g c =
    let p = err_from_is_err_and c.from_residual-in_err-more.result c.from_residual-in_err-more.ensures.1 in
    let i = c.goals.invariant in
    let first = c.in_ok-begin_later.ensures in
    let b = rw c.if-not-branch.false at first.begun in
    let part = rw (first.budgets, i.budgets) at c.in_err-more.ensures.part in
    rw (p.1, p.2)
    (λ o r ops same ends.
    goal_broken _ o r ops ends _ _ _ (g.P.Interpreter.program c.begin_later.new.self) _ _ (i.advanced o r ops same ends) b.0 b.1 b.3.base b.2 b.4 _ _
    (part _ b.3.stands o (record r { later = (g.P.Interpreter.program c.begin_later.new.self).later })))
