use Rattle.std.proofs.Common.{ap, sym, subst}
use Rattle.cq_settle.specs.Contents.{Contents}
use Rattle.cq_settle.specs.Worlds.{now_of}
use Rattle.cq_branch.specs.declared.begin.beginning.Begun.TheVariants.{Goes, Pruned}
use Rattle.cq_branch.specs.BeginCalls.{ClauseComes}
use Rattle.cq_branch.proofs.Instances.{pruned_any}
use Rattle.cq_branch.proofs.BeginMarks.{went_back}
use Rattle.cq_branch.proofs.begin.clauses.begin_marked.Goals as goal

pub returns-in-Goes-clause-comes : goal.returns-in-Goes-clause-comes
returns-in-Goes-clause-comes c =
    let lists = c.args.lists.now.now in
    let later = c.try_clause.new.lists.now in
    let goes = Goes c.in-Goes.first in
    subst (λ (x : Contents). ClauseComes c.args.atoms.now (x, lists) (now_of c.forget.new.self, later) c.args.goal c.args.height c.args.rest c.args.clause.now goes) c.mark.ensures.now
    (subst (λ (x : Contents). ClauseComes c.args.atoms.now (now_of c.mark.new.self, lists) (x, later) c.args.goal c.args.height c.args.rest c.args.clause.now goes) (sym c.forget.ensures.now)
    (rw c.in-Goes.is at c.in-Ok.ensures.comes))

pub returns-in-Pruned-clause-comes : goal.returns-in-Pruned-clause-comes
returns-in-Pruned-clause-comes c =
    let lists = c.args.lists.now.now in
    let later = c.try_clause.new.lists.now in
    subst (λ (x : Contents). ClauseComes c.args.atoms.now (x, lists) (now_of c.undo.new.self, later) c.args.goal c.args.height c.args.rest c.args.clause.now Pruned) c.mark.ensures.now
    (pruned_any c.args.atoms.now (now_of c.mark.new.self, lists) (now_of c.try_clause.new.world, later) (now_of c.undo.new.self, later) c.args.goal c.args.height c.args.rest c.args.clause.now
    (rw c.in-Pruned.is at c.in-Ok.ensures.comes))

pub returns-in-Pruned-clause-unchanged : goal.returns-in-Pruned-clause-unchanged
returns-in-Pruned-clause-unchanged c =
    went_back c.args.world.now c.mark.new.self c.try_clause.new.world c.in_ok-start.start.number c.in_ok-start.ensures.mark c.in_ok-start.ensures.saved
    c.try_clause.ensures.marks c.undo.new.self c.undo.ensures.now

pub returns-in-Pruned-clause-budget : goal.returns-in-Pruned-clause-budget
returns-in-Pruned-clause-budget c = ap (λ (x : Contents). x.pivots)
    (went_back c.args.world.now c.mark.new.self c.try_clause.new.world c.in_ok-start.start.number c.in_ok-start.ensures.mark c.in_ok-start.ensures.saved
    c.try_clause.ensures.marks c.undo.new.self c.undo.ensures.now)

pub returns-in-Err-clause-err : goal.returns-in-Err-clause-err
returns-in-Err-clause-err c =
    went_back c.args.world.now c.mark.new.self c.try_clause.new.world c.in_ok-start.start.number c.in_ok-start.ensures.mark c.in_ok-start.ensures.saved
    c.try_clause.ensures.marks c.undo-in-Err.new.self c.undo-in-Err.ensures.now

pub returns-in-Err-clause-budget : goal.returns-in-Err-clause-budget
returns-in-Err-clause-budget c = ap (λ (x : Contents). x.pivots)
    (went_back c.args.world.now c.mark.new.self c.try_clause.new.world c.in_ok-start.start.number c.in_ok-start.ensures.mark c.in_ok-start.ensures.saved
    c.try_clause.ensures.marks c.undo-in-Err.new.self c.undo-in-Err.ensures.now)
