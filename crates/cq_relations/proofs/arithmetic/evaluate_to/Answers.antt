use Rattle.std.proofs.Common.{None, Some, ap, sym}
use Rattle.cq_settle.specs.Contents.{Contents}
use Rattle.cq_settle.specs.Worlds.{now_of}
use Rattle.cq_relations.proofs.Equating.{row_from, row_back}
use Rattle.cq_relations.proofs.Marks.{went_back}
use Rattle.cq_relations.proofs.arithmetic.evaluate_to.Goals as goal

pub returns-in-Goes-clause-row : goal.returns-in-Goes-clause-row
returns-in-Goes-clause-row c =
    row_from c.args.atoms.now c.args.lists.now.now c.evaluated.new.lists.now c.args.left c.args.expression c.args.rest (Some c.in-Goes.first)
    (now_of c.args.world.now) (now_of c.mark.new.self) (now_of c.evaluated.new.world) (now_of c.forget.new.self) c.mark.ensures.now c.forget.ensures.now
    (rw c.in-Goes.is at c.in-Ok.ensures.row)

pub returns-in-Pruned-clause-row : goal.returns-in-Pruned-clause-row
returns-in-Pruned-clause-row c =
    row_back c.args.atoms.now c.args.lists.now.now c.evaluated.new.lists.now c.args.left c.args.expression c.args.rest
    (now_of c.args.world.now) (now_of c.mark.new.self) (now_of c.evaluated.new.world) (now_of c.undo.new.self) c.mark.ensures.now
    (rw c.in-Pruned.is at c.in-Ok.ensures.row)

pub returns-in-Pruned-clause-unchanged : goal.returns-in-Pruned-clause-unchanged
returns-in-Pruned-clause-unchanged c =
    went_back c.args.world.now c.mark.new.self c.evaluated.new.world c.in_ok-start.start.number c.in_ok-start.ensures.mark c.in_ok-start.ensures.saved
    c.evaluated.ensures.saved c.undo.new.self c.undo.ensures.now

pub returns-in-Pruned-clause-budget : goal.returns-in-Pruned-clause-budget
returns-in-Pruned-clause-budget c = ap (λ (x : Contents). x.pivots)
    (went_back c.args.world.now c.mark.new.self c.evaluated.new.world c.in_ok-start.start.number c.in_ok-start.ensures.mark c.in_ok-start.ensures.saved
    c.evaluated.ensures.saved c.undo.new.self c.undo.ensures.now)

pub returns-in-Err-clause-err : goal.returns-in-Err-clause-err
returns-in-Err-clause-err c =
    went_back c.args.world.now c.mark.new.self c.evaluated.new.world c.in_ok-start.start.number c.in_ok-start.ensures.mark c.in_ok-start.ensures.saved
    c.evaluated.ensures.saved c.undo-in-Err.new.self c.undo-in-Err.ensures.now

pub returns-in-Err-clause-budget : goal.returns-in-Err-clause-budget
returns-in-Err-clause-budget c = ap (λ (x : Contents). x.pivots)
    (went_back c.args.world.now c.mark.new.self c.evaluated.new.world c.in_ok-start.start.number c.in_ok-start.ensures.mark c.in_ok-start.ensures.saved
    c.evaluated.ensures.saved c.undo-in-Err.new.self c.undo-in-Err.ensures.now)
