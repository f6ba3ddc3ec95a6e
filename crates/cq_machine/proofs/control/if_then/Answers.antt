use Rattle.std.proofs.Common.{Some}
use Rattle.cq_branch.proofs.Arguments.{argument_reads}
use Rattle.cq_branch.proofs.Done.{length-stack}
use Rattle.cq_machine.specs.Machines.{now, saved, holds}
use Rattle.cq_machine.proofs.Kept.{leads_over}
use Rattle.cq_machine.proofs.control.if_then.Goals as goal

pub returns-clause-row : goal.returns-clause-row
returns-clause-row c = λ p behind g s.
    let m = c.args.m.now in
    let a = argument_reads m.atoms (now m).0 p.state c.args.goal 0 c.arg-condition.result g s.reads c.arg-condition.ensures.live c.arg-condition.ensures.arg in
    let b = argument_reads m.atoms (now m).0 p.state c.args.goal 1 c.arg-then.result g s.reads c.arg-then.ensures.live c.arg-then.ensures.arg in
    leads_over m.atoms m.clauses (saved m) _ m.choices _ (Some c.in_ok-k.k) p behind _ c.in_ok-k.ensures.saved
    (c.in_ok-k.ensures.row m.atoms (holds m) p behind _ _ (length-stack m.atoms m.clauses (saved m) m.choices c.requires.sound.marked) s.selected a b)
