use Rattle.cq_branch.proofs.Arguments.{argument_reads}
use Rattle.cq_machine.specs.Machines.{now}
use Rattle.cq_machine.proofs.catching.catch.Goals as goal

pub returns-clause-row : goal.returns-clause-row
returns-clause-row c = λ p behind g s.
    let m = c.args.m.now in
    let a = argument_reads m.atoms (now m).0 p.state c.args.goal 0 c.arg-called.result g s.reads c.arg-called.ensures.live c.arg-called.ensures.arg in
    let b = argument_reads m.atoms (now m).0 p.state c.args.goal 1 c.arg-catcher.result g s.reads c.arg-catcher.ensures.live c.arg-catcher.ensures.arg in
    let r = argument_reads m.atoms (now m).0 p.state c.args.goal 2 c.arg-recovery.result g s.reads c.arg-recovery.ensures.live c.arg-recovery.ensures.arg in
    c.in_ok-k.ensures.row m.atoms m.clauses c.args.height p behind _ _ _ s.selected a b r
