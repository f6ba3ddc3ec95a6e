use Rattle.cq_branch.proofs.Arguments.{argument_reads}
use Rattle.cq_machine.specs.Machines.{now}
use Rattle.cq_machine.proofs.control.negation.Goals as goal

pub returns-clause-row : goal.returns-clause-row
returns-clause-row c = λ p behind g s.
    let m = c.args.m.now in
    let a = argument_reads m.atoms (now m).0 p.state c.args.goal 0 c.arg-negated.result g s.reads c.arg-negated.ensures.live c.arg-negated.ensures.arg in
    c.in_ok-k.ensures.row m.atoms m.clauses c.args.height p behind _ s.selected a
