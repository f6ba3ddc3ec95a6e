use Rattle.std.proofs.Common.{sym, subst}
use Rattle.spec_search.specs.Replies.{Reply}
use Rattle.cq_branch.proofs.Arguments.{argument_reads}
use Rattle.cq_machine.specs.Machines.{now}
use Rattle.cq_machine.specs.Stepping.{IsStep}
use Rattle.cq_machine.proofs.selected.relations.compare.Goals as goal

pub returns-in-Ok-clause-row : goal.returns-in-Ok-clause-row
returns-in-Ok-clause-row c = λ height p behind g s.
    let m = c.args.m.now in
    let ra = argument_reads m.atoms (now m).0 p.state c.args.goal 0 c.arg-left.result g s.reads c.arg-left.ensures.live c.arg-left.ensures.arg in
    let rb = argument_reads m.atoms (now m).0 p.state c.args.goal 1 c.arg-right.result g s.reads c.arg-right.ensures.live c.arg-right.ensures.arg in
    subst (λ (r : Reply). IsStep m c.succeed_if.result p behind r) (sym (c.in-Ok.ensures.row p _ _ ra rb)) (c.succeed_if.ensures.row m c.args.goal height p behind g s)

pub returns-in-Error-clause-row : goal.returns-in-Error-clause-row
returns-in-Error-clause-row c = λ height p behind g s.
    let m = c.args.m.now in
    let ra = argument_reads m.atoms (now m).0 p.state c.args.goal 0 c.arg-left.result g s.reads c.arg-left.ensures.live c.arg-left.ensures.arg in
    let rb = argument_reads m.atoms (now m).0 p.state c.args.goal 1 c.arg-right.result g s.reads c.arg-right.ensures.live c.arg-right.ensures.arg in
    (rw c.in-Error.is at c.in-Err.ensures.fault) p _ _ ra rb

pub returns-in-Overflow-clause-row : goal.returns-in-Overflow-clause-row
returns-in-Overflow-clause-row c = λ height p behind g s.
    let m = c.args.m.now in
    let ra = argument_reads m.atoms (now m).0 p.state c.args.goal 0 c.arg-left.result g s.reads c.arg-left.ensures.live c.arg-left.ensures.arg in
    let rb = argument_reads m.atoms (now m).0 p.state c.args.goal 1 c.arg-right.result g s.reads c.arg-right.ensures.live c.arg-right.ensures.arg in
    (rw c.in-Overflow.is at c.in-Err.ensures.fault) p _ _ ra rb
