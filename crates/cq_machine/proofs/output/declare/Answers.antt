use Rattle.std.proofs.Common.{◌≡◌}
use Rattle.spec_search.specs.Changes.{op_row}
use Rattle.spec_search.specs.Replies.{changes}
use Rattle.cq_write.specs.Meaning.{operators}
use Rattle.cq_branch.specs.Calls.{IsRaised}
use Rattle.cq_term.specs.Trees.{tree}
use Rattle.cq_machine.specs.Machines.{terms, now, database_of}
use Rattle.cq_machine.proofs.Kept.{argument_is}
use Rattle.cq_machine.proofs.Operators.{op_set, op_raised, of_equal}
use Rattle.cq_machine.proofs.output.declare.Goals as goal

pub returns-in-Ok-clause-row : goal.returns-in-Ok-clause-row
returns-in-Ok-clause-row c = λ height rest p behind g s.
    let m = c.args.m.now in
    let t = tree m.atoms (terms m) in
    of_equal (λ x y z. op_row p x y z ≡ changes p (database_of (record m { ops = c.declare_operators.new.ops })))
    (t c.arg.result) (t c.arg-2.result) (t c.arg-3.result) _ _ _
    (argument_is m.atoms (now m).0 p.state c.args.goal 0 c.arg.result g s.reads c.arg.ensures.live c.arg.ensures.arg) (argument_is m.atoms (now m).0 p.state c.args.goal 1 c.arg-2.result g s.reads c.arg-2.ensures.live c.arg-2.ensures.arg) (argument_is m.atoms (now m).0 p.state c.args.goal 2 c.arg-3.result g s.reads c.arg-3.ensures.live c.arg-3.ensures.arg)
    (op_set p m.atoms m.clauses (operators m.atoms m.ops) (t c.arg.result) (t c.arg-2.result) (t c.arg-3.result) s.database
    (operators m.atoms c.declare_operators.new.ops) c.in-Ok.ensures.lawful c.in-Ok.ensures.set)

pub returns-in-Err-clause-fault : goal.returns-in-Err-clause-fault
returns-in-Err-clause-fault c = λ height rest p behind g s.
    let m = c.args.m.now in
    let t = tree m.atoms (terms m) in
    of_equal (λ x y z. IsRaised m.atoms (terms m) c.in-Err.fault (op_row p x y z))
    (t c.arg.result) (t c.arg-2.result) (t c.arg-3.result) _ _ _
    (argument_is m.atoms (now m).0 p.state c.args.goal 0 c.arg.result g s.reads c.arg.ensures.live c.arg.ensures.arg) (argument_is m.atoms (now m).0 p.state c.args.goal 1 c.arg-2.result g s.reads c.arg-2.ensures.live c.arg-2.ensures.arg) (argument_is m.atoms (now m).0 p.state c.args.goal 2 c.arg-3.result g s.reads c.arg-3.ensures.live c.arg-3.ensures.arg)
    (op_raised p m.atoms m.clauses (operators m.atoms m.ops) (t c.arg.result) (t c.arg-2.result) (t c.arg-3.result) s.database (terms m) c.in-Err.fault c.in-Err.ensures.fault)
