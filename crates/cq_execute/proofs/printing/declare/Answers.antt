use Rattle.std.proofs.Common.{refl, ◌∙◌}
use Rattle.spec_search.specs.Builtins.{Op}
use Rattle.cq_term.specs.Texts.{text_of}
use Rattle.cq_term.specs.Meaning.{at}
use Rattle.cq_machine.specs.Machines.{terms}
use Rattle.cq_execute.proofs.Table.{so_many}
use Rattle.cq_execute.proofs.Done.{reply_at}
use Rattle.cq_execute.proofs.Passed.{all_but_operators, all_of_it, set_done, still_done, nothing_still_done}
use Rattle.cq_execute.proofs.printing.declare.Goals as goal

pub declare-requires-clause-three : goal.declare-requires-clause-three
declare-requires-clause-three c = so_many (text_of c.args.m.now.atoms) (at (terms c.args.m.now) c.args.goal) Op 3 c.requires.calls (λ n. refl)

pub returns-in-Ok : goal.returns-in-Ok
returns-in-Ok c =
    let m = c.args.m.now in
    let new = c.declare.new.m in
    let d = c.declare.ensures in
    set_done m new c.args.goal c.args.height c.args.rest c.requires.calls (all_but_operators m new d.world d.choices d.atoms d.names d.clauses)
    c.silent.result c.silent.ensures.step c.silent.ensures.output d.sound c.requires.at.there (λ p behind g at. c.in-Ok.ensures.row c.args.height c.args.rest p behind g at)

pub returns-in-Error : goal.returns-in-Error
returns-in-Error c =
    let m = c.args.m.now in
    let new = c.declare.new.m in
    let d = c.declare.ensures in
    still_done m new c.args.goal c.args.height c.args.rest c.silent-in-Error.result c.in-Error.error
    (all_of_it m new d.world d.choices d.atoms d.names d.clauses c.in-Err.ensures.err) c.silent-in-Error.ensures.step c.requires.at.sound
    (rw c.in-Error.is at c.in-Err.ensures.culprit)
    (λ p behind g at. reply_at m m c.args.goal c.args.height c.args.rest Op c.requires.calls p behind g at
    ∙ (rw c.in-Error.is at c.in-Err.ensures.fault) c.args.height c.args.rest p behind g at)

pub returns-in-NoMemory : goal.returns-in-NoMemory
returns-in-NoMemory c =
    let m = c.args.m.now in
    let new = c.declare.new.m in
    let d = c.declare.ensures in
    nothing_still_done m new c.args.goal c.args.height c.args.rest
    (all_of_it m new d.world d.choices d.atoms d.names d.clauses c.in-Err.ensures.err) c.requires.at.sound
