use Rattle.std.proofs.Common.{refl, sym, ap, ◌∙◌}
use Rattle.std.specs.Prelude.{Ok}
use Rattle.spec_builtins.specs.Built.{Indicator}
use Rattle.spec_builtins.specs.Errors.{existence_error}
use Rattle.spec_search.specs.Replies.{Raises}
use Rattle.cq_attr.proofs.Elements.{on_err}
use Rattle.cq_branch.specs.Worlds.{value}
use Rattle.cq_calls.proofs.Waiting.{same_grown}
use Rattle.cq_machine.specs.Machines.{now}
use Rattle.cq_machine.proofs.Called.{called_at, names_called}
use Rattle.cq_machine.proofs.Reached.{names_same, sound_still, stands_all}
use Rattle.cq_machine.proofs.selected.calls.call_procedure.Goals as goal

-- ---- where it is selected

pub call_procedure-requires-clause-ready : goal.call_procedure-requires-clause-ready
call_procedure-requires-clause-ready c = (let s = c.requires.selected in (s.1.state, s.4.selected.place.continuation.state.ready))

pub call_procedure-requires-clause-rest : goal.call_procedure-requires-clause-rest
call_procedure-requires-clause-rest c = c.requires.selected.4.selected.place.continuation.there

-- ---- its row

pub returns-in-Goes-clause-row : goal.returns-in-Goes-clause-row
returns-in-Goes-clause-row c = λ height p behind g s.
    (rw c.in-Goes.is at c.in_ok-found.ensures.row) p behind g
    (called_at c.args.m.now c.args.predicate c.args.goal height c.args.rest p behind g c.requires.sound c.requires.predicate s)

pub returns-in-Back-clause-row : goal.returns-in-Back-clause-row
returns-in-Back-clause-row c = λ height p behind g s.
    (rw c.in-Back.is at c.in_ok-found.ensures.row) p behind g
    (called_at c.args.m.now c.args.predicate c.args.goal height c.args.rest p behind g c.requires.sound c.requires.predicate s)

pub returns-in-Unknown-clause-row : goal.returns-in-Unknown-clause-row
returns-in-Unknown-clause-row c = λ height p behind g s.
    let at = called_at c.args.m.now c.args.predicate c.args.goal height c.args.rest p behind g c.requires.sound c.requires.predicate s in
    (rw c.in-Unknown.is at c.in_ok-found.ensures.row) p behind g at ∙ ap (λ (i : Indicator). Raises (existence_error i)) (sym at.indicator)

pub returns-in-Goes-clause-goes : goal.returns-in-Goes-clause-goes
returns-in-Goes-clause-goes c = rw c.in-Goes.is at c.in_ok-found.ensures.there

-- ---- the machine is sound

pub returns-in-Goes-clause-sound : goal.returns-in-Goes-clause-sound
returns-in-Goes-clause-sound c =
    let m = c.args.m.now in
    let s = c.requires.selected in
    sound_still m _ c.requires.sound
    (record { atoms = refl; names = refl; ops = refl; clauses = c.call_procedure.ensures.clauses; budget = c.call_procedure.ensures.budget })
    (names_called m.atoms _ (value c.call_procedure.new.world.first c.call_procedure.new.world.second.now) c.in-Goes.k s.1 s.2 s.3
    ((rw c.in-Goes.is at c.in_ok-found.ensures.row) s.1 s.2 s.3
    (called_at m c.args.predicate c.args.goal s.0 c.args.rest s.1 s.2 s.3 c.requires.sound c.requires.predicate s.4)))
    c.call_procedure.ensures.marked (c.call_procedure.ensures.open c.requires.sound.untried)

pub returns-in-Back-clause-sound : goal.returns-in-Back-clause-sound
returns-in-Back-clause-sound c =
    let m = c.args.m.now in
    sound_still m _ c.requires.sound
    (record { atoms = refl; names = refl; ops = refl; clauses = c.call_procedure.ensures.clauses; budget = c.call_procedure.ensures.budget })
    (names_same m.atoms (now m).0 _ c.requires.sound.names (c.in_ok-found.ensures.back (ap Ok c.in-Back.is)))
    c.call_procedure.ensures.marked (c.call_procedure.ensures.open c.requires.sound.untried)

pub returns-in-Unknown-clause-sound : goal.returns-in-Unknown-clause-sound
returns-in-Unknown-clause-sound c =
    let m = c.args.m.now in
    sound_still m _ c.requires.sound
    (record { atoms = refl; names = refl; ops = refl; clauses = c.call_procedure.ensures.clauses; budget = c.call_procedure.ensures.budget })
    (names_same m.atoms (now m).0 _ c.requires.sound.names (c.in_ok-found.ensures.unknown (ap Ok c.in-Unknown.is)).world)
    c.call_procedure.ensures.marked (c.call_procedure.ensures.open c.requires.sound.untried)

pub returns-in_err-found-clause-sound : goal.returns-in_err-found-clause-sound
returns-in_err-found-clause-sound c =
    let m = c.args.m.now in
    sound_still m _ c.requires.sound
    (record { atoms = refl; names = refl; ops = refl; clauses = c.call_procedure.ensures.clauses; budget = c.call_procedure.ensures.budget })
    (names_same m.atoms (now m).0 _ c.requires.sound.names c.in_err-found.ensures.err.world)
    c.call_procedure.ensures.marked (c.call_procedure.ensures.open c.requires.sound.untried)

-- ---- it stands for what it stood for

pub returns-in_err-found-clause-err : goal.returns-in_err-found-clause-err
returns-in_err-found-clause-err c =
    let m = c.args.m.now in
    let still = c.in_err-found.ensures.err in
    on_err c.from_residual.result
    (stands_all m c.call_procedure.new.clauses _ c.call_procedure.new.choices (value c.call_procedure.new.world.first c.call_procedure.new.world.second.now)
    c.call_procedure.ensures.clauses still.saved still.choices (same_grown m.atoms (now m).0 _ (now m).1 _ still.world still.lists))

pub returns-in-Unknown-clause-raises : goal.returns-in-Unknown-clause-raises
returns-in-Unknown-clause-raises c =
    let m = c.args.m.now in
    let still = c.in_ok-found.ensures.unknown (ap Ok c.in-Unknown.is) in
    stands_all m c.call_procedure.new.clauses _ c.call_procedure.new.choices (value c.call_procedure.new.world.first c.call_procedure.new.world.second.now)
    c.call_procedure.ensures.clauses still.saved still.choices (same_grown m.atoms (now m).0 _ (now m).1 _ still.world still.lists)
