use Rattle.std.proofs.Common.{refl, sym, ap, ◌∙◌}
use Rattle.spec_search.specs.Replies.{Raises}
use Rattle.cq_branch.proofs.Arguments.{argument_reads}
use Rattle.cq_branch.specs.Worlds.{value, saved_values, stack}
use Rattle.cq_machine.specs.Machines.{now, saved, holds}
use Rattle.cq_machine.proofs.Grown.{error_still, culprit_on, names_grown, open_left, open_same}
use Rattle.cq_machine.proofs.Reached.{names_ahead, sound_still, stands_all}
use Rattle.cq_machine.proofs.selected.constraints.constrain.Goals as goal

pub constrain-requires-clause-ready : goal.constrain-requires-clause-ready
constrain-requires-clause-ready c = (let s = c.requires.selected in (s.0.state, s.3.selected.place.continuation.state.ready))

-- ---- rows

pub returns-in-Goes-clause-row : goal.returns-in-Goes-clause-row
returns-in-Goes-clause-row c = λ p behind g s.
    let m = c.args.m.now in
    let r = argument_reads m.atoms (now m).0 p.state c.args.goal 0 c.arg-constraint.result g s.reads c.arg-constraint.ensures.live c.arg-constraint.ensures.arg in
    (rw c.in-Goes.is at c.in-Ok.ensures.row) m.clauses p behind _ s.selected r

pub returns-in-Pruned-clause-row : goal.returns-in-Pruned-clause-row
returns-in-Pruned-clause-row c = λ p behind g s.
    let m = c.args.m.now in
    let r = argument_reads m.atoms (now m).0 p.state c.args.goal 0 c.arg-constraint.result g s.reads c.arg-constraint.ensures.live c.arg-constraint.ensures.arg in
    (rw c.in-Pruned.is at c.in-Ok.ensures.row) m.clauses p behind _ s.selected r

pub returns-in-Error-clause-row : goal.returns-in-Error-clause-row
returns-in-Error-clause-row c = λ p behind g s.
    let m = c.args.m.now in
    let r = argument_reads m.atoms (now m).0 p.state c.args.goal 0 c.arg-constraint.result g s.reads c.arg-constraint.ensures.live c.arg-constraint.ensures.arg in
    (rw c.in-Error.is at (rw c.in-Goal.is at c.in-Err.ensures.fault)) (holds m) p behind _ (s.selected.place, s.selected.waiting) r
    ∙ ap Raises (sym (error_still m.atoms (now m) _ c.in-Err.ensures.err c.in-Error.error (rw c.in-Error.is at (rw c.in-Goal.is at c.in-Err.ensures.culprit))))

pub returns-in-Overflow-clause-row : goal.returns-in-Overflow-clause-row
returns-in-Overflow-clause-row c = λ p behind g s.
    let m = c.args.m.now in
    let r = argument_reads m.atoms (now m).0 p.state c.args.goal 0 c.arg-constraint.result g s.reads c.arg-constraint.ensures.live c.arg-constraint.ensures.arg in
    (rw c.in-Overflow.is at (rw c.in-Goal.is at c.in-Err.ensures.fault)) (holds m) p behind _ (s.selected.place, s.selected.waiting) r

pub returns-in-Settling-clause-stop : goal.returns-in-Settling-clause-stop
returns-in-Settling-clause-stop c = λ p behind g s.
    let m = c.args.m.now in
    let r = argument_reads m.atoms (now m).0 p.state c.args.goal 0 c.arg-constraint.result g s.reads c.arg-constraint.ensures.live c.arg-constraint.ensures.arg in
    (rw c.in-Settling.is at c.in-Err.ensures.fault) (holds m) p behind _ (s.selected.place, s.selected.waiting) r

pub returns-in-Error-clause-goes : goal.returns-in-Error-clause-goes
returns-in-Error-clause-goes c =
    let m = c.args.m.now in
    culprit_on m.atoms (now m) _ c.in-Err.ensures.err c.in-Error.error (rw c.in-Error.is at (rw c.in-Goal.is at c.in-Err.ensures.culprit))

-- ---- what it keeps

pub returns-in-Goes-clause-sound : goal.returns-in-Goes-clause-sound
returns-in-Goes-clause-sound c =
    let m = c.args.m.now in
    let s = c.requires.selected in
    let new = c.constrain.new in
    let marks = saved_values new.world.first new.world.second.saved in
    let r = argument_reads m.atoms (now m).0 s.0.state c.args.goal 0 c.arg-constraint.result s.2 s.3.reads c.arg-constraint.ensures.live c.arg-constraint.ensures.arg in
    sound_still m _ c.requires.sound (record { atoms = refl; names = refl; ops = refl; clauses = refl; budget = c.constrain.ensures.budget })
    (names_ahead m.atoms (stack m.atoms m.clauses marks new.choices) (value new.world.first new.world.second.now) c.in-Goes.first s.0 s.1 _
    ((rw c.in-Goes.is at c.in-Ok.ensures.row) m.clauses s.0 s.1 _ s.3.selected r))
    c.constrain.ensures.marked (open_left m.atoms m.clauses (saved m) m.choices (value new.world.first new.world.second.now) marks new.choices c.in-Ok.ensures.choices c.requires.sound.untried)

pub returns-in-Pruned-clause-sound : goal.returns-in-Pruned-clause-sound
returns-in-Pruned-clause-sound c =
    let m = c.args.m.now in
    let s = c.requires.selected in
    let new = c.constrain.new in
    let marks = saved_values new.world.first new.world.second.saved in
    sound_still m _ c.requires.sound (record { atoms = refl; names = refl; ops = refl; clauses = refl; budget = c.constrain.ensures.budget })
    (names_grown m.atoms (now m) (value new.world.first new.world.second.now) (rw c.in-Pruned.is at c.in-Ok.ensures.unchanged) s.0.state s.3.selected.place.continuation.state)
    c.constrain.ensures.marked (open_left m.atoms m.clauses (saved m) m.choices (value new.world.first new.world.second.now) marks new.choices c.in-Ok.ensures.choices c.requires.sound.untried)

pub returns-in-Error-clause-sound : goal.returns-in-Error-clause-sound
returns-in-Error-clause-sound c =
    let m = c.args.m.now in
    let s = c.requires.selected in
    let new = c.constrain.new in
    sound_still m _ c.requires.sound (record { atoms = refl; names = refl; ops = refl; clauses = refl; budget = c.constrain.ensures.budget })
    (names_grown m.atoms (now m) (value new.world.first new.world.second.now) c.in-Err.ensures.err s.0.state s.3.selected.place.continuation.state)
    c.constrain.ensures.marked (open_same m.atoms m.clauses (saved m) (saved_values new.world.first new.world.second.saved) m.choices new.choices c.in-Err.ensures.err_saved c.in-Err.ensures.err_choices c.requires.sound.untried)

pub returns-in-Overflow-clause-sound : goal.returns-in-Overflow-clause-sound
returns-in-Overflow-clause-sound c =
    let m = c.args.m.now in
    let s = c.requires.selected in
    let new = c.constrain.new in
    sound_still m _ c.requires.sound (record { atoms = refl; names = refl; ops = refl; clauses = refl; budget = c.constrain.ensures.budget })
    (names_grown m.atoms (now m) (value new.world.first new.world.second.now) c.in-Err.ensures.err s.0.state s.3.selected.place.continuation.state)
    c.constrain.ensures.marked (open_same m.atoms m.clauses (saved m) (saved_values new.world.first new.world.second.saved) m.choices new.choices c.in-Err.ensures.err_saved c.in-Err.ensures.err_choices c.requires.sound.untried)

pub returns-in-NoMemory-clause-sound : goal.returns-in-NoMemory-clause-sound
returns-in-NoMemory-clause-sound c =
    let m = c.args.m.now in
    let s = c.requires.selected in
    let new = c.constrain.new in
    sound_still m _ c.requires.sound (record { atoms = refl; names = refl; ops = refl; clauses = refl; budget = c.constrain.ensures.budget })
    (names_grown m.atoms (now m) (value new.world.first new.world.second.now) c.in-Err.ensures.err s.0.state s.3.selected.place.continuation.state)
    c.constrain.ensures.marked (open_same m.atoms m.clauses (saved m) (saved_values new.world.first new.world.second.saved) m.choices new.choices c.in-Err.ensures.err_saved c.in-Err.ensures.err_choices c.requires.sound.untried)

pub returns-in-Settling-clause-sound : goal.returns-in-Settling-clause-sound
returns-in-Settling-clause-sound c =
    let m = c.args.m.now in
    let s = c.requires.selected in
    let new = c.constrain.new in
    sound_still m _ c.requires.sound (record { atoms = refl; names = refl; ops = refl; clauses = refl; budget = c.constrain.ensures.budget })
    (names_grown m.atoms (now m) (value new.world.first new.world.second.now) c.in-Err.ensures.err s.0.state s.3.selected.place.continuation.state)
    c.constrain.ensures.marked (open_same m.atoms m.clauses (saved m) (saved_values new.world.first new.world.second.saved) m.choices new.choices c.in-Err.ensures.err_saved c.in-Err.ensures.err_choices c.requires.sound.untried)

pub returns-in-NoMemory-clause-err : goal.returns-in-NoMemory-clause-err
returns-in-NoMemory-clause-err c =
    let m = c.args.m.now in
    let new = c.constrain.new in
    stands_all m m.clauses (saved_values new.world.first new.world.second.saved) new.choices (value new.world.first new.world.second.now) refl c.in-Err.ensures.err_saved c.in-Err.ensures.err_choices
    c.in-Err.ensures.err

pub returns-in-Settling-clause-err : goal.returns-in-Settling-clause-err
returns-in-Settling-clause-err c =
    let m = c.args.m.now in
    let new = c.constrain.new in
    stands_all m m.clauses (saved_values new.world.first new.world.second.saved) new.choices (value new.world.first new.world.second.now) refl c.in-Err.ensures.err_saved c.in-Err.ensures.err_choices
    c.in-Err.ensures.err

pub returns-in-Error-clause-raises : goal.returns-in-Error-clause-raises
returns-in-Error-clause-raises c =
    let m = c.args.m.now in
    let new = c.constrain.new in
    stands_all m m.clauses (saved_values new.world.first new.world.second.saved) new.choices (value new.world.first new.world.second.now) refl c.in-Err.ensures.err_saved c.in-Err.ensures.err_choices
    c.in-Err.ensures.err
