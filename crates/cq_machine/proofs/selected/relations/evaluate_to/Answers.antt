use Rattle.std.proofs.Common.{None, Some, refl, sym, ap, ap₂, ◌∙◌, subst}
use Rattle.std.specs.List.{zip}
use Rattle.spec_search.specs.Builtins.{Is}
use Rattle.spec_search.specs.Replies.{Raises}
use Rattle.cq_built.specs.Errors.{error_tree, HasCulprit}
use Rattle.cq_settle.specs.Contents.{Contents}
use Rattle.cq_branch.proofs.Arguments.{argument_reads}
use Rattle.cq_branch.specs.Worlds.{value}
use Rattle.cq_machine.specs.Machines.{now, saved, holds}
use Rattle.cq_machine.specs.Stepping.{row_of}
use Rattle.cq_machine.proofs.Kept.{leads_over}
use Rattle.cq_calls.proofs.Waiting.{same_grown}
use Rattle.cq_machine.proofs.Reached.{names_ahead, names_same, stands_parts, sound_still, open_still, marked_still}
use Rattle.cq_machine.proofs.selected.relations.evaluate_to.Goals as goal

pub evaluate_to-requires-clause-ready : goal.evaluate_to-requires-clause-ready
evaluate_to-requires-clause-ready c = (let s = c.requires.selected in (s.1.state, s.4.selected.place.continuation.state.ready))

pub returns-in-Goes-clause-row : goal.returns-in-Goes-clause-row
returns-in-Goes-clause-row c = λ height p behind g s.
    let m = c.args.m.now in
    let rx = argument_reads m.atoms (now m).0 p.state c.args.goal 0 c.arg-left.result g s.reads c.arg-left.ensures.live c.arg-left.ensures.arg in
    let re = argument_reads m.atoms (now m).0 p.state c.args.goal 1 c.arg-right.result g s.reads c.arg-right.ensures.live c.arg-right.ensures.arg in
    leads_over m.atoms m.clauses (saved m) _ m.choices (value c.evaluate_to.new.world c.evaluate_to.new.lists.now) (Some c.in-Goes.first) p behind (row_of Is p g) (ap₂ zip c.evaluate_to.ensures.saved c.evaluate_to.ensures.lists)
    ((rw c.in-Goes.is at c.in-Ok.ensures.row) (holds m) p behind _ _ (s.selected.place, s.selected.waiting) rx re)

pub returns-in-Pruned-clause-row : goal.returns-in-Pruned-clause-row
returns-in-Pruned-clause-row c = λ height p behind g s.
    let m = c.args.m.now in
    let rx = argument_reads m.atoms (now m).0 p.state c.args.goal 0 c.arg-left.result g s.reads c.arg-left.ensures.live c.arg-left.ensures.arg in
    let re = argument_reads m.atoms (now m).0 p.state c.args.goal 1 c.arg-right.result g s.reads c.arg-right.ensures.live c.arg-right.ensures.arg in
    leads_over m.atoms m.clauses (saved m) _ m.choices (value c.evaluate_to.new.world c.evaluate_to.new.lists.now) None p behind (row_of Is p g) (ap₂ zip c.evaluate_to.ensures.saved c.evaluate_to.ensures.lists)
    ((rw c.in-Pruned.is at c.in-Ok.ensures.row) (holds m) p behind _ _ (s.selected.place, s.selected.waiting) rx re)

pub returns-in-Goes-clause-sound : goal.returns-in-Goes-clause-sound
returns-in-Goes-clause-sound c =
    let m = c.args.m.now in
    let s = c.requires.selected in
    let rx = argument_reads m.atoms (now m).0 s.1.state c.args.goal 0 c.arg-left.result s.3 s.4.reads c.arg-left.ensures.live c.arg-left.ensures.arg in
    let re = argument_reads m.atoms (now m).0 s.1.state c.args.goal 1 c.arg-right.result s.3 s.4.reads c.arg-right.ensures.live c.arg-right.ensures.arg in
    let marks = ap₂ zip c.evaluate_to.ensures.saved c.evaluate_to.ensures.lists in
    sound_still m _ c.requires.sound (record { atoms = refl; names = refl; ops = refl; clauses = refl; budget = c.evaluate_to.ensures.budget })
    (names_ahead m.atoms (holds m) (value c.evaluate_to.new.world c.evaluate_to.new.lists.now) c.in-Goes.first s.1 s.2 _ ((rw c.in-Goes.is at c.in-Ok.ensures.row) (holds m) s.1 s.2 _ _ (s.4.selected.place, s.4.selected.waiting) rx re))
    (marked_still (saved m) _ m.choices marks c.requires.sound.marked) (open_still m.atoms m.clauses (saved m) _ m.choices marks c.requires.sound.untried)

pub returns-in-Pruned-clause-sound : goal.returns-in-Pruned-clause-sound
returns-in-Pruned-clause-sound c =
    let m = c.args.m.now in
    let marks = ap₂ zip c.evaluate_to.ensures.saved c.evaluate_to.ensures.lists in
    sound_still m _ c.requires.sound (record { atoms = refl; names = refl; ops = refl; clauses = refl; budget = c.evaluate_to.ensures.budget })
    (names_same m.atoms (now m).0 _ c.requires.sound.names (rw c.in-Pruned.is at c.in-Ok.ensures.unchanged))
    (marked_still (saved m) _ m.choices marks c.requires.sound.marked) (open_still m.atoms m.clauses (saved m) _ m.choices marks c.requires.sound.untried)

pub returns-in-Error-clause-sound : goal.returns-in-Error-clause-sound
returns-in-Error-clause-sound c =
    let m = c.args.m.now in
    let marks = ap₂ zip c.evaluate_to.ensures.saved c.evaluate_to.ensures.lists in
    sound_still m _ c.requires.sound (record { atoms = refl; names = refl; ops = refl; clauses = refl; budget = c.evaluate_to.ensures.budget })
    (names_same m.atoms (now m).0 _ c.requires.sound.names c.in-Err.ensures.err)
    (marked_still (saved m) _ m.choices marks c.requires.sound.marked) (open_still m.atoms m.clauses (saved m) _ m.choices marks c.requires.sound.untried)

pub returns-in-Overflow-clause-sound : goal.returns-in-Overflow-clause-sound
returns-in-Overflow-clause-sound c =
    let m = c.args.m.now in
    let marks = ap₂ zip c.evaluate_to.ensures.saved c.evaluate_to.ensures.lists in
    sound_still m _ c.requires.sound (record { atoms = refl; names = refl; ops = refl; clauses = refl; budget = c.evaluate_to.ensures.budget })
    (names_same m.atoms (now m).0 _ c.requires.sound.names c.in-Err.ensures.err)
    (marked_still (saved m) _ m.choices marks c.requires.sound.marked) (open_still m.atoms m.clauses (saved m) _ m.choices marks c.requires.sound.untried)

pub returns-in-NoMemory-clause-sound : goal.returns-in-NoMemory-clause-sound
returns-in-NoMemory-clause-sound c =
    let m = c.args.m.now in
    let marks = ap₂ zip c.evaluate_to.ensures.saved c.evaluate_to.ensures.lists in
    sound_still m _ c.requires.sound (record { atoms = refl; names = refl; ops = refl; clauses = refl; budget = c.evaluate_to.ensures.budget })
    (names_same m.atoms (now m).0 _ c.requires.sound.names c.in-Err.ensures.err)
    (marked_still (saved m) _ m.choices marks c.requires.sound.marked) (open_still m.atoms m.clauses (saved m) _ m.choices marks c.requires.sound.untried)

pub returns-in-Settling-clause-sound : goal.returns-in-Settling-clause-sound
returns-in-Settling-clause-sound c =
    let m = c.args.m.now in
    let marks = ap₂ zip c.evaluate_to.ensures.saved c.evaluate_to.ensures.lists in
    sound_still m _ c.requires.sound (record { atoms = refl; names = refl; ops = refl; clauses = refl; budget = c.evaluate_to.ensures.budget })
    (names_same m.atoms (now m).0 _ c.requires.sound.names c.in-Err.ensures.err)
    (marked_still (saved m) _ m.choices marks c.requires.sound.marked) (open_still m.atoms m.clauses (saved m) _ m.choices marks c.requires.sound.untried)

pub returns-in-Error-clause-row : goal.returns-in-Error-clause-row
returns-in-Error-clause-row c = λ height p behind g s.
    let m = c.args.m.now in
    let rx = argument_reads m.atoms (now m).0 p.state c.args.goal 0 c.arg-left.result g s.reads c.arg-left.ensures.live c.arg-left.ensures.arg in
    let re = argument_reads m.atoms (now m).0 p.state c.args.goal 1 c.arg-right.result g s.reads c.arg-right.ensures.live c.arg-right.ensures.arg in
    (rw c.in-Error.is at (rw c.in-Goal.is at c.in-Err.ensures.fault)) (holds m) p behind _ _ (s.selected.place, s.selected.waiting) rx re
    ∙ ap (λ (w : Contents). Raises (error_tree m.atoms w.heap.terms c.in-Error.error)) (sym c.in-Err.ensures.err)

pub returns-in-Overflow-clause-row : goal.returns-in-Overflow-clause-row
returns-in-Overflow-clause-row c = λ height p behind g s.
    let m = c.args.m.now in
    let rx = argument_reads m.atoms (now m).0 p.state c.args.goal 0 c.arg-left.result g s.reads c.arg-left.ensures.live c.arg-left.ensures.arg in
    let re = argument_reads m.atoms (now m).0 p.state c.args.goal 1 c.arg-right.result g s.reads c.arg-right.ensures.live c.arg-right.ensures.arg in
    (rw c.in-Overflow.is at (rw c.in-Goal.is at c.in-Err.ensures.fault)) (holds m) p behind _ _ (s.selected.place, s.selected.waiting) rx re

pub returns-in-Error-clause-goes : goal.returns-in-Error-clause-goes
returns-in-Error-clause-goes c =
    subst (λ (w : Contents). HasCulprit c.args.m.now.atoms w.heap.terms c.in-Error.error) (sym c.in-Err.ensures.err)
    (rw c.in-Error.is at (rw c.in-Goal.is at c.in-Err.ensures.culprit))

pub returns-in-Settling-clause-stop : goal.returns-in-Settling-clause-stop
returns-in-Settling-clause-stop c = λ height p behind g s.
    let m = c.args.m.now in
    let rx = argument_reads m.atoms (now m).0 p.state c.args.goal 0 c.arg-left.result g s.reads c.arg-left.ensures.live c.arg-left.ensures.arg in
    let re = argument_reads m.atoms (now m).0 p.state c.args.goal 1 c.arg-right.result g s.reads c.arg-right.ensures.live c.arg-right.ensures.arg in
    (rw c.in-Settling.is at c.in-Err.ensures.fault) (holds m) p behind _ _ (s.selected.place, s.selected.waiting) rx re

pub returns-in-NoMemory-clause-err : goal.returns-in-NoMemory-clause-err
returns-in-NoMemory-clause-err c =
    let m = c.args.m.now in
    stands_parts m _ (value c.evaluate_to.new.world c.evaluate_to.new.lists.now) (ap₂ zip c.evaluate_to.ensures.saved c.evaluate_to.ensures.lists)
    (same_grown m.atoms (now m).0 _ (now m).1 _ c.in-Err.ensures.err c.evaluate_to.ensures.keeps)

pub returns-in-Settling-clause-err : goal.returns-in-Settling-clause-err
returns-in-Settling-clause-err c =
    let m = c.args.m.now in
    stands_parts m _ (value c.evaluate_to.new.world c.evaluate_to.new.lists.now) (ap₂ zip c.evaluate_to.ensures.saved c.evaluate_to.ensures.lists)
    (same_grown m.atoms (now m).0 _ (now m).1 _ c.in-Err.ensures.err c.evaluate_to.ensures.keeps)

pub returns-in-Error-clause-raises : goal.returns-in-Error-clause-raises
returns-in-Error-clause-raises c =
    let m = c.args.m.now in
    stands_parts m _ (value c.evaluate_to.new.world c.evaluate_to.new.lists.now) (ap₂ zip c.evaluate_to.ensures.saved c.evaluate_to.ensures.lists)
    (same_grown m.atoms (now m).0 _ (now m).1 _ c.in-Err.ensures.err c.evaluate_to.ensures.keeps)

pub returns-in-Overflow-clause-refuses : goal.returns-in-Overflow-clause-refuses
returns-in-Overflow-clause-refuses c =
    let m = c.args.m.now in
    stands_parts m _ (value c.evaluate_to.new.world c.evaluate_to.new.lists.now) (ap₂ zip c.evaluate_to.ensures.saved c.evaluate_to.ensures.lists)
    (same_grown m.atoms (now m).0 _ (now m).1 _ c.in-Err.ensures.err c.evaluate_to.ensures.keeps)
