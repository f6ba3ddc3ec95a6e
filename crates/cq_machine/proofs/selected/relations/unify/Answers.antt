use Rattle.std.proofs.Common.{None, Some, refl, sym, ap, ap₂, ◌∙◌, subst}
use Rattle.std.specs.Prelude.{Err}
use Rattle.std.specs.List.{zip}
use Rattle.spec_search.specs.Builtins.{Unify}
use Rattle.spec_search.specs.Replies.{Reply}
use Rattle.cq_store.specs.declared.store.StoreFault.{StoreFault}
use Rattle.cq_branch.specs.Worlds.{value, Leads}
use Rattle.cq_machine.specs.Machines.{now, saved, holds}
use Rattle.cq_machine.specs.Stepping.{row_of}
use Rattle.cq_machine.proofs.Kept.{leads_over}
use Rattle.cq_machine.proofs.Equal.{unify_row}
use Rattle.cq_machine.proofs.Stopped.{stopped_by}
use Rattle.cq_calls.proofs.Waiting.{same_grown}
use Rattle.cq_machine.proofs.Reached.{names_ahead, names_same, stands_parts, sound_still, open_still, marked_still}
use Rattle.cq_machine.proofs.selected.relations.unify.Goals as goal

pub unify-requires-clause-ready : goal.unify-requires-clause-ready
unify-requires-clause-ready c = (let s = c.requires.selected in (s.1.state, s.4.selected.place.continuation.state.ready))

pub returns-in-Goes-clause-row : goal.returns-in-Goes-clause-row
returns-in-Goes-clause-row c = λ height p behind g s.
    let m = c.args.m.now in
    leads_over m.atoms m.clauses (saved m) _ m.choices (value c.unify.new.world c.unify.new.lists.now) (Some c.in-Goes.first) p behind (row_of Unify p g) (ap₂ zip c.unify.ensures.saved c.unify.ensures.lists)
    (subst (λ (r : Reply). Leads m.atoms (holds m) (value c.unify.new.world c.unify.new.lists.now) (Some c.in-Goes.first) p behind r)
    (unify_row m.atoms (now m).0 p c.args.goal c.arg-left.result c.arg-right.result g s.reads c.arg-left.ensures.live c.arg-left.ensures.arg c.arg-right.ensures.live c.arg-right.ensures.arg)
    ((rw c.in-Goes.is at c.in-Ok.ensures.row) (holds m) p behind (s.selected.place, s.selected.waiting)))

pub returns-in-Goes-clause-sound : goal.returns-in-Goes-clause-sound
returns-in-Goes-clause-sound c =
    let m = c.args.m.now in
    let s = c.requires.selected in
    let marks = ap₂ zip c.unify.ensures.saved c.unify.ensures.lists in
    sound_still m _ c.requires.sound (record { atoms = refl; names = refl; ops = refl; clauses = refl; budget = c.unify.ensures.budget })
    (names_ahead m.atoms (holds m) (value c.unify.new.world c.unify.new.lists.now) c.in-Goes.first s.1 s.2 _ ((rw c.in-Goes.is at c.in-Ok.ensures.row) (holds m) s.1 s.2 (s.4.selected.place, s.4.selected.waiting)))
    (marked_still (saved m) _ m.choices marks c.requires.sound.marked) (open_still m.atoms m.clauses (saved m) _ m.choices marks c.requires.sound.untried)

pub returns-in-Pruned-clause-row : goal.returns-in-Pruned-clause-row
returns-in-Pruned-clause-row c = λ height p behind g s.
    let m = c.args.m.now in
    leads_over m.atoms m.clauses (saved m) _ m.choices (value c.unify.new.world c.unify.new.lists.now) None p behind (row_of Unify p g) (ap₂ zip c.unify.ensures.saved c.unify.ensures.lists)
    (subst (λ (r : Reply). Leads m.atoms (holds m) (value c.unify.new.world c.unify.new.lists.now) None p behind r)
    (unify_row m.atoms (now m).0 p c.args.goal c.arg-left.result c.arg-right.result g s.reads c.arg-left.ensures.live c.arg-left.ensures.arg c.arg-right.ensures.live c.arg-right.ensures.arg)
    ((rw c.in-Pruned.is at c.in-Ok.ensures.row) (holds m) p behind (s.selected.place, s.selected.waiting)))

pub returns-in-Pruned-clause-sound : goal.returns-in-Pruned-clause-sound
returns-in-Pruned-clause-sound c =
    let m = c.args.m.now in
    let s = c.requires.selected in
    let marks = ap₂ zip c.unify.ensures.saved c.unify.ensures.lists in
    sound_still m _ c.requires.sound (record { atoms = refl; names = refl; ops = refl; clauses = refl; budget = c.unify.ensures.budget })
    (names_same m.atoms (now m).0 _ c.requires.sound.names (rw c.in-Pruned.is at c.in-Ok.ensures.unchanged))
    (marked_still (saved m) _ m.choices marks c.requires.sound.marked) (open_still m.atoms m.clauses (saved m) _ m.choices marks c.requires.sound.untried)

pub returns-in-Err-clause-stop : goal.returns-in-Err-clause-stop
returns-in-Err-clause-stop c = λ height p behind g s.
    let m = c.args.m.now in
    stopped_by m.world.first.store.pivots c.in-Err.fault p (row_of Unify p g) _
    (sym (unify_row m.atoms (now m).0 p c.args.goal c.arg-left.result c.arg-right.result g s.reads c.arg-left.ensures.live c.arg-left.ensures.arg c.arg-right.ensures.live c.arg-right.ensures.arg))
    (λ pair e. c.unify.ensures.overflow pair (c.in-Err.is ∙ ap (λ (f : StoreFault). Err f) e) (holds m) p behind (s.selected.place, s.selected.waiting))
    (λ k e. (let t = c.unify.ensures.pivots k (c.in-Err.is ∙ ap (λ (f : StoreFault). Err f) e) in (t.0, t.1 (holds m) p behind (s.selected.place, s.selected.waiting))))

pub returns-in-Err-clause-sound : goal.returns-in-Err-clause-sound
returns-in-Err-clause-sound c =
    let m = c.args.m.now in
    let marks = ap₂ zip c.unify.ensures.saved c.unify.ensures.lists in
    sound_still m _ c.requires.sound (record { atoms = refl; names = refl; ops = refl; clauses = refl; budget = c.unify.ensures.budget })
    (names_same m.atoms (now m).0 _ c.requires.sound.names c.in-Err.ensures.err)
    (marked_still (saved m) _ m.choices marks c.requires.sound.marked) (open_still m.atoms m.clauses (saved m) _ m.choices marks c.requires.sound.untried)

pub returns-in-Err-clause-err : goal.returns-in-Err-clause-err
returns-in-Err-clause-err c =
    let m = c.args.m.now in
    stands_parts m _ (value c.unify.new.world c.unify.new.lists.now) (ap₂ zip c.unify.ensures.saved c.unify.ensures.lists)
    (same_grown m.atoms (now m).0 _ (now m).1 _ c.in-Err.ensures.err c.unify.ensures.keeps)
