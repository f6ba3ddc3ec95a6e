use Rattle.std.proofs.Common.{Some, refl, ap₂}
use Rattle.std.specs.List.{zip}
use Rattle.spec_search.specs.Builtins.{Freeze}
use Rattle.cq_attr.proofs.Elements.{on_err}
use Rattle.cq_branch.proofs.Arguments.{argument_reads}
use Rattle.cq_branch.specs.Worlds.{value}
use Rattle.cq_machine.specs.Machines.{now, saved, holds}
use Rattle.cq_machine.specs.Stepping.{row_of}
use Rattle.cq_machine.proofs.Kept.{leads_over}
use Rattle.cq_calls.proofs.Waiting.{same_grown}
use Rattle.cq_machine.proofs.Reached.{names_ahead, names_same, sound_still, open_still, marked_still, stands_parts}
use Rattle.cq_machine.proofs.selected.relations.freeze.Goals as goal

pub returns-clause-row : goal.returns-clause-row
returns-clause-row c = λ height p behind g s.
    let m = c.args.m.now in
    let rx = argument_reads m.atoms (now m).0 p.state c.args.goal 0 c.arg-variable.result g s.reads c.arg-variable.ensures.live c.arg-variable.ensures.arg in
    let re = argument_reads m.atoms (now m).0 p.state c.args.goal 1 c.arg-asleep.result g s.reads c.arg-asleep.ensures.live c.arg-asleep.ensures.arg in
    leads_over m.atoms m.clauses (saved m) _ m.choices _ (Some c.in_ok-k.k) p behind (row_of Freeze p g) (ap₂ zip c.freeze.ensures.saved c.freeze.ensures.lists)
    (c.in_ok-k.ensures.row m.atoms (holds m) p behind _ _ (s.selected.place, s.selected.waiting) rx re)

pub returns-clause-sound : goal.returns-clause-sound
returns-clause-sound c =
    let m = c.args.m.now in
    let s = c.requires.selected in
    let rx = argument_reads m.atoms (now m).0 s.1.state c.args.goal 0 c.arg-variable.result s.3 s.4.reads c.arg-variable.ensures.live c.arg-variable.ensures.arg in
    let re = argument_reads m.atoms (now m).0 s.1.state c.args.goal 1 c.arg-asleep.result s.3 s.4.reads c.arg-asleep.ensures.live c.arg-asleep.ensures.arg in
    let marks = ap₂ zip c.freeze.ensures.saved c.freeze.ensures.lists in
    sound_still m _ c.requires.sound (record { atoms = refl; names = refl; ops = refl; clauses = refl; budget = c.freeze.ensures.budget })
    (names_ahead m.atoms (holds m) _ c.in_ok-k.k s.1 s.2 _ (c.in_ok-k.ensures.row m.atoms (holds m) s.1 s.2 _ _ (s.4.selected.place, s.4.selected.waiting) rx re))
    (marked_still (saved m) _ m.choices marks c.requires.sound.marked) (open_still m.atoms m.clauses (saved m) _ m.choices marks c.requires.sound.untried)

pub returns-in_err-k-clause-sound : goal.returns-in_err-k-clause-sound
returns-in_err-k-clause-sound c =
    let m = c.args.m.now in
    let marks = ap₂ zip c.freeze.ensures.saved c.freeze.ensures.lists in
    sound_still m _ c.requires.sound (record { atoms = refl; names = refl; ops = refl; clauses = refl; budget = c.freeze.ensures.budget })
    (names_same m.atoms (now m).0 _ c.requires.sound.names c.in_err-k.ensures.err)
    (marked_still (saved m) _ m.choices marks c.requires.sound.marked) (open_still m.atoms m.clauses (saved m) _ m.choices marks c.requires.sound.untried)

pub returns-in_err-k-clause-err : goal.returns-in_err-k-clause-err
returns-in_err-k-clause-err c =
    let m = c.args.m.now in
    on_err c.from_residual.result
    (stands_parts m _ (value c.freeze.new.world c.freeze.new.lists.now) (ap₂ zip c.freeze.ensures.saved c.freeze.ensures.lists)
    (same_grown m.atoms (now m).0 _ (now m).1 _ c.in_err-k.ensures.err c.freeze.ensures.keeps))
