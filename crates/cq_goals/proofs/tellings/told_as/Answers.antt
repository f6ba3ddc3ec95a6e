use Rattle.cq_built.proofs.Growing.{undone_now, undone_grows}
use Rattle.cq_goals.proofs.tellings.told_as.Goals as goal

pub returns-in-Err-clause-grows : goal.returns-in-Err-clause-grows
returns-in-Err-clause-grows c =
    undone_grows c.args.atoms.now c.args.atoms.now c.args.heap.now c.mark.new.self c.members_or_halves.new.heap c.undo.new.self c.in_ok-m.m.number c.in_ok-m.ensures.mark c.in_ok-m.ensures.saved c.in_ok-m.ensures.room
    c.members_or_halves.ensures.grows c.undo.ensures.now c.undo.ensures.saved c.undo.ensures.room

pub returns-in-Err-clause-err : goal.returns-in-Err-clause-err
returns-in-Err-clause-err c =
    undone_now c.args.atoms.now c.args.atoms.now c.args.heap.now c.mark.new.self c.members_or_halves.new.heap c.undo.new.self c.in_ok-m.m.number c.in_ok-m.ensures.mark c.in_ok-m.ensures.saved c.in_ok-m.ensures.room
    c.members_or_halves.ensures.grows c.undo.ensures.now c.undo.ensures.saved c.undo.ensures.room
