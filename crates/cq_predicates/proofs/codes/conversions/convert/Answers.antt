use Rattle.cq_built.proofs.Growing.{undone_now, undone_grows}
use Rattle.cq_predicates.proofs.codes.conversions.convert.Goals as goal

pub returns-in-Err-clause-grows : goal.returns-in-Err-clause-grows
returns-in-Err-clause-grows c =
    undone_grows c.args.atoms.now c.converted.new.atoms c.args.heap.now c.mark.new.self c.converted.new.heap c.undo.new.self c.in_ok-m.m.number c.in_ok-m.ensures.mark c.in_ok-m.ensures.saved c.in_ok-m.ensures.room
    c.converted.ensures.grows c.undo.ensures.now c.undo.ensures.saved c.undo.ensures.room

pub returns-in-Err-clause-err : goal.returns-in-Err-clause-err
returns-in-Err-clause-err c =
    undone_now c.args.atoms.now c.converted.new.atoms c.args.heap.now c.mark.new.self c.converted.new.heap c.undo.new.self c.in_ok-m.m.number c.in_ok-m.ensures.mark c.in_ok-m.ensures.saved c.in_ok-m.ensures.room
    c.converted.ensures.grows c.undo.ensures.now c.undo.ensures.saved c.undo.ensures.room
