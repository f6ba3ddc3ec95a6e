use Rattle.std.proofs.Common.{◌≡◌, subst}
use Rattle.std.specs.Prelude.{IfOk}
use Rattle.spec_branch.specs.Relations.{lin}
use Rattle.spec_transcript.specs.Operands.{relation_operands}
use Rattle.cq_cexpr.specs.Found.{constraint_of}
use Rattle.cq_cexpr.specs.Overflows.{ComesFrom}
use Rattle.cq_term.specs.HeapValue.{Terms}
use Rattle.cq_term.specs.Trees.{tree}
use Rattle.cq_questions.specs.Values.{AtValues}
use Rattle.cq_questions.proofs.Undone.{undone_now, undone_saved, undone_room}
use Rattle.cq_questions.proofs.terms.relation_now.Goals as goal

pub returns-clause-heap : goal.returns-clause-heap
returns-clause-heap c =
    undone_now c.args.heap.now c.mark.new.self c.relation_with_values-relation.new.heap c.undo.new.self c.in_ok-start.start.number c.in_ok-start.ensures.mark c.in_ok-start.ensures.saved
    c.relation_with_values-relation.ensures.saved c.undo.ensures.now

pub returns-clause-saved : goal.returns-clause-saved
returns-clause-saved c =
    undone_saved c.args.heap.now c.mark.new.self c.relation_with_values-relation.new.heap c.undo.new.self c.in_ok-start.start.number c.in_ok-start.ensures.mark c.in_ok-start.ensures.saved
    c.relation_with_values-relation.ensures.saved c.undo.ensures.saved

pub returns-clause-room : goal.returns-clause-room
returns-clause-room c =
    undone_room c.args.heap.now c.mark.new.self c.relation_with_values-relation.new.heap c.undo.new.self c.in_ok-start.start.number c.in_ok-start.ensures.mark c.in_ok-start.ensures.saved
    c.relation_with_values-relation.ensures.saved c.in_ok-start.ensures.room c.relation_with_values-relation.ensures.room c.undo.ensures.room

pub returns-clause-lin : goal.returns-clause-lin
returns-clause-lin c =
    subst (λ (h : Terms). IfOk c.relation_with_values-relation.result (λ r. AtValues c.args.store.now.told (λ fixed. constraint_of r ≡ lin fixed (tree c.args.atoms.now h.terms c.args.term))))
    c.mark.ensures.now c.relation_with_values-relation.ensures.lin

pub returns-clause-overflow : goal.returns-clause-overflow
returns-clause-overflow c = λ pair e.
    subst (λ (h : Terms). AtValues c.args.store.now.told (λ fixed. ComesFrom (relation_operands fixed (tree c.args.atoms.now h.terms c.args.term)) pair))
    c.mark.ensures.now (c.relation_with_values-relation.ensures.overflow pair e)
