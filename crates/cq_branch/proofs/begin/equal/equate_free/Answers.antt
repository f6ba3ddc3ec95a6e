use Rattle.std.proofs.Common.{◌≡◌, ◌++◌, ◌∷◌, [], length, IfOk, subst, rules}
use Rattle.spec_terms.specs.Unifier.{HasNoUnifier}
use Rattle.spec_numbers.proofs.Places.{newest}
use Rattle.cq_term.specs.HeapValue.{Terms}
use Rattle.cq_term.specs.Pairs.{equations}
use Rattle.cq_branch.specs.Entries.{IfApart}
use Rattle.cq_branch.proofs.begin.equal.equate_free.Goals as goal

pub returns-in_default-clause-apart : goal.returns-in_default-clause-apart
returns-in_default-clause-apart c =
    let marked : c.mark.new.self.now ≡ c.args.heap.now.now = search rules in
    subst (λ (old : Terms). IfOk c.equate_unmarked-equated.result (λ e. IfApart e (HasNoUnifier (equations old.terms c.args.pairs.now)))) marked
    c.equate_unmarked-equated.ensures.apart

pub returns-in_default-clause-unchanged : goal.returns-in_default-clause-unchanged
returns-in_default-clause-unchanged c = λ _.
    let number : c.unwrap-start.result.number ≡ length c.args.heap.now.saved = search rules in
    let saved : c.equate_unmarked-equated.new.heap.saved ≡ c.args.heap.now.saved ++ c.args.heap.now.now ∷ [] = search rules in
    newest c.args.heap.now.saved c.args.heap.now.now c.unwrap-start.result.number number c.equate_unmarked-equated.new.heap.saved saved c.undo.new.self.now c.undo.ensures.now
