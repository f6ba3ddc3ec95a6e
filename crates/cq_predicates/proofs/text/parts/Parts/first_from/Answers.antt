use Rattle.std.proofs.Common.{◌≡◌, ◌∙◌, [], sym, subst, arith, filter}
use Rattle.cq_predicates.specs.Places.{fits, row}
use Rattle.cq_predicates.proofs.TextRows.{passed}
use Rattle.cq_predicates.proofs.text.parts.Parts.first_from.Goals as goal

pub loop-before-preserved : goal.loop-before-preserved
loop-before-preserved c =
    let w = c.args.self.now in
    let none : filter (fits w.sought c.deref.result.now) (row c.deref.result.now c.loop-before.before c.loop-before.low) ≡ [] = c.in_default.ensures.none in
    let here : filter (fits w.sought w.characters.items) (row w.characters.items c.loop-before.before c.loop-before.low) ≡ [] = subst (λ cs. filter (fits w.sought cs) (row cs c.loop-before.before c.loop-before.low) ≡ []) c.deref.ensures.value none in
    sym (passed w.sought w.characters.items c.loop-before.before c.loop-before.low (omega arith) here) ∙ c.loop-before.invariant
