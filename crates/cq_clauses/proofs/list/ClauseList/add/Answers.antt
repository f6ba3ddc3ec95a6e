use Rattle.std.proofs.Common.{◌≡◌, ◌+◌, ◌++◌, [], ◌∷◌, length, map, sym, subst, ◌∙◌, ap}
use Rattle.std.specs.Prelude.{slice_get}
use Rattle.std.proofs.lemmas.List.{map-append}
use Rattle.cq_clauses.specs.declared.list.Slot.{Slot}
use Rattle.cq_clauses.specs.Slots.{IsKept, entry_of, fresh}
use Rattle.cq_clauses.proofs.Runs.{kept_back, kept_front}
use Rattle.cq_clauses.proofs.Writes.{got_last}
use Rattle.cq_clauses.proofs.list.ClauseList.add.Goals as goal

pub invariant_of-self-in-First : goal.invariant_of-self-in-First
invariant_of-self-in-First c =
    subst (λ xs. IsKept xs (c.self.inside.fronts + 1) c.self.inside.removals) (sym (c.in_ok-push_front-in-First.ensures.items ∙ ap (λ (s : Slot). s ∷ c.self.inside.slots.items) c.new-slot.ensures))
    (kept_front c.self.inside.slots.items c.self.inside.fronts c.self.inside.removals c.args.clause c.self.invariant)

pub invariant_of-self-in-Last : goal.invariant_of-self-in-Last
invariant_of-self-in-Last c =
    subst (λ xs. IsKept xs c.self.inside.fronts c.self.inside.removals) (sym (c.in_ok-push_back-in-Last.ensures.items ∙ ap (λ (s : Slot). c.self.inside.slots.items ++ s ∷ []) c.new-slot.ensures))
    (kept_back c.self.inside.slots.items c.self.inside.fronts c.self.inside.removals c.args.clause c.self.invariant)

pub returns-in_ok-push_back-in-Last-clause-place : goal.returns-in_ok-push_back-in-Last-clause-place
returns-in_ok-push_back-in-Last-clause-place c =
    let slots = c.self.inside.slots.items in
    let place : c.len-place.result ≡ length (map entry_of slots) = rw (← c.self.view_is) at c.len-place.ensures in
    ap (λ xs. slice_get (map entry_of xs) c.len-place.result) (c.in_ok-push_back-in-Last.ensures.items ∙ ap (λ (s : Slot). slots ++ s ∷ []) c.new-slot.ensures)
    ∙ ap (λ xs. slice_get xs c.len-place.result) (map-append entry_of slots (fresh c.args.clause ∷ []))
    ∙ ap (slice_get (map entry_of slots ++ entry_of (fresh c.args.clause) ∷ [])) place
    ∙ got_last (map entry_of slots) (entry_of (fresh c.args.clause))
