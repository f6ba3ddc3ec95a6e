-- What is asked between a mark and its end leaves what is held at the mark.
use Rattle.std.proofs.Common.{◌≡◌, ℕ, List, map, ap, ap₂, sym, subst, ◌∙◌}
use Rattle.std.specs.List.{zip}
use Rattle.spec_linear.specs.Solution.{Constraint}
use Rattle.cq_trail.proofs.Counting.{counted_changed}
use Rattle.cq_dict.specs.DictValue.{quantities_of}
use Rattle.cq_dict.specs.Roles.{Quantities}
use Rattle.cq_tableau.specs.declared.names.Name.{Name}
use Rattle.cq_store.specs.Questions.{SpendsQuestion}
use Rattle.cq_store.specs.Held.{AreStored}
use Rattle.cq_store.specs.StoreValue.{StoreValue}
use Rattle.cq_store.proofs.Holding.{held_undone, last_undone, left_same, room_kept}
use Rattle.cq_store.proofs.store.Store.reached.Goals as goal

pub returns-clause-pivots : goal.returns-clause-pivots
returns-clause-pivots c = λ n e.
    let was : c.begin.new.self.inner.first.now ≡ c.args.self.now.told = ap (λ (z : List Constraint × (List Name × Quantities)). z.0) c.begin.ensures.now ∙ ap (λ (z : StoreValue). z.told) c.self.view_is in
    let o = c.reach-extent.ensures.pivots n e c.begin.new.self.inner.first.now (subst AreStored (sym c.begin.ensures.now) c.self.invariant.stored) in
    subst (λ (b : ℕ). SpendsQuestion c.args.self.now.told c.args.form.now n b) (ap (λ (z : StoreValue). z.pivots) c.self.view_is)
    (subst (λ (l : List Constraint). SpendsQuestion l c.args.form.now n c.self.inside.pivots) was o)

pub returns-clause-told : goal.returns-clause-told
returns-clause-told c =
    ap (λ (z : List Constraint × (List Name × Quantities)). z.0)
    (last_undone _ _ _ c.self.invariant c.in_ok-start.start.number c.in_ok-start.ensures.mark _ c.begin.ensures.now
    (c.begin.new.self.inner.first.now, (c.reach-extent.new.names.now, quantities_of c.reach-extent.new.dict)) c.reach-extent.ensures.grows c.reach-extent.new.numbers.entries
    c.reach-extent.ensures.numbered
    _ (counted_changed _ _ c.in_ok-start.ensures.all (zip c.begin.new.self.inner.first.saved (zip c.reach-extent.new.names.saved c.reach-extent.new.dict.saved))
    (ap (λ z. zip c.begin.new.self.inner.first.saved z) (ap₂ (λ a b. zip a b) c.reach-extent.ensures.names_saved c.reach-extent.ensures.dict_saved)) (c.begin.new.self.inner.first.now, (c.reach-extent.new.names.now, quantities_of c.reach-extent.new.dict))
    ∙ c.in_ok-start.ensures.put)
    _ _ c.undo.ensures.saved c.undo.ensures.now)
    ∙ ap (λ (z : StoreValue). z.told) c.self.view_is

pub invariant_of-self-2 : goal.invariant_of-self-2
invariant_of-self-2 c =
    held_undone _ _ _ c.self.invariant c.in_ok-start.start.number c.in_ok-start.ensures.mark _ c.begin.ensures.now
    (c.begin.new.self.inner.first.now, (c.reach-extent.new.names.now, quantities_of c.reach-extent.new.dict)) c.reach-extent.ensures.grows c.reach-extent.new.numbers.entries
    c.reach-extent.ensures.numbered
    _ (counted_changed _ _ c.in_ok-start.ensures.all (zip c.begin.new.self.inner.first.saved (zip c.reach-extent.new.names.saved c.reach-extent.new.dict.saved))
    (ap (λ z. zip c.begin.new.self.inner.first.saved z) (ap₂ (λ a b. zip a b) c.reach-extent.ensures.names_saved c.reach-extent.ensures.dict_saved)) (c.begin.new.self.inner.first.now, (c.reach-extent.new.names.now, quantities_of c.reach-extent.new.dict))
    ∙ c.in_ok-start.ensures.put)
    _ _ c.undo.ensures.saved c.undo.ensures.now

pub returns-clause-saved : goal.returns-clause-saved
returns-clause-saved c =
    rw (← c.self.view_is)
    (ap (map (λ (h : List Constraint × (List Name × Quantities)). h.0))
    (left_same _ _ _ c.self.invariant c.in_ok-start.start.number c.in_ok-start.ensures.mark _ c.begin.ensures.now
    (c.begin.new.self.inner.first.now, (c.reach-extent.new.names.now, quantities_of c.reach-extent.new.dict)) c.reach-extent.ensures.grows c.reach-extent.new.numbers.entries
    c.reach-extent.ensures.numbered
    _ (counted_changed _ _ c.in_ok-start.ensures.all (zip c.begin.new.self.inner.first.saved (zip c.reach-extent.new.names.saved c.reach-extent.new.dict.saved))
    (ap (λ z. zip c.begin.new.self.inner.first.saved z) (ap₂ (λ a b. zip a b) c.reach-extent.ensures.names_saved c.reach-extent.ensures.dict_saved)) (c.begin.new.self.inner.first.now, (c.reach-extent.new.names.now, quantities_of c.reach-extent.new.dict))
    ∙ c.in_ok-start.ensures.put)
    (c.begin.new.self.inner.first.now, (c.reach-extent.new.names.now, quantities_of c.reach-extent.new.dict)) _ c.undo.ensures.saved))

pub returns-clause-room : goal.returns-clause-room
returns-clause-room c =
    rw (← c.self.view_is)
    (room_kept _ _ c.in_ok-start.start.number c.in_ok-start.ensures.mark
    _ (counted_changed _ _ c.in_ok-start.ensures.all (zip c.begin.new.self.inner.first.saved (zip c.reach-extent.new.names.saved c.reach-extent.new.dict.saved))
    (ap (λ z. zip c.begin.new.self.inner.first.saved z) (ap₂ (λ a b. zip a b) c.reach-extent.ensures.names_saved c.reach-extent.ensures.dict_saved)) (c.begin.new.self.inner.first.now, (c.reach-extent.new.names.now, quantities_of c.reach-extent.new.dict))
    ∙ c.in_ok-start.ensures.put)
    _ _ _ c.begin.ensures.room c.undo.ensures.room)
