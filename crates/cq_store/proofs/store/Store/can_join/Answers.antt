use Rattle.std.proofs.Common.{◌≡◌, List, map, [], ◌∷◌, ◌++◌, ap, ap₂, subst, ◌∙◌}
use Rattle.std.specs.Prelude.{IfOk, MatchBool}
use Rattle.std.specs.List.{zip}
use Rattle.spec_linear.specs.Solution.{Constraint, Solvable, Unsolvable}
use Rattle.spec_simplex.specs.Asked.{NoQuestion}
use Rattle.cq_trail.proofs.Counting.{counted_changed}
use Rattle.cq_dict.specs.DictValue.{quantities_of}
use Rattle.cq_dict.specs.Roles.{Quantities}
use Rattle.cq_tableau.specs.declared.names.Name.{Name}
use Rattle.cq_store.specs.StoreValue.{StoreValue, MayTake, Only}
use Rattle.cq_store.proofs.Holding.{held_undone, last_undone, left_same, room_kept}
use Rattle.cq_store.proofs.store.Store.can_join.Goals as goal

pub returns-clause-pivots : goal.returns-clause-pivots
returns-clause-pivots c = λ n e.
    let was : c.begin.new.self.inner.first.now ≡ c.args.self.now.told = ap (λ (z : List Constraint × (List Name × Quantities)). z.0) c.begin.ensures.now ∙ ap (λ (z : StoreValue). z.told) c.self.view_is in
    let o = c.can_enter-joins.ensures.pivots n e in (
      o.0 ∙ ap (λ (z : StoreValue). z.pivots) c.self.view_is,
      subst (λ (l : List Constraint). MayTake l (Only c.args.c) NoQuestion n) was o.1,
    )

pub returns-clause-told : goal.returns-clause-told
returns-clause-told c =
    ap (λ (z : List Constraint × (List Name × Quantities)). z.0)
    (last_undone _ _ _ c.self.invariant c.in_ok-start.start.number c.in_ok-start.ensures.mark _ c.begin.ensures.now
    (c.can_enter-joins.new.held.first.now, (c.can_enter-joins.new.held.second.first.now, quantities_of c.can_enter-joins.new.held.second.second)) c.can_enter-joins.ensures.grows
    c.can_enter-joins.new.numbers.entries c.can_enter-joins.ensures.numbered
    _ (counted_changed _ _ c.in_ok-start.ensures.all (zip c.can_enter-joins.new.held.first.saved (zip c.can_enter-joins.new.held.second.first.saved c.can_enter-joins.new.held.second.second.saved))
    (ap₂ (λ a b. zip a b) c.can_enter-joins.ensures.told_saved (ap₂ (λ a b. zip a b) c.can_enter-joins.ensures.names_saved c.can_enter-joins.ensures.dict_saved)) (c.can_enter-joins.new.held.first.now, (c.can_enter-joins.new.held.second.first.now, quantities_of c.can_enter-joins.new.held.second.second))
    ∙ c.in_ok-start.ensures.put)
    _ _ c.undo.ensures.saved c.undo.ensures.now)
    ∙ ap (λ (z : StoreValue). z.told) c.self.view_is

pub invariant_of-self-2 : goal.invariant_of-self-2
invariant_of-self-2 c =
    held_undone _ _ _ c.self.invariant c.in_ok-start.start.number c.in_ok-start.ensures.mark _ c.begin.ensures.now
    (c.can_enter-joins.new.held.first.now, (c.can_enter-joins.new.held.second.first.now, quantities_of c.can_enter-joins.new.held.second.second)) c.can_enter-joins.ensures.grows
    c.can_enter-joins.new.numbers.entries c.can_enter-joins.ensures.numbered
    _ (counted_changed _ _ c.in_ok-start.ensures.all (zip c.can_enter-joins.new.held.first.saved (zip c.can_enter-joins.new.held.second.first.saved c.can_enter-joins.new.held.second.second.saved))
    (ap₂ (λ a b. zip a b) c.can_enter-joins.ensures.told_saved (ap₂ (λ a b. zip a b) c.can_enter-joins.ensures.names_saved c.can_enter-joins.ensures.dict_saved)) (c.can_enter-joins.new.held.first.now, (c.can_enter-joins.new.held.second.first.now, quantities_of c.can_enter-joins.new.held.second.second))
    ∙ c.in_ok-start.ensures.put)
    _ _ c.undo.ensures.saved c.undo.ensures.now

pub returns-clause-solvable : goal.returns-clause-solvable
returns-clause-solvable c =
    let was : c.begin.new.self.inner.first.now ≡ c.args.self.now.told = ap (λ (z : List Constraint × (List Name × Quantities)). z.0) c.begin.ensures.now ∙ ap (λ (z : StoreValue). z.told) c.self.view_is in
    subst (λ (l : List Constraint). IfOk c.can_enter-joins.result (λ yes. MatchBool yes (Solvable (l ++ c.args.c ∷ [])) (Unsolvable (l ++ c.args.c ∷ [])))) was
    c.can_enter-joins.ensures.solvable

pub returns-clause-saved : goal.returns-clause-saved
returns-clause-saved c =
    rw (← c.self.view_is)
    (ap (map (λ (h : List Constraint × (List Name × Quantities)). h.0))
    (left_same _ _ _ c.self.invariant c.in_ok-start.start.number c.in_ok-start.ensures.mark _ c.begin.ensures.now
    (c.can_enter-joins.new.held.first.now, (c.can_enter-joins.new.held.second.first.now, quantities_of c.can_enter-joins.new.held.second.second)) c.can_enter-joins.ensures.grows c.can_enter-joins.new.numbers.entries
    c.can_enter-joins.ensures.numbered
    _ (counted_changed _ _ c.in_ok-start.ensures.all (zip c.can_enter-joins.new.held.first.saved (zip c.can_enter-joins.new.held.second.first.saved c.can_enter-joins.new.held.second.second.saved))
    (ap₂ (λ a b. zip a b) c.can_enter-joins.ensures.told_saved (ap₂ (λ a b. zip a b) c.can_enter-joins.ensures.names_saved c.can_enter-joins.ensures.dict_saved)) (c.can_enter-joins.new.held.first.now, (c.can_enter-joins.new.held.second.first.now, quantities_of c.can_enter-joins.new.held.second.second))
    ∙ c.in_ok-start.ensures.put)
    (c.can_enter-joins.new.held.first.now, (c.can_enter-joins.new.held.second.first.now, quantities_of c.can_enter-joins.new.held.second.second)) _ c.undo.ensures.saved))

pub returns-clause-room : goal.returns-clause-room
returns-clause-room c =
    rw (← c.self.view_is)
    (room_kept _ _ c.in_ok-start.start.number c.in_ok-start.ensures.mark
    _ (counted_changed _ _ c.in_ok-start.ensures.all (zip c.can_enter-joins.new.held.first.saved (zip c.can_enter-joins.new.held.second.first.saved c.can_enter-joins.new.held.second.second.saved))
    (ap₂ (λ a b. zip a b) c.can_enter-joins.ensures.told_saved (ap₂ (λ a b. zip a b) c.can_enter-joins.ensures.names_saved c.can_enter-joins.ensures.dict_saved)) (c.can_enter-joins.new.held.first.now, (c.can_enter-joins.new.held.second.first.now, quantities_of c.can_enter-joins.new.held.second.second))
    ∙ c.in_ok-start.ensures.put)
    _ _ _ c.begin.ensures.room c.undo.ensures.room)
