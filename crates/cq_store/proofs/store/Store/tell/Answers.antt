-- What is entered between a mark and its end; one that is refused leaves what is held at the mark.
use Rattle.std.proofs.Common.{◌≡◌, List, map, ◌++◌, [], ◌∷◌, ap, ap₂, sym, subst, ◌∙◌}
use Rattle.std.specs.List.{zip}
use Rattle.spec_linear.specs.Solution.{Constraint, Solvable}
use Rattle.spec_linear.specs.Certificate.{Refutes}
use Rattle.cq_trail.proofs.Counting.{counted_changed}
use Rattle.cq_dict.specs.DictValue.{quantities_of}
use Rattle.cq_dict.specs.Roles.{Quantities}
use Rattle.cq_tableau.specs.declared.names.Name.{Name}
use Rattle.cq_store.specs.StoreValue.{StoreValue}
use Rattle.cq_tableau.specs.Stored.{IsStored, JoinsStored}
use Rattle.cq_store.proofs.Holding.{held_joined, held_undone, last_undone, left_same, room_kept}
use Rattle.cq_tableau.proofs.Storing.{stored_solvable}
use Rattle.spec_simplex.specs.Asked.{NoQuestion}
use Rattle.cq_equations.proofs.Gained.{moved_err}
use Rattle.cq_store.specs.declared.store.StoreFault.TheVariants.{Pivots}
use Rattle.cq_store.specs.StoreValue.{MayTake, Only}
use Rattle.cq_store.proofs.Spent.{not_spent}
use Rattle.cq_store.proofs.store.Store.tell.Goals as goal
use Rattle.cq_store.proofs.store.Store.tell.Goals.{After-undo}

pub invariant_of-self-in-Ok-Joined : goal.invariant_of-self-in-Ok-Joined
invariant_of-self-in-Ok-Joined c =
    let told = ap (λ (z : List Constraint × (List Name × Quantities)). z.0) c.begin.ensures.now in
    let j : JoinsStored c.begin.new.self.inner.first.now c.args.c c.in-Ok-Joined.fixed.items c.enter.new.held.second.first.now (quantities_of c.enter.new.held.second.second) =
    rw c.in-Ok-Joined.field-0-is at c.in-Ok-Joined.ensures.joined in
    let t : c.enter.new.held.first.now ≡ c.begin.new.self.inner.first.now ++ c.args.c ∷ [] = rw c.in-Ok-Joined.field-0-is at c.in-Ok-Joined.ensures.told in
    held_joined _ _ _ c.self.invariant c.in_ok-start.start.number c.in_ok-start.ensures.mark _ c.begin.ensures.now
    (c.enter.new.held.first.now, (c.enter.new.held.second.first.now, quantities_of c.enter.new.held.second.second)) c.enter.ensures.grows c.enter.new.numbers.entries
    c.enter.ensures.numbered
    _ (counted_changed _ _ c.in_ok-start.ensures.all (zip c.enter.new.held.first.saved (zip c.enter.new.held.second.first.saved c.enter.new.held.second.second.saved))
    (ap₂ (λ a b. zip a b) c.enter.ensures.told_saved (ap₂ (λ a b. zip a b) c.enter.ensures.names_saved c.enter.ensures.dict_saved)) (c.enter.new.held.first.now, (c.enter.new.held.second.first.now, quantities_of c.enter.new.held.second.second))
    ∙ c.in_ok-start.ensures.put)
    _ _ c.forget.ensures.saved c.forget.ensures.now
    (subst (λ l. IsStored l c.enter.new.held.second.first.now (quantities_of c.enter.new.held.second.second)) (sym t) j.stored)

pub invariant_of-self-in-Ok-Contradiction : goal.invariant_of-self-in-Ok-Contradiction
invariant_of-self-in-Ok-Contradiction c =
    held_undone _ _ _ c.self.invariant c.in_ok-start.start.number c.in_ok-start.ensures.mark _ c.begin.ensures.now
    (c.enter.new.held.first.now, (c.enter.new.held.second.first.now, quantities_of c.enter.new.held.second.second)) c.enter.ensures.grows c.enter.new.numbers.entries
    c.enter.ensures.numbered
    _ (counted_changed _ _ c.in_ok-start.ensures.all (zip c.enter.new.held.first.saved (zip c.enter.new.held.second.first.saved c.enter.new.held.second.second.saved))
    (ap₂ (λ a b. zip a b) c.enter.ensures.told_saved (ap₂ (λ a b. zip a b) c.enter.ensures.names_saved c.enter.ensures.dict_saved)) (c.enter.new.held.first.now, (c.enter.new.held.second.first.now, quantities_of c.enter.new.held.second.second))
    ∙ c.in_ok-start.ensures.put)
    _ _ c.undo.ensures.saved c.undo.ensures.now

pub invariant_of-self-in-Err : goal.invariant_of-self-in-Err
invariant_of-self-in-Err c =
    held_undone _ _ _ c.self.invariant c.in_ok-start.start.number c.in_ok-start.ensures.mark _ c.begin.ensures.now
    (c.enter.new.held.first.now, (c.enter.new.held.second.first.now, quantities_of c.enter.new.held.second.second)) c.enter.ensures.grows c.enter.new.numbers.entries
    c.enter.ensures.numbered
    _ (counted_changed _ _ c.in_ok-start.ensures.all (zip c.enter.new.held.first.saved (zip c.enter.new.held.second.first.saved c.enter.new.held.second.second.saved))
    (ap₂ (λ a b. zip a b) c.enter.ensures.told_saved (ap₂ (λ a b. zip a b) c.enter.ensures.names_saved c.enter.ensures.dict_saved)) (c.enter.new.held.first.now, (c.enter.new.held.second.first.now, quantities_of c.enter.new.held.second.second))
    ∙ c.in_ok-start.ensures.put)
    _ _ c.undo-in-Err.ensures.saved c.undo-in-Err.ensures.now

undone_told : (c : After-undo) → c.undo.new.self.inner.first.now ≡ c.args.self.now.told
undone_told c =
    ap (λ (z : List Constraint × (List Name × Quantities)). z.0)
    (last_undone _ _ _ c.self.invariant c.in_ok-start.start.number c.in_ok-start.ensures.mark _ c.begin.ensures.now
    (c.enter.new.held.first.now, (c.enter.new.held.second.first.now, quantities_of c.enter.new.held.second.second)) c.enter.ensures.grows c.enter.new.numbers.entries
    c.enter.ensures.numbered
    _ (counted_changed _ _ c.in_ok-start.ensures.all (zip c.enter.new.held.first.saved (zip c.enter.new.held.second.first.saved c.enter.new.held.second.second.saved))
    (ap₂ (λ a b. zip a b) c.enter.ensures.told_saved (ap₂ (λ a b. zip a b) c.enter.ensures.names_saved c.enter.ensures.dict_saved)) (c.enter.new.held.first.now, (c.enter.new.held.second.first.now, quantities_of c.enter.new.held.second.second))
    ∙ c.in_ok-start.ensures.put)
    _ _ c.undo.ensures.saved c.undo.ensures.now)
    ∙ ap (λ (z : StoreValue). z.told) c.self.view_is

pub returns-in-Ok-Joined-clause-kept : goal.returns-in-Ok-Joined-clause-kept
returns-in-Ok-Joined-clause-kept c =
    let was : c.begin.new.self.inner.first.now ≡ c.args.self.now.told = ap (λ (z : List Constraint × (List Name × Quantities)). z.0) c.begin.ensures.now ∙ ap (λ (z : StoreValue). z.told) c.self.view_is in
    let j : JoinsStored c.begin.new.self.inner.first.now c.args.c c.in-Ok-Joined.fixed.items c.enter.new.held.second.first.now (quantities_of c.enter.new.held.second.second) =
    rw c.in-Ok-Joined.field-0-is at c.in-Ok-Joined.ensures.joined in
    let t : c.enter.new.held.first.now ≡ c.begin.new.self.inner.first.now ++ c.args.c ∷ [] = rw c.in-Ok-Joined.field-0-is at c.in-Ok-Joined.ensures.told in
    let e : c.forget.new.self.inner.first.now ≡ c.begin.new.self.inner.first.now ++ c.args.c ∷ [] =
    ap (λ (z : List Constraint × (List Name × Quantities)). z.0) c.forget.ensures.now ∙ t in (
      subst Solvable (sym e) (stored_solvable (c.begin.new.self.inner.first.now ++ c.args.c ∷ []) c.enter.new.held.second.first.now (quantities_of c.enter.new.held.second.second) j.stored),
      e ∙ ap (λ l. l ++ c.args.c ∷ []) was,
    )

pub returns-in-Ok-Contradiction-clause-unsolvable : goal.returns-in-Ok-Contradiction-clause-unsolvable
returns-in-Ok-Contradiction-clause-unsolvable c =
    let k = (goal.at.returns-in-Ok-Contradiction-clause-unsolvable c).After-undo in
    let was : c.begin.new.self.inner.first.now ≡ c.args.self.now.told = ap (λ (z : List Constraint × (List Name × Quantities)). z.0) c.begin.ensures.now ∙ ap (λ (z : StoreValue). z.told) c.self.view_is in
    let r : Refutes c.in-Ok-Contradiction.cert (c.begin.new.self.inner.first.now ++ c.args.c ∷ []) = rw c.in-Ok-Contradiction.field-0-is at c.in-Ok-Contradiction.ensures.refuted in (
      subst (λ l. Refutes c.in-Ok-Contradiction.cert (l ++ c.args.c ∷ [])) was r,
      undone_told k,
    )

pub returns-in-Err-clause-err : goal.returns-in-Err-clause-err
returns-in-Err-clause-err c =
    ap (λ (z : List Constraint × (List Name × Quantities)). z.0)
    (last_undone _ _ _ c.self.invariant c.in_ok-start.start.number c.in_ok-start.ensures.mark _ c.begin.ensures.now
    (c.enter.new.held.first.now, (c.enter.new.held.second.first.now, quantities_of c.enter.new.held.second.second)) c.enter.ensures.grows c.enter.new.numbers.entries
    c.enter.ensures.numbered
    _ (counted_changed _ _ c.in_ok-start.ensures.all (zip c.enter.new.held.first.saved (zip c.enter.new.held.second.first.saved c.enter.new.held.second.second.saved))
    (ap₂ (λ a b. zip a b) c.enter.ensures.told_saved (ap₂ (λ a b. zip a b) c.enter.ensures.names_saved c.enter.ensures.dict_saved)) (c.enter.new.held.first.now, (c.enter.new.held.second.first.now, quantities_of c.enter.new.held.second.second))
    ∙ c.in_ok-start.ensures.put)
    _ _ c.undo-in-Err.ensures.saved c.undo-in-Err.ensures.now)
    ∙ ap (λ (z : StoreValue). z.told) c.self.view_is

pub returns-in-Err-clause-pivots : goal.returns-in-Err-clause-pivots
returns-in-Err-clause-pivots c = λ n e.
    let was : c.begin.new.self.inner.first.now ≡ c.args.self.now.told = ap (λ (z : List Constraint × (List Name × Quantities)). z.0) c.begin.ensures.now ∙ ap (λ (z : StoreValue). z.told) c.self.view_is in
    let o = c.in-Err.ensures.pivots n (moved_err c.in-Err.fault (Pivots n) e) in (
      o.0 ∙ ap (λ (z : StoreValue). z.pivots) c.self.view_is,
      subst (λ (l : List Constraint). MayTake l (Only c.args.c) NoQuestion n) was o.1,
    )

pub returns-in-Err-clause-enough : goal.returns-in-Err-clause-enough
returns-in-Err-clause-enough c = λ h n e.
    let o = returns-in-Err-clause-pivots c n e in
    not_spent c.args.self.now.told (Only c.args.c) NoQuestion c.args.self.now.pivots n h o.0 o.1

pub returns-in-Ok-Joined-clause-saved : goal.returns-in-Ok-Joined-clause-saved
returns-in-Ok-Joined-clause-saved c =
    rw (← c.self.view_is)
    (ap (map (λ (h : List Constraint × (List Name × Quantities)). h.0))
    (left_same _ _ _ c.self.invariant c.in_ok-start.start.number c.in_ok-start.ensures.mark _ c.begin.ensures.now
    (c.enter.new.held.first.now, (c.enter.new.held.second.first.now, quantities_of c.enter.new.held.second.second)) c.enter.ensures.grows c.enter.new.numbers.entries
    c.enter.ensures.numbered
    _ (counted_changed _ _ c.in_ok-start.ensures.all (zip c.enter.new.held.first.saved (zip c.enter.new.held.second.first.saved c.enter.new.held.second.second.saved))
    (ap₂ (λ a b. zip a b) c.enter.ensures.told_saved (ap₂ (λ a b. zip a b) c.enter.ensures.names_saved c.enter.ensures.dict_saved)) (c.enter.new.held.first.now, (c.enter.new.held.second.first.now, quantities_of c.enter.new.held.second.second))
    ∙ c.in_ok-start.ensures.put)
    (c.enter.new.held.first.now, (c.enter.new.held.second.first.now, quantities_of c.enter.new.held.second.second)) _ c.forget.ensures.saved))

pub returns-in-Ok-Joined-clause-room : goal.returns-in-Ok-Joined-clause-room
returns-in-Ok-Joined-clause-room c =
    rw (← c.self.view_is)
    (room_kept _ _ c.in_ok-start.start.number c.in_ok-start.ensures.mark
    _ (counted_changed _ _ c.in_ok-start.ensures.all (zip c.enter.new.held.first.saved (zip c.enter.new.held.second.first.saved c.enter.new.held.second.second.saved))
    (ap₂ (λ a b. zip a b) c.enter.ensures.told_saved (ap₂ (λ a b. zip a b) c.enter.ensures.names_saved c.enter.ensures.dict_saved)) (c.enter.new.held.first.now, (c.enter.new.held.second.first.now, quantities_of c.enter.new.held.second.second))
    ∙ c.in_ok-start.ensures.put)
    _ _ _ c.begin.ensures.room c.forget.ensures.room)

pub returns-in-Ok-Contradiction-clause-saved : goal.returns-in-Ok-Contradiction-clause-saved
returns-in-Ok-Contradiction-clause-saved c =
    rw (← c.self.view_is)
    (ap (map (λ (h : List Constraint × (List Name × Quantities)). h.0))
    (left_same _ _ _ c.self.invariant c.in_ok-start.start.number c.in_ok-start.ensures.mark _ c.begin.ensures.now
    (c.enter.new.held.first.now, (c.enter.new.held.second.first.now, quantities_of c.enter.new.held.second.second)) c.enter.ensures.grows c.enter.new.numbers.entries
    c.enter.ensures.numbered
    _ (counted_changed _ _ c.in_ok-start.ensures.all (zip c.enter.new.held.first.saved (zip c.enter.new.held.second.first.saved c.enter.new.held.second.second.saved))
    (ap₂ (λ a b. zip a b) c.enter.ensures.told_saved (ap₂ (λ a b. zip a b) c.enter.ensures.names_saved c.enter.ensures.dict_saved)) (c.enter.new.held.first.now, (c.enter.new.held.second.first.now, quantities_of c.enter.new.held.second.second))
    ∙ c.in_ok-start.ensures.put)
    (c.enter.new.held.first.now, (c.enter.new.held.second.first.now, quantities_of c.enter.new.held.second.second)) _ c.undo.ensures.saved))

pub returns-in-Ok-Contradiction-clause-room : goal.returns-in-Ok-Contradiction-clause-room
returns-in-Ok-Contradiction-clause-room c =
    rw (← c.self.view_is)
    (room_kept _ _ c.in_ok-start.start.number c.in_ok-start.ensures.mark
    _ (counted_changed _ _ c.in_ok-start.ensures.all (zip c.enter.new.held.first.saved (zip c.enter.new.held.second.first.saved c.enter.new.held.second.second.saved))
    (ap₂ (λ a b. zip a b) c.enter.ensures.told_saved (ap₂ (λ a b. zip a b) c.enter.ensures.names_saved c.enter.ensures.dict_saved)) (c.enter.new.held.first.now, (c.enter.new.held.second.first.now, quantities_of c.enter.new.held.second.second))
    ∙ c.in_ok-start.ensures.put)
    _ _ _ c.begin.ensures.room c.undo.ensures.room)

pub returns-in-Err-clause-saved : goal.returns-in-Err-clause-saved
returns-in-Err-clause-saved c =
    rw (← c.self.view_is)
    (ap (map (λ (h : List Constraint × (List Name × Quantities)). h.0))
    (left_same _ _ _ c.self.invariant c.in_ok-start.start.number c.in_ok-start.ensures.mark _ c.begin.ensures.now
    (c.enter.new.held.first.now, (c.enter.new.held.second.first.now, quantities_of c.enter.new.held.second.second)) c.enter.ensures.grows c.enter.new.numbers.entries
    c.enter.ensures.numbered
    _ (counted_changed _ _ c.in_ok-start.ensures.all (zip c.enter.new.held.first.saved (zip c.enter.new.held.second.first.saved c.enter.new.held.second.second.saved))
    (ap₂ (λ a b. zip a b) c.enter.ensures.told_saved (ap₂ (λ a b. zip a b) c.enter.ensures.names_saved c.enter.ensures.dict_saved)) (c.enter.new.held.first.now, (c.enter.new.held.second.first.now, quantities_of c.enter.new.held.second.second))
    ∙ c.in_ok-start.ensures.put)
    (c.enter.new.held.first.now, (c.enter.new.held.second.first.now, quantities_of c.enter.new.held.second.second)) _ c.undo-in-Err.ensures.saved))

pub returns-in-Err-clause-room : goal.returns-in-Err-clause-room
returns-in-Err-clause-room c =
    rw (← c.self.view_is)
    (room_kept _ _ c.in_ok-start.start.number c.in_ok-start.ensures.mark
    _ (counted_changed _ _ c.in_ok-start.ensures.all (zip c.enter.new.held.first.saved (zip c.enter.new.held.second.first.saved c.enter.new.held.second.second.saved))
    (ap₂ (λ a b. zip a b) c.enter.ensures.told_saved (ap₂ (λ a b. zip a b) c.enter.ensures.names_saved c.enter.ensures.dict_saved)) (c.enter.new.held.first.now, (c.enter.new.held.second.first.now, quantities_of c.enter.new.held.second.second))
    ∙ c.in_ok-start.ensures.put)
    _ _ _ c.begin.ensures.room c.undo-in-Err.ensures.room)
