-- Continuations as lists of cells, one more, and the first item of one.
use Rattle.std.proofs.Common.{◌≡◌, ℕ, zero, suc, ◌+◌, ◌-◌, ◌<◌, ◌≤◌, List, [], ◌∷◌, ◌++◌, length, Some, refl, sym, ap, ◌∙◌, subst, inl, inr, arith, length-append}
use Rattle.std.specs.Prelude.{slice_get}
use Rattle.std.proofs.lemmas.List.{get_or_push}
use Rattle.std.proofs.lemmas.Option.{same_Some, none-some}
use Rattle.spec_numbers.proofs.Places.{get_push}
use Rattle.cq_trail.specs.StackValue.{StackValue}
use Rattle.cq_control.specs.Items.{items_at}
use Rattle.cq_control.specs.Cells.{with_cell, lists_from, lists, AreEarlier, AreCells}
use Rattle.cq_control.specs.declared.continuations.Cell.{Cell}

pub items_kept : {T : Type 0} (now more : List (List T)) (k : ℕ) → k < length now → items_at (now ++ more) k ≡ items_at now k
items_kept [] more k l = absurd (omega (arith, l))
items_kept (x ∷ xs) more zero l = refl
items_kept (x ∷ xs) more (suc k) l = items_kept xs more k (omega (arith, l))

module _ {T : Type 0} where
  length-with : (now : List (List T)) (c : Cell T) → length (with_cell now c) ≡ suc (length now)
  length-with now c = length-append now ((c.item ∷ items_at now c.rest) ∷ []) ∙ omega arith

  lists-push_from : (now : List (List T)) (cs : List (Cell T)) (c : Cell T) → lists_from now (cs ++ c ∷ []) ≡ with_cell (lists_from now cs) c
  unfolding lists_from
  lists-push_from now [] c = refl
  lists-push_from now (d ∷ cs) c = lists-push_from (with_cell now d) cs c

  length-lists_from : (now : List (List T)) (cs : List (Cell T)) → length (lists_from now cs) ≡ length now + length cs
  unfolding lists_from
  length-lists_from now [] = omega arith
  length-lists_from now (d ∷ cs) = length-lists_from (with_cell now d) cs ∙ omega (arith, length-with now d)

  pub lists-none : lists (let none : List (Cell T) = [] in none) ≡ [] ∷ []
  unfolding lists_from
  lists-none = refl

  pub lists-push : (cs : List (Cell T)) (c : Cell T) → lists (cs ++ c ∷ []) ≡ with_cell (lists cs) c
  lists-push cs c = lists-push_from ([] ∷ []) cs c

  pub length-lists : (cs : List (Cell T)) → length (lists cs) ≡ length cs + 1
  length-lists cs = length-lists_from ([] ∷ []) cs ∙ omega arith

  kept_from : (now : List (List T)) (cs : List (Cell T)) (k : ℕ) → k < length now → items_at (lists_from now cs) k ≡ items_at now k
  unfolding lists_from
  kept_from now [] k l = refl
  kept_from now (d ∷ cs) k l = kept_from (with_cell now d) cs k (omega (arith, l, length-with now d)) ∙ items_kept now ((d.item ∷ items_at now d.rest) ∷ []) k l

  cell_from : (now : List (List T)) (cs : List (Cell T)) (i : ℕ) (c : Cell T) (k : ℕ) → slice_get cs i ≡ Some c → c.rest < length now + i → k ≡ length now + i
      → items_at (lists_from now cs) k ≡ c.item ∷ items_at (lists_from now cs) c.rest
  unfolding lists_from
  cell_from now [] i c k e l q = absurd (none-some c e)
  cell_from now (d ∷ cs) zero c k e l q =
      let w : d ≡ c = same_Some d c e in
      let here : k < length (with_cell now d) = omega (arith, q, length-with now d) in
      let before : c.rest < length now = omega (arith, l) in
      kept_from (with_cell now d) cs k here ∙ get_or_push now (d.item ∷ items_at now d.rest) [] k (omega (arith, q))
      ∙ ap (λ (x : Cell T). x.item ∷ items_at now x.rest) w
      ∙ ap (λ g. c.item ∷ g) (sym (kept_from (with_cell now d) cs c.rest (omega (arith, l, length-with now d)) ∙ items_kept now ((d.item ∷ items_at now d.rest) ∷ []) c.rest before))
  cell_from now (d ∷ cs) (suc i) c k e l q =
      let n = length-with now d in
      cell_from (with_cell now d) cs i c k e (omega (arith, l, n)) (omega (arith, q, n))

  -- number 0 has nothing to do
  pub nothing_to_do : (cs : List (Cell T)) → items_at (lists cs) 0 ≡ []
  nothing_to_do cs = kept_from ([] ∷ []) cs 0 (omega arith)

  -- a number above it has the cell before it first
  pub first_item : (cs : List (Cell T)) → AreEarlier cs → (k : ℕ) (c : Cell T) → 0 < k → slice_get cs (k - 1) ≡ Some c
      → (items_at (lists cs) k ≡ c.item ∷ items_at (lists cs) c.rest) × (c.rest < k)
  first_item cs early k c l e =
      let below = early (k - 1) c e in
      (cell_from ([] ∷ []) cs (k - 1) c k e (omega (arith, below)) (omega (arith, l)), omega (arith, below, l))

  -- ---- the invariant
  pub earlier-push : (cs : List (Cell T)) (c : Cell T) → AreEarlier cs → c.rest ≤ length cs → AreEarlier (cs ++ c ∷ [])
  earlier-push cs c early h = λ i d q. elim (get_push cs c i d q) [ inl p ↦ early i d p | inr r ↦ subst (λ (x : Cell T). x.rest ≤ i) r.1 (rw r.0 h) ]

  pub cells_pushed : (s t : StackValue (Cell T)) (c : Cell T) → t.now ≡ s.now ++ c ∷ [] → t.saved ≡ s.saved → c.rest ≤ length s.now → AreCells s → AreCells t
  cells_pushed s t c n e le a = record {
    now = subst AreEarlier (sym n) (earlier-push s.now c a.now le);
    saved = λ m cs q. a.saved m cs (rw (← e) q);
  }
