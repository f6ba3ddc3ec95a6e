-- What choices stand for, where their worlds are read in another way in which what was a state or a term stays one.
use Rattle.std.proofs.Common.{◌≡◌, ℕ, zero, suc, ◌-◌, List, [], ◌∷◌, length, drop, Option, None, Some, subst}
use Rattle.std.specs.List.{AllByRecursion}
use Rattle.std.proofs.lemmas.Option.{same_Some, none-some}
use Rattle.spec_syntax.specs.Trees.{Tree}
use Rattle.spec_branch.specs.Branch.{State, Item, Branch}
use Rattle.spec_search.specs.Replies.{Place}
use Rattle.cq_control.specs.Items.{items_at}
use Rattle.cq_control.specs.Open.{last}
use Rattle.spec_engine.specs.declared.machine.cell.Cell.{Cell}
use Rattle.spec_engine.specs.declared.machine.cell.Cell.TheVariants.{Goal, Call, CutTo, CutFail, CatchEnd, Collect}
use Rattle.spec_engine.specs.Cells.{Left, One, Clauses, Ways, Barrier, Catches, Caught, Gathers, Matches, Value, Stack, as_catch, top_catch, catch_at}
use Rattle.spec_engine.specs.Standing.{AreItems, IsContinuation, IsPlace, AreBranches, AreWaiting, IsCurrent}

module _ {W : Type 0} (IsState IsOther : W → State → Type 0) (term other : W → ℕ → Option Tree) (Known : W → Type 0)
    (states : (w : W) (st : State) → Known w → IsState w st → IsOther w st)
    (terms : (w : W) (st : State) → IsState w st → (id : ℕ) (t : Tree) → term w id ≡ Some t → other w id ≡ Some t) where
  abbrev AllKnown : Stack W → Type 0
  AllKnown rs = AllByRecursion (λ (c : Value W × Left). Known c.0.0) rs

  known_older : (n : ℕ) (rs : Stack W) → AllKnown rs → AllKnown (drop n rs)
  known_older zero rs k = k
  known_older (suc n) [] k = k
  known_older (suc n) (c ∷ rs) k = known_older n rs k.1

  known_catch : (v : Value W) (left : Left) (call : Value W × ℕ) → Known v.0 → as_catch v left ≡ Some call → Known call.0.0
  known_catch v (One j) call k e = absurd (none-some call e)
  known_catch v (Clauses t cs j) call k e = absurd (none-some call e)
  known_catch v (Ways ways j) call k e = absurd (none-some call e)
  known_catch v Barrier call k e = absurd (none-some call e)
  known_catch v (Catches j) call k e = subst (λ (c : Value W × ℕ). Known c.0.0) (same_Some (v, j) call e) k
  known_catch v (Caught ball c r j) call k e = absurd (none-some call e)
  known_catch v (Gathers t copies j) call k e = absurd (none-some call e)
  known_catch v (Matches t removes cs j) call k e = absurd (none-some call e)

  known_top : (rs : Stack W) (call : Value W × ℕ) → AllKnown rs → top_catch rs ≡ Some call → Known call.0.0
  known_top [] call k e = absurd (none-some call e)
  known_top (c ∷ rs) call k e = known_catch c.0 c.1 call k.0 e

  known_at : (rs : Stack W) (h : ℕ) (call : Value W × ℕ) → AllKnown rs → catch_at rs h ≡ Some call → Known call.0.0
  known_at rs h call k e = known_top (last (suc h) rs) call (known_older (length rs - suc h) rs k) e

  items_known : (rs : Stack W) → AllKnown rs → (w : W) (st : State) → IsState w st → (cs : List Cell) (items : List Item)
      → AreItems IsState term rs w st cs items → AreItems IsOther other rs w st cs items
  items_known rs k w st i [] items a = a
  items_known rs k w st i (Goal t cut ∷ cs) items a = (a.0, a.1, a.2, terms w st i t _ a.3, items_known rs k w st i cs a.1 a.4)
  items_known rs k w st i (Call t ∷ cs) items a = (a.0, a.1, a.2, a.3, terms w st i t _ a.4, items_known rs k w st i cs a.2 a.5)
  items_known rs k w st i (CutTo h ∷ cs) items a = (a.0, a.1, items_known rs k w st i cs a.0 a.2)
  items_known rs k w st i (CutFail h ∷ cs) items a = (a.0, a.1, items_known rs k w st i cs a.0 a.2)
  items_known rs k w st i (CatchEnd h c r ∷ cs) items a = (
    a.0,
    a.1,
    a.2,
    a.3,
    a.4,
    a.5,
    a.6,
    a.7,
    a.8,
    states a.0.0.0 a.1 (known_at rs h a.0 k a.6) a.9,
    terms a.0.0.0 a.1 a.9 c _ a.10,
    terms a.0.0.0 a.1 a.9 r _ a.11,
    items_known rs k a.0.0.0 a.1 a.9 cs a.4 a.12,
    items_known rs k w st i cs a.4 a.13,
  )
  items_known rs k w st i (Collect h t ∷ cs) items a = (a.0, a.1, a.2, a.3, terms w st i t _ a.4, items_known rs k w st i cs a.1 a.5)

  pub continuation_known : (rs : Stack W) → AllKnown rs → (v : Value W) → Known v.0 → (k : ℕ) (items : List Item) (st : State)
      → IsContinuation IsState term rs v k items st → IsContinuation IsOther other rs v k items st
  continuation_known rs all v known k items st c = record {
    there = c.there;
    fits = c.fits;
    state = states v.0 st known c.state;
    cells = items_known rs all v.0 st c.state (items_at v.1 k) items c.cells;
  }

  pub place_known : (rs : Stack W) → AllKnown rs → (v : Value W) → Known v.0 → (k : ℕ) (p : Place) → IsPlace IsState term rs v k p → IsPlace IsOther other rs v k p
  place_known rs all v known k p i = record { continuation = continuation_known rs all v known k p.rest p.state i.continuation; height = i.height }

  branches_known : (older : Stack W) → AllKnown older → (v : Value W) → Known v.0 → (left : Left) (bs : List Branch)
      → AreBranches IsState term older v left bs → AreBranches IsOther other older v left bs
  branches_known older all v known (One k) bs a = (a.0, a.1, a.2, continuation_known older all v known k a.0 a.1 a.3)
  branches_known older all v known (Clauses t cs k) bs a =
      (a.0, a.1, a.2, terms v.0 a.0.state a.4.continuation.state t a.1 a.3, place_known older all v known k a.0 a.4)
  branches_known older all v known (Ways ways k) bs a = (a.0, a.1, place_known older all v known k a.0 a.2)
  branches_known older all v known Barrier bs a = a
  branches_known older all v known (Catches k) bs a = a
  branches_known older all v known (Caught ball c r k) bs a = (
    a.0,
    a.1,
    a.2,
    a.3,
    a.4,
    a.5,
    a.6,
    terms v.0 a.1 a.9.state c _ a.7,
    terms v.0 a.1 a.9.state r _ a.8,
    continuation_known older all v known k a.0 a.1 a.9,
  )
  branches_known older all v known (Gathers t copies k) bs a =
      (a.0, a.1, a.2, a.3, a.4, a.5, terms v.0 a.1 a.7.state t _ a.6, continuation_known older all v known k a.0 a.1 a.7)
  branches_known older all v known (Matches t removes cs k) bs a =
      (a.0, a.1, a.2, terms v.0 a.0.state a.4.continuation.state t _ a.3, place_known older all v known k a.0 a.4)

  pub waiting_known : (rs : Stack W) → AllKnown rs → (bs : List Branch) → AreWaiting IsState term rs bs → AreWaiting IsOther other rs bs
  waiting_known [] all bs a = a
  waiting_known (c ∷ older) all bs a = (a.0, a.1, a.2, branches_known older all.1 c.0 all.0 c.1 a.0 a.3, waiting_known older all.1 a.1 a.4)

  pub current_known : (rs : Stack W) → AllKnown rs → (now : Value W) → Known now.0 → (current : Option ℕ) (bs : List Branch)
      → IsCurrent IsState term rs now current bs → IsCurrent IsOther other rs now current bs
  current_known rs all now known None bs c = c
  current_known rs all now known (Some k) bs c = (c.0, c.1, c.2, continuation_known rs all now known k c.0 c.1 c.3)
