-- Cells stand for the same items while choices are pushed and cut, and while terms are read under more bindings.
use Rattle.std.proofs.Common.{◌≡◌, ℕ, zero, suc, ◌+◌, ◌-◌, ◌≤◌, List, [], ◌∷◌, ◌++◌, length, Option, refl, sym, ap, ap₂, ◌∙◌, subst, drop, arith, length-append, append_assoc}
use Rattle.std.proofs.lemmas.List.{drop_at, length-map}
use Rattle.spec_syntax.specs.Trees.{Tree}
use Rattle.spec_branch.specs.Branch as branch
use Rattle.spec_branch.specs.Branch.{State, Item, Branch}
use Rattle.spec_search.specs.Changes.{clause_match}
use Rattle.spec_search.specs.Replies.{Place, alternative_child}
use Rattle.spec_search.specs.Control.{clause_child}
use Rattle.spec_search.specs.Balls as balls
use Rattle.cq_control.specs.Heights.{total}
use Rattle.cq_control.specs.Items.{items_at}
use Rattle.cq_control.specs.Open.{last}
use Rattle.spec_engine.specs.declared.machine.cell.Cell.{Cell}
use Rattle.spec_engine.specs.declared.machine.cell.Cell.TheVariants.{Goal, Call, CutTo, CutFail, CatchEnd, Collect}
use Rattle.spec_engine.specs.Cells.{Fits, Left, One, Clauses, Ways, Barrier, Catches, Caught, Gathers, Matches, size, Value, Stack, below, top_catch, TopGathers}
use Rattle.spec_engine.specs.Standing.{removed_by, AreItems, IsContinuation, IsPlace, AreBranches, AreWaiting, KeepsReading, ReadsOn}

-- ---- the oldest ones

drop-none : {A : Type 0} (n : ℕ) → drop n (let none : List A = [] in none) ≡ []
drop-none zero = refl
drop-none (suc n) = refl

drop-drop : {A : Type 0} (m n : ℕ) (xs : List A) → drop m (drop n xs) ≡ drop (n + m) xs
drop-drop m zero xs = ap (λ k. drop k xs) (omega arith)
drop-drop {A} m (suc n) [] = drop-none {A = A} m ∙ sym (drop-none {A = A} (suc n + m))
drop-drop m (suc n) (x ∷ xs) = let e : suc n + m ≡ suc (n + m) = omega arith in drop-drop m n xs ∙ ap (λ k. drop k (x ∷ xs)) (sym e)

length-drop' : {A : Type 0} (n : ℕ) (xs : List A) → length (drop n xs) ≡ length xs - n
length-drop' zero xs = omega arith
length-drop' (suc n) [] = omega arith
length-drop' (suc n) (x ∷ xs) = length-drop' n xs ∙ omega arith

pub last-older : {A : Type 0} (x : A) (xs : List A) (h : ℕ) → h ≤ length xs → last h (x ∷ xs) ≡ last h xs
last-older x xs h le = let e : suc (length xs) - h ≡ suc (length xs - h) = omega arith in ap (λ n. drop n (x ∷ xs)) e

pub last-all : {A : Type 0} (xs : List A) (h : ℕ) → length xs ≤ h → last h xs ≡ xs
last-all xs h le = let e : length xs - h ≡ 0 = omega arith in ap (λ n. drop n xs) e

pub length-last : {A : Type 0} (xs : List A) (h : ℕ) → h ≤ length xs → length (last h xs) ≡ h
length-last xs h le = length-drop' (length xs - h) xs ∙ omega arith

pub last-last : {A : Type 0} (xs : List A) (h k : ℕ) → h ≤ k → last h (last k xs) ≡ last h xs
last-last xs h k le =
    drop-drop (length (last k xs) - h) (length xs - k) xs
    ∙ ap (λ n. drop n xs) (omega (arith, length-drop' (length xs - k) xs))

-- ---- heights

pub fits_more : (n m : ℕ) (cs : List Cell) → n ≤ m → Fits n cs → Fits m cs
fits_more n m [] le f = f
fits_more n m (Goal t cut ∷ cs) le f = (omega (arith, f.0), f.1)
fits_more n m (Call t ∷ cs) le f = fits_more n m cs le f
fits_more n m (CutTo h ∷ cs) le f = (omega (arith, f.0), f.1)
fits_more n m (CutFail h ∷ cs) le f = (omega (arith, f.0), f.1)
fits_more n m (CatchEnd h c r ∷ cs) le f = (omega (arith, f.0), f.1)
fits_more n m (Collect h t ∷ cs) le f = (omega (arith, f.0), f.1)

-- choices that tell cells the same: they stand for as many branches, the newest one is the same catch, and gathers if the other does
pub record Alike {W : Type 0} (rs ss : Stack W) : Type 0 where
  pub branches : total size rs ≡ total size ss
  pub catches : top_catch rs ≡ top_catch ss
  pub gathers : TopGathers rs → TopGathers ss

pub alike_same : {W : Type 0} (rs ss : Stack W) → rs ≡ ss → Alike rs ss
alike_same rs ss e = record { branches = ap (total size) e; catches = ap top_catch e; gathers = subst TopGathers e }

module _ {W : Type 0} (IsState : W → State → Type 0) (term : W → ℕ → Option Tree) where
  -- over choices that are alike as far as the cells speak of them
  pub items_same : (rs ss : Stack W) (n : ℕ) → ((h : ℕ) → h ≤ n → Alike (last h rs) (last h ss)) → (w : W) (st : State) (cs : List Cell) (items : List Item)
      → Fits n cs → AreItems IsState term rs w st cs items → AreItems IsState term ss w st cs items
  items_same rs ss n same w st [] items f a = a
  items_same rs ss n same w st (Goal t cut ∷ cs) items f a = (
    a.0,
    a.1,
    a.2 ∙ ap (λ (k : ℕ). branch.Goal a.0 k ∷ a.1) (same cut f.0).branches,
    a.3,
    items_same rs ss cut (λ h le. same h (omega (arith, le, f.0))) w st cs a.1 f.1 a.4,
  )
  items_same rs ss n same w st (Call t ∷ cs) items f a = (a.0, a.1, a.2, a.3, a.4, items_same rs ss n same w st cs a.2 f a.5)
  items_same rs ss n same w st (CutTo k ∷ cs) items f a = (
    a.0,
    a.1 ∙ ap (λ (m : ℕ). branch.CutTo m ∷ a.0) (same k f.0).branches,
    items_same rs ss k (λ h le. same h (omega (arith, le, f.0))) w st cs a.0 f.1 a.2,
  )
  items_same rs ss n same w st (CutFail k ∷ cs) items f a = (
    a.0,
    a.1 ∙ ap (λ (m : ℕ). branch.CutFail m ∷ a.0) (same k f.0).branches,
    items_same rs ss k (λ h le. same h (omega (arith, le, f.0))) w st cs a.0 f.1 a.2,
  )
  items_same rs ss n same w st (CatchEnd k c r ∷ cs) items f a =
      let below_k : (h : ℕ) → h ≤ k → Alike (last h rs) (last h ss) = λ h le. same h (omega (arith, le, f.0)) in (
        a.0,
        a.1,
        a.2,
        a.3,
        a.4,
        a.5 ∙ ap (λ (m : ℕ). branch.CatchEnd m a.1 a.2 a.3 ∷ a.4) (same k (omega (arith, f.0))).branches,
        sym (same (suc k) (omega (arith, f.0))).catches ∙ a.6,
        a.7,
        a.8,
        a.9,
        a.10,
        a.11,
        items_same rs ss k below_k a.0.0.0 a.1 cs a.4 f.1 a.12,
        items_same rs ss k below_k w st cs a.4 f.1 a.13,
      )
  items_same rs ss n same w st (Collect k t ∷ cs) items f a = (
    a.0,
    a.1,
    a.2 ∙ ap (λ (m : ℕ). branch.Collect m a.0 ∷ a.1) (same k (omega (arith, f.0))).branches,
    (same (suc k) (omega (arith, f.0))).gathers a.3,
    a.4,
    items_same rs ss k (λ h le. same h (omega (arith, le, f.0))) w st cs a.1 f.1 a.5,
  )

  -- under a choice more
  pub items_older : (c : Value W × Left) (rs : Stack W) (w : W) (st : State) (cs : List Cell) (items : List Item)
      → Fits (length rs) cs → AreItems IsState term rs w st cs items → AreItems IsState term (c ∷ rs) w st cs items
  items_older c rs w st cs items f a = items_same rs (c ∷ rs) (length rs) (λ h le. alike_same _ _ (sym (last-older c rs h le))) w st cs items f a

  -- under the choices below a height
  pub items_last : (rs : Stack W) (k : ℕ) (w : W) (st : State) (cs : List Cell) (items : List Item)
      → Fits k cs → AreItems IsState term rs w st cs items → AreItems IsState term (last k rs) w st cs items
  items_last rs k w st cs items f a = items_same rs (last k rs) k (λ h le. alike_same _ _ (sym (last-last rs h k le))) w st cs items f a

  -- in a world and a state in which all terms are read on
  pub items_read_on : (rs : Stack W) (w : W) (st : State) (v : W) (su : State) → KeepsReading term w st v su → (cs : List Cell) (items : List Item)
      → AreItems IsState term rs w st cs items → AreItems IsState term rs v su cs items
  items_read_on rs w st v su f [] items a = a
  items_read_on rs w st v su f (Goal t cut ∷ cs) items a = (a.0, a.1, a.2, f t a.0 a.3, items_read_on rs w st v su f cs a.1 a.4)
  items_read_on rs w st v su f (Call t ∷ cs) items a = (a.0, a.1, a.2, a.3, f t a.0 a.4, items_read_on rs w st v su f cs a.2 a.5)
  items_read_on rs w st v su f (CutTo k ∷ cs) items a = (a.0, a.1, items_read_on rs w st v su f cs a.0 a.2)
  items_read_on rs w st v su f (CutFail k ∷ cs) items a = (a.0, a.1, items_read_on rs w st v su f cs a.0 a.2)
  items_read_on rs w st v su f (CatchEnd k c r ∷ cs) items a =
      (a.0, a.1, a.2, a.3, a.4, a.5, a.6, a.7, a.8, a.9, a.10, a.11, a.12, items_read_on rs w st v su f cs a.4 a.13)
  items_read_on rs w st v su f (Collect k t ∷ cs) items a = (a.0, a.1, a.2, a.3, f t a.0 a.4, items_read_on rs w st v su f cs a.1 a.5)

  -- ---- how many branches there are

  pub length-branches : (older : Stack W) (v : Value W) (left : Left) (bs : List Branch) → AreBranches IsState term older v left bs → length bs ≡ size left
  length-branches older v (One k) bs a = ap length a.2
  length-branches older v (Clauses t cs k) bs a = ap length a.2 ∙ length-map cs (clause_child a.0 a.1)
  length-branches older v (Ways ways k) bs a = ap length a.1 ∙ length-map ways (alternative_child a.0)
  length-branches older v Barrier bs a = ap length a
  length-branches older v (Catches k) bs a = ap length a
  length-branches older v (Caught ball c r k) bs a = ap length a.5
  length-branches older v (Gathers t copies k) bs a = ap length a.4
  length-branches older v (Matches t removes cs k) bs a = ap length a.2 ∙ length-map cs (clause_match a.0 (removed_by removes) a.1)

  pub length-waiting : (rs : Stack W) (bs : List Branch) → AreWaiting IsState term rs bs → length bs ≡ total size rs
  length-waiting [] bs a = ap length a
  length-waiting (c ∷ older) bs a =
      ap length a.2 ∙ length-append a.0 a.1 ∙ ap₂ (λ m n. m + n) (length-branches older c.0 c.1 a.0 a.3) (length-waiting older a.1 a.4)

  split : (n : ℕ) (rs : Stack W) (bs : List Branch) → AreWaiting IsState term rs bs
      → (front : List Branch) × (behind : List Branch) × (bs ≡ front ++ behind) × AreWaiting IsState term (drop n rs) behind
  split zero rs bs a = ([], bs, refl, a)
  split (suc n) [] bs a = ([], bs, refl, a)
  split (suc n) (c ∷ older) bs a =
      let s = split n older a.1 a.4 in
      (a.0 ++ s.0, s.1, a.2 ∙ ap (λ l. a.0 ++ l) s.2 ∙ sym (append_assoc a.0 s.0 s.1), s.3)

  -- a cut of the choices is a cut of the branches
  pub waiting-last : (rs : Stack W) (h : ℕ) (bs : List Branch) → AreWaiting IsState term rs bs → AreWaiting IsState term (last h rs) (balls.last (below rs h) bs)
  waiting-last rs h bs a =
      let s = split (length rs - h) rs bs a in
      let n = length-waiting (last h rs) s.1 s.3 in
      let l : length bs - below rs h ≡ length s.0 = omega (arith, ap length s.2, length-append s.0 s.1, n) in
      let e : balls.last (below rs h) bs ≡ s.1 = ap (λ m. drop m bs) l ∙ ap (drop (length s.0)) s.2 ∙ drop_at s.0 s.1 (length s.0) refl in
      subst (AreWaiting IsState term (last h rs)) (sym e) s.3

-- ---- worlds that are read in another way, in which what was a state or a term stays one
module _ {W : Type 0} (IsState IsOther : W → State → Type 0) (term other : W → ℕ → Option Tree) (on : ReadsOn IsState term IsOther other) where
  items_reread : (rs : Stack W) (w : W) (st : State) → IsState w st → (cs : List Cell) (items : List Item)
      → AreItems IsState term rs w st cs items → AreItems IsOther other rs w st cs items
  items_reread rs w st i [] items a = a
  items_reread rs w st i (Goal t cut ∷ cs) items a = (a.0, a.1, a.2, (on w st i).1 t _ a.3, items_reread rs w st i cs a.1 a.4)
  items_reread rs w st i (Call t ∷ cs) items a = (a.0, a.1, a.2, a.3, (on w st i).1 t _ a.4, items_reread rs w st i cs a.2 a.5)
  items_reread rs w st i (CutTo k ∷ cs) items a = (a.0, a.1, items_reread rs w st i cs a.0 a.2)
  items_reread rs w st i (CutFail k ∷ cs) items a = (a.0, a.1, items_reread rs w st i cs a.0 a.2)
  items_reread rs w st i (CatchEnd k c r ∷ cs) items a =
      let o = on a.0.0.0 a.1 a.9 in (
        a.0,
        a.1,
        a.2,
        a.3,
        a.4,
        a.5,
        a.6,
        a.7,
        a.8,
        o.0,
        o.1 c _ a.10,
        o.1 r _ a.11,
        items_reread rs a.0.0.0 a.1 a.9 cs a.4 a.12,
        items_reread rs w st i cs a.4 a.13,
      )
  items_reread rs w st i (Collect k t ∷ cs) items a = (a.0, a.1, a.2, a.3, (on w st i).1 t _ a.4, items_reread rs w st i cs a.1 a.5)

  pub continuation_reread : (rs : Stack W) (v : Value W) (k : ℕ) (items : List Item) (st : State)
      → IsContinuation IsState term rs v k items st → IsContinuation IsOther other rs v k items st
  continuation_reread rs v k items st c = record {
    there = c.there;
    fits = c.fits;
    state = (on v.0 st c.state).0;
    cells = items_reread rs v.0 st c.state (items_at v.1 k) items c.cells;
  }

  place_reread : (rs : Stack W) (v : Value W) (k : ℕ) (p : Place) → IsPlace IsState term rs v k p → IsPlace IsOther other rs v k p
  place_reread rs v k p i = record { continuation = continuation_reread rs v k p.rest p.state i.continuation; height = i.height }

  branches_reread : (older : Stack W) (v : Value W) (left : Left) (bs : List Branch)
      → AreBranches IsState term older v left bs → AreBranches IsOther other older v left bs
  branches_reread older v (One k) bs a = (a.0, a.1, a.2, continuation_reread older v k a.0 a.1 a.3)
  branches_reread older v (Clauses t cs k) bs a =
      (a.0, a.1, a.2, (on v.0 a.0.state a.4.continuation.state).1 t a.1 a.3, place_reread older v k a.0 a.4)
  branches_reread older v (Ways ways k) bs a = (a.0, a.1, place_reread older v k a.0 a.2)
  branches_reread older v Barrier bs a = a
  branches_reread older v (Catches k) bs a = a
  branches_reread older v (Caught ball c r k) bs a =
      let o = on v.0 a.1 a.9.state in
      (a.0, a.1, a.2, a.3, a.4, a.5, a.6, o.1 c _ a.7, o.1 r _ a.8, continuation_reread older v k a.0 a.1 a.9)
  branches_reread older v (Gathers t copies k) bs a =
      (a.0, a.1, a.2, a.3, a.4, a.5, (on v.0 a.1 a.7.state).1 t _ a.6, continuation_reread older v k a.0 a.1 a.7)
  branches_reread older v (Matches t removes cs k) bs a =
      (a.0, a.1, a.2, (on v.0 a.0.state a.4.continuation.state).1 t _ a.3, place_reread older v k a.0 a.4)

  pub waiting_reread : (rs : Stack W) (bs : List Branch) → AreWaiting IsState term rs bs → AreWaiting IsOther other rs bs
  waiting_reread [] bs a = a
  waiting_reread (c ∷ older) bs a = (a.0, a.1, a.2, branches_reread older c.0 c.1 a.0 a.3, waiting_reread older a.1 a.4)
