-- Cuts to an end of the common shape, and copies added in a findall's own saved branch, keep both searches the same.
use Rattle.std.proofs.Common.{◌≡◌, ℕ, suc, ◌-◌, ◌≤◌, List, [], ◌∷◌, ◌++◌, length, drop, false, eqb, refl, sym, ap, subst, arith}
use Rattle.std.proofs.lemmas.Bool.{eq-eqb}
use Rattle.std.proofs.lemmas.Bool.Decides.{eqb_tells}
use Rattle.spec_branch.specs.Branch.{Copied, Item, Branch}
use Rattle.spec_search.specs.Balls.{last}
use Rattle.spec_search.specs.Search.{gather, gathered_items}
use Rattle.spec_search.proofs.Shapes.{Rung, OnFirst, OnSecond, OnBoth, first, second, IsEnd, whole, behind, SameItems, no_item, goal, call, cut, cut_fails, caught, collects, gathered, SameBranch, SameOver, SameBranches}

-- branches put in front
pub in_front : (s t : List Rung) (xs ys bs cs : List Branch) → SameOver s t xs ys → SameBranches s bs cs
    → SameBranches (t ++ s) (xs ++ bs) (ys ++ cs)
in_front s [] [] [] bs cs h k = k
in_front s (OnFirst ∷ t) (x ∷ xs) ys bs cs h k = (h.0, in_front s t xs ys bs cs h.1 k)
in_front s (OnSecond ∷ t) xs (y ∷ ys) bs cs h k = (h.0, in_front s t xs ys bs cs h.1 k)
in_front s (OnBoth ∷ t) (x ∷ xs) (y ∷ ys) bs cs h k = (h.0, in_front s t xs ys bs cs h.1 k)
in_front s t xs ys bs cs h k = absurd h

-- ---- lengths

pub counted : (s : List Rung) (bs cs : List Branch) → SameBranches s bs cs
    → (length bs ≡ first s) × (length cs ≡ second s)
counted [] [] [] h = (refl, refl)
counted (OnFirst ∷ s) (b ∷ bs) cs h = let c = counted s bs cs h.1 in (ap suc c.0, c.1)
counted (OnSecond ∷ s) bs (c ∷ cs) h = let d = counted s bs cs h.1 in (d.0, ap suc d.1)
counted (OnBoth ∷ s) (b ∷ bs) (c ∷ cs) h = let d = counted s bs cs h.1 in (ap suc d.0, ap suc d.1)
counted s bs cs h = absurd h

pub lower : {r s : List Rung} → IsEnd r s → (first r ≤ first s) × (second r ≤ second s)
lower whole = (omega arith, omega arith)
lower (behind {x = OnFirst} e) = let c = lower e in (omega arith, omega arith)
lower (behind {x = OnSecond} e) = let c = lower e in (omega arith, omega arith)
lower (behind {x = OnBoth} e) = let c = lower e in (omega arith, omega arith)

-- ---- the last branches

last_all : (k : ℕ) (bs : List Branch) → length bs ≡ k → last k bs ≡ bs
last_all k bs e = let d : length bs - k ≡ 0 = omega arith in rw d

last_behind : (k : ℕ) (b : Branch) (bs : List Branch) → k ≤ length bs → last k (b ∷ bs) ≡ last k bs
last_behind k b bs h = let d : suc (length bs) - k ≡ suc (length bs - k) = omega arith in ap (λ n. drop n (b ∷ bs)) d

pub kept_last : {r s : List Rung} → IsEnd r s → (bs cs : List Branch) → SameBranches s bs cs
    → SameBranches r (last (first r) bs) (last (second r) cs)
kept_last {r} whole bs cs h =
    let n = counted r bs cs h in
    subst (λ x. SameBranches r x (last (second r) cs)) (sym (last_all (first r) bs n.0))
    (subst (λ y. SameBranches r bs y) (sym (last_all (second r) cs n.1)) h)
kept_last {r} (behind {x = OnFirst} {s = s} e) (b ∷ bs) cs h =
    let n = counted s bs cs h.1 in
    let m = lower e in
    subst (λ x. SameBranches r x (last (second r) cs)) (sym (last_behind (first r) b bs (omega arith)))
    (kept_last e bs cs h.1)
kept_last {r} (behind {x = OnSecond} {s = s} e) bs (c ∷ cs) h =
    let n = counted s bs cs h.1 in
    let m = lower e in
    subst (λ y. SameBranches r (last (first r) bs) y) (sym (last_behind (second r) c cs (omega arith)))
    (kept_last e bs cs h.1)
kept_last {r} (behind {x = OnBoth} {s = s} e) (b ∷ bs) (c ∷ cs) h =
    let n = counted s bs cs h.1 in
    let m = lower e in
    subst (λ x. SameBranches r x (last (second r) (c ∷ cs))) (sym (last_behind (first r) b bs (omega arith)))
    (subst (λ y. SameBranches r (last (first r) bs) y) (sym (last_behind (second r) c cs (omega arith)))
    (kept_last e bs cs h.1))
kept_last (behind e) bs cs h = absurd h

-- ---- copies

same_gathered : {s : List Rung} {is js : List Item} (c : Copied) → SameItems s is js
    → SameItems s (gathered_items c is) (gathered_items c js)
same_gathered c no_item = no_item
same_gathered c (goal t a h k i) = goal t a h k i
same_gathered c (call t i) = call t i
same_gathered c (cut a h k i) = cut a h k i
same_gathered c (cut_fails a h k i) = cut_fails a h k i
same_gathered c (caught x g a h k st i) = caught x g a h k st i
same_gathered c (collects t a h k i) = collects t a h k i
same_gathered c (gathered t cs i) = gathered t (cs ++ c ∷ []) i

gather_here : (k : ℕ) (c : Copied) (b : Branch) (bs : List Branch) → length bs ≡ k
    → gather k c (b ∷ bs) ≡ record b { items = gathered_items c b.items } ∷ bs
gather_here k c b bs e = rw (eq-eqb (length bs) k e)

gather_behind : (k : ℕ) (c : Copied) (b : Branch) (bs : List Branch) → suc k ≤ length bs
    → gather k c (b ∷ bs) ≡ b ∷ gather k c bs
gather_behind k c b bs h = let d : eqb (length bs) k ≡ false = grind (arith, eqb_tells (length bs) k) in rw d

pub same_gather : {r s : List Rung} (x : Copied) → IsEnd (OnBoth ∷ r) s → (bs cs : List Branch) → SameBranches s bs cs
    → SameBranches s (gather (first r) x bs) (gather (second r) x cs)
same_gather {r} x whole (b ∷ bs) (c ∷ cs) h =
    let n = counted r bs cs h.1 in
    let made : SameBranch r (record b { items = gathered_items x b.items }) (record c { items = gathered_items x c.items }) =
    record { items = same_gathered x h.0.items; state = h.0.state; phase = h.0.phase } in
    subst (λ u. SameBranches (OnBoth ∷ r) u (gather (second r) x (c ∷ cs))) (sym (gather_here (first r) x b bs n.0))
    (subst (λ v. SameBranches (OnBoth ∷ r) (record b { items = gathered_items x b.items } ∷ bs) v) (sym (gather_here (second r) x c cs n.1)) (made, h.1))
same_gather {r} x (behind {x = OnFirst} {s = s} e) (b ∷ bs) cs h =
    let n = counted s bs cs h.1 in
    let m = lower e in
    subst (λ u. SameBranches (OnFirst ∷ s) u (gather (second r) x cs)) (sym (gather_behind (first r) x b bs (omega arith)))
    (h.0, same_gather x e bs cs h.1)
same_gather {r} x (behind {x = OnSecond} {s = s} e) bs (c ∷ cs) h =
    let n = counted s bs cs h.1 in
    let m = lower e in
    subst (λ v. SameBranches (OnSecond ∷ s) (gather (first r) x bs) v) (sym (gather_behind (second r) x c cs (omega arith)))
    (h.0, same_gather x e bs cs h.1)
same_gather {r} x (behind {x = OnBoth} {s = s} e) (b ∷ bs) (c ∷ cs) h =
    let n = counted s bs cs h.1 in
    let m = lower e in
    subst (λ u. SameBranches (OnBoth ∷ s) u (gather (second r) x (c ∷ cs))) (sym (gather_behind (first r) x b bs (omega arith)))
    (subst (λ v. SameBranches (OnBoth ∷ s) (b ∷ gather (first r) x bs) v) (sym (gather_behind (second r) x c cs (omega arith)))
    (h.0, same_gather x e bs cs h.1))
same_gather x e bs cs h = absurd h
