-- A turn that leaves no mark takes from the weight of its search.
use Rattle.std.proofs.Common.{◌≡◌, ℕ, zero, suc, ◌+◌, ◌-◌, ◌<◌, ◌≤◌, List, [], ◌∷◌, ◌++◌, length, drop, Some, Bool, true, false, cond, eqb, refl, sym, ap, ◌∙◌, arith}
use Rattle.std.specs.List.{cons_option}
use Rattle.std.proofs.lemmas.Bool.Decides.{eqb_tells}
use Rattle.spec_numbers.specs.Texts.{Text}
use Rattle.spec_terms.specs.Term.{Subst}
use Rattle.spec_branch.specs.Branch.{State, Sleeper, Copied, Item, Goal, CutTo, CutFail, CatchEnd, Collect, Gathered, Branch, Pending, Phase, Settled, Unsettled}
use Rattle.spec_branch.specs.Settling.{SleeperState, Sleeps, Wakes, state_of, woken_item, woken, Settles, Kept}
use Rattle.spec_search.specs.Balls.{handed, caught_branch, last}
use Rattle.spec_search.specs.Search.{Search, Look, Settling, Moving, Collecting, look_at, look_at_branch, look_at_items, gather, gathered_items}
use Rattle.spec_search.specs.Turns as turn
use Rattle.spec_search.specs.Turns.{Turn, Event, Wrote}
use Rattle.spec_search.specs.Runs.{marks}
use Rattle.spec_search.specs.Weight.{items_weight, phase_weight, weight}
use Rattle.spec_search.proofs.Settlings.{keeps}

-- ---- branches that are left

dropped_weight : (n : ℕ) (bs : List Branch) → weight (drop n bs) ≤ weight bs
dropped_weight zero bs = omega arith
dropped_weight (suc n) [] = omega arith
dropped_weight (suc n) (b ∷ bs) = let h = dropped_weight n bs in omega arith

last_weight : (k : ℕ) (bs : List Branch) → weight (last k bs) ≤ weight bs
last_weight k bs = dropped_weight (length bs - k) bs

gathered_weight : (c : Copied) (is : List Item) → items_weight (gathered_items c is) ≡ items_weight is
gathered_weight c [] = refl
gathered_weight c (Goal t h ∷ is) = refl
gathered_weight c (CutTo k ∷ is) = refl
gathered_weight c (CutFail k ∷ is) = refl
gathered_weight c (CatchEnd k st x r ∷ is) = refl
gathered_weight c (Collect k t ∷ is) = refl
gathered_weight c (Gathered t cs ∷ is) = refl

gathered_or_not : (k : ℕ) (c : Copied) (b : Branch) (bs : List Branch) (x : Bool) → weight (gather k c bs) ≡ weight bs
    → weight (cond x (record b { items = gathered_items c b.items } ∷ bs) (b ∷ gather k c bs)) ≡ weight (b ∷ bs)
gathered_or_not k c b bs true h = ap (λ n. phase_weight b.phase + n + weight bs) (gathered_weight c b.items)
gathered_or_not k c b bs false h = ap (λ n. phase_weight b.phase + items_weight b.items + n) h

gather_weight : (k : ℕ) (c : Copied) (bs : List Branch) → weight (gather k c bs) ≡ weight bs
gather_weight k c [] = refl
gather_weight k c (b ∷ bs) = gathered_or_not k c b bs (eqb (length bs) k) (gather_weight k c bs)

-- ---- settling

one_woken : (xs is : List Item) (x : SleeperState) → items_weight (xs ++ is) ≡ items_weight is
    → items_weight (cons_option (woken_item x) xs ++ is) ≡ items_weight is
one_woken xs is Sleeps h = h
one_woken xs is (Wakes g) h = omega arith

woken_weight : (s : Subst Text) (ks : List Sleeper) (is : List Item) → items_weight (woken s ks ++ is) ≡ items_weight is
woken_weight s [] is = refl
woken_weight s (k ∷ ks) is = one_woken (woken s ks) is (state_of s k.asleep) (woken_weight s ks is)

kept_weight : (is : List Item) (st : State) (p : Pending) (b : Branch) → Settles is st p (Kept b)
    → phase_weight b.phase + items_weight b.items ≡ 1 + items_weight is
kept_weight is st p b h =
    let k = keeps is is st p b h in
    ap (λ x. phase_weight x + items_weight b.items) k.phase ∙ ap (λ x. 1 + items_weight x) k.items ∙ ap (λ n. 1 + n) (woken_weight k.bindings k.sleepers is)

handed_weight : (ball : Copied) (is : List Item) (bs next : List Branch) → handed ball is bs ≡ Some next
    → weight next < 2 + items_weight is + weight bs
handed_weight ball [] bs next e = cc
handed_weight ball (Goal t h ∷ is) bs next e = let r = handed_weight ball is bs next e in omega arith
handed_weight ball (CutTo k ∷ is) bs next e = let r = handed_weight ball is bs next e in omega arith
handed_weight ball (CutFail k ∷ is) bs next e = let r = handed_weight ball is bs next e in omega arith
handed_weight ball (CatchEnd k st c g ∷ is) bs next e =
    let d = last_weight k bs in
    let f : caught_branch ball st c g is ∷ last k bs ≡ next = cc in
    let h = ap weight f in
    omega arith
handed_weight ball (Collect k t ∷ is) bs next e = let r = handed_weight ball is bs next e in omega arith
handed_weight ball (Gathered t cs ∷ is) bs next e = let r = handed_weight ball is bs next e in omega arith

-- ---- what the first branch is for

-- a weight that the search has at least
abbrev look_weight : Look → ℕ
look_weight (Settling is st p bs) = 2 + items_weight is + weight bs
look_weight (Moving bs) = suc (weight bs)
look_weight (Collecting k t st bs) = suc (weight bs)
look_weight l = 0

items_at_least : (is : List Item) (st : State) (bs : List Branch) → look_weight (look_at_items is st bs) ≤ 1 + items_weight is + weight bs
items_at_least [] st bs = omega arith
items_at_least (Goal t h ∷ is) st bs = omega arith
items_at_least (CutTo k ∷ is) st bs = let d = last_weight k bs in omega arith
items_at_least (CutFail k ∷ is) st bs = let d = last_weight k bs in omega arith
items_at_least (CatchEnd k su c g ∷ is) st bs = omega arith
items_at_least (Collect k t ∷ is) st bs = omega arith
items_at_least (Gathered t cs ∷ is) st bs = omega arith

phase_at_least : (x : Phase) (is : List Item) (st : State) (bs : List Branch)
    → look_weight (look_at_branch x is st bs) ≤ phase_weight x + items_weight is + weight bs
phase_at_least Settled is st bs = items_at_least is st bs
phase_at_least (Unsettled p) is st bs = omega arith

at_least : (bs : List Branch) (l : Look) → look_at bs ≡ l → look_weight l ≤ weight bs
at_least [] l e = let h = ap look_weight e in omega arith
at_least (b ∷ bs) l e = let h = ap look_weight e in let k = phase_at_least b.phase b.items b.state bs in omega arith

-- ---- turns

-- a turn that selects a goal leaves a mark
selecting_marks : (n : ℕ) (text : Text) → marks n (Wrote text) (suc n) ≡ [] → ⊥
selecting_marks n [] e =
    let d : eqb n (suc n) ≡ false = grind (arith, eqb_tells n (suc n)) in
    let f = ap (λ (x : Bool). cond x [] (record { event = Wrote []; selected = suc n } ∷ [])) (sym d) ∙ e in
    cc
selecting_marks n (c ∷ text) e = cc

pub lighter : (s t : Search) (e : Event) → Turn s e t → marks s.selected e t.selected ≡ []
    → weight t.branches < weight s.branches
lighter s t e (turn.keeps {items} {st} {p} {bs} {b} h k) m =
    let a = at_least s.branches (Settling items st p bs) h in
    let c = kept_weight items st p b k in
    omega arith
lighter s t e (turn.prunes {items} {st} {p} {bs} h k i) m = let a = at_least s.branches (Settling items st p bs) h in omega arith
lighter s t e (turn.hands_on {items} {st} {p} {bs} {next} {ball = ball} h k i j) m =
    let a = at_least s.branches (Settling items st p bs) h in
    let c = handed_weight ball items bs next j in
    omega arith
lighter s t e (turn.escapes h k i j) m = cc
lighter s t e (turn.moves {bs} h) m = let a = at_least s.branches (Moving bs) h in omega arith
lighter s t e (turn.collects {k} {t = u} {st} {bs} {c} h i) m =
    let a = at_least s.branches (Collecting k u st bs) h in
    let d = gather_weight k c bs in
    omega arith
lighter s t e (turn.steps {m = n} h k) m = absurd (selecting_marks s.selected n.output m)
lighter s t e (turn.catches h k i) m = absurd (selecting_marks s.selected [] m)
lighter s t e (turn.throws h k i) m = cc
lighter s t e (turn.answers h) m = cc
lighter s t e (turn.ends h) m = cc
