-- Searches that are the same have the same turns, but for those of branches that stand in one alone, which show nothing.
use Rattle.std.proofs.Common.{◌≡◌, ℕ, suc, List, [], ◌∷◌, Option, Some, None, refl, sym, ap, subst, length}
use Rattle.spec_builtins.specs.Built.{compound1}
use Rattle.spec_linear.specs.Solution.{Constraint}
use Rattle.spec_syntax.specs.Trees.{Tree, list_tree}
use Rattle.spec_branch.specs.Branch.{State, Item, Branch, Copied, Pending, Phase, Settled, Unsettled, read, plain_copy}
use Rattle.spec_branch.specs.Alike.{with_linear}
use Rattle.spec_branch.specs.Settling.{Settles, Pruned, Clash}
use Rattle.spec_branch.proofs.Determined.{never_both}
use Rattle.spec_search.specs.Database.{Database}
use Rattle.spec_search.specs.Replies.{Made}
use Rattle.spec_search.specs.Steps.{Steps, Stepped, Ball, Children}
use Rattle.spec_search.proofs.OneStep.{result}
use Rattle.spec_search.specs.Balls.{handed, last}
use Rattle.spec_search.specs.Search.{Search, Look, Over, Settling, Moving, Collecting, Selecting, Answering, look_at_branch, look_at_items, gather}
use Rattle.spec_search.specs.Turns.{Turn, prunes, Event, Wrote, Threw, Ended, place_of, with_branches, after_removal}
use Rattle.spec_search.specs.Runs.{SameState, SameEvent, same, same_answer}
use Rattle.spec_search.proofs.Shapes.{Rung, OnFirst, OnSecond, OnBoth, first, second, IsEnd, whole, SameItems, no_item, goal, call, cut, cut_fails, caught, collects, gathered, higher, IsDoomed, SameBranches}
use Rattle.spec_search.proofs.Heights.{counted, kept_last, same_gather}
use Rattle.spec_search.proofs.Landing.{same_landed}
use Rattle.spec_search.proofs.Replies.{Same, SameMade, SameStep, same_ball, same_children}
use Rattle.spec_search.proofs.Rows.{list_child_same, call_same, reply_same}
use Rattle.spec_search.proofs.Settlings.{kept_same, kept_first, kept_second, SameHanded, neither, handed_on, handed_same}
use Rattle.spec_search.proofs.RunsStepping.{step_same}
use Rattle.spec_search.proofs.OneEvent.{ball_event, pruned_event}
use Rattle.spec_search.proofs.Turning.{ball_branches, pruned_branches, Chooses, made, fell, Decides, kept, pruned, After, after}

-- ---- what first branches are for

pub data SameLook : Look → Look → Type 0 where
  both_over : SameLook Over Over
  both_settle : {s : List Rung} {is js : List Item} {st su : State} {bs cs : List Branch} (p : Pending) → SameItems s is js
      → SameState st su → SameBranches s bs cs → SameLook (Settling is st p bs) (Settling js su p cs)
  both_move : {bs cs : List Branch} → Same bs cs → SameLook (Moving bs) (Moving cs)
  both_collect : {s r : List Rung} {h k : ℕ} {st su : State} {bs cs : List Branch} (t : Tree) → IsEnd (OnBoth ∷ r) s
      → h ≡ first r → k ≡ second r → SameState st su → SameBranches s bs cs
      → SameLook (Collecting h t st bs) (Collecting k t su cs)
  both_select : {s r : List Rung} {h k : ℕ} {is js : List Item} {st su : State} {bs cs : List Branch} (t : Tree) → IsEnd r s
      → h ≡ first r → k ≡ second r → SameItems r is js → SameState st su → SameBranches s bs cs
      → SameLook (Selecting t h is st bs) (Selecting t k js su cs)
  both_call : {s : List Rung} {is js : List Item} {st su : State} {bs cs : List Branch} (t : Tree) → SameItems s is js
      → SameState st su → SameBranches s bs cs
      → SameLook (Selecting (compound1 "call" t) 0 is st bs) (Selecting (compound1 "call" t) 0 js su cs)
  both_answer : {bs cs : List Branch} {st su : State} → SameState st su → Same bs cs → SameLook (Answering st bs) (Answering su cs)

module _ (s : List Rung) (st su : State) (state : SameState st su) (bs cs : List Branch) (branches : SameBranches s bs cs) where
  -- a settled branch
  look_items : {is js : List Item} → SameItems s is js → SameLook (look_at_items is st bs) (look_at_items js su cs)
  look_items no_item = both_answer state (record { shape = s; branches = branches })
  look_items (goal t a h k i) = both_select t a h k i state branches
  look_items (call t i) = both_call t i state branches
  look_items (cut {r = r} {h = m} {k = n} a h k i) =
      both_move (record {
        shape = OnBoth ∷ r;
        branches = (
          record { items = i; state = state; phase = refl },
          subst (λ x. SameBranches r (last x bs) (last n cs)) (sym h) (subst (λ x. SameBranches r (last (first r) bs) (last x cs)) (sym k) (kept_last a bs cs branches)),
        );
      })
  look_items (cut_fails {r = r} {h = m} {k = n} a h k i) =
      both_move (record {
        shape = r;
        branches = subst (λ x. SameBranches r (last x bs) (last n cs)) (sym h) (subst (λ x. SameBranches r (last (first r) bs) (last x cs)) (sym k) (kept_last a bs cs branches));
      })
  look_items (caught c g a h k x i) =
      both_move (record { shape = OnBoth ∷ s; branches = (record { items = higher a i; state = state; phase = refl }, branches) })
  look_items (collects t a h k i) = both_collect t a h k state branches
  look_items (gathered t ds i) =
      both_move (record { shape = OnBoth ∷ s; branches = (list_child_same i (same_landed st su state ds) t list_tree, branches) })

  look_phase : {is js : List Item} (x : Phase) → SameItems s is js
      → SameLook (look_at_branch x is st bs) (look_at_branch x js su cs)
  look_phase Settled i = look_items i
  look_phase (Unsettled p) i = both_settle p i state branches

  pub look_same : {is js : List Item} (x y : Phase) → x ≡ y → SameItems s is js
      → SameLook (look_at_branch x is st bs) (look_at_branch y js su cs)
  look_same {is} {js} x y e i = subst (λ z. SameLook (look_at_branch x is st bs) (look_at_branch z js su cs)) e (look_phase x i)

-- ---- searches

pub record SameSearch (s u : Search) : Type 0 where
  pub database : s.database ≡ u.database
  pub selected : s.selected ≡ u.selected
  pub same : Same s.branches u.branches

-- two turns that show the same, and lead to the same
pub record SameTurn (e : Event) (t : Search) (f : Event) (u : Search) : Type 0 where
  pub event : SameEvent e f
  pub search : SameSearch t u

-- ---- the same steps

made_same : {s : List Rung} {o x : Stepped} → SameStep s o x → (m n : Made) → o ≡ Children m → x ≡ Children n → SameMade s m n
made_same (same_ball c) m n e f = cc
made_same {s} (same_children {m = a} {n = b} h) m n e f =
    let c : a ≡ m = cc in
    let d : b ≡ n = cc in
    subst (λ y. SameMade s y n) c (subst (λ y. SameMade s a y) d h)

same_balls : {s : List Rung} {o x : Stepped} → SameStep s o x → (a b : Copied) → o ≡ Ball a → x ≡ Ball b → a ≡ b
same_balls (same_ball c) a b e f = cc
same_balls (same_children h) a b e f = cc

never_mixed : {s : List Rung} {o x : Stepped} → SameStep s o x → (m : Made) (b : Copied) → o ≡ Children m → x ≡ Ball b → ⊥
never_mixed (same_ball c) m b e f = cc
never_mixed (same_children h) m b e f = cc

never_mixed_back : {s : List Rung} {o x : Stepped} → SameStep s o x → (m : Made) (b : Copied) → o ≡ Ball b → x ≡ Children m → ⊥
never_mixed_back (same_ball c) m b e f = cc
never_mixed_back (same_children h) m b e f = cc

module _ (db : Database) (n : ℕ) where
  -- a search with these branches
  abbrev pub search_of : List Branch → Search
  search_of bs = record { database = db; branches = bs; selected = n }

  moved : {bs cs : List Branch} (d : Database) (m : ℕ) → Same bs cs
      → SameSearch (record { database = d; branches = bs; selected = m }) (record { database = d; branches = cs; selected = m })
  moved d m h = record { database = refl; selected = refl; same = h }

  nothing : Same [] []
  nothing = record { shape = []; branches = tt }

  -- a ball
  ball_same : (ball : Copied) (m : ℕ) {x y : Option (List Branch)} → SameHanded x y
      → SameTurn (ball_event ball x) (record { database = db; branches = ball_branches x; selected = m }) (ball_event ball y) (record { database = db; branches = ball_branches y; selected = m })
  ball_same ball m neither = record { event = same (Threw ball); search = moved db m nothing }
  ball_same ball m (handed_on h) = record { event = same (Wrote []); search = moved db m h }

  module _ (ps qs : List Branch) where
    -- the two searches
    abbrev here : Search
    here = search_of ps

    abbrev there : Search
    there = search_of qs

    pruned_same : {s : List Rung} {is js : List Item} (bs cs : List Branch) (x : Option Copied) → SameItems s is js → SameBranches s bs cs
        → SameTurn (pruned_event is bs x) (with_branches (pruned_branches is bs x) here) (pruned_event js cs x) (with_branches (pruned_branches js cs x) there)
    pruned_same {s} bs cs None i h = record { event = same (Wrote []); search = moved db n (record { shape = s; branches = h }) }
    pruned_same bs cs (Some ball) i h = ball_same ball n (handed_same ball i whole bs cs h)

    settle_same : {s : List Rung} {is js : List Item} {st su : State} {bs cs : List Branch} (p : Pending) → SameItems s is js
        → SameState st su → SameBranches s bs cs → {e f : Event} {t u : Search}
        → Decides here is st p bs e t → Decides there js su p cs f u → SameTurn e t f u
    settle_same {s} {is} {js} {st} {su} {bs} {cs} p i h k (kept b x) (kept c y) =
        record {
          event = same (Wrote []);
          search = moved (after_removal p.removes db) n (record { shape = OnBoth ∷ s; branches = (kept_same s is js i st su h p b c x y, k) });
        }
    settle_same {s} {is} {js} {st} {su} p i h k (kept b x) (pruned why y) = absurd (kept_first s is js i st su h p b why x y)
    settle_same {s} {is} {js} {st} {su} p i h k (pruned why x) (kept c y) = absurd (kept_second s is js i st su h p c why x y)
    settle_same {s} {bs = bs} {cs = cs} p i h k (pruned why x) (pruned other y) = pruned_same bs cs p.ball i k

    -- ---- steps

    choose_same : {s : List Rung} {is js : List Item} {bs cs : List Branch} → SameItems s is js → SameBranches s bs cs
        → {g : Tree} {h k : ℕ} {st su : State}
        → ((o x : Stepped) → Steps (place_of here st is h bs) (read st g) o → Steps (place_of there su js k cs) (read su g) x → SameStep s o x)
        → {e f : Event} {t u : Search} → Chooses here g h is st bs e t → Chooses there g k js su cs f u → SameTurn e t f u
    choose_same {bs = bs} {cs = cs} i b d (made m x) (made o y) =
        let w = made_same (d (Children m) (Children o) x y) m o refl refl in
        record {
          event = subst (λ z. SameEvent (Wrote m.output) (Wrote z)) w.output (same (Wrote m.output));
          search = record { database = w.database; selected = refl; same = w.same bs cs b };
        }
    choose_same i b d (made m x) (fell ball y) = absurd (never_mixed (d (Children m) (Ball ball) x y) m ball refl refl)
    choose_same i b d (fell ball x) (made m y) = absurd (never_mixed_back (d (Ball ball) (Children m) x y) m ball refl refl)
    choose_same {is = is} {js = js} {bs = bs} {cs = cs} i b d (fell x k) (fell y l) =
        let c : x ≡ y = same_balls (d (Ball x) (Ball y) k l) x y refl refl in
        subst (λ z. SameTurn (ball_event x (handed x is bs)) (record { database = db; branches = ball_branches (handed x is bs); selected = suc n }) (ball_event z (handed z js cs)) (record { database = db; branches = ball_branches (handed z js cs); selected = suc n })) c
        (ball_same x (suc n) (handed_same x i whole bs cs b))

    -- a goal in states that are the same
    select_same : {s r : List Rung} {h k : ℕ} {is js : List Item} (bs cs : List Branch) (g : Tree) (st su : State) → IsEnd r s
        → h ≡ first r → k ≡ second r → SameItems r is js → SameState st su → SameBranches s bs cs → (o x : Stepped)
        → Steps (place_of here st is h bs) (read st g) o → Steps (place_of there su js k cs) (read su g) x → SameStep s o x
    select_same {s} {r} {h} {k} {is} {js} bs cs g st su a hh kk i state b o x p q =
        let w = counted s bs cs b in
        let l : List Constraint = su.linear in
        let t : Tree = read st g in
        let y = subst (λ (z : State). Steps (place_of there z js k cs) (read z g) x) state.state q in
        step_same s db st l state.linear is js (higher a i) h k (length bs) (length cs) w.0 w.1 t
        (reply_same s db st l state.linear is js (higher a i) h k (length bs) (length cs) w.0 w.1 r a hh kk i t)
        o x (result (place_of here st is h bs) t o p) (result (place_of there (with_linear l st) js k cs) t x y)

    -- a called goal, which doesn't cut
    call_chosen : {s : List Rung} {is js : List Item} (bs cs : List Branch) (g : Tree) (st su : State) → SameItems s is js
        → SameState st su → SameBranches s bs cs → (o x : Stepped)
        → Steps (place_of here st is 0 bs) (read st (compound1 "call" g)) o → Steps (place_of there su js 0 cs) (read su (compound1 "call" g)) x → SameStep s o x
    call_chosen {s} {is} {js} bs cs g st su i state b o x p q =
        let w = counted s bs cs b in
        let l : List Constraint = su.linear in
        let t : Tree = read st (compound1 "call" g) in
        let y = subst (λ (z : State). Steps (place_of there z js 0 cs) (read z (compound1 "call" g)) x) state.state q in
        step_same s db st l state.linear is js i 0 0 (length bs) (length cs) w.0 w.1 t
        (call_same s db st l state.linear is js i 0 0 (length bs) (length cs) w.0 w.1 (read st g) [])
        o x (result (place_of here st is 0 bs) t o p) (result (place_of there (with_linear l st) js 0 cs) t x y)

    -- ---- turns

    told : {e f a b : Event} {t u v w : Search} → e ≡ a → t ≡ v → f ≡ b → u ≡ w → SameTurn a v b w → SameTurn e t f u
    told {e} {f} {a} {b} {t} {u} {v} {w} i j k l x =
        subst (λ z. SameTurn z t f u) (sym i) (subst (λ z. SameTurn a z f u) (sym j) (subst (λ z. SameTurn a v z u) (sym k) (subst (λ z. SameTurn a v b z) (sym l) x)))

    move_same : {bs cs : List Branch} → Same bs cs → SameTurn (Wrote []) (with_branches bs here) (Wrote []) (with_branches cs there)
    move_same h = record { event = same (Wrote []); search = moved db n h }

    collected : {s r : List Rung} {h k : ℕ} (bs cs : List Branch) (g : Tree) (st su : State) → IsEnd (OnBoth ∷ r) s
        → h ≡ first r → k ≡ second r → SameState st su → SameBranches s bs cs
        → Same (gather h (plain_copy (read st g)) bs) (gather k (plain_copy (read su g)) cs)
    collected {s} {r} {h} {k} bs cs g st su a hh kk state b =
        let c : Copied = plain_copy (read st g) in
        record {
          shape = s;
          branches = subst (λ (z : State). SameBranches s (gather h c bs) (gather k (plain_copy (read z g)) cs)) (sym state.state)
              (subst (λ m. SameBranches s (gather m c bs) (gather k c cs)) (sym hh) (subst (λ m. SameBranches s (gather (first r) c bs) (gather m c cs)) (sym kk) (same_gather c a bs cs b)));
        }

    pub turned : Same ps qs → {x y : Look} → SameLook x y → {e f : Event} {t u : Search} → After here x e t → After there y f u → SameTurn e t f u
    turned z both_over i j = told i.0 i.1 j.0 j.1 (record { event = same Ended; search = moved db n z })
    turned z (both_settle p h k b) i j = settle_same p h k b i j
    turned z (both_move h) i j = told i.0 i.1 j.0 j.1 (move_same h)
    turned z (both_collect {st = st} {su = su} {bs = bs} {cs = cs} g a hh kk state b) i j = told i.0 i.1 j.0 j.1 (move_same (collected bs cs g st su a hh kk state b))
    turned z (both_select {st = st} {su = su} {bs = bs} {cs = cs} g a hh kk k state b) i j =
        choose_same (higher a k) b (select_same bs cs g st su a hh kk k state b) i j
    turned z (both_call {st = st} {su = su} {bs = bs} {cs = cs} g k state b) i j = choose_same k b (call_chosen bs cs g st su k state b) i j
    turned z (both_answer state h) i j = told i.0 i.1 j.0 j.1 (record { event = same_answer state; search = moved db n h })

-- ---- branches that are pruned

-- a doomed branch in front is dropped, and nothing is shown
pub record Dropped (db : Database) (n : ℕ) (bs : List Branch) (e : Event) (t : Search) : Type 0 where
  pub event : e ≡ Wrote []
  pub search : t ≡ search_of db n bs

module _ (db : Database) (n : ℕ) (b : Branch) (bs : List Branch) (doomed : IsDoomed b) where
  drops : (w : Pending) → Settles b.items b.state w (Pruned Clash) → w.ball ≡ None → {e : Event} {t : Search}
      → Decides (search_of db n (b ∷ bs)) b.items b.state w bs e t → Dropped db n bs e t
  drops w h k (kept c x) = absurd (never_both b.items b.state w c Clash x h)
  drops w h k (pruned why x) =
      record {
        event = ap (λ (y : Option Copied). pruned_event b.items bs y) k;
        search = ap (λ (y : Option Copied). search_of db n (pruned_branches b.items bs y)) k;
      }

  pub dropped : {e : Event} {t : Search} → Turn (search_of db n (b ∷ bs)) e t → Dropped db n bs e t
  dropped {e} {t} x =
      drops doomed.work doomed.pruned doomed.no_ball
      (subst (λ y. After (search_of db n (b ∷ bs)) (look_at_branch y b.items b.state bs) e t) doomed.unsettled (after (search_of db n (b ∷ bs)) x))

  -- it has that turn
  pub drop_doomed : Turn (search_of db n (b ∷ bs)) (Wrote []) (search_of db n bs)
  drop_doomed = prunes (ap (λ (y : Phase). look_at_branch y b.items b.state bs) doomed.unsettled) doomed.pruned doomed.no_ball

-- ---- one turn of each

-- the turns show the same and lead to the same, or that of one search alone shows nothing and leads to the same
pub data SameSoFar (s : Search) (e : Event) (t u : Search) (f : Event) (v : Search) : Type 0 where
  first_alone : e ≡ Wrote [] → t.selected ≡ s.selected → SameSearch t u → SameSoFar s e t u f v
  second_alone : f ≡ Wrote [] → v.selected ≡ u.selected → SameSearch s v → SameSoFar s e t u f v
  both_turn : SameTurn e t f v → SameSoFar s e t u f v

module _ (db : Database) (n : ℕ) where
  in_shape : (x : List Rung) (ps qs : List Branch) → SameBranches x ps qs → {e f : Event} {t v : Search}
      → Turn (search_of db n ps) e t → Turn (search_of db n qs) f v → SameSoFar (search_of db n ps) e t (search_of db n qs) f v
  in_shape [] [] [] h i j =
      both_turn (turned db n [] [] (record { shape = []; branches = tt }) both_over (after (search_of db n []) i) (after (search_of db n []) j))
  in_shape (OnFirst ∷ x) (p ∷ ps) qs h {t = t} i j =
      let d = dropped db n p ps h.0 i in
      first_alone d.event (ap (λ (y : Search). y.selected) d.search) (subst (λ y. SameSearch y (search_of db n qs)) (sym d.search) (record { database = refl; selected = refl; same = record { shape = x; branches = h.1 } }))
  in_shape (OnSecond ∷ x) ps (q ∷ qs) h i j =
      let d = dropped db n q qs h.0 j in
      second_alone d.event (ap (λ (y : Search). y.selected) d.search) (subst (λ y. SameSearch (search_of db n ps) y) (sym d.search) (record { database = refl; selected = refl; same = record { shape = x; branches = h.1 } }))
  in_shape (OnBoth ∷ x) (p ∷ ps) (q ∷ qs) h i j =
      both_turn (turned db n (p ∷ ps) (q ∷ qs) (record { shape = OnBoth ∷ x; branches = h })
      (look_same x p.state q.state h.0.state ps qs h.1 p.phase q.phase h.0.phase h.0.items)
      (after (search_of db n (p ∷ ps)) i) (after (search_of db n (q ∷ qs)) j))
  in_shape x ps qs h i j = absurd h

pub same_so_far : (s u : Search) → SameSearch s u → (e f : Event) (t v : Search) → Turn s e t → Turn u f v → SameSoFar s e t u f v
same_so_far s u h e f t v i j =
    let there : Search = search_of s.database s.selected u.branches in
    let path : there ≡ u = λ k. record { database = h.database k; branches = u.branches; selected = h.selected k } in
    subst (λ (y : Search). Turn y f v → SameSoFar s e t y f v) path
    (λ z. in_shape s.database s.selected h.same.shape s.branches u.branches h.same.branches i z) j
