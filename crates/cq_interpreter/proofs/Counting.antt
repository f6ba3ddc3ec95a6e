-- Turns keep the variables of all branches.
use Rattle.std.proofs.Common.{◌≡◌, ℕ, zero, suc, ◌≤◌, ◌-◌, List, [], ◌∷◌, ◌++◌, length, drop, Bool, true, false, cond, eqb, Option, Some, None, subst}
use Rattle.std.specs.Prelude.{⊤}
use Rattle.std.specs.List.{cons_option}
use Rattle.spec_numbers.specs.Texts.{Text}
use Rattle.spec_terms.specs.Term.{Subst}
use Rattle.spec_syntax.specs.Trees.{Tree}
use Rattle.spec_branch.specs.Branch.{read, State, Sleeper, Copied, Item, Goal, CutTo, CutFail, CatchEnd, Collect, Gathered, Branch, Pending, Phase, Settled, Unsettled}
use Rattle.spec_branch.specs.Settling as settling
use Rattle.spec_branch.specs.Settling.{SleeperState, Sleeps, Wakes, state_of, woken_item, woken, Outcome, Kept, Pruned, SettlesUnified, Settles, bindings_after}
use Rattle.spec_search.specs.Balls.{handed, last}
use Rattle.spec_search.specs.Replies.{Place}
use Rattle.spec_search.specs.Steps as steps
use Rattle.spec_search.specs.Steps.{Stepped, Ball, Children, Steps}
use Rattle.spec_search.specs.Search.{Search, Look, Over, Settling, Moving, Collecting, Selecting, Answering, look_at, look_at_branch, look_at_items, gather, gathered_items}
use Rattle.spec_search.specs.Turns as turn
use Rattle.spec_transcript.specs.Causes.{Budgets}
use Rattle.spec_engine.specs.Coming.{Quietly, at_once, after, Told, Shows, Stops, Tells, shows, stops}
use Rattle.spec_syntax.specs.Operators.{Ops}
use Rattle.spec_search.specs.Turns.{Turn, Event, place_of, older}
use Rattle.cq_interpreter.specs.Counted.{CatchesCount, Counts, AllCount}
use Rattle.cq_interpreter.proofs.Rows.{RepliesCount, landed_fresh, reply_counts, clauses_count}

module _ (n : ℕ) where
  -- ---- branches that are left

  dropped_count : (k : ℕ) (bs : List Branch) → AllCount n bs → AllCount n (drop k bs)
  dropped_count zero bs h = h
  dropped_count (suc k) [] h = h
  dropped_count (suc k) (b ∷ bs) h = dropped_count k bs h.1

  last_count : (k : ℕ) (bs : List Branch) → AllCount n bs → AllCount n (last k bs)
  last_count k bs h = dropped_count (length bs - k) bs h

  older_count : (k : Option ℕ) (bs : List Branch) → AllCount n bs → AllCount n (older k bs)
  older_count None bs h = h
  older_count (Some k) bs h = last_count k bs h

  both_count : (bs cs : List Branch) → AllCount n bs → AllCount n cs → AllCount n (bs ++ cs)
  both_count [] cs h k = k
  both_count (b ∷ bs) cs h k = (h.0, both_count bs cs h.1 k)

  gathered_count : (c : Copied) (is : List Item) → CatchesCount n is → CatchesCount n (gathered_items c is)
  gathered_count c [] h = h
  gathered_count c (Goal t k ∷ is) h = h
  gathered_count c (CutTo k ∷ is) h = h
  gathered_count c (CutFail k ∷ is) h = h
  gathered_count c (CatchEnd k st x r ∷ is) h = h
  gathered_count c (Collect k t ∷ is) h = h
  gathered_count c (Gathered t cs ∷ is) h = h

  gathered_or_not : (k : ℕ) (c : Copied) (b : Branch) (bs : List Branch) (x : Bool) → AllCount n (b ∷ bs) → AllCount n (gather k c bs)
      → AllCount n (cond x (record b { items = gathered_items c b.items } ∷ bs) (b ∷ gather k c bs))
  gathered_or_not k c b bs true h g = (record { state = h.0.state; catches = gathered_count c b.items h.0.catches }, h.1)
  gathered_or_not k c b bs false h g = (h.0, g)

  gather_count : (k : ℕ) (c : Copied) (bs : List Branch) → AllCount n bs → AllCount n (gather k c bs)
  gather_count k c [] h = h
  gather_count k c (b ∷ bs) h = gathered_or_not k c b bs (eqb (length bs) k) h (gather_count k c bs h.1)

  -- ---- settling

  abbrev OutcomeCounts : Outcome → Type 0
  OutcomeCounts (Kept b) = Counts n b
  OutcomeCounts (Pruned why) = ⊤

  one_woken : (xs is : List Item) (x : SleeperState) → CatchesCount n (xs ++ is) → CatchesCount n (cons_option (woken_item x) xs ++ is)
  one_woken xs is Sleeps h = h
  one_woken xs is (Wakes g) h = h

  woken_count : (s : Subst Text) (ks : List Sleeper) (is : List Item) → CatchesCount n is → CatchesCount n (woken s ks ++ is)
  woken_count s [] is h = h
  woken_count s (k ∷ ks) is h = one_woken (woken s ks) is (state_of s k.asleep) (woken_count s ks is h)

  unified_count : (is : List Item) (st : State) (p : Pending) (u : Subst Text) (o : Outcome) → SettlesUnified is st p u o → n ≤ st.fresh → CatchesCount n is
      → OutcomeCounts o
  unified_count is st p u o (settling.clash c) h k = tt
  unified_count is st p u o (settling.no_solution c j i) h k = tt
  unified_count is st p u o (settling.kept c j i fixed f) h k = record { state = h; catches = woken_count (bindings_after st p u fixed) st.sleepers is k }

  settled_count : (is : List Item) (st : State) (p : Pending) (o : Outcome) → Settles is st p o → n ≤ st.fresh → CatchesCount n is → OutcomeCounts o
  settled_count is st p o (settling.no_unifier x) h k = tt
  settled_count is st p o (settling.unified u x s) h k = unified_count is st p u o s h k

  -- ---- balls

  abbrev IfCount : Option (List Branch) → Type 0
  IfCount None = ⊤
  IfCount (Some bs) = AllCount n bs

  handed_count : (ball : Copied) (is : List Item) (bs : List Branch) → CatchesCount n is → AllCount n bs → IfCount (handed ball is bs)
  handed_count ball [] bs h k = tt
  handed_count ball (Goal t x ∷ is) bs h k = handed_count ball is bs h k
  handed_count ball (CutTo x ∷ is) bs h k = handed_count ball is bs h k
  handed_count ball (CutFail x ∷ is) bs h k = handed_count ball is bs h k
  handed_count ball (CatchEnd x st c r ∷ is) bs h k = (record { state = landed_fresh n (ball ∷ []) st h.0; catches = h.1 }, last_count x bs k)
  handed_count ball (Collect x t ∷ is) bs h k = handed_count ball is bs h k
  handed_count ball (Gathered t cs ∷ is) bs h k = handed_count ball is bs h k

  handed_to : (ball : Copied) (is : List Item) (bs next : List Branch) → CatchesCount n is → AllCount n bs → handed ball is bs ≡ Some next → AllCount n next
  handed_to ball is bs next h k e = subst IfCount e (handed_count ball is bs h k)

  -- ---- what the first branch is for

  abbrev LookCounts : Look → Type 0
  LookCounts Over = ⊤
  LookCounts (Settling is st p bs) = (n ≤ st.fresh) × CatchesCount n is × AllCount n bs
  LookCounts (Moving bs) = AllCount n bs
  LookCounts (Collecting k t st bs) = AllCount n bs
  LookCounts (Selecting t cut is st bs) = (n ≤ st.fresh) × CatchesCount n is × AllCount n bs
  LookCounts (Answering st bs) = (n ≤ st.fresh) × AllCount n bs

  items_count : (is : List Item) (st : State) (bs : List Branch) → n ≤ st.fresh → CatchesCount n is → AllCount n bs → LookCounts (look_at_items is st bs)
  items_count [] st bs h k r = (h, r)
  items_count (Goal t x ∷ is) st bs h k r = (h, k, r)
  items_count (CutTo x ∷ is) st bs h k r = (record { state = h; catches = k }, last_count x bs r)
  items_count (CutFail x ∷ is) st bs h k r = last_count x bs r
  items_count (CatchEnd x su c g ∷ is) st bs h k r = (record { state = h; catches = k.1 }, r)
  items_count (Collect x t ∷ is) st bs h k r = r
  items_count (Gathered t cs ∷ is) st bs h k r = (record { state = landed_fresh n cs st h; catches = k }, r)

  phase_count : (x : Phase) (is : List Item) (st : State) (bs : List Branch) → n ≤ st.fresh → CatchesCount n is → AllCount n bs
      → LookCounts (look_at_branch x is st bs)
  phase_count Settled is st bs h k r = items_count is st bs h k r
  phase_count (Unsettled p) is st bs h k r = (h, k, r)

  look_count : (bs : List Branch) → AllCount n bs → LookCounts (look_at bs)
  look_count [] h = tt
  look_count (b ∷ bs) h = phase_count b.phase b.items b.state bs h.0.state h.0.catches h.1

  looked : (bs : List Branch) (l : Look) → AllCount n bs → look_at bs ≡ l → LookCounts l
  looked bs l h e = subst LookCounts e (look_count bs h)

  -- ---- steps

  abbrev StepCounts : Stepped → Type 0
  StepCounts (Ball c) = ⊤
  StepCounts (Children m) = AllCount n m.children

  step_counts : (p : Place) (goal : Tree) (o : Stepped) → Steps p goal o → n ≤ p.state.fresh → CatchesCount n p.rest → StepCounts o
  step_counts p goal o (steps.raises e) h k = tt
  step_counts p goal o (steps.throws e c) h k = tt
  step_counts p goal o (steps.copies {c = c} e i) h k = (subst (RepliesCount n) e (reply_counts n p h k goal) c, tt)
  step_counts p goal o (steps.makes e) h k = subst (RepliesCount n) e (reply_counts n p h k goal)
  step_counts p goal o (steps.calls {some = some} e i) h k = clauses_count n p h k goal some
  step_counts p goal o (steps.not_linear fixed e f g) h k = tt
  step_counts p goal o (steps.entailed fixed e f g i) h k = (subst (RepliesCount n) e (reply_counts n p h k goal), tt)
  step_counts p goal o (steps.not_entailed m fixed e f g i j) h k = tt
  step_counts p goal o (steps.expression_waits fixed e f g) h k = tt
  step_counts p goal o (steps.expression_false fixed e f g) h k = tt
  step_counts p goal o (steps.extent {q = q} fixed e f g i) h k = (subst (RepliesCount n) e (reply_counts n p h k goal) q, tt)
  step_counts p goal o (steps.no_extent fixed e f g i) h k = tt

  -- ---- turns

  pub turn_counts : (s t : Search) (e : Event) → Turn s e t → AllCount n s.branches → AllCount n t.branches
  turn_counts s t e (turn.keeps {items} {st} {p} {bs} {b} l k) h =
      let x = looked s.branches (Settling items st p bs) h l in
      (settled_count items st p (Kept b) k x.0 x.1, x.2)
  turn_counts s t e (turn.prunes {items} {st} {p} {bs} l k i) h = (looked s.branches (Settling items st p bs) h l).2
  turn_counts s t e (turn.hands_on {items} {st} {p} {bs} {next} {ball = ball} l k i j) h =
      let x = looked s.branches (Settling items st p bs) h l in
      handed_to ball items bs next x.1 x.2 j
  turn_counts s t e (turn.escapes l k i j) h = tt
  turn_counts s t e (turn.moves {bs} l) h = looked s.branches (Moving bs) h l
  turn_counts s t e (turn.collects {k} {t = u} {st} {bs} {c} l i) h = gather_count k c bs (looked s.branches (Collecting k u st bs) h l)
  turn_counts s t e (turn.steps {goal} {cut} {items} {st} {bs} {m} l k) h =
      let x = looked s.branches (Selecting goal cut items st bs) h l in
      both_count m.children (older m.keeps bs) (step_counts (place_of s st items cut bs) (read st goal) (Children m) k x.0 x.1) (older_count m.keeps bs x.2)
  turn_counts s t e (turn.catches {goal} {cut} {items} {st} {bs} {next} {ball} l k j) h =
      let x = looked s.branches (Selecting goal cut items st bs) h l in
      handed_to ball items bs next x.1 x.2 j
  turn_counts s t e (turn.throws l k j) h = tt
  turn_counts s t e (turn.answers {st} {bs} l) h = (looked s.branches (Answering st bs) h l).1
  turn_counts s t e (turn.ends l) h = h

  -- ---- what is told

  abbrev EventCounts : Event → Type 0
  EventCounts (turn.Wrote text) = ⊤
  EventCounts (turn.Answered st ops) = n ≤ st.fresh
  EventCounts (turn.Threw ball) = ⊤
  EventCounts turn.Ended = ⊤

  event_counts : (s t : Search) (e : Event) → Turn s e t → AllCount n s.branches → EventCounts e
  event_counts s t e (turn.keeps l k) h = tt
  event_counts s t e (turn.prunes l k i) h = tt
  event_counts s t e (turn.hands_on l k i j) h = tt
  event_counts s t e (turn.escapes l k i j) h = tt
  event_counts s t e (turn.moves l) h = tt
  event_counts s t e (turn.collects l i) h = tt
  event_counts s t e (turn.steps l k) h = tt
  event_counts s t e (turn.catches l k j) h = tt
  event_counts s t e (turn.throws l k j) h = tt
  event_counts s t e (turn.answers {st} {bs} l) h = (looked s.branches (Answering st bs) h l).0
  event_counts s t e (turn.ends l) h = tt

  pub quietly_counts : {steps : ℕ} {s t : Search} → Quietly steps s t → AllCount n s.branches → AllCount n t.branches
  quietly_counts at_once h = h
  quietly_counts (after {s} {t} go first rest) h = quietly_counts rest (turn_counts s t (turn.Wrote []) first h)

  pub told_counts : (b : Budgets) (s t : Search) (what : Told) → Tells b s what t → AllCount n s.branches → AllCount n t.branches
  told_counts b s t what (shows {r} {e = e} q go last new) h = turn_counts r t e last (quietly_counts q h)
  told_counts b s t what (stops q why) h = tt

  abbrev ToldCounts : Told → Type 0
  ToldCounts (Shows e) = EventCounts e
  ToldCounts (Stops cause) = ⊤

  answer_of : (b : Budgets) (s t : Search) (what : Told) → Tells b s what t → AllCount n s.branches → ToldCounts what
  answer_of b s t what (shows {r} {e = e} q go last new) h = event_counts r t e last (quietly_counts q h)
  answer_of b s t what (stops q why) h = tt

  -- the state of an answer has the variables
  pub answer_counts : (b : Budgets) (s t : Search) (st : State) (ops : Ops) → Tells b s (Shows (turn.Answered st ops)) t → AllCount n s.branches → n ≤ st.fresh
  answer_counts b s t st ops tells h = answer_of b s t (Shows (turn.Answered st ops)) tells h
