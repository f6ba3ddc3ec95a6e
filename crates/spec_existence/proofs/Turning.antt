-- Each turn of a sound search leads to a sound one.
use Rattle.std.proofs.Common.{◌≡◌, ℕ, zero, suc, ◌-◌, List, [], ◌∷◌, ◌++◌, length, drop, Option, Some, None, Bool, true, false, cond, eqb, refl, sym, ap, subst}
use Rattle.std.specs.Prelude.{⊤}
use Rattle.std.specs.List.{cons_option, AllByRecursion}
use Rattle.spec_linear.specs.Solution.{Constraint, Solvable}
use Rattle.spec_projection.specs.Lists.{AreForms}
use Rattle.spec_numbers.specs.Texts.{Text}
use Rattle.spec_terms.specs.Term.{Subst}
use Rattle.spec_syntax.specs.Trees.{Tree, list_tree}
use Rattle.spec_builtins.specs.Alternatives.{◌≐◌}
use Rattle.spec_branch.specs.Branch.{State, Sleeper, Copied, Item, Goal, CutTo, CutFail, CatchEnd, Collect, Gathered, Branch, Pending, Phase, Settled, Unsettled, read, no_work}
use Rattle.spec_branch.specs.Settling.{SleeperState, Sleeps, Wakes, state_of, woken_item, woken, bindings_after, Settles, unified, SettlesUnified, kept, Kept}
use Rattle.spec_search.specs.Replies.{Place, landed}
use Rattle.spec_search.specs.Rows.{reply_of}
use Rattle.spec_search.specs.Steps.{Steps, Stepped, Ball, Children, raises, throws, copies, makes, calls, not_linear, entailed, not_entailed, expression_waits, expression_false, extent, no_extent}
use Rattle.spec_search.specs.Balls.{handed, caught_branch, caught_work, last}
use Rattle.spec_search.specs.Control.{call_of}
use Rattle.spec_search.specs.Search.{Search, Look, Over, Settling, Moving, Collecting, Selecting, Answering, settled, look_at, look_at_branch, look_at_items, gather, gathered_items}
use Rattle.spec_search.specs.Turns as turn
use Rattle.spec_search.specs.Turns.{Turn, Event, place_of, older}
use Rattle.spec_existence.proofs.Bounds.{kept_bounded}
use Rattle.spec_existence.proofs.Forms.{kept_forms}
use Rattle.spec_existence.specs.Sound.{IsSoundState, CarriesNoRows, AreSoundItems, IsSoundBall, IsSoundPhase, IsSoundBranch, AreSound}
use Rattle.spec_existence.proofs.Copies.{landed_sound, landed_rows}
use Rattle.spec_existence.proofs.Rows.{IsSoundReply, child_sound, reply_sound, clauses_sound}

-- ---- lists

all_append : (cs : List Copied) (c : Copied) → AllByRecursion CarriesNoRows cs → CarriesNoRows c → AllByRecursion CarriesNoRows (cs ++ c ∷ [])
all_append [] c h n = (n, tt)
all_append (d ∷ cs) c h n = (h.0, all_append cs c h.1 n)

sound_append : (bs cs : List Branch) → AreSound bs → AreSound cs → AreSound (bs ++ cs)
sound_append [] cs h k = k
sound_append (b ∷ bs) cs h k = (h.0, sound_append bs cs h.1 k)

dropped_sound : (n : ℕ) (bs : List Branch) → AreSound bs → AreSound (drop n bs)
dropped_sound zero bs h = h
dropped_sound (suc n) [] h = tt
dropped_sound (suc n) (b ∷ bs) h = dropped_sound n bs h.1

last_sound : (k : ℕ) (bs : List Branch) → AreSound bs → AreSound (last k bs)
last_sound k bs h = dropped_sound (length bs - k) bs h

older_sound : (k : Option ℕ) (bs : List Branch) → AreSound bs → AreSound (older k bs)
older_sound None bs h = h
older_sound (Some k) bs h = last_sound k bs h

-- ---- copies that are gathered

gathered_sound : (c : Copied) → CarriesNoRows c → (is : List Item) → AreSoundItems is → AreSoundItems (gathered_items c is)
gathered_sound c n [] h = h
gathered_sound c n (Goal t k ∷ is) h = h
gathered_sound c n (CutTo k ∷ is) h = h
gathered_sound c n (CutFail k ∷ is) h = h
gathered_sound c n (CatchEnd k st x r ∷ is) h = h
gathered_sound c n (Collect k t ∷ is) h = h
gathered_sound c n (Gathered t cs ∷ is) h = (all_append cs c h.0 n, h.1)

gathered_or_not : (k : ℕ) (c : Copied) → CarriesNoRows c → (b : Branch) (bs : List Branch) (x : Bool) → IsSoundBranch b → AreSound bs
    → AreSound (gather k c bs) → AreSound (cond x (record b { items = gathered_items c b.items } ∷ bs) (b ∷ gather k c bs))
gathered_or_not k c n b bs true h i j = (record { items = gathered_sound c n b.items h.items; state = h.state; phase = h.phase }, i)
gathered_or_not k c n b bs false h i j = (h, j)

gather_sound : (k : ℕ) (c : Copied) → CarriesNoRows c → (bs : List Branch) → AreSound bs → AreSound (gather k c bs)
gather_sound k c n [] h = tt
gather_sound k c n (b ∷ bs) h = gathered_or_not k c n b bs (eqb (length bs) k) h.0 h.1 (gather_sound k c n bs h.1)

-- ---- balls

caught_sound : (ball : Copied) (st : State) (c r : Tree) (is : List Item) → CarriesNoRows ball → IsSoundState st → AreSoundItems is
    → IsSoundBranch (caught_branch ball st c r is)
caught_sound ball st c r is n h i =
    child_sound (call_of r ∷ is) (landed st (ball ∷ [])).state (caught_work st ball c) (tt, i)
    (landed_sound st (ball ∷ []) h) (landed_rows st (ball ∷ []) (n, tt)) n

pub handed_sound : (ball : Copied) → CarriesNoRows ball → (is : List Item) → AreSoundItems is → (bs next : List Branch) → AreSound bs
    → handed ball is bs ≡ Some next → AreSound next
handed_sound ball n [] i bs next h e = cc
handed_sound ball n (Goal t k ∷ is) i bs next h e = handed_sound ball n is i.1 bs next h e
handed_sound ball n (CutTo k ∷ is) i bs next h e = handed_sound ball n is i.1 bs next h e
handed_sound ball n (CutFail k ∷ is) i bs next h e = handed_sound ball n is i.1 bs next h e
handed_sound ball n (CatchEnd k st c r ∷ is) i bs next h e =
    let d : caught_branch ball st c r is ∷ last k bs ≡ next = cc in
    subst AreSound d (caught_sound ball st c r is n i.0 i.1, last_sound k bs h)
handed_sound ball n (Collect k t ∷ is) i bs next h e = handed_sound ball n is i.1 bs next h e
handed_sound ball n (Gathered t cs ∷ is) i bs next h e = handed_sound ball n is i.1 bs next h e

-- ---- settling

one_woken : (xs is : List Item) (x : SleeperState) → AreSoundItems (xs ++ is) → AreSoundItems (cons_option (woken_item x) xs ++ is)
one_woken xs is Sleeps h = h
one_woken xs is (Wakes g) h = (tt, h)

woken_sound : (s : Subst Text) (ks : List Sleeper) (is : List Item) → AreSoundItems is → AreSoundItems (woken s ks ++ is)
woken_sound s [] is h = h
woken_sound s (k ∷ ks) is h = one_woken (woken s ks) is (state_of s k.asleep) (woken_sound s ks is h)

no_forms : (rows : List Constraint) → rows ≡ [] → AreForms rows
no_forms rows e = subst AreForms (sym e) (λ c h. absurd h)

module _ (is : List Item) (st : State) (p : Pending) (items : AreSoundItems is) (state : IsSoundState st) (rows : p.rows ≡ []) where
  whole_state : (b : Branch) → Settles is st p (Kept b) → IsSoundState b.state
  whole_state b h = record {
    bounded = kept_bounded is st p state.bounded b h;
    forms = kept_forms is st p state.forms (no_forms p.rows rows) b h;
  }

  unified_sound : (u : Subst Text) (b : Branch) → SettlesUnified is st p u (Kept b) → IsSoundState b.state → IsSoundBranch b
  unified_sound u b (kept n j h fixed fixes) s =
      record { items = woken_sound (bindings_after st p u fixed) st.sleepers is items; state = s; phase = h }

  pub kept_sound : (b : Branch) → Settles is st p (Kept b) → IsSoundBranch b
  kept_sound b (unified u i h) = unified_sound u b h (whole_state b (unified u i h))

-- ---- what the first branch is for

abbrev pub IsSoundLook : Look → Type 0
IsSoundLook Over = ⊤
IsSoundLook (Settling is st p bs) = AreSoundItems is × IsSoundState st × (p.rows ≡ []) × IsSoundBall p.ball × AreSound bs
IsSoundLook (Moving bs) = AreSound bs
IsSoundLook (Collecting k t st bs) = AreSound bs
IsSoundLook (Selecting goal cut is st bs) = AreSoundItems is × IsSoundState st × Solvable st.linear × AreSound bs
IsSoundLook (Answering st bs) = IsSoundState st × Solvable st.linear × AreSound bs

rest_sound : (is : List Item) (st : State) (bs : List Branch) → AreSoundItems is → IsSoundState st → Solvable st.linear → AreSound bs
    → AreSound (settled is st ∷ bs)
rest_sound is st bs i h s b = (record { items = i; state = h; phase = s }, b)

items_sound : (is : List Item) (st : State) (bs : List Branch) → AreSoundItems is → IsSoundState st → Solvable st.linear → AreSound bs
    → IsSoundLook (look_at_items is st bs)
items_sound [] st bs i h s b = (h, s, b)
items_sound (Goal t k ∷ is) st bs i h s b = (i.1, h, s, b)
items_sound (CutTo k ∷ is) st bs i h s b = rest_sound is st (last k bs) i.1 h s (last_sound k bs b)
items_sound (CutFail k ∷ is) st bs i h s b = last_sound k bs b
items_sound (CatchEnd k su c r ∷ is) st bs i h s b = rest_sound is st bs i.1 h s b
items_sound (Collect k t ∷ is) st bs i h s b = b
items_sound (Gathered t cs ∷ is) st bs i h s b = (
  child_sound is (landed st cs).state
      (record no_work { equations = (t ≐ list_tree (landed st cs).terms) ∷ []; rows = (landed st cs).rows; told = (landed st cs).told })
      i.1 (landed_sound st cs h) (landed_rows st cs i.0) tt,
  b,
)

phase_sound : (x : Phase) (is : List Item) (st : State) (bs : List Branch) → AreSoundItems is → IsSoundState st → IsSoundPhase st x → AreSound bs
    → IsSoundLook (look_at_branch x is st bs)
phase_sound Settled is st bs i h s b = items_sound is st bs i h s b
phase_sound (Unsettled p) is st bs i h s b = (i, h, s.0, s.1, b)

pub look_sound : (bs : List Branch) → AreSound bs → IsSoundLook (look_at bs)
look_sound [] h = tt
look_sound (b ∷ bs) h = phase_sound b.phase b.items b.state bs h.0.items h.0.state h.0.phase h.1

-- ---- steps

abbrev pub IsSoundStep : Stepped → Type 0
IsSoundStep (Ball c) = CarriesNoRows c
IsSoundStep (Children m) = AreSound m.children

module _ (p : Place) (state : IsSoundState p.state) (rest : AreSoundItems p.rest) (goal : Tree) where
  replies : IsSoundReply (reply_of p goal)
  replies = reply_sound p state rest goal

  pub step_sound : (o : Stepped) → Steps p goal o → IsSoundStep o
  step_sound o (raises e) = refl
  step_sound o (throws e k) = ap (λ (x : Copied). x.rows) k
  step_sound o (copies {c = c} e k) = (subst IsSoundReply e replies c (ap (λ (x : Copied). x.rows) k), tt)
  step_sound o (makes e) = subst IsSoundReply e replies
  step_sound o (calls {some = some} e k) = clauses_sound p state rest goal some
  step_sound o (not_linear fixed e f g) = refl
  step_sound o (entailed fixed e f g h) = (subst IsSoundReply e replies, tt)
  step_sound o (not_entailed m fixed e f g h i) = tt
  step_sound o (expression_waits fixed e f g) = refl
  step_sound o (expression_false fixed e f g) = tt
  step_sound o (extent {q = q} fixed e f g h) = (subst IsSoundReply e replies q, tt)
  step_sound o (no_extent fixed e f g h) = tt

-- ---- turns

module _ (s : Search) (sound : AreSound s.branches) where
  looks : (l : Look) → look_at s.branches ≡ l → IsSoundLook l
  looks l e = subst IsSoundLook e (look_sound s.branches sound)

  pub turn_sound : (t : Search) (e : Event) → Turn s e t → AreSound t.branches
  turn_sound t e (turn.keeps {items} {st} {p} {bs} {b} h k) =
      let l = looks (Settling items st p bs) h in (kept_sound items st p l.0 l.1 l.2 b k, l.4)
  turn_sound t e (turn.prunes {items} {st} {p} {bs} h k i) = (looks (Settling items st p bs) h).4
  turn_sound t e (turn.hands_on {items} {st} {p} {bs} {next} {ball = ball} h k i j) =
      let l = looks (Settling items st p bs) h in
      handed_sound ball (subst IsSoundBall i l.3) items l.0 bs next l.4 j
  turn_sound t e (turn.escapes h k i j) = tt
  turn_sound t e (turn.moves {bs} h) = looks (Moving bs) h
  turn_sound t e (turn.collects {k} {t = u} {st} {bs} {c} h i) = gather_sound k c (ap (λ (x : Copied). x.rows) i) bs (looks (Collecting k u st bs) h)
  turn_sound t e (turn.steps {goal} {cut} {items} {st} {bs} {m} h k) =
      let l = looks (Selecting goal cut items st bs) h in
      sound_append m.children (older m.keeps bs) (step_sound (place_of s st items cut bs) l.1 l.0 (read st goal) (Children m) k) (older_sound m.keeps bs l.3)
  turn_sound t e (turn.catches {goal} {cut} {items} {st} {bs} {next} {ball} h k i) =
      let l = looks (Selecting goal cut items st bs) h in
      handed_sound ball (step_sound (place_of s st items cut bs) l.1 l.0 (read st goal) (Ball ball) k) items l.0 bs next l.3 i
  turn_sound t e (turn.throws h k i) = tt
  turn_sound t e (turn.answers {st} {bs} h) = (looks (Answering st bs) h).2
  turn_sound t e (turn.ends h) = sound
