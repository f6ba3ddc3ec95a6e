-- Runs of searches that are the same leave the same marks as far as they go, and one that left fewer can go on.
use Rattle.std.proofs.Common.{inl, inr, ◌≤◌, length, length-append, arith, ◌≡◌, ℕ, List, [], ◌∷◌, ◌++◌, refl, sym, ap, subst, ◌∙◌, append_assoc}
use Rattle.std.proofs.lemmas.Bool.{eq-eqb}
use Rattle.std.proofs.lemmas.Bool.Decides.{leb_tells}
use Rattle.spec_builtins.specs.Bodies.{as_goal}
use Rattle.spec_syntax.specs.Trees.{Tree}
use Rattle.spec_branch.specs.Branch.{State, Branch}
use Rattle.spec_branch.specs.Alike.{with_linear}
use Rattle.spec_linear.proofs.Lists.{alike_sym}
use Rattle.spec_search.specs.Database.{Database}
use Rattle.spec_search.specs.Search.{Search, start, empty_state, look_at}
use Rattle.spec_search.specs.Turns.{Turn, Event, Wrote}
use Rattle.spec_search.specs.Runs.{Mark, marks, Run, begins, goes_on, SameState, SameEvent, same, same_answer, SameMarks, no_mark, one_more, SameAsFar, first_ends, second_ends, both_go, CatchesUp}
use Rattle.spec_search.proofs.Shapes.{Rung, OnFirst, OnSecond, OnBoth, whole, no_item, goal, SameBranches}
use Rattle.spec_search.proofs.Replies.{Same}
use Rattle.spec_search.proofs.Turning.{after}
use Rattle.spec_search.proofs.SameTurns.{SameLook, both_over, look_same, search_of, turned, dropped, drop_doomed, SameSearch, SameTurn, SameSoFar, first_alone, second_alone, both_turn, same_so_far}
use Rattle.spec_search.proofs.Following.{HasTurn, has_turn}

-- ---- marks

-- a turn that selects no goal and writes nothing leaves no mark
no_mark_left : (n m : ℕ) (e : Event) → e ≡ Wrote [] → m ≡ n → marks n e m ≡ []
no_mark_left n m e h k =
    let d : marks n (Wrote []) m ≡ [] = rw (eq-eqb n m (sym k)) in
    ap (λ x. marks n x m) h ∙ d

same_marks : (xs : List Mark) {ms ns : List Mark} → SameMarks ms ns → SameMarks (xs ++ ms) (xs ++ ns)
same_marks [] h = h
same_marks (x ∷ xs) h = one_more (record { event = same x.event; selected = refl }) (same_marks xs h)

-- the marks of turns that show the same, and what follows
marks_same : (n m : ℕ) {e f : Event} {ms ns : List Mark} → SameEvent e f → SameMarks ms ns
    → SameMarks (marks n e m ++ ms) (marks n f m ++ ns)
marks_same n m (same e) h = same_marks (marks n e m) h
marks_same n m (same_answer x) h = one_more (record { event = same_answer x; selected = refl }) h

as_many : (n m : ℕ) {e f : Event} → SameEvent e f → length (marks n e m) ≡ length (marks n f m)
as_many n m (same e) = refl
as_many n m (same_answer x) = refl

module _ (s t u w : Search) (e f : Event) (x : SameSearch s u) (y : SameTurn e t f w) where
  -- the marks of two turns that show the same
  abbrev here : List Mark
  here = marks s.selected e t.selected

  abbrev there : List Mark
  there = marks u.selected f w.selected

  same_counts : marks s.selected f t.selected ≡ there
  same_counts = ap (λ n. marks n f t.selected) x.selected ∙ ap (λ n. marks u.selected f n) y.search.selected

  turns_same : {ms ns : List Mark} → SameMarks ms ns → SameMarks (here ++ ms) (there ++ ns)
  turns_same {ms} {ns} h = subst (λ z. SameMarks (here ++ ms) (z ++ ns)) same_counts (marks_same s.selected t.selected y.event h)

  turns_as_many : length here ≡ length there
  turns_as_many = as_many s.selected t.selected y.event ∙ ap length same_counts

-- ---- one search follows a run of the other

-- a run from the search that leaves the same marks
record Leaves (s : Search) (ns : List Mark) : Type 0 where
  more : List Mark
  reached : Search
  run : Run s more reached
  marks_are : SameMarks more ns

module _ (db : Database) (n : ℕ) where
  -- a turn that leaves no mark, first
  after_silent : {s t : Search} {ns : List Mark} (e : Event) → Turn s e t → e ≡ Wrote [] → t.selected ≡ s.selected → Leaves t ns → Leaves s ns
  after_silent {s} {t} e i h k r =
      record {
        more = r.more;
        reached = r.reached;
        run = subst (λ z. Run s (z ++ r.more) r.reached) (no_mark_left s.selected t.selected e h k) (goes_on i r.run);
        marks_are = r.marks_are;
      }

  -- a turn of each
  after_turn : (ps qs : List Branch) (f : Event) (v : Search) {os : List Mark} → Same ps qs → (h : HasTurn (search_of db n ps))
      → SameTurn h.event h.next f v → ((t : Search) → SameSearch t v → Leaves t os) → Leaves (search_of db n ps) (marks n f v.selected ++ os)
  after_turn ps qs f v z h y k =
      let r = k h.next y.search in
      record {
        more = marks n h.event h.next.selected ++ r.more;
        reached = r.reached;
        run = goes_on h.turn r.run;
        marks_are = turns_same (search_of db n ps) h.next (search_of db n qs) v h.event f (record { database = refl; selected = refl; same = z }) y r.marks_are;
      }

  front_turn : (ps qs : List Branch) → Same ps qs → SameLook (look_at ps) (look_at qs) → (f : Event) (v : Search) {os : List Mark}
      → Turn (search_of db n qs) f v → ((t : Search) → SameSearch t v → Leaves t os) → Leaves (search_of db n ps) (marks n f v.selected ++ os)
  front_turn ps qs z x f v j k =
      let h = has_turn db n ps qs x refl f v (after (search_of db n qs) j) in
      after_turn ps qs f v z h (turned db n ps qs z x (after (search_of db n ps) h.turn) (after (search_of db n qs) j)) k

  follows : (x : List Rung) (ps qs : List Branch) → SameBranches x ps qs → (f : Event) (v : Search) {os : List Mark}
      → Turn (search_of db n qs) f v → ((t : Search) → SameSearch t v → Leaves t os) → Leaves (search_of db n ps) (marks n f v.selected ++ os)
  follows [] [] [] h f v j k = front_turn [] [] (record { shape = []; branches = tt }) both_over f v j k
  follows (OnFirst ∷ x) (p ∷ ps) qs h f v j k = after_silent (Wrote []) (drop_doomed db n p ps h.0) refl refl (follows x ps qs h.1 f v j k)
  follows (OnSecond ∷ x) ps (q ∷ qs) h f v {os = os} j k =
      let d = dropped db n q qs h.0 j in
      subst (λ z. Leaves (search_of db n ps) (z ++ os)) (sym (no_mark_left n v.selected f d.event (ap (λ (y : Search). y.selected) d.search)))
      (k (search_of db n ps) (subst (λ y. SameSearch (search_of db n ps) y) (sym d.search) (record { database = refl; selected = refl; same = record { shape = x; branches = h.1 } })))
  follows (OnBoth ∷ x) (p ∷ ps) (q ∷ qs) h f v j k =
      front_turn (p ∷ ps) (q ∷ qs) (record { shape = OnBoth ∷ x; branches = h })
      (look_same x p.state q.state h.0.state ps qs h.1 p.phase q.phase h.0.phase h.0.items) f v j k
  follows x ps qs h f v j k = absurd h

follows_turn : (s u : Search) → SameSearch s u → (f : Event) (v : Search) (os : List Mark) → Turn u f v
    → ((t : Search) → SameSearch t v → Leaves t os) → Leaves s (marks u.selected f v.selected ++ os)
follows_turn s u h f v os j k =
    let path : search_of s.database s.selected u.branches ≡ u = λ i. record { database = h.database i; branches = u.branches; selected = h.selected i } in
    subst (λ (y : Search). Turn y f v → Leaves s (marks y.selected f v.selected ++ os)) path
    (λ i. follows s.database s.selected h.same.shape s.branches u.branches h.same.branches f v i k) j

follows_run : {u v : Search} {ns : List Mark} → Run u ns v → (s : Search) → SameSearch s u → Leaves s ns
follows_run begins s x = record { more = []; reached = s; run = begins; marks_are = no_mark }
follows_run (goes_on {s = u} {t = v} {e = f} {ms = os} j r) s x =
    follows_turn s u x f v os j (λ t y. follows_run r t y)

-- ---- a run that left fewer marks catches up

abbrev Catches : Search → List Mark → Search → Type 0
Catches s ms z = (u v : Search) (ns : List Mark) → SameSearch s u → Run u ns v → length ms ≤ length ns → CatchesUp ms z ns

nothing_more : (xs : List Mark) (z : Search) → length xs ≤ 0 → CatchesUp xs z []
nothing_more [] z h = record { more = []; reached = z; run = begins; same = no_mark }
nothing_more (x ∷ xs) z h = absurd (omega arith)

-- one turn of each search, given what follows
one_each : (s t u w z : Search) (e f : Event) (ms os : List Mark) → SameSearch s u → SameSoFar s e t u f w
    → (SameSearch t u → length ms ≤ length (marks u.selected f w.selected ++ os) → CatchesUp ms z (marks u.selected f w.selected ++ os))
    → (SameSearch s w → length (marks s.selected e t.selected ++ ms) ≤ length os → CatchesUp (marks s.selected e t.selected ++ ms) z os)
    → (SameSearch t w → length ms ≤ length os → CatchesUp ms z os)
    → length (marks s.selected e t.selected ++ ms) ≤ length (marks u.selected f w.selected ++ os)
    → CatchesUp (marks s.selected e t.selected ++ ms) z (marks u.selected f w.selected ++ os)
one_each s t u w z e f ms os x (first_alone i j y) g h k =
    subst (λ xs. length (xs ++ ms) ≤ length (marks u.selected f w.selected ++ os) → CatchesUp (xs ++ ms) z (marks u.selected f w.selected ++ os))
    (sym (no_mark_left s.selected t.selected e i j)) (g y)
one_each s t u w z e f ms os x (second_alone i j y) g h k =
    subst (λ xs. length (marks s.selected e t.selected ++ ms) ≤ length (xs ++ os) → CatchesUp (marks s.selected e t.selected ++ ms) z (xs ++ os))
    (sym (no_mark_left u.selected w.selected f i j)) (h y)
one_each s t u w z e f ms os x (both_turn y) g h k =
    λ few.
    let a = length-append (marks s.selected e t.selected) ms in
    let b = length-append (marks u.selected f w.selected) os in
    let c = turns_as_many s t u w e f x y in
    let r = k y.search (omega arith) in
    record {
      more = r.more;
      reached = r.reached;
      run = r.run;
      same = subst (λ xs. SameMarks xs (marks u.selected f w.selected ++ os)) (sym (append_assoc (marks s.selected e t.selected) ms r.more)) (turns_same s t u w e f x y r.same);
    }

one_turn : (s t z : Search) (e : Event) (ms : List Mark) → Turn s e t → Catches t ms z → (u v : Search) (ns : List Mark)
    → Run u ns v → SameSearch s u → length (marks s.selected e t.selected ++ ms) ≤ length ns → CatchesUp (marks s.selected e t.selected ++ ms) z ns
one_turn s t z e ms h k u v ns begins x few = nothing_more (marks s.selected e t.selected ++ ms) z few
one_turn s t z e ms h k u v ns (goes_on {t = w} {e = f} {ms = os} i r) x few =
    one_each s t u w z e f ms os x (same_so_far s u x e f t w h i) (λ y. k u v (marks u.selected f w.selected ++ os) y (goes_on i r))
    (λ y. one_turn s t z e ms h k w v os r y) (λ y. k w v os y r) few

caught_up : {s : Search} (z : Search) {ns : List Mark} → Leaves s ns → s ≡ z → CatchesUp [] z ns
caught_up {s} z r e =
    record { more = r.more; reached = r.reached; run = subst (λ x. Run x r.more r.reached) e r.run; same = r.marks_are }

all_catch : {s z : Search} {ms : List Mark} → Run s ms z → Catches s ms z
all_catch (begins {s = s}) = λ u v ns x r few. caught_up s (follows_run r s x) refl
all_catch {z = z} (goes_on {s = s} {t = t} {e = e} {ms = ms} h r) = λ u v ns x k few. one_turn s t z e ms h (all_catch r) u v ns k x few

-- ---- from the start of a query

joined : {s t u : Search} {ls ms : List Mark} → Run s ls t → Run t ms u → Run s (ls ++ ms) u
joined begins k = k
joined {u = u} {ms = ns} (goes_on {s = s} {t = t} {e = e} {ms = ms} h r) k =
    subst (λ x. Run s x u) (sym (append_assoc (marks s.selected e t.selected) ms ns)) (goes_on h (joined r k))

started : (db : Database) (query : Tree) (n : ℕ) → SameSearch (start db query n) (start db query n)
started db query n =
    let here : SameState (empty_state n) (empty_state n) = record { state = refl; linear = λ x. ((λ h. h), (λ h. h)) } in
    record {
      database = refl;
      selected = refl;
      same = record { shape = OnBoth ∷ []; branches = (record { items = goal (as_goal query) whole refl refl no_item; state = here; phase = refl }, tt) };
    }

behind_same : (ls : List Mark) {ms ns : List Mark} → SameMarks (ls ++ ms) (ls ++ ns) → SameMarks ms ns
behind_same [] h = h
behind_same (l ∷ ls) (one_more x h) = behind_same ls h

module _ (db : Database) (query : Tree) (n : ℕ) (ls ms ns : List Mark) (s t u : Search) where
  pub catches_up : Run (start db query n) ls s → Run s ms t → Run s ns u → length ms ≤ length ns → CatchesUp ms t ns
  catches_up h i j few =
      let a = length-append ls ms in
      let b = length-append ls ns in
      let r = all_catch (joined h i) (start db query n) u (ls ++ ns) (started db query n) (joined h j) (omega arith) in
      record {
        more = r.more;
        reached = r.reached;
        run = r.run;
        same = behind_same ls (subst (λ xs. SameMarks xs (ls ++ ns)) (append_assoc ls ms r.more) r.same);
      }

-- ---- as far as both go

first_shorter : (ms more ns : List Mark) → SameMarks (ms ++ more) ns → SameAsFar ms ns
first_shorter [] more ns h = first_ends
first_shorter (m ∷ ms) more ns (one_more x h) = both_go x (first_shorter ms more _ h)

state_back : (st su : State) → SameState st su → SameState su st
state_back st su h =
    record {
      state = ap (λ (x : State). with_linear st.linear x) (sym h.state);
      linear = alike_sym st.linear su.linear h.linear;
    }

event_back : {e f : Event} → SameEvent e f → SameEvent f e
event_back (same e) = same e
event_back (same_answer {st = st} {su = su} h) = same_answer (state_back st su h)

second_shorter : (ns more ms : List Mark) → SameMarks (ns ++ more) ms → SameAsFar ms ns
second_shorter [] more ms h = second_ends
second_shorter (n ∷ ns) more ms (one_more x h) =
    both_go (record { event = event_back x.event; selected = sym x.selected }) (second_shorter ns more _ h)

pub runs_agree : (db : Database) (query : Tree) (n : ℕ) (ls ms ns : List Mark) (s t u : Search) → Run (start db query n) ls s
    → Run s ms t → Run s ns u → SameAsFar ms ns
runs_agree db query n ls ms ns s t u h i j =
    elim (leb_tells (length ms) (length ns)) [
      | inl x ↦ let r = catches_up db query n ls ms ns s t u h i j x.1 in first_shorter ms r.more ns r.same
      | inr x ↦ let r = catches_up db query n ls ns ms s u t h j i (omega arith) in second_shorter ns r.more ms r.same
    ]
