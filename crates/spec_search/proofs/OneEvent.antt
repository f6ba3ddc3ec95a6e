-- All turns of one search show the same.
use Rattle.std.proofs.Common.{◌≡◌, ℕ, List, [], Option, Some, None, refl, sym, ap, ◌∙◌, subst}
use Rattle.spec_numbers.specs.Texts.{Text}
use Rattle.spec_syntax.specs.Trees.{Tree}
use Rattle.spec_branch.specs.Branch.{State, Item, Branch, Copied, Pending, read}
use Rattle.spec_branch.specs.Settling.{Settles, Kept, Pruned, Why}
use Rattle.spec_branch.proofs.Determined as settling
use Rattle.spec_search.specs.Replies.{Place, Made}
use Rattle.spec_search.specs.Steps.{Steps, Ball, Children}
use Rattle.spec_search.specs.Balls.{handed}
use Rattle.spec_search.specs.Search.{Search, Look, Over, Settling, Moving, Collecting, Selecting, Answering, look_at}
use Rattle.spec_search.specs.Turns.{Turn, Event, Wrote, Answered, Threw, Ended, keeps, prunes, hands_on, escapes, moves, collects, steps, catches, throws, answers, ends, place_of}
use Rattle.spec_search.proofs.OneStep.{Alike, one_step, both_call, steps_alike}

-- ---- balls

-- a ball shows, and ends the search, where nothing catches it
abbrev pub ball_event : Copied → Option (List Branch) → Event
ball_event ball None = Threw ball
ball_event ball (Some bs) = Wrote []

-- a pruned branch shows its ball, if it has one
abbrev pub pruned_event : List Item → List Branch → Option Copied → Event
pruned_event items bs None = Wrote []
pruned_event items bs (Some ball) = ball_event ball (handed ball items bs)

module _ (s : Search) where
  -- ---- what is shown where a goal is selected

  data Chooses (goal : Tree) (cut : ℕ) (items : List Item) (st : State) (bs : List Branch) : Event → Type 0 where
    made : (m : Made) → Steps (place_of s st items cut bs) (read st goal) (Children m)
        → Chooses goal cut items st bs (Wrote m.output)
    fell : (ball : Copied) → Steps (place_of s st items cut bs) (read st goal) (Ball ball)
        → Chooses goal cut items st bs (ball_event ball (handed ball items bs))

  no_ball : (p : Place) (goal : Tree) (m : Made) (ball : Copied) → Alike p goal (Children m) (Ball ball) → ⊥
  no_ball p goal m ball (one_step e) = cc
  no_ball p goal m ball (both_call a b e f) = cc

  same_output : (p : Place) (goal : Tree) (m n : Made) → Alike p goal (Children m) (Children n)
      → m.output ≡ n.output
  same_output p goal m n (one_step e) = let c : m ≡ n = cc in ap (λ (x : Made). x.output) c
  same_output p goal m n (both_call a b e f) =
      let c : m ≡ Rattle.spec_search.specs.Replies.made p a = cc in
      let d : n ≡ Rattle.spec_search.specs.Replies.made p b = cc in
      ap (λ (x : Made). x.output) c ∙ sym (ap (λ (x : Made). x.output) d)

  same_ball : (p : Place) (goal : Tree) (a b : Copied) → Alike p goal (Ball a) (Ball b) → a ≡ b
  same_ball p goal a b (one_step e) = cc
  same_ball p goal a b (both_call x y e f) = cc

  one_choice : (goal : Tree) (cut : ℕ) (items : List Item) (st : State) (bs : List Branch) (e f : Event)
      → Chooses goal cut items st bs e → Chooses goal cut items st bs f → e ≡ f
  one_choice goal cut items st bs e f (made m h) (made n k) =
      let p : Place = place_of s st items cut bs in
      ap (λ (t : Text). Wrote t) (same_output p (read st goal) m n (steps_alike p (read st goal) (Children m) (Children n) h k))
  one_choice goal cut items st bs e f (made m h) (fell ball k) =
      let p : Place = place_of s st items cut bs in
      absurd (no_ball p (read st goal) m ball (steps_alike p (read st goal) (Children m) (Ball ball) h k))
  one_choice goal cut items st bs e f (fell ball h) (made m k) =
      let p : Place = place_of s st items cut bs in
      absurd (no_ball p (read st goal) m ball (steps_alike p (read st goal) (Children m) (Ball ball) k h))
  one_choice goal cut items st bs e f (fell a h) (fell b k) =
      let p : Place = place_of s st items cut bs in
      ap (λ x. ball_event x (handed x items bs)) (same_ball p (read st goal) a b (steps_alike p (read st goal) (Ball a) (Ball b) h k))

  -- ---- what is shown where a branch is settled

  data Decides (items : List Item) (st : State) (p : Pending) (bs : List Branch) : Event → Type 0 where
    kept : (b : Branch) → Settles items st p (Kept b) → Decides items st p bs (Wrote [])
    pruned : (why : Why) → Settles items st p (Pruned why) → Decides items st p bs (pruned_event items bs p.ball)

  one_decision : (items : List Item) (st : State) (p : Pending) (bs : List Branch) (e f : Event)
      → Decides items st p bs e → Decides items st p bs f → e ≡ f
  one_decision items st p bs e f (kept b h) (kept c k) = refl
  one_decision items st p bs e f (kept b h) (pruned why k) = absurd (settling.never_both items st p b why h k)
  one_decision items st p bs e f (pruned why h) (kept b k) = absurd (settling.never_both items st p b why k h)
  one_decision items st p bs e f (pruned why h) (pruned other k) = refl

  -- ---- what is shown, by what the first branch is for

  abbrev Shows : Look → Event → Type 0
  Shows Over e = e ≡ Ended
  Shows (Settling items st p bs) e = Decides items st p bs e
  Shows (Moving bs) e = e ≡ Wrote []
  Shows (Collecting k t st bs) e = e ≡ Wrote []
  Shows (Selecting goal cut items st bs) e = Chooses goal cut items st bs e
  Shows (Answering st bs) e = e ≡ Answered st s.database.operators

  -- a pruned branch, given what its ball comes to
  falls : (items : List Item) (st : State) (p : Pending) (bs : List Branch) (why : Why)
      → Settles items st p (Pruned why) → (ball : Option Copied) → p.ball ≡ ball → (e : Event)
      → pruned_event items bs ball ≡ e → Decides items st p bs e
  falls items st p bs why h ball g e k =
      subst (λ x. Decides items st p bs x) (ap (pruned_event items bs) g ∙ k) (pruned why h)

  shows : {e : Event} {t : Search} → Turn s e t → Shows (look_at s.branches) e
  shows (keeps {b = b} h k) = subst (λ l. Shows l (Wrote [])) (sym h) (kept b k)
  shows (prunes {items} {st} {p} {bs} {why} h k g) =
      subst (λ l. Shows l (Wrote [])) (sym h) (falls items st p bs why k None g (Wrote []) refl)
  shows (hands_on {items} {st} {p} {bs} {next} {why} {ball} h k g i) =
      subst (λ l. Shows l (Wrote [])) (sym h) (falls items st p bs why k (Some ball) g (Wrote []) (ap (ball_event ball) i))
  shows (escapes {items} {st} {p} {bs} {why} {ball} h k g i) =
      subst (λ l. Shows l (Threw ball)) (sym h) (falls items st p bs why k (Some ball) g (Threw ball) (ap (ball_event ball) i))
  shows (moves h) = subst (λ l. Shows l (Wrote [])) (sym h) refl
  shows (collects h k) = subst (λ l. Shows l (Wrote [])) (sym h) refl
  shows (steps {m = m} h k) = subst (λ l. Shows l (Wrote m.output)) (sym h) (made m k)
  shows (catches {goal} {cut} {items} {st} {bs} {next} {ball} h k i) =
      subst (λ l. Shows l (Wrote [])) (sym h) (subst (λ e. Chooses goal cut items st bs e) (ap (ball_event ball) i) (fell ball k))
  shows (throws {goal} {cut} {items} {st} {bs} {ball} h k i) =
      subst (λ l. Shows l (Threw ball)) (sym h) (subst (λ e. Chooses goal cut items st bs e) (ap (ball_event ball) i) (fell ball k))
  shows (answers {st = st} h) = subst (λ l. Shows l (Answered st s.database.operators)) (sym h) refl
  shows (ends h) = subst (λ l. Shows l Ended) (sym h) refl

  shows_once : (l : Look) (e f : Event) → Shows l e → Shows l f → e ≡ f
  shows_once Over e f a b = a ∙ sym b
  shows_once (Settling items st p bs) e f a b = one_decision items st p bs e f a b
  shows_once (Moving bs) e f a b = a ∙ sym b
  shows_once (Collecting k t st bs) e f a b = a ∙ sym b
  shows_once (Selecting goal cut items st bs) e f a b = one_choice goal cut items st bs e f a b
  shows_once (Answering st bs) e f a b = a ∙ sym b

  pub one_event : (e f : Event) (t u : Search) → Turn s e t → Turn s f u → e ≡ f
  one_event e f t u h k = shows_once (look_at s.branches) e f (shows h) (shows k)
