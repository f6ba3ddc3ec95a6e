-- What a turn comes to, by what the first branch is for; and the turns of searches that are the same.
use Rattle.std.proofs.Common.{◌≡◌, ℕ, List, [], ◌∷◌, Option, Some, None, refl, sym, ap, subst}
use Rattle.spec_syntax.specs.Trees.{Tree}
use Rattle.spec_branch.specs.Branch.{State, Item, Branch, Copied, Pending, read, plain_copy}
use Rattle.spec_branch.specs.Settling.{Settles, Kept, Pruned, Why}
use Rattle.spec_search.specs.Replies.{Made}
use Rattle.spec_search.specs.Steps.{Steps, Ball, Children}
use Rattle.spec_search.specs.Balls.{handed}
use Rattle.spec_search.proofs.OneEvent.{ball_event, pruned_event}
use Rattle.spec_search.specs.Search.{Search, Look, Over, Settling, Moving, Collecting, Selecting, Answering, look_at, gather}
use Rattle.spec_search.specs.Turns.{Turn, Event, Wrote, Answered, Threw, Ended, keeps, prunes, hands_on, escapes, moves, collects, steps, catches, throws, answers, ends, place_of, with_branches, after_removal, after_step, after_ball}

-- ---- what a turn comes to

abbrev pub ball_branches : Option (List Branch) → List Branch
ball_branches None = []
ball_branches (Some bs) = bs

abbrev pub pruned_branches : List Item → List Branch → Option Copied → List Branch
pruned_branches is bs None = bs
pruned_branches is bs (Some ball) = ball_branches (handed ball is bs)

module _ (s : Search) where
  pub data Chooses (goal : Tree) (cut : ℕ) (is : List Item) (st : State) (bs : List Branch) : Event → Search → Type 0 where
    made : (m : Made) → Steps (place_of s st is cut bs) (read st goal) (Children m)
        → Chooses goal cut is st bs (Wrote m.output) (after_step s m bs)
    fell : (ball : Copied) → Steps (place_of s st is cut bs) (read st goal) (Ball ball)
        → Chooses goal cut is st bs (ball_event ball (handed ball is bs)) (after_ball s (ball_branches (handed ball is bs)))

  pub data Decides (is : List Item) (st : State) (p : Pending) (bs : List Branch) : Event → Search → Type 0 where
    kept : (b : Branch) → Settles is st p (Kept b)
        → Decides is st p bs (Wrote []) (record s { database = after_removal p.removes s.database; branches = b ∷ bs })
    pruned : (why : Why) → Settles is st p (Pruned why)
        → Decides is st p bs (pruned_event is bs p.ball) (with_branches (pruned_branches is bs p.ball) s)

  abbrev pub After : Look → Event → Search → Type 0
  After Over e t = (e ≡ Ended) × (t ≡ s)
  After (Settling is st p bs) e t = Decides is st p bs e t
  After (Moving bs) e t = (e ≡ Wrote []) × (t ≡ with_branches bs s)
  After (Collecting k u st bs) e t = (e ≡ Wrote []) × (t ≡ with_branches (gather k (plain_copy (read st u)) bs) s)
  After (Selecting goal cut is st bs) e t = Chooses goal cut is st bs e t
  After (Answering st bs) e t = (e ≡ Answered st s.database.operators) × (t ≡ with_branches bs s)

  -- a pruned branch, given its ball
  falls : (is : List Item) (st : State) (p : Pending) (bs : List Branch) (why : Why) → Settles is st p (Pruned why)
      → (ball : Option Copied) → p.ball ≡ ball
      → Decides is st p bs (pruned_event is bs ball) (with_branches (pruned_branches is bs ball) s)
  falls is st p bs why h ball g =
      subst (λ x. Decides is st p bs (pruned_event is bs x) (with_branches (pruned_branches is bs x) s)) g (pruned why h)

  pub after : {e : Event} {t : Search} → Turn s e t → After (look_at s.branches) e t
  after (keeps {p = p} {bs = bs} {b = b} h k) =
      subst (λ l. After l (Wrote []) (record s { database = after_removal p.removes s.database; branches = b ∷ bs })) (sym h) (kept b k)
  after (prunes {items} {st} {p} {bs} {why} h k g) = subst (λ l. After l (Wrote []) (with_branches bs s)) (sym h) (falls items st p bs why k None g)
  after (hands_on {items} {st} {p} {bs} {next} {why} {ball} h k g i) =
      subst (λ l. After l (Wrote []) (with_branches next s)) (sym h)
      (subst (λ x. Decides items st p bs (ball_event ball x) (with_branches (ball_branches x) s)) i (falls items st p bs why k (Some ball) g))
  after (escapes {items} {st} {p} {bs} {why} {ball} h k g i) =
      subst (λ l. After l (Threw ball) (with_branches [] s)) (sym h)
      (subst (λ x. Decides items st p bs (ball_event ball x) (with_branches (ball_branches x) s)) i (falls items st p bs why k (Some ball) g))
  after (moves {bs = bs} h) = subst (λ l. After l (Wrote []) (with_branches bs s)) (sym h) (refl, refl)
  after (collects {k} {t} {st} {bs} {c} h i) =
      subst (λ l. After l (Wrote []) (with_branches (gather k c bs) s)) (sym h) (refl, ap (λ x. with_branches (gather k x bs) s) i)
  after (steps {bs = bs} {m = m} h k) = subst (λ l. After l (Wrote m.output) (after_step s m bs)) (sym h) (made m k)
  after (catches {goal} {cut} {items} {st} {bs} {next} {ball} h k i) =
      subst (λ l. After l (Wrote []) (after_ball s next)) (sym h)
      (subst (λ x. Chooses goal cut items st bs (ball_event ball x) (after_ball s (ball_branches x))) i (fell ball k))
  after (throws {goal} {cut} {items} {st} {bs} {ball} h k i) =
      subst (λ l. After l (Threw ball) (after_ball s [])) (sym h)
      (subst (λ x. Chooses goal cut items st bs (ball_event ball x) (after_ball s (ball_branches x))) i (fell ball k))
  after (answers {st = st} {bs = bs} h) = subst (λ l. After l (Answered st s.database.operators) (with_branches bs s)) (sym h) (refl, refl)
  after (ends h) = subst (λ l. After l Ended s) (sym h) (refl, refl)
