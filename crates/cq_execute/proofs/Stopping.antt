-- How a search comes to where its query stops at a goal.
use Rattle.std.proofs.Common.{◌≡◌, ◌<◌, ℕ, List, [], ◌∷◌, None, refl, sym, subst, inl, inr}
use Rattle.spec_syntax.specs.Trees.{Tree}
use Rattle.spec_branch.specs.Branch.{State, Item, Branch, Pending, read}
use Rattle.spec_search.specs.Replies.{Place, Made, child, made}
use Rattle.spec_search.specs.Search.{Search, look_at, Selecting}
use Rattle.spec_search.specs.Steps.{Steps, children}
use Rattle.spec_search.specs.Turns as turn
use Rattle.spec_search.specs.Turns.{place_of, after_step, with_branches}
use Rattle.spec_transcript.specs.Causes.{Budgets, Cause}
use Rattle.spec_transcript.specs.Causes as cause
use Rattle.spec_transcript.specs.Due.{Due}
use Rattle.spec_engine.specs.Coming.{at_once, after}
use Rattle.spec_engine.specs.Coming as coming
use Rattle.cq_branch.specs.Stops.{ComesToStop}
use Rattle.cq_branch.proofs.Stopping.{refuses, takes}
use Rattle.cq_frac.specs.declared.Pair.{Pair}
use Rattle.cq_store.specs.declared.store.StoreFault.TheVariants as fault
use Rattle.cq_questions.proofs.Answered.{overflow_due, pivots_due}
use Rattle.cq_execute.specs.Asked.{IsStoppedAt}

module _ (budgets : Budgets) (s : Search) (goal : Tree) (cut : ℕ) (items : List Item) (st : State) (behind : List Branch)
    (look : look_at s.branches ≡ Selecting goal cut items st behind) (few : s.selected < budgets.steps) where
  abbrev place : Place
  place = place_of s st items cut behind

  -- in the goal's own turn
  stops_here : (why : Cause) → Due budgets None s why → ComesToStop budgets why s
  stops_here why d = (with_branches [] s, coming.stops {r = s} {cause = why} at_once (coming.stops (inr few) d), refl)

  -- in the turn of its one child
  module _ (work : Pending) (step : Steps place (read st goal) (children place (child items st work ∷ []))) where
    abbrev one : Made
    one = made place (child items st work ∷ [])

    abbrev behind_it : Search
    behind_it = after_step s one behind

    stops_behind : (why : Cause) → Due budgets None behind_it why → ComesToStop budgets why s
    stops_behind why d = (
      with_branches [] behind_it,
      coming.stops {r = behind_it} {cause = why} (after (inr few) (turn.steps look step) at_once) (coming.stops (inl refl) d),
      refl,
    )

  pub stop_refuses : (pair : Pair) → IsStoppedAt budgets.pivots (fault.Overflow pair) place (read st goal) → ComesToStop budgets (cause.Overflow pair) s
  stop_refuses pair (inl h) = stops_here (cause.Overflow pair) (overflow_due budgets s goal cut items st behind look pair h)
  stop_refuses pair (inr h) =
      stops_behind h.work h.step (cause.Overflow pair) (refuses budgets (behind_it h.work h.step) items st h.work behind pair refl h.holds)

  takes_all : IsStoppedAt budgets.pivots (fault.Pivots budgets.pivots) place (read st goal) → ComesToStop budgets (cause.Pivots budgets.pivots) s
  takes_all (e, inl h) = stops_here (cause.Pivots budgets.pivots) (pivots_due budgets s goal cut items st behind look h)
  takes_all (e, inr h) =
      stops_behind h.work h.step (cause.Pivots budgets.pivots) (takes budgets (behind_it h.work h.step) items st h.work behind refl h.holds)

  pub stop_takes : (n : ℕ) → IsStoppedAt budgets.pivots (fault.Pivots n) place (read st goal) → ComesToStop budgets (cause.Pivots n) s
  stop_takes n h =
      subst (λ (k : ℕ). ComesToStop budgets (cause.Pivots k) s) (sym h.0)
      (takes_all (subst (λ (k : ℕ). IsStoppedAt budgets.pivots (fault.Pivots k) place (read st goal)) h.0 h))
