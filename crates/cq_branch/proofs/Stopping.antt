-- Why a search stops while a branch is settled.
use Rattle.std.proofs.Common.{◌≡◌, ◌<◌, ℕ, List, [], ◌∷◌, None, refl, inl, inr}
use Rattle.spec_syntax.specs.Trees.{Tree}
use Rattle.spec_branch.specs.Branch.{State, Item, Branch, Pending, read}
use Rattle.spec_search.specs.Replies.{Made, child, makes, made}
use Rattle.spec_search.specs.Rows.{reply_of}
use Rattle.spec_search.specs.Search.{Search, look_at, Selecting, Settling}
use Rattle.spec_search.specs.Turns.{place_of, after_step, with_branches}
use Rattle.spec_transcript.specs.Causes.{Budgets, Cause, Overflow, Pivots}
use Rattle.spec_transcript.specs.Due.{Due, settles}
use Rattle.spec_transcript.specs.Due as due
use Rattle.spec_engine.specs.Coming.{Tells, Stops, at_once, after}
use Rattle.spec_engine.specs.Coming as coming
use Rattle.spec_engine.proofs.Made.{goal_made}
use Rattle.cq_frac.specs.declared.Pair.{Pair}
use Rattle.cq_settle.specs.Settled.{MayRefuse, MayTake}

pub refuses : (budgets : Budgets) (s : Search) (items : List Item) (st : State) (p : Pending) (behind : List Branch) (pair : Pair)
    → look_at s.branches ≡ Settling items st p behind → MayRefuse st p pair → Due budgets None s (Overflow pair)
refuses budgets s items st p behind pair look r = due.overflow (settles look r.of_settling) r.due

pub takes : (budgets : Budgets) (s : Search) (items : List Item) (st : State) (p : Pending) (behind : List Branch)
    → look_at s.branches ≡ Settling items st p behind → MayTake st p budgets.pivots → Due budgets None s (Pivots budgets.pivots)
takes budgets s items st p behind look r = due.pivots (settles look r.of_settling) r.chain

module _ (budgets : Budgets) (s : Search) (goal : Tree) (cut : ℕ) (items : List Item) (st : State) (behind : List Branch) (work : Pending)
    (look : look_at s.branches ≡ Selecting goal cut items st behind) (few : s.selected < budgets.steps)
    (row : reply_of (place_of s st items cut behind) (read st goal) ≡ makes (place_of s st items cut behind) (child items st work ∷ [])) where
  abbrev children : Made
  children = made (place_of s st items cut behind) (child items st work ∷ [])

  abbrev then_ : Search
  then_ = after_step s children behind

  stops_there : (cause : Cause) → Due budgets None then_ cause → Tells budgets s (Stops cause) (with_branches [] then_)
  stops_there cause d = coming.stops {r = then_} {cause = cause} (after (inr few) (goal_made s goal cut items st behind children look row) at_once) (coming.stops (inl refl) d)

  pub row_refuses : (pair : Pair) → MayRefuse st work pair → Tells budgets s (Stops (Overflow pair)) (with_branches [] then_)
  row_refuses pair r = stops_there (Overflow pair) (refuses budgets then_ items st work behind pair refl r)

  pub row_takes : MayTake st work budgets.pivots → Tells budgets s (Stops (Pivots budgets.pivots)) (with_branches [] then_)
  row_takes r = stops_there (Pivots budgets.pivots) (takes budgets then_ items st work behind refl r)
