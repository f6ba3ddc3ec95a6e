-- Why a query stops where it selects a goal.
use Rattle.std.proofs.Common.{◌≡◌, ℕ, ◌<◌, [], ◌∷◌, None, refl, inl, inr, sym, subst}
use Rattle.spec_simplex.specs.Chains.{IsBlandChain}
use Rattle.spec_simplex.specs.Overflow.{Moment}
use Rattle.spec_syntax.specs.Trees.{Tree}
use Rattle.spec_branch.specs.Branch.{read}
use Rattle.spec_search.specs.Replies.{Place, child, made}
use Rattle.spec_search.specs.Search.{Search}
use Rattle.spec_search.specs.Turns as turn
use Rattle.spec_search.specs.Turns.{place_of, after_step, with_branches}
use Rattle.spec_transcript.specs.Causes.{Budgets, Cause}
use Rattle.spec_transcript.specs.Causes as why
use Rattle.spec_transcript.specs.Due as due
use Rattle.spec_transcript.specs.Due.{Due, IsMoment}
use Rattle.spec_engine.specs.Coming.{MayGo, at_once, after}
use Rattle.spec_engine.specs.Coming as coming
use Rattle.cq_branch.specs.Stops.{ComesToStop}
use Rattle.cq_frac.specs.declared.Pair.{Pair}
use Rattle.cq_store.specs.declared.store.StoreFault.{StoreFault}
use Rattle.cq_store.specs.declared.store.StoreFault.TheVariants.{Overflow, Pivots, NoMemory}
use Rattle.cq_machine.specs.declared.machine.Machine.{Machine}
use Rattle.cq_execute.specs.Stops.{IsGoalMoment, asks, settles, IsStop, overflow, pivots}
use Rattle.cq_engine.specs.Turning.{SelectsNext, IsStoppedNext, MayStop}

module _ (budgets : Budgets) (old : Machine) (n rest : ℕ) (s : Search) (few : n < budgets.steps) (x : SelectsNext old n rest s) where
  abbrev place : Place
  place = place_of s x.state x.items x.cut x.behind

  abbrev goal : Tree
  goal = read x.state x.goal

  may : MayGo budgets.steps s
  may = inr (subst (λ (i : ℕ). i < budgets.steps) (sym x.selected) few)

  -- a moment of the goal is one of its turn, or of the turn in which its first child is settled
  comes : {cause : Cause} {moment : Moment} → IsGoalMoment place goal moment → ((t : Search) → IsMoment None t moment → Due budgets None t cause) → ComesToStop budgets cause s
  comes (asks q) f = (with_branches [] s, coming.stops at_once (coming.stops may (f s (due.asks x.look q))), refl)
  comes (settles {items} {st} {work} {more} step q) f =
      let then_ = after_step s (made place (child items st work ∷ more)) x.behind in (
        with_branches [] then_,
        coming.stops {r = then_} (after may (turn.steps x.look step) at_once) (coming.stops (inl refl) (f then_ (due.settles refl q))),
        refl,
      )

  pub stops_for_overflow : (budget : ℕ) (pair : Pair) → IsStop budget place goal (Overflow pair) → ComesToStop budgets (why.Overflow pair) s
  stops_for_overflow budget pair (overflow g d) = comes g (λ t i. due.overflow i d)

  pub stops_for_pivots : (budget exchanges : ℕ) → budgets.pivots ≡ budget → IsStop budget place goal (Pivots exchanges) → ComesToStop budgets (why.Pivots exchanges) s
  stops_for_pivots budget exchanges e (pivots {m} g chain) =
      subst (λ (i : ℕ). ComesToStop budgets (why.Pivots i) s) e
      (comes g (λ t i. due.pivots i (subst (λ (k : ℕ). IsBlandChain m k) (sym e) chain)))

-- a fault that isn't want of memory
pub may_stop : (m : Machine) (n rest : ℕ) (fault : StoreFault) (s : Search) → IsStoppedNext m n rest fault s → MayStop m n rest fault s
may_stop m n rest (Overflow pair) s x = x
may_stop m n rest (Pivots exchanges) s x = x
may_stop m n rest NoMemory s x = tt
