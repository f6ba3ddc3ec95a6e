-- The step of a goal that asks the linear constraints, by the answer; and its stops.
use Rattle.std.proofs.Common.{◌≡◌, ℕ, List, [], ◌∷◌, None, sym, subst}
use Rattle.spec_numbers.specs.Rational.{ℚ}
use Rattle.spec_simplex.specs.Overflow.{Moment}
use Rattle.spec_builtins.specs.Errors.{type_error}
use Rattle.spec_syntax.specs.Trees.{Tree}
use Rattle.spec_branch.specs.Relations.{Waits, False, lin_expression}
use Rattle.spec_branch.specs.Branch.{State, Item, Branch, read}
use Rattle.spec_search.specs.Builtins.{Side}
use Rattle.spec_search.specs.Replies.{Place, Reply, IfEntailed, WithExtent}
use Rattle.spec_search.specs.Rows.{reply_of}
use Rattle.spec_search.specs.Search.{Search, look_at, Selecting}
use Rattle.spec_search.specs.Steps as step
use Rattle.spec_search.specs.Steps.{Steps, ball_of, children}
use Rattle.spec_search.specs.Turns.{place_of}
use Rattle.spec_transcript.specs.Causes.{Budgets, Overflow, Pivots}
use Rattle.spec_transcript.specs.Due as due
use Rattle.spec_transcript.specs.Due.{Due}
use Rattle.spec_transcript.specs.Questions.{IsQuestionMoment}
use Rattle.cq_frac.specs.declared.Pair.{Pair}
use Rattle.cq_store.specs.declared.store.Extent.TheVariants.{Value, Unbounded}
use Rattle.cq_store.specs.declared.store.StoreFault.{StoreFault}
use Rattle.cq_questions.specs.Extents.{Reaches}
use Rattle.cq_questions.specs.Members.{AreEntailed, IsOneBroken, IsFirstWaiting}
use Rattle.cq_questions.specs.Stops.{RefusesIn, TakesIn, IsDueIn, MembersStop, ExtentStops}
use Rattle.cq_questions.specs.Values.{WithValues}

module _ (p : Place) (goal : Tree) where
  module _ (ms : List Tree) (b : Branch) (r : reply_of p goal ≡ IfEntailed ms b) where
    pub entailed_step : WithValues p.state.linear (λ fixed. AreEntailed p.state.linear fixed ms) → Steps p goal (children p (b ∷ []))
    entailed_step w = step.entailed w.fixed r w.fixes w.holds.linear w.holds.each

    pub broken_step : WithValues p.state.linear (λ fixed. IsOneBroken p.state.linear fixed ms) → Steps p goal (children p [])
    broken_step w = step.not_entailed w.holds.member w.fixed r w.fixes w.holds.linear w.holds.among w.holds.broken

    pub not_linear_step : (m : Tree) → WithValues p.state.linear (λ fixed. IsFirstWaiting fixed ms m) → Steps p goal (ball_of goal (type_error "linear" m))
    not_linear_step m w = step.not_linear w.fixed r w.fixes w.holds

  module _ (side : Side) (e : Tree) (f : ℚ → Branch) (r : reply_of p goal ≡ WithExtent side e f) where
    pub extent_step : (q : ℚ) → WithValues p.state.linear (λ fixed. Reaches side p.state.linear fixed e (Value q)) → Steps p goal (children p (f q ∷ []))
    extent_step q w = step.extent w.fixed r w.fixes w.holds.is w.holds.reaches

    pub unbounded_step : WithValues p.state.linear (λ fixed. Reaches side p.state.linear fixed e Unbounded) → Steps p goal (children p [])
    unbounded_step w = step.no_extent w.fixed r w.fixes w.holds.is w.holds.reaches

    pub false_step : WithValues p.state.linear (λ fixed. lin_expression fixed e ≡ False) → Steps p goal (children p [])
    false_step w = step.expression_false w.fixed r w.fixes w.holds

    pub waits_step : WithValues p.state.linear (λ fixed. lin_expression fixed e ≡ Waits) → Steps p goal (ball_of goal (type_error "linear" e))
    waits_step w = step.expression_waits w.fixed r w.fixes w.holds

-- ---- stops

pub members_due : (p : Place) (goal : Tree) (ms : List Tree) (b : Branch) (n : ℕ) (f : StoreFault) → reply_of p goal ≡ IfEntailed ms b → MembersStop n p.state ms f
    → IsDueIn (IsQuestionMoment p.state (reply_of p goal)) n f
members_due p goal ms b n f r h = subst (λ (x : Reply). IsDueIn (IsQuestionMoment p.state x) n f) (sym r) (h b)

pub extent_due : (p : Place) (goal : Tree) (side : Side) (e : Tree) (next : ℚ → Branch) (n : ℕ) (f : StoreFault) → reply_of p goal ≡ WithExtent side e next
    → ExtentStops n p.state side e f → IsDueIn (IsQuestionMoment p.state (reply_of p goal)) n f
extent_due p goal side e next n f r h = subst (λ (x : Reply). IsDueIn (IsQuestionMoment p.state x) n f) (sym r) (h next)

module _ (budgets : Budgets) (s : Search) (goal : Tree) (cut : ℕ) (items : List Item) (st : State) (behind : List Branch)
    (look : look_at s.branches ≡ Selecting goal cut items st behind) where
  abbrev asks : Moment → Type 0
  asks = IsQuestionMoment st (reply_of (place_of s st items cut behind) (read st goal))

  pub overflow_due : (pair : Pair) → RefusesIn asks pair → Due budgets None s (Overflow pair)
  overflow_due pair k = due.overflow (due.asks look k.is) k.due

  pub pivots_due : TakesIn asks budgets.pivots → Due budgets None s (Pivots budgets.pivots)
  pivots_due k = due.pivots (due.asks look k.is) k.chain
