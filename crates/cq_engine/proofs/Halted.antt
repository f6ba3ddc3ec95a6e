-- A query that stops for a fault: the search that its engine stands for then, and its program.
use Rattle.std.proofs.Common.{inl, inr, ◌≡◌, ℕ, [], None, refl, sym, ap, ◌∙◌, subst, arith, false}
use Rattle.std.specs.Prelude.{⊤}
use Rattle.spec_search.specs.Search.{Search, look_at, is_selecting}
use Rattle.spec_search.specs.Turns.{Turn, Event, keeps, prunes, hands_on, escapes, moves, collects, steps, catches, throws, answers, ends, with_branches}
use Rattle.spec_transcript.specs.Causes.{Budgets, Cause, Resolutions, Pivots, Overflow, Projection}
use Rattle.spec_transcript.specs.Due as due
use Rattle.spec_transcript.specs.Due.{Due}
use Rattle.cq_catch.specs.Matching.{ComesToStop}
use Rattle.spec_engine.specs.Cells.{Stack}
use Rattle.spec_engine.specs.Coming as coming
use Rattle.spec_engine.specs.Coming.{MayGo, Quietly, at_once, after, StopsFor, runs_out, overflows, Tells, Stops}
use Rattle.spec_engine.specs.Standing.{AreWaiting}
use Rattle.cq_branch.specs.Worlds.{IsBranch, term_in}
use Rattle.cq_settle.specs.Contents.{Contents}
use Rattle.cq_machine.specs.declared.machine.Machine.{Machine}
use Rattle.cq_machine.specs.Machines.{database_of, holds}
use Rattle.cq_engine.specs.Fronts.{Halts}
use Rattle.cq_engine.specs.Seeking.{GainsNames, StandsFor}

-- ---- where no goal may be selected

turn_selected : {s t : Search} {e : Event} → Turn s e t → is_selecting (look_at s.branches) ≡ false → t.selected ≡ s.selected
turn_selected (keeps look settles) idle = refl
turn_selected (prunes look settles none) idle = refl
turn_selected (hands_on look settles some is) idle = refl
turn_selected (escapes look settles some none) idle = refl
turn_selected (moves look) idle = refl
turn_selected (collects look copy) idle = refl
turn_selected (steps look step) idle = (let yes = ap is_selecting look in cc)
turn_selected (catches look step is) idle = (let yes = ap is_selecting look in cc)
turn_selected (throws look step none) idle = (let yes = ap is_selecting look in cc)
turn_selected (answers look) idle = refl
turn_selected (ends look) idle = refl

quiet_selected : {s t : Search} → Quietly 0 s t → t.selected ≡ s.selected
quiet_selected at_once = refl
quiet_selected (after (inl idle) turn q) = quiet_selected q ∙ turn_selected turn idle
quiet_selected (after (inr few) turn q) = absurd (omega (arith, few))

module _ (budgets : Budgets) where
  -- the same budgets, of which no goal may be selected
  abbrev pub selecting_none : Budgets
  selecting_none = record budgets { steps = 0 }

  may_still : (s : Search) → MayGo 0 s → MayGo budgets.steps s
  may_still s (inl idle) = inl idle
  may_still s (inr few) = absurd (omega (arith, few))

  quiet_still : {s t : Search} → Quietly 0 s t → Quietly budgets.steps s t
  quiet_still at_once = at_once
  quiet_still (after {s} may turn q) = after (may_still s may) turn (quiet_still q)

  due_still : {s : Search} {cause : Cause} → Due selecting_none None s cause → Due budgets None s cause
  due_still (due.overflow m d) = due.overflow m d
  due_still (due.pivots m c) = due.pivots m c
  due_still (due.rows n look d) = due.rows n look d

  -- the cause is no want of goals
  abbrev pub IsFault : Cause → Type 0
  IsFault (Resolutions n) = ⊥
  IsFault (Pivots n) = ⊤
  IsFault (Overflow pair) = ⊤
  IsFault (Projection p n rest rows) = ⊤

  stops_still : {s : Search} {cause : Cause} → IsFault cause → StopsFor selecting_none s cause → StopsFor budgets s cause
  stops_still f (runs_out next many) = absurd f
  stops_still {s} f (overflows may refused) = overflows (may_still s may) refused
  stops_still {s} f (coming.stops may d) = coming.stops (may_still s may) (due_still d)

  module _ (mid new : Machine) (n : ℕ) (s : Search) (cause : Cause) (fault : IsFault cause) (g : GainsNames mid new) (none : holds new ≡ []) (e : s.selected ≡ n) where
    none_stands : (r : Search) → r.database ≡ database_of mid → r.selected ≡ n → StandsFor new n None (with_branches [] r)
    none_stands r d q = record {
      database = d ∙ sym g.database;
      selected = q;
      first = [];
      behind = [];
      branches = refl;
      current = refl;
      waiting = subst (λ (rs : Stack Contents). AreWaiting (IsBranch new.atoms) (term_in new.atoms) rs []) (sym none) refl;
    }

    told_halts : {t : Search} → Tells selecting_none s (Stops cause) t → t.database ≡ database_of mid → Halts budgets cause new n s
    told_halts (coming.stops {r} q why) d = record {
      reached = r;
      quiet = quiet_still q;
      last = with_branches [] r;
      tells = coming.stops at_once (stops_still fault why);
      database = refl;
      stands = none_stands r d (quiet_selected q ∙ e);
    }

    pub halts_next : ComesToStop selecting_none cause (database_of mid) s → Halts budgets cause new n s
    halts_next stop = told_halts stop.1 stop.2
