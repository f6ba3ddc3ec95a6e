-- What is told of a search, as the course of the query of `gen`.
use Rattle.std.proofs.Common.{◌≡◌, ◌∙◌, ◌<◌, ℕ, suc, [], Bool, true, false, Result, Ok, Err, IfOk, refl, sym, ap, subst}
use Rattle.spec_numbers.specs.Texts.{Text}
use Rattle.spec_syntax.specs.Operators.{Ops}
use Rattle.spec_branch.specs.Branch.{State, Copied}
use Rattle.spec_search.specs.Search.{Search}
use Rattle.spec_search.specs.Turns as turn
use Rattle.spec_transcript.specs.Causes.{Cause, stop_text}
use Rattle.spec_engine.specs.Coming as coming
use Rattle.spec_engine.specs.Coming.{Quietly, Tells, Shows, Stops}
use Rattle.spec_command.specs.Outcome as outcome
use Rattle.spec_command.specs.Outcome.{GenFrom, gen_budgets, gen_line, value_text}
use Rattle.cq_session.specs.Sentences.{Program}
use Rattle.cq_session.specs.Events.{TellsNext, GoesOn, AnswersNext}
use Rattle.std.specs.declared.alloc.AllocError.{AllocError}
use Rattle.cq_session.specs.Counting.{HasCounted}
use Rattle.cq_session.specs.declared.generating.course.Course.{Course}

-- ---- turns

module _ (n : ℕ) (line : Text) (stopped : Bool) (k : ℕ) (v : Text) where
  quiet : (s r : Search) → Quietly gen_budgets.steps s r → GenFrom gen_budgets n line stopped k v r → GenFrom gen_budgets n line stopped k v s
  quiet s r coming.at_once h = h
  quiet s r (coming.after {t = t} may goes more) h = outcome.turns may goes (quiet t r more h)

  writing : (s t : Search) (text : Text) → Tells gen_budgets s (Shows (turn.Wrote text)) t → GenFrom gen_budgets n line stopped k v t
      → GenFrom gen_budgets n line stopped k v s
  writing s t text (coming.shows {r = r} q may goes loud) h = quiet s r q (outcome.turns may goes h)

  answering : (s t : Search) (st : State) (ops : Ops) → suc k < gen_budgets.answers → Tells gen_budgets s (Shows (turn.Answered st ops)) t
      → GenFrom gen_budgets n line stopped (suc k) (value_text n ops st) t → GenFrom gen_budgets n line stopped k v s
  answering s t st ops few (coming.shows {r = r} q may goes loud) h = quiet s r q (outcome.answers few goes h)

  answering_last : (s t : Search) (st : State) (ops : Ops) → suc k ≡ gen_budgets.answers → Tells gen_budgets s (Shows (turn.Answered st ops)) t
      → line ≡ gen_line n (value_text n ops st) (suc k) → stopped ≡ false → GenFrom gen_budgets n line stopped k v s
  answering_last s t st ops last (coming.shows {r = r} q may goes loud) is runs = quiet s r q (outcome.answers_last last goes is runs)

  failing : (s t : Search) → Tells gen_budgets s (Shows turn.Ended) t → line ≡ gen_line n v k → stopped ≡ false → GenFrom gen_budgets n line stopped k v s
  failing s t (coming.shows {r = r} q may goes loud) is runs = quiet s r q (outcome.ends goes is runs)

  raising : (s t : Search) (ball : Copied) → Tells gen_budgets s (Shows (turn.Threw ball)) t → line ≡ gen_line n v k → stopped ≡ false
      → GenFrom gen_budgets n line stopped k v s
  raising s t ball (coming.shows {r = r} q may goes loud) is runs = quiet s r q (outcome.raises may goes is runs)

  stops_for : (s : Search) (cause : Cause) → coming.StopsFor gen_budgets s cause → line ≡ stop_text cause → stopped ≡ true
      → GenFrom gen_budgets n line stopped k v s
  stops_for s cause (coming.runs_out selecting spent) is stops = outcome.runs_out selecting spent is stops
  stops_for s cause (coming.overflows may refuses) is stops = outcome.overflows may refuses is stops
  stops_for s cause (coming.stops may due) is stops = outcome.stops may due is stops

  stopping : (s t : Search) (cause : Cause) → Tells gen_budgets s (Stops cause) t → line ≡ stop_text cause → stopped ≡ true
      → GenFrom gen_budgets n line stopped k v s
  stopping s t cause (coming.stops {r = r} q why) is stops = quiet s r q (stops_for r cause why is stops)

-- ---- what an interpreter tells

-- at the beginning
pub counts_none : (n : ℕ) (Stands : Search → Type 0) (s : Search) (text : Text) → text ≡ [] → Stands s → HasCounted n Stands 0 text s
counts_none n Stands s text is stands =
    record { reached = s; stands = stands; from = λ line stopped h. subst (λ t. GenFrom gen_budgets n line stopped 0 t s) is h }

module _ (n : ℕ) (Before : Search → Type 0) (k : ℕ) (text : Text) (s : Search) (h : HasCounted n Before k text s) (p q : Program) where
  pub counts_writing : (Stands : Search → Type 0) (u : Text) → GoesOn gen_budgets Stands p q h.reached (Shows (turn.Wrote u)) → HasCounted n Stands k text s
  counts_writing Stands u e = record {
    reached = e.reached;
    stands = e.stands;
    from = λ line stopped more.
        h.from line stopped (writing n line stopped k text h.reached e.after u e.tells (quiet n line stopped k text e.after e.reached e.quiet more));
  }

  module _ (Stands : Search → Type 0) (IsAnswer : State → Ops → Type 0) (e : AnswersNext gen_budgets Stands IsAnswer p q h.reached) (value : Text)
      (is : value ≡ value_text n e.ops e.state) where
    module _ (m : ℕ) (next : m ≡ suc k) where
      pub counts_answering : suc k < gen_budgets.answers → HasCounted n Stands m value s
      counts_answering few = subst (λ (j : ℕ). HasCounted n Stands j value s) (sym next) (record {
        reached = e.next.after;
        stands = e.stands;
        from = λ line stopped more.
            h.from line stopped (answering n line stopped k text h.reached e.next.after e.state e.ops few e.next.tells
            (subst (λ t. GenFrom gen_budgets n line stopped (suc k) t e.next.after) is more));
      })

      pub ends_answering : (line : Text) → suc k ≡ gen_budgets.answers → line ≡ gen_line n value m → GenFrom gen_budgets n line false 0 [] s
      ends_answering line last e_line =
          h.from line false (answering_last n line false k text h.reached e.next.after e.state e.ops last e.next.tells
          (e_line ∙ (λ j. gen_line n (is j) (next j))) refl)

  pub ends_failing : (line : Text) → TellsNext gen_budgets p q h.reached (Shows turn.Ended) → line ≡ gen_line n text k → GenFrom gen_budgets n line false 0 [] s
  ends_failing line e is = h.from line false (failing n line false k text h.reached e.after e.tells is refl)

  pub ends_raising : (line : Text) (ball : Copied) → TellsNext gen_budgets p q h.reached (Shows (turn.Threw ball)) → line ≡ gen_line n text k
      → GenFrom gen_budgets n line false 0 [] s
  ends_raising line ball e is = h.from line false (raising n line false k text h.reached e.after ball e.tells is refl)

  pub ends_stopping : (line : Text) (cause : Cause) → TellsNext gen_budgets p q h.reached (Stops cause) → line ≡ stop_text cause
      → GenFrom gen_budgets n line true 0 [] s
  ends_stopping line cause e is = h.from line true (stopping n line true k text h.reached e.after cause e.tells is refl)

-- ---- a line that was made

-- a course that was made has what its line and its kind have
pub made : (result : Result Course AllocError) (text : Text) (stops : Bool) (P : Text → Bool → Type 0) → IfOk result (λ c. c.line.items ≡ text)
    → IfOk result (λ c. c.stopped ≡ stops) → ((line : Text) → line ≡ text → P line stops) → IfOk result (λ c. P c.line.items c.stopped)
made (Ok c) text stops P is kind h = subst (λ b. P c.line.items b) (sym kind) (h c.line.items is)
made (Err e) text stops P is kind h = tt

-- what holds of a course for each search that is asked holds for one of them
pub of_all : (result : Result Course AllocError) (Stood : Search → Type 0) (P : Course → Search → Type 0) (s : Search) → Stood s
    → IfOk result (λ c. (s : Search) → Stood s → P c s) → IfOk result (λ c. P c s)
of_all (Ok c) Stood P s stood h = h s stood
of_all (Err e) Stood P s stood h = tt
