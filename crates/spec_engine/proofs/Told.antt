-- What an engine tells of a search, as steps of a session.
use Rattle.std.proofs.Common.{◌≡◌, ℕ, suc, List, [], ◌++◌, Option, Some, None, refl, sym, ap, ◌∙◌, subst, append-nil}
use Rattle.spec_numbers.specs.Texts.{Text}
use Rattle.spec_syntax.specs.Operators.{Ops}
use Rattle.spec_syntax.specs.TextTokens.{VariableName}
use Rattle.spec_answers.specs.Answer.{AnswerForm}
use Rattle.spec_branch.specs.Branch.{State, Branch, Copied}
use Rattle.spec_simplex.specs.Overflow.{Moment}
use Rattle.spec_search.specs.Search.{Search, Answering, look_at}
use Rattle.spec_search.specs.Turns as turn
use Rattle.spec_search.specs.Turns.{Event, Wrote, Answered, Threw, Ended, Turn, with_branches}
use Rattle.spec_transcript.specs.Causes.{Budgets, Cause, stop_text}
use Rattle.spec_transcript.specs.Due as due
use Rattle.spec_transcript.specs.Due.{Due, IsMoment}
use Rattle.spec_engine.specs.Coming as coming
use Rattle.spec_engine.specs.Coming.{Quietly, at_once, after, StopsFor, Told, Tells, Shows, Stops}
use Rattle.spec_transcript.specs.Purposes.{answer_end, more_line, no_line, ball_line}
use Rattle.spec_transcript.specs.Session as session
use Rattle.spec_transcript.specs.Session.{Asker, ADirective, AQuery, names_of, Reader, Session, Reading, Searching, Mark, Marks, marked, unmarked, MayGo, Step, Runs, none, then}
use Rattle.spec_engine.specs.Parts as parts
use Rattle.spec_engine.specs.Parts.{an_error, a_stop, StopsAnswer}

-- ---- moments

-- a moment of no answer is one for whatever names
moment_for : (names : Option (List VariableName)) (s : Search) (m : Moment) (none_named : Option (List VariableName)) → none_named ≡ None
    → IsMoment none_named s m → IsMoment names s m
moment_for names s m o e (due.settles h k) = due.settles h k
moment_for names s m o e (due.asks h k) = due.asks h k
moment_for names s m o e (due.answers {vs} i h k) = let c : Some vs ≡ None = sym i ∙ e in cc

due_for : (budgets : Budgets) (names : Option (List VariableName)) (s : Search) (cause : Cause) → Due budgets None s cause → Due budgets names s cause
due_for budgets names s cause (due.overflow {m} h k) = due.overflow (moment_for names s m None refl h) k
due_for budgets names s cause (due.pivots {m} h k) = due.pivots (moment_for names s m None refl h) k
due_for budgets names s cause (due.rows {vs} i h k) = let c : Some vs ≡ None = sym i in cc

-- ---- the turn of an answer

record AnswersNext (s : Search) (st : State) (t : Search) : Type 0 where
  bs : List Branch
  looks : look_at s.branches ≡ Answering st bs
  is : t ≡ with_branches bs s

answering : (s t : Search) (e : Event) (st : State) (ops : Ops) → Turn s e t → e ≡ Answered st ops → AnswersNext s st t
answering s t e st ops (turn.keeps h k) is = cc
answering s t e st ops (turn.prunes h k g) is = cc
answering s t e st ops (turn.hands_on h k g i) is = cc
answering s t e st ops (turn.escapes h k g i) is = cc
answering s t e st ops (turn.moves h) is = cc
answering s t e st ops (turn.collects h k) is = cc
answering s t e st ops (turn.steps h k) is = cc
answering s t e st ops (turn.catches h k i) is = cc
answering s t e st ops (turn.throws h k i) is = cc
answering s t e st ops (turn.answers {st = su} {bs = bs} h) is =
    let same : su ≡ st = cc in
    record { bs = bs; looks = subst (λ x. look_at s.branches ≡ Answering x bs) same h; is = refl }
answering s t e st ops (turn.ends h) is = cc

module _ (budgets : Budgets) (shelf : Text → Option (List ℕ)) (input : List ℕ) where
  abbrev Writes : Session → Text → Marks → Session → Type 0
  Writes = Runs budgets shelf input

  -- ---- quiet turns

  quietly : (a : Session) (s t : Search) (who : Asker) (r : Reader) (m : Marks) (text : Text) → Writes a text m (Searching s who r) → Quietly budgets.steps s t
      → Writes a text m (Searching t who r)
  quietly a s t who r m text runs at_once = runs
  quietly a s t who r m text runs (after {t = u} may h rest) =
      quietly a u t who r m text (subst (λ x. Writes a x m (Searching u who r)) (append-nil text) (then runs (session.turns may h))) rest

  pub quiet : (s t : Search) (who : Asker) (r : Reader) → Quietly budgets.steps s t → Writes (Searching s who r) [] unmarked (Searching t who r)
  quiet s t who r h = quietly (Searching s who r) s t who r unmarked [] none h

  -- a step behind quiet turns
  step_after : (s u : Search) (who : Asker) (r : Reader) (out : Text) (w : Mark) (b : Session) → Quietly budgets.steps s u
      → Step budgets shelf input (Searching u who r) out w b → Writes (Searching s who r) out (marked unmarked w) b
  step_after s u who r out w b quiet step = then (quietly (Searching s who r) s u who r unmarked [] none quiet) step

  -- ---- stops

  stop_step : (u : Search) (who : Asker) (r : Reader) (cause : Cause) → StopsFor budgets u cause
      → Step budgets shelf input (Searching u who r) (stop_text cause) session.stop_line (Reading u.database r)
  stop_step u who r cause (coming.runs_out h k) = session.runs_out h k
  stop_step u who r cause (coming.overflows {pair} may h) = session.overflows pair may h
  stop_step u who r cause (coming.stops may h) = session.stops cause may (due_for budgets (names_of who) u cause h)

  pub stop : (s t : Search) (who : Asker) (r : Reader) (cause : Cause) → Tells budgets s (Stops cause) t
      → Writes (Searching s who r) (stop_text cause) a_stop (Reading t.database r)
  stop s t who r cause (coming.stops {r = u} quiet h) = step_after s u who r _ session.stop_line _ quiet (stop_step u who r cause h)

  -- ---- events

  module _ (s t : Search) where
    pub output : (who : Asker) (r : Reader) (text : Text) → Tells budgets s (Shows (Wrote text)) t → Writes (Searching s who r) text unmarked (Searching t who r)
    output who r text (coming.shows {r = u} quiet may h new) = step_after s u who r text session.plain_line (Searching t who r) quiet (session.turns may h)

    module _ (r : Reader) (st : State) (ops : Ops) (names : List VariableName) (text : Text) where
      pub answer : (n : ℕ) → Tells budgets s (Shows (Answered st ops)) t → AnswerForm ops names st text
          → Writes (Searching s (AQuery names (suc (suc n))) r) (text ++ answer_end) unmarked (Searching t (AQuery names (suc n)) r)
      answer n (coming.shows {r = u} quiet may h new) form = step_after s u _ r _ session.plain_line _ quiet (session.answers h form)

      pub last : Tells budgets s (Shows (Answered st ops)) t → AnswerForm ops names st text
          → Writes (Searching s (AQuery names 1) r) (text ++ answer_end ++ more_line) unmarked (Reading t.database r)
      last (coming.shows {r = u} quiet may h new) form = step_after s u _ r _ session.plain_line _ quiet (session.answers_last h form)

    pub success : (r : Reader) (st : State) (ops : Ops) → Tells budgets s (Shows (Answered st ops)) t → Writes (Searching s ADirective r) [] unmarked (Reading t.database r)
    success r st ops (coming.shows {r = u} quiet may h new) = step_after s u _ r _ session.plain_line _ quiet (session.succeeds h)

    pub failure : (who : Asker) (r : Reader) → Tells budgets s (Shows Ended) t → Writes (Searching s who r) no_line unmarked (Reading t.database r)
    failure who r (coming.shows {r = u} quiet may h new) = step_after s u who r _ session.plain_line _ quiet (session.fails h)

    pub ball : (who : Asker) (r : Reader) (ball : Copied) → Tells budgets s (Shows (Threw ball)) t
        → Writes (Searching s who r) (ball_line t.database.operators ball.term) an_error (Reading t.database r)
    ball who r b (coming.shows {r = u} quiet may h new) = step_after s u who r _ session.error_line _ quiet (session.raises may h)

    answer_due : (u : Search) (names : List VariableName) (st : State) (bs : List Branch) (cause : Cause) → look_at u.branches ≡ Answering st bs
        → StopsAnswer budgets names st cause → Due budgets (Some names) u cause
    answer_due u names st bs cause looks (parts.overflow h k) = due.overflow (due.answers refl looks h) k
    answer_due u names st bs cause looks (parts.pivots h k) = due.pivots (due.answers refl looks h) k
    answer_due u names st bs cause looks (parts.rows h) = due.rows refl looks h

    pub stop_at_answer : (r : Reader) (st : State) (ops : Ops) (names : List VariableName) (n : ℕ) (cause : Cause) → Tells budgets s (Shows (Answered st ops)) t
        → StopsAnswer budgets names st cause → Writes (Searching s (AQuery names n) r) (stop_text cause) a_stop (Reading t.database r)
    stop_at_answer r st ops names n cause (coming.shows {r = u} quiet may h new) stops =
        let next = answering u t _ st ops h refl in
        subst (λ x. Writes (Searching s (AQuery names n) r) (stop_text cause) a_stop (Reading x r)) (sym (ap (λ x. x.database) next.is))
        (step_after s u _ r _ session.stop_line _ quiet (session.stops cause may (answer_due u names st next.bs cause next.looks stops)))
