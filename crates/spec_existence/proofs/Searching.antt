-- Each search of a session comes to an end within its budgets.
use Rattle.std.proofs.Common.{◌≡◌, ◌⊎◌, inl, inr, ℕ, suc, zero, ◌+◌, ◌<◌, ◌≤◌, List, [], ◌++◌, Bool, true, false, Option, arith, refl, sym, subst, ◌∙◌}
use Rattle.std.proofs.lemmas.Bool.{cases_eq}
use Rattle.spec_numbers.specs.Texts.{Text}
use Rattle.spec_syntax.specs.Operators.{Ops}
use Rattle.spec_branch.specs.Branch.{State, Branch}
use Rattle.spec_search.specs.Database.{Database}
use Rattle.spec_search.specs.Search.{Search, Answering, look_at, is_selecting}
use Rattle.spec_search.specs.Turns.{Turn, Event, Wrote, Answered}
use Rattle.spec_transcript.specs.Causes.{Budgets}
use Rattle.spec_transcript.specs.Session as session
use Rattle.spec_transcript.specs.Session.{Asker, ADirective, AQuery, Reader, Session, Reading, Searching, Mark, Marks, marked, MayGo, Step, Runs}
use Rattle.spec_search.specs.Weight.{weight}
use Rattle.spec_existence.proofs.Turning.{IsSoundLook, look_sound, turn_sound}
use Rattle.spec_existence.proofs.ProgressLemmas.{GoesOn, goes_on}
use Rattle.spec_existence.specs.Existing.{IsAsking, IsReadySearch, AnswersHaveForms}
use Rattle.spec_existence.proofs.Effects.{Kinds, quiet, selects, answered, threw, ended, kind_of}

-- how many answers may still be written
abbrev answers_left : Asker → ℕ
answers_left ADirective = 0
answers_left (AQuery names n) = n

module _ (budgets : Budgets) (shelf : Text → Option (List ℕ)) (input : List ℕ) (first : Session) (forms : AnswersHaveForms) where
  -- some steps lead there
  abbrev pub Reached : Session → Type 0
  Reached b = (text : Text) × (marks : Marks) × Runs budgets shelf input first text marks b

  pub onward : (b c : Session) (out : Text) (mark : Mark) → Reached b → Step budgets shelf input b out mark c → Reached c
  onward b c out mark r s = (r.0 ++ out, marked r.1 mark, session.then r.2 s)

  module _ (r : Reader) where
    -- the session reads on
    abbrev pub Done : Type 0
    Done = (db : Database) × Reached (Reading db r)

    -- ends of searches that have fewer goals left, or fewer answers, or less to do
    module _ (k m : ℕ) (fewer_goals : (s : Search) (who : Asker) → IsReadySearch budgets s who → budgets.steps < s.selected + k → Reached (Searching s who r) → Done) (fewer_answers : (s : Search) (who : Asker) → answers_left who < m → IsReadySearch budgets s who → budgets.steps < s.selected + suc k → Reached (Searching s who r) → Done) where
      module _ (s : Search) (who : Asker) (left : answers_left who < suc m) (ready : IsReadySearch budgets s who) (goals : budgets.steps < s.selected + suc k) (here : Reached (Searching s who r)) (lighter : (t : Search) → weight t.branches < weight s.branches → IsReadySearch budgets t who → budgets.steps < t.selected + suc k → Reached (Searching t who r) → Done) where
        next_ready : (t : Search) (e : Event) (you : Asker) → Turn s e t → t.selected ≤ budgets.steps → IsAsking you → IsReadySearch budgets t you
        next_ready t e you h w a = record { sound = turn_sound s ready.sound t e h; within = w; asking = a }

        -- an answer
        answer : (t : Search) (st : State) (ops : Ops) (bs : List Branch) (you : Asker) → IsAsking you → answers_left you < suc m → look_at s.branches ≡ Answering st bs → t.selected ≡ s.selected
            → Turn s (Answered st ops) t → Reached (Searching s you r) → Done
        answer t st ops bs ADirective a n l d h i = (t.database, onward (Searching s ADirective r) (Reading t.database r) _ _ i (session.succeeds h))
        answer t st ops bs (AQuery names zero) a n l d h i = absurd (let c : 0 < 0 = a.0 in omega (arith, c))
        answer t st ops bs (AQuery names (suc zero)) a n l d h i =
            let f = subst IsSoundLook l (look_sound s.branches ready.sound) in
            let x = forms ops names st a.1 f.0 f.1 in
            (t.database, onward (Searching s (AQuery names 1) r) (Reading t.database r) _ _ i (session.answers_last h x.1))
        answer t st ops bs (AQuery names (suc (suc j))) a n l d h i =
            let f = subst IsSoundLook l (look_sound s.branches ready.sound) in
            let x = forms ops names st a.1 f.0 f.1 in
            fewer_answers t (AQuery names (suc j)) (omega (arith, n))
            (next_ready t (Answered st ops) (AQuery names (suc j)) h (let w : s.selected ≤ budgets.steps = ready.within in omega (arith, w, d)) (omega arith, a.1))
            (omega (arith, goals, d))
            (onward (Searching s (AQuery names (suc (suc j))) r) (Searching t (AQuery names (suc j)) r) _ _ i (session.answers h x.1))

        -- a turn within the budget of goals
        turned : (e : Event) (t : Search) → MayGo budgets s → Turn s e t → Kinds s e t → Done
        turned e t may h (quiet d w) =
            lighter t w (next_ready t (Wrote []) who h (let i : s.selected ≤ budgets.steps = ready.within in omega (arith, i, d)) ready.asking)
            (omega (arith, goals, d))
            (onward (Searching s who r) (Searching t who r) _ _ here (session.turns may h))
        turned e t may h (selects {text = text} l d) = by may
          where
            by : MayGo budgets s → Done
            by (inl f) = let c : true ≡ false = sym l ∙ f in cc
            by (inr below) =
                fewer_goals t who (next_ready t (Wrote text) who h (omega (arith, below, d)) ready.asking)
                (omega (arith, goals, d))
                (onward (Searching s who r) (Searching t who r) _ _ here (session.turns may h))
        turned e t may h (answered {st = st} {bs = bs} {ops = ops} l d) = answer t st ops bs who ready.asking left l d h here
        turned e t may h threw = (t.database, onward (Searching s who r) (Reading t.database r) _ _ here (session.raises may h))
        turned e t may h ended = (t.database, onward (Searching s who r) (Reading t.database r) _ _ here (session.fails h))

        goes : MayGo budgets s → Done
        goes may = by (goes_on s ready.sound)
          where
            by : GoesOn s → Done
            by (inl h) = turned h.0 h.1 may h.2 (kind_of s h.1 h.0 h.2)
            by (inr h) = (s.database, onward (Searching s who r) (Reading s.database r) _ _ here (session.overflows h.0 may h.1))

        one_step : Done
        one_step = by (is_selecting (look_at s.branches)) refl (cases_eq s.selected budgets.steps)
          where
            by : (b : Bool) → is_selecting (look_at s.branches) ≡ b → (s.selected ≡ budgets.steps) ⊎ (s.selected ≡ budgets.steps → ⊥) → Done
            by false e c = goes (inl e)
            by true e (inl same) = (s.database, onward (Searching s who r) (Reading s.database r) _ _ here (session.runs_out e same))
            by true e (inr other) = goes (inr (let w : s.selected ≤ budgets.steps = ready.within in omega (arith, w, other)))

      by_weight : (w : ℕ) (s : Search) (who : Asker) → weight s.branches < w → answers_left who < suc m → IsReadySearch budgets s who → budgets.steps < s.selected + suc k → Reached (Searching s who r) → Done
      by_weight zero s who h n ready goals here = absurd (omega (arith, h))
      by_weight (suc w) s who h n ready goals here =
          one_step s who n ready goals here (λ t l i j x. by_weight w t who (omega (arith, h, l)) n i j x)

    by_answers : (k : ℕ) → ((s : Search) (who : Asker) → IsReadySearch budgets s who → budgets.steps < s.selected + k → Reached (Searching s who r) → Done)
        → (m : ℕ) (s : Search) (who : Asker) → answers_left who < m → IsReadySearch budgets s who → budgets.steps < s.selected + suc k → Reached (Searching s who r) → Done
    by_answers k fewer zero s who n ready goals here = absurd (omega (arith, n))
    by_answers k fewer (suc m) s who n ready goals here =
        by_weight k m fewer (λ t you i j x y. by_answers k fewer m t you i j x y) (suc (weight s.branches)) s who (omega arith) n ready goals here

    by_goals : (k : ℕ) (s : Search) (who : Asker) → IsReadySearch budgets s who → budgets.steps < s.selected + k → Reached (Searching s who r) → Done
    by_goals zero s who ready goals here = absurd (let w : s.selected ≤ budgets.steps = ready.within in omega (arith, w, goals))
    by_goals (suc k) s who ready goals here =
        by_answers k (λ t you i j x. by_goals k t you i j x) (suc (answers_left who)) s who (omega arith) ready goals here

    pub search_ends : (s : Search) (who : Asker) → IsReadySearch budgets s who → Reached (Searching s who r) → Done
    search_ends s who ready here = by_goals (suc budgets.steps) s who ready (omega arith) here
