-- The search of the query of `gen` comes to a line.
use Rattle.std.proofs.Common.{◌≡◌, ◌⊎◌, inl, inr, ℕ, suc, zero, ◌+◌, ◌<◌, ◌≤◌, [], Bool, true, false, arith, refl, sym, ◌∙◌}
use Rattle.std.proofs.lemmas.Bool.{cases_eq}
use Rattle.spec_numbers.specs.Texts.{Text}
use Rattle.spec_syntax.specs.Operators.{Ops}
use Rattle.spec_branch.specs.Branch.{State}
use Rattle.spec_search.specs.Database.{initial}
use Rattle.spec_search.specs.Search.{Search, look_at, is_selecting}
use Rattle.spec_search.specs.Turns.{Turn, Event, Wrote, Answered}
use Rattle.spec_transcript.specs.Causes.{Budgets, Resolutions, Overflow, stop_text}
use Rattle.spec_transcript.specs.Session.{MayGo}
use Rattle.spec_search.specs.Weight.{weight}
use Rattle.spec_command.specs.Query.{query, variables}
use Rattle.spec_command.specs.Outcome.{gen_budgets, gen_search, value_text, gen_line, GenFrom, turns, answers, answers_last, ends, raises, runs_out, overflows, GenWrites}
use Rattle.spec_existence.specs.Sound.{AreSound}
use Rattle.spec_existence.proofs.Turning.{turn_sound}
use Rattle.spec_existence.proofs.ProgressLemmas.{GoesOn, goes_on, start_sound}
use Rattle.spec_existence.proofs.Effects.{Kinds, quiet, selects, answered, threw, ended, kind_of}

module _ (b : Budgets) (n : ℕ) where
  abbrev HasLine : ℕ → Text → Search → Type 0
  HasLine k v s = (line : Text) × (stopped : Bool) × GenFrom b n line stopped k v s

  -- a search that may be, after so many answers
  record IsReady (s : Search) (k : ℕ) : Type 0 where
    sound : AreSound s.branches
    within : s.selected ≤ b.steps
    fewer : k < b.answers

  module _ (g m : ℕ) (fewer_goals : (s : Search) (k : ℕ) (v : Text) → IsReady s k → b.steps < s.selected + g → HasLine k v s) (fewer_answers : (s : Search) (k : ℕ) (v : Text) → b.answers < k + m → IsReady s k → b.steps < s.selected + suc g → HasLine k v s) where
    module _ (s : Search) (k : ℕ) (v : Text) (left : b.answers < k + suc m) (ready : IsReady s k) (goals : b.steps < s.selected + suc g) (lighter : (t : Search) → weight t.branches < weight s.branches → IsReady t k → b.steps < t.selected + suc g → HasLine k v t) where
      next_ready : (t : Search) (e : Event) (j : ℕ) → Turn s e t → t.selected ≤ b.steps → j < b.answers → IsReady t j
      next_ready t e j h w f = record { sound = turn_sound s ready.sound t e h; within = w; fewer = f }

      answer : (t : Search) (st : State) (ops : Ops) → t.selected ≡ s.selected → Turn s (Answered st ops) t → HasLine k v s
      answer t st ops d h = by (cases_eq (suc k) b.answers)
        where
          by : (suc k ≡ b.answers) ⊎ (suc k ≡ b.answers → ⊥) → HasLine k v s
          by (inl e) = (gen_line n (value_text n ops st) (suc k), false, answers_last e h refl refl)
          by (inr other) =
              let f : k < b.answers = ready.fewer in
              let w : s.selected ≤ b.steps = ready.within in
              let more : suc k < b.answers = omega (arith, f, other) in
              let r = fewer_answers t (suc k) (value_text n ops st) (omega (arith, left)) (next_ready t (Answered st ops) (suc k) h (omega (arith, w, d)) more) (omega (arith, goals, d)) in
              (r.0, r.1, answers more h r.2)

      turned : (e : Event) (t : Search) → MayGo b s → Turn s e t → Kinds s e t → HasLine k v s
      turned e t may h (quiet d l) =
          let w : s.selected ≤ b.steps = ready.within in
          let r = lighter t l (next_ready t (Wrote []) k h (omega (arith, w, d)) ready.fewer) (omega (arith, goals, d)) in
          (r.0, r.1, turns may h r.2)
      turned e t may h (selects {text = text} l d) = by may
        where
          by : MayGo b s → HasLine k v s
          by (inl f) = let c : true ≡ false = sym l ∙ f in cc
          by (inr below) =
              let r = fewer_goals t k v (next_ready t (Wrote text) k h (omega (arith, below, d)) ready.fewer) (omega (arith, goals, d)) in
              (r.0, r.1, turns may h r.2)
      turned e t may h (answered {st = st} {ops = ops} l d) = answer t st ops d h
      turned e t may h threw = (gen_line n v k, false, raises may h refl refl)
      turned e t may h ended = (gen_line n v k, false, ends h refl refl)

      goes : MayGo b s → HasLine k v s
      goes may = by (goes_on s ready.sound)
        where
          by : GoesOn s → HasLine k v s
          by (inl h) = turned h.0 h.1 may h.2 (kind_of s h.1 h.0 h.2)
          by (inr h) = (stop_text (Overflow h.0), true, overflows may h.1 refl refl)

      one_step : HasLine k v s
      one_step = by (is_selecting (look_at s.branches)) refl (cases_eq s.selected b.steps)
        where
          by : (x : Bool) → is_selecting (look_at s.branches) ≡ x → (s.selected ≡ b.steps) ⊎ (s.selected ≡ b.steps → ⊥) → HasLine k v s
          by false e c = goes (inl e)
          by true e (inl same) = (stop_text (Resolutions b.steps), true, runs_out e same refl refl)
          by true e (inr other) = goes (inr (let w : s.selected ≤ b.steps = ready.within in omega (arith, w, other)))

    by_weight : (w : ℕ) (s : Search) (k : ℕ) (v : Text) → weight s.branches < w → b.answers < k + suc m → IsReady s k → b.steps < s.selected + suc g → HasLine k v s
    by_weight zero s k v h left ready goals = absurd (omega (arith, h))
    by_weight (suc w) s k v h left ready goals = one_step s k v left ready goals (λ t l i j. by_weight w t k v (omega (arith, h, l)) left i j)

  by_answers : (g : ℕ) → ((s : Search) (k : ℕ) (v : Text) → IsReady s k → b.steps < s.selected + g → HasLine k v s)
      → (m : ℕ) (s : Search) (k : ℕ) (v : Text) → b.answers < k + m → IsReady s k → b.steps < s.selected + suc g → HasLine k v s
  by_answers g fewer zero s k v left ready goals = absurd (let f : k < b.answers = ready.fewer in omega (arith, f, left))
  by_answers g fewer (suc m) s k v left ready goals =
      by_weight g m fewer (λ t j u i x y. by_answers g fewer m t j u i x y) (suc (weight s.branches)) s k v (omega arith) left ready goals

  by_goals : (g : ℕ) (s : Search) (k : ℕ) (v : Text) → IsReady s k → b.steps < s.selected + g → HasLine k v s
  by_goals zero s k v ready goals = absurd (let w : s.selected ≤ b.steps = ready.within in omega (arith, w, goals))
  by_goals (suc g) s k v ready goals =
      by_answers g (λ t j u i x. by_goals g t j u i x) (suc b.answers) s k v (omega arith) ready goals

  some_line : (s : Search) → AreSound s.branches → s.selected ≡ 0 → 0 < b.answers → HasLine 0 [] s
  some_line s sound zero_selected some =
      by_goals (suc b.steps) s 0 [] (record { sound = sound; within = omega (arith, zero_selected); fewer = some }) (omega (arith, zero_selected))

pub gen_line_exists : (n : ℕ) → (line : Text) × (stopped : Bool) × GenWrites n line stopped
gen_line_exists n = some_line gen_budgets n (gen_search n) (start_sound initial (query n) (variables n)) refl (omega arith)
