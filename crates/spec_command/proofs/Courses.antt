-- The course of the query of `gen` that isn't stopped, turn by turn: what comes next by what the first branch is for.
use Rattle.std.proofs.Common.{◌≡◌, ◌<◌, ℕ, suc, List, ◌∷◌, false, subst, arith}
use Rattle.std.specs.Prelude.{⊤}
use Rattle.spec_numbers.specs.Texts.{Text}
use Rattle.spec_syntax.specs.Operators.{Ops}
use Rattle.spec_syntax.specs.Trees.{Tree}
use Rattle.spec_branch.specs.Branch.{State, Item, Branch, Copied, Pending, read}
use Rattle.spec_branch.specs.Settling.{Settles, Kept, Pruned, Why}
use Rattle.spec_search.specs.Replies.{Made}
use Rattle.spec_search.specs.Steps.{Steps, Ball, Children}
use Rattle.spec_search.specs.Search.{Search, Look, Over, Settling, Selecting, Answering, look_at}
use Rattle.spec_search.specs.Turns.{Turn, Event, Wrote, Answered, Threw, Ended, place_of, with_branches, after_removal, after_step}
use Rattle.spec_transcript.specs.Causes.{Budgets}
use Rattle.spec_search.proofs.Turning.{After, after, Chooses, Decides, made, fell, kept, pruned}
use Rattle.spec_command.specs.Outcome as outcome
use Rattle.spec_command.specs.Outcome.{GenFrom, gen_line, value_text}

-- by what the first branch is for
by_look : (s : Search) (l : Look) (e : Event) (t : Search) → look_at s.branches ≡ l → Turn s e t → After s l e t
by_look s l e t is turn = subst (λ x. After s x e t) is (after s turn)

-- a turn that shows one thing shows no other
abbrev OnlyWrites : Event → Type 0
OnlyWrites (Wrote text) = ⊤
OnlyWrites e = ⊥

module _ (b : Budgets) (n : ℕ) (line : Text) (k : ℕ) (v : Text) (s : Search) where
  abbrev From : Search → Type 0
  From t = GenFrom b n line false k v t

  -- where each turn writes, one comes next
  writes : ((e : Event) (t : Search) → Turn s e t → OnlyWrites e) → From s → (text : Text) × (t : Search) × Turn s (Wrote text) t × From t
  writes only (outcome.turns {t = t} {text = text} may turn more) = (text, t, turn, more)
  writes only (outcome.answers {t = t} {st = st} {ops = ops} few turn more) = absurd (only (Answered st ops) t turn)
  writes only (outcome.answers_last {t = t} {st = st} {ops = ops} last turn is runs) = absurd (only (Answered st ops) t turn)
  writes only (outcome.ends {t = t} turn is runs) = absurd (only Ended t turn)
  writes only (outcome.raises {t = t} {ball = ball} may turn is runs) = absurd (only (Threw ball) t turn)
  writes only (outcome.runs_out selects spent is stops) = cc
  writes only (outcome.overflows may refuses is stops) = cc
  writes only (outcome.stops may due is stops) = cc

  -- a goal is in front that raises no ball
  module _ (goal : Tree) (cut : ℕ) (items : List Item) (st : State) (bs : List Branch) (is : look_at s.branches ≡ Selecting goal cut items st bs)
      (no_ball : (ball : Copied) → Steps (place_of s st items cut bs) (read st goal) (Ball ball) → ⊥) where
    only_makes : (e : Event) (t : Search) → Chooses s goal cut items st bs e t → OnlyWrites e
    only_makes e t (made m steps) = tt
    only_makes e t (fell ball steps) = absurd (no_ball ball steps)

    stepped : (e : Event) (t : Search) → Chooses s goal cut items st bs e t → From t
        → (m : Made) × Steps (place_of s st items cut bs) (read st goal) (Children m) × From (after_step s m bs)
    stepped e t (made m steps) more = (m, steps, more)
    stepped e t (fell ball steps) more = absurd (no_ball ball steps)

    pub selects : From s → (m : Made) × Steps (place_of s st items cut bs) (read st goal) (Children m) × From (after_step s m bs)
    selects from =
        let (text, t, turn, more) = writes (λ e t turn. only_makes e t (by_look s (Selecting goal cut items st bs) e t is turn)) from in
        stepped (Wrote text) t (by_look s (Selecting goal cut items st bs) (Wrote text) t is turn) more

  -- a branch is unsettled that is not pruned
  module _ (items : List Item) (st : State) (p : Pending) (bs : List Branch) (is : look_at s.branches ≡ Settling items st p bs)
      (kept_whole : (why : Why) → Settles items st p (Pruned why) → ⊥) where
    only_keeps : (e : Event) (t : Search) → Decides s items st p bs e t → OnlyWrites e
    only_keeps e t (kept c settles) = tt
    only_keeps e t (pruned why settles) = absurd (kept_whole why settles)

    stays : (e : Event) (t : Search) → Decides s items st p bs e t → From t
        → (c : Branch) × Settles items st p (Kept c) × From (record s { database = after_removal p.removes s.database; branches = c ∷ bs })
    stays e t (kept c settles) more = (c, settles, more)
    stays e t (pruned why settles) more = absurd (kept_whole why settles)

    pub settles : From s → (c : Branch) × Settles items st p (Kept c) × From (record s { database = after_removal p.removes s.database; branches = c ∷ bs })
    settles from =
        let (text, t, turn, more) = writes (λ e t turn. only_keeps e t (by_look s (Settling items st p bs) e t is turn)) from in
        stays (Wrote text) t (by_look s (Settling items st p bs) (Wrote text) t is turn) more

  -- no branch is left
  over : (e : Event) (t : Search) → look_at s.branches ≡ Over → Turn s e t → e ≡ Ended
  over e t is turn = (by_look s Over e t is turn).0

  pub ends : look_at s.branches ≡ Over → From s → line ≡ gen_line n v k
  ends is (outcome.turns {t = t} {text = text} may turn more) = let e = over (Wrote text) t is turn in cc
  ends is (outcome.answers {t = t} {st = st} {ops = ops} few turn more) = let e = over (Answered st ops) t is turn in cc
  ends is (outcome.answers_last {t = t} {st = st} {ops = ops} last turn line_is runs) = let e = over (Answered st ops) t is turn in cc
  ends is (outcome.ends turn line_is runs) = line_is
  ends is (outcome.raises {t = t} {ball = ball} may turn line_is runs) = let e = over (Threw ball) t is turn in cc
  ends is (outcome.runs_out selects spent line_is stops) = cc
  ends is (outcome.overflows may refuses line_is stops) = cc
  ends is (outcome.stops may due line_is stops) = cc

  -- an answer, and more may come
  module _ (st : State) (bs : List Branch) (is : look_at s.branches ≡ Answering st bs) (few : suc k < b.answers) where
    told : (e : Event) (t : Search) → Turn s e t → (e ≡ Answered st s.database.operators) × (t ≡ with_branches bs s)
    told e t turn = by_look s (Answering st bs) e t is turn

    pub answers : From s → GenFrom b n line false (suc k) (value_text n s.database.operators st) (with_branches bs s)
    answers (outcome.turns {t = t} {text = text} may turn more) = let h = (told (Wrote text) t turn).0 in cc
    answers (outcome.answers {t = t} {st = su} {ops = ops} few_too turn more) =
        let h = told (Answered su ops) t turn in
        answers_as su st ops s.database.operators h.0 (subst (λ x. GenFrom b n line false (suc k) (value_text n ops su) x) h.1 more)
      where
        answers_as : (x y : State) (o p : Ops) → Answered x o ≡ Answered y p → GenFrom b n line false (suc k) (value_text n o x) (with_branches bs s)
            → GenFrom b n line false (suc k) (value_text n p y) (with_branches bs s)
        answers_as x y o p e from =
            let states : x ≡ y = cc in
            let tables : o ≡ p = cc in
            subst (λ z. GenFrom b n line false (suc k) (value_text n p z) (with_branches bs s)) states
            (subst (λ t. GenFrom b n line false (suc k) (value_text n t x) (with_branches bs s)) tables from)
    answers (outcome.answers_last {t = t} {st = su} {ops = ops} last turn line_is runs) = absurd (omega (arith, few, last))
    answers (outcome.ends {t = t} turn line_is runs) = let h = (told Ended t turn).0 in cc
    answers (outcome.raises {t = t} {ball = ball} may turn line_is runs) = let h = (told (Threw ball) t turn).0 in cc
    answers (outcome.runs_out selects spent line_is stops) = cc
    answers (outcome.overflows may refuses line_is stops) = cc
    answers (outcome.stops may due line_is stops) = cc
