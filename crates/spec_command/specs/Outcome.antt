-- The line that `gen` writes: what the search of its query comes to.
use Rattle.std.specs.Prelude.{◌≡◌, ℕ, suc, ◌<◌, [], ◌++◌, Bool, true, false, None, codes}
use Rattle.cq_frac.specs.declared.Pair.{Pair}
use Rattle.spec_numbers.specs.Texts.{Text}
use Rattle.spec_syntax.specs.Operators.{Ops}
use Rattle.spec_terms.specs.Term.{Var}
use Rattle.spec_text.specs.Numbers.{whole_text}
use Rattle.spec_text.specs.Written.{writeq}
use Rattle.spec_branch.specs.Branch.{State, Copied, read}
use Rattle.spec_search.specs.Database.{initial}
use Rattle.spec_search.specs.Search.{Search, start, look_at, is_selecting}
use Rattle.spec_search.specs.Turns.{Turn, Refuses, Wrote, Answered, Threw, Ended}
use Rattle.spec_transcript.specs.Causes.{Budgets, Cause, Resolutions, Overflow, stop_text}
use Rattle.spec_transcript.specs.Due.{Due}
use Rattle.spec_transcript.specs.Session.{MayGo}
use Rattle.spec_command.specs.Query.{query, variables}

-- what the query may spend: goals, exchanges, answers, and rows
abbrev pub gen_budgets : Budgets
gen_budgets = record { steps = 1000000000; pivots = 1000000000; answers = 10; rows = 4096 }

-- the search of the query for n
abbrev pub gen_search : ℕ → Search
gen_search n = start initial (query n) (variables n)

-- ---- the line

-- V as it reads in the state of an answer, as by writeq
abbrev pub value_text : ℕ → Ops → State → Text
value_text n ops st = writeq ops (read st (Var n))

-- n=N inf=V answers=A
abbrev pub gen_line : ℕ → Text → ℕ → Text
gen_line n v a = codes "n=" ++ whole_text n ++ codes " inf=" ++ v ++ codes " answers=" ++ whole_text a ++ codes "\n"

-- ---- the search's course

-- So many answers came, and V is written so in the last of them: from such a search on, the line that is written, and whether it
-- is that of a stop. What goals write isn't shown.
pub data GenFrom (b : Budgets) (n : ℕ) (line : Text) (stopped : Bool) : ℕ → Text → Search → Type 0 where
  turns : {s t : Search} {k : ℕ} {v : Text} {text : Text} → MayGo b s → Turn s (Wrote text) t → GenFrom b n line stopped k v t
      → GenFrom b n line stopped k v s
  answers : {s t : Search} {k : ℕ} {v : Text} {st : State} {ops : Ops} → suc k < b.answers → Turn s (Answered st ops) t
      → GenFrom b n line stopped (suc k) (value_text n ops st) t → GenFrom b n line stopped k v s
  -- the last answer that is allowed, after which no search follows
  answers_last : {s t : Search} {k : ℕ} {v : Text} {st : State} {ops : Ops} → suc k ≡ b.answers → Turn s (Answered st ops) t
      → line ≡ gen_line n (value_text n ops st) (suc k) → stopped ≡ false → GenFrom b n line stopped k v s
  ends : {s t : Search} {k : ℕ} {v : Text} → Turn s Ended t → line ≡ gen_line n v k → stopped ≡ false → GenFrom b n line stopped k v s
  raises : {s t : Search} {k : ℕ} {v : Text} {ball : Copied} → MayGo b s → Turn s (Threw ball) t → line ≡ gen_line n v k
      → stopped ≡ false → GenFrom b n line stopped k v s
  runs_out : {s : Search} {k : ℕ} {v : Text} → is_selecting (look_at s.branches) ≡ true → s.selected ≡ b.steps
      → line ≡ stop_text (Resolutions b.steps) → stopped ≡ true → GenFrom b n line stopped k v s
  overflows : {s : Search} {k : ℕ} {v : Text} {pair : Pair} → MayGo b s → Refuses s pair → line ≡ stop_text (Overflow pair)
      → stopped ≡ true → GenFrom b n line stopped k v s
  stops : {s : Search} {k : ℕ} {v : Text} {cause : Cause} → MayGo b s → Due b None s cause → line ≡ stop_text cause
      → stopped ≡ true → GenFrom b n line stopped k v s

-- this line is written for n, and it is that of a stop or not
abbrev pub GenWrites : ℕ → Text → Bool → Type 0
GenWrites n line stopped = GenFrom gen_budgets n line stopped 0 [] (gen_search n)
