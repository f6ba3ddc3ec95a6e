-- The transcript: what the texts of some files and of the input write, step by step.
use Rattle.std.specs.Prelude.{◌≡◌, ◌⊎◌, ℕ, suc, ◌+◌, ◌<◌, List, [], ◌∷◌, ◌++◌, true, false, Option, Some, None, codes}
use Rattle.cq_frac.specs.declared.Pair.{Pair}
use Rattle.spec_numbers.specs.Texts.{Text}
use Rattle.spec_syntax.specs.Operators.{Ops}
use Rattle.spec_syntax.specs.TextTokens.{VariableName, Variables}
use Rattle.spec_syntax.specs.Trees.{Tree}
use Rattle.spec_text.specs.Readings.{Reads, Clause, Ended as TextEnds, Syntax}
use Rattle.spec_text.specs.Later.{tree_later, variables_later}
use Rattle.spec_builtins.specs.Built.{indicator}
use Rattle.spec_builtins.specs.Errors.{error_ball}
use Rattle.spec_answers.specs.Answer.{AnswerForm}
pub use Rattle.spec_answers.specs.Marks.{Mark, plain_line, error_line, stop_line, Marks, unmarked, marked}
use Rattle.spec_branch.specs.Branch.{State, Copied}
use Rattle.spec_search.specs.Database.{Database, initial}
use Rattle.spec_search.specs.Changes.{consult_error, consulted}
use Rattle.spec_search.specs.Search.{Search, start, look_at, is_selecting}
use Rattle.spec_search.specs.Turns.{Wrote, Answered, Threw, Ended, Turn, Refuses}
use Rattle.spec_transcript.specs.Causes.{Budgets, Cause, Resolutions, Overflow, stop_text}
use Rattle.spec_transcript.specs.Due.{Due}
use Rattle.spec_transcript.specs.declared.Source.{Source}
use Rattle.spec_transcript.specs.declared.Source.TheVariants.{File, Input}
use Rattle.spec_transcript.specs.Purposes.{Purpose, Directive, Initialization, Query, Fact, purpose, once, answer_end, no_line, more_line, ball_line, syntax_line}

-- ---- where a session stands

-- a goal and its variables
pub record Asked : Type 0 where
  pub goal : Tree
  pub variables : Variables

-- how far a text is read, the goals that run after the file, and the names of the files after it
pub record Reader : Type 0 where
  pub source : Source
  pub bytes : List ℕ
  pub at : ℕ
  pub later : List Asked
  pub files : List Text

-- a reader before the first byte
abbrev pub beginning : Source → List ℕ → List Text → Reader
beginning source bytes files = record { source = source; bytes = bytes; at = 0; later = []; files = files }

-- who asked: a directive, or a query with the names of its variables and how many answers it may still write
pub data Asker : Type 0 where
  ADirective : Asker
  AQuery : List VariableName → ℕ → Asker

-- the names of the query's variables; a directive makes no answer's lines
abbrev pub names_of : Asker → Option (List VariableName)
names_of ADirective = None
names_of (AQuery names n) = Some names

-- before the next file or the input; before the next clause of a text; in a search; at the end
pub data Session : Type 0 where
  Opening : Database → List Text → Session
  Reading : Database → Reader → Session
  Searching : Search → Asker → Reader → Session
  Over : Database → Session

-- a clause stands where the reader is, for this purpose, with these variables, and the text goes on behind it
pub record Stands (db : Database) (r : Reader) (what : Purpose) (variables : Variables) (next : ℕ) : Type 0 where
  pub term : Tree
  pub reads : Reads db.operators r.bytes r.at (Clause term variables next)
  pub purpose_is : purpose r.source term ≡ what

-- The search of a goal, with its variables counted on from any number: a heap's next one, or 0. The text does not
-- tell which.
abbrev pub begun : Database → Tree → ℕ → Variables → Search
begun db g base vs = start db (tree_later base g) (base + vs.count)

-- the names of its variables then
abbrev pub names_from : ℕ → Variables → List VariableName
names_from base vs = (variables_later base vs).names

-- the next turn is within the budget of goals
abbrev pub MayGo : Budgets → Search → Type 0
MayGo budgets s = (is_selecting (look_at s.branches) ≡ false) ⊎ (s.selected < budgets.steps)

-- the ball of a file's clause that is refused
abbrev pub refusal_ball : Tree → Tree
refusal_ball e = error_ball e (indicator (codes "assertz") 1)

-- ---- steps

-- shelf has the files that are there and within size, by name
module _ (budgets : Budgets) (shelf : Text → Option (List ℕ)) (input : List ℕ) where
  -- one step of a session, with the text that it writes
  pub data Step : Session → Text → Mark → Session → Type 0 where
    -- files are loaded in order, each when its turn comes, and then the input
    opens_file : {db : Database} {name : Text} {names : List Text} {bytes : List ℕ} → shelf name ≡ Some bytes
        → Step (Opening db (name ∷ names)) [] plain_line (Reading db (beginning File bytes names))
    opens_input : {db : Database} → Step (Opening db []) [] plain_line (Reading db (beginning Input input []))
    -- the goals of `initialization` run after the file, in order
    initializes : {db : Database} {r : Reader} {a : Asked} {more : List Asked} (base : ℕ)
        → Reads db.operators r.bytes r.at TextEnds → r.later ≡ a ∷ more
        → Step (Reading db r) [] plain_line (Searching (begun db (once a.goal) base a.variables) ADirective (record r { later = more }))
    file_ends : {db : Database} {r : Reader} → Reads db.operators r.bytes r.at TextEnds → r.source ≡ File → r.later ≡ []
        → Step (Reading db r) [] plain_line (Opening db r.files)
    input_ends : {db : Database} {r : Reader} → Reads db.operators r.bytes r.at TextEnds → r.source ≡ Input
        → r.later ≡ []
        → Step (Reading db r) [] plain_line (Over db)
    -- after a syntax error reading goes on further on
    syntax : {db : Database} {r : Reader} {at resume : ℕ} → Reads db.operators r.bytes r.at (Syntax at resume)
        → Step (Reading db r) (syntax_line at) error_line (Reading db (record r { at = resume }))
    directs : {db : Database} {r : Reader} {g : Tree} {vs : Variables} {next : ℕ} (base : ℕ)
        → Stands db r (Directive g) vs next
        → Step (Reading db r) [] plain_line (Searching (begun db (once g) base vs) ADirective (record r { at = next }))
    waits : {db : Database} {r : Reader} {g : Tree} {vs : Variables} {next : ℕ} → Stands db r (Initialization g) vs next
        → Step (Reading db r) [] plain_line
        (Reading db (record r { at = next; later = r.later ++ record { goal = g; variables = vs } ∷ [] }))
    asks : {db : Database} {r : Reader} {g : Tree} {vs : Variables} {next : ℕ} (base : ℕ)
        → Stands db r (Query g) vs next
        → Step (Reading db r) [] plain_line (Searching (begun db g base vs) (AQuery (names_from base vs) budgets.answers) (record r { at = next }))
    adds : {db : Database} {r : Reader} {t : Tree} {vs : Variables} {next : ℕ} → Stands db r (Fact t) vs next
        → consult_error t ≡ None
        → Step (Reading db r) [] plain_line (Reading (consulted t db) (record r { at = next }))
    refuses : {db : Database} {r : Reader} {t e : Tree} {vs : Variables} {next : ℕ} → Stands db r (Fact t) vs next
        → consult_error t ≡ Some e
        → Step (Reading db r) (ball_line db.operators (refusal_ball e)) error_line (Reading db (record r { at = next }))
    -- a search goes on, perhaps with output
    turns : {s t : Search} {who : Asker} {r : Reader} {text : Text} → MayGo budgets s → Turn s (Wrote text) t
        → Step (Searching s who r) text plain_line (Searching t who r)
    -- an answer, and the last one that is allowed, after which no search follows
    answers : {s t : Search} {st : State} {ops : Ops} {names : List VariableName} {n : ℕ} {r : Reader} {text : Text}
        → Turn s (Answered st ops) t → AnswerForm ops names st text
        → Step (Searching s (AQuery names (suc (suc n))) r) (text ++ answer_end) plain_line
        (Searching t (AQuery names (suc n)) r)
    answers_last : {s t : Search} {st : State} {ops : Ops} {names : List VariableName} {r : Reader} {text : Text}
        → Turn s (Answered st ops) t → AnswerForm ops names st text
        → Step (Searching s (AQuery names 1) r) (text ++ answer_end ++ more_line) plain_line (Reading t.database r)
    -- a directive that succeeds writes nothing
    succeeds : {s t : Search} {st : State} {ops : Ops} {r : Reader} → Turn s (Answered st ops) t
        → Step (Searching s ADirective r) [] plain_line (Reading t.database r)
    fails : {s t : Search} {who : Asker} {r : Reader} → Turn s Ended t
        → Step (Searching s who r) no_line plain_line (Reading t.database r)
    raises : {s t : Search} {who : Asker} {r : Reader} {ball : Copied} → MayGo budgets s → Turn s (Threw ball) t
        → Step (Searching s who r) (ball_line t.database.operators ball.term) error_line (Reading t.database r)
    -- exactly where another goal would be selected
    runs_out : {s : Search} {who : Asker} {r : Reader} → is_selecting (look_at s.branches) ≡ true
        → s.selected ≡ budgets.steps
        → Step (Searching s who r) (stop_text (Resolutions budgets.steps)) stop_line (Reading s.database r)
    -- exactly where the arithmetic of the selected goal refuses two numbers
    overflows : {s : Search} {who : Asker} {r : Reader} (pair : Pair) → MayGo budgets s → Refuses s pair
        → Step (Searching s who r) (stop_text (Overflow pair)) stop_line (Reading s.database r)
    -- where what is kept shows the cause; a stopped turn leaves the database as before it, and writes nothing of
    -- its answer
    stops : {s : Search} {who : Asker} {r : Reader} (cause : Cause) → MayGo budgets s
        → Due budgets (names_of who) s cause
        → Step (Searching s who r) (stop_text cause) stop_line (Reading s.database r)

  -- some steps, with all that they write
  pub data Runs : Session → Text → Marks → Session → Type 0 where
    none : {a : Session} → Runs a [] unmarked a
    then : {a b c : Session} {text out : Text} {marks : Marks} {mark : Mark} → Runs a text marks b → Step b out mark c
        → Runs a (text ++ out) (marked marks mark) c

  -- the whole transcript of these files and the input, and which lines it has
  pub record Transcript (files : List Text) (text : Text) (marks : Marks) : Type 0 where
    pub last : Database
    pub runs : Runs (Opening initial files) text marks (Over last)

  -- the text is the beginning of what some steps write
  pub record WrittenSoFar (files : List Text) (text : Text) : Type 0 where
    pub whole : Text
    pub more : Text
    pub marks : Marks
    pub here : Session
    pub runs : Runs (Opening initial files) whole marks here
    pub begins : whole ≡ text ++ more
