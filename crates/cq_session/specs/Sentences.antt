-- What an interpreter reads of a text, and what its program is then.
use Rattle.std.specs.Prelude.{◌≡◌, ◌⊎◌, ◌<◌, ◌≤◌, ℕ, List, [], ◌∷◌, ◌++◌, length, Bool, true, false, Some, None, ⊤}
use Rattle.spec_syntax.specs.Operators.{Ops}
use Rattle.spec_text.specs.Decided.{Decided}
use Rattle.spec_text.specs.Readings.{Read, Reads, Clause, Ended, Syntax}
use Rattle.spec_syntax.specs.TextTokens.{VariableName, Variables}
use Rattle.spec_syntax.specs.Trees.{Tree}
use Rattle.spec_search.specs.Changes.{consult_error, consulted}
use Rattle.spec_search.specs.Database.{Database}
use Rattle.spec_search.specs.Search.{Search}
use Rattle.spec_transcript.specs.Purposes as purposes
use Rattle.spec_transcript.specs.Purposes.{Purpose, purpose, once, ball_line}
use Rattle.spec_transcript.specs.Session.{Asked, begun, names_from, refusal_ball}
use Rattle.spec_transcript.specs.Causes.{Budgets}
use Rattle.spec_command.specs.Outside.{most_rows}
use Rattle.cq_read.specs.Inputs.{Input}
use Rattle.spec_transcript.specs.declared.Source.{Source}
use Rattle.cq_session.specs.declared.transcript.interpreter.Sentence.{Sentence}
use Rattle.cq_session.specs.declared.transcript.interpreter.Sentence.TheVariants as sentence

-- what a program is between two texts: its database, and the goals that wait for the end of the file
pub record Program : Type 0 where
  pub database : Database
  pub later : List Asked

-- budgets of so many goals, exchanges and answers
abbrev pub budgets_within : ℕ → ℕ → ℕ → Budgets
budgets_within steps pivots answers = record { steps = steps; pivots = pivots; answers = answers; rows = most_rows }

-- this stands at the place of the input, whatever bytes come behind those that are there
pub record IsSettled (ops : Ops) (input : Input) (r : Read) : Type 0 where
  pub reads : Reads ops input.bytes input.place r
  pub settled : (input.finished ≡ true) ⊎ Decided ops input.bytes input.place

-- a clause stands there for this purpose, with these variables, and the input goes on behind it
pub record IsFor (db : Database) (s : Source) (old new : Input) (what : Purpose) (variables : Variables) : Type 0 where
  pub term : Tree
  pub settled : IsSettled db.operators old (Clause term variables new.place)
  pub purpose_is : purpose s term ≡ what

-- the interpreter stands for the search of a goal, whose variables are counted on from some number
pub record Begins (Stands : Search → Type 0) (db : Database) (goal : Tree) (variables : Variables) : Type 0 where
  pub base : ℕ
  pub stands : Stands (begun db goal base variables)

-- the same of a query, with the names of its variables
pub record Asks (Stands : Search → Type 0) (db : Database) (goal : Tree) (variables : Variables) (names : List VariableName) : Type 0 where
  pub base : ℕ
  pub stands : Stands (begun db goal base variables)
  pub names_are : names ≡ names_from base variables

-- What was read at the place of an input, from one program to another.
abbrev pub IsSentence : (Search → Type 0) → List VariableName → Source → Program → Input → Program → Input → Sentence → Type 0
IsSentence Stands names s p old q new sentence.Needs =
    (old.finished ≡ false) × (Decided p.database.operators old.bytes old.place → ⊥) × (q ≡ p) × (new.place ≡ old.place)
IsSentence Stands names s p old q new sentence.End = IsSettled p.database.operators old Ended × (q ≡ p) × (new.place ≡ old.place)
IsSentence Stands names s p old q new (sentence.Syntax at) = IsSettled p.database.operators old (Syntax at new.place) × (q ≡ p)
IsSentence Stands names s p old q new sentence.Added =
    (t : Tree) × (vs : Variables) × IsFor p.database s old new (purposes.Fact t) vs × (consult_error t ≡ None)
    × (q ≡ record p { database = consulted t p.database })
IsSentence Stands names s p old q new (sentence.Refused line) =
    (t : Tree) × (e : Tree) × (vs : Variables) × IsFor p.database s old new (purposes.Fact t) vs × (consult_error t ≡ Some e)
    × (line.items ≡ ball_line p.database.operators (refusal_ball e)) × (q ≡ p)
IsSentence Stands names s p old q new sentence.Waits =
    (g : Tree) × (vs : Variables) × IsFor p.database s old new (purposes.Initialization g) vs
    × (q ≡ record p { later = p.later ++ record { goal = g; variables = vs } ∷ [] })
IsSentence Stands names s p old q new sentence.Directive =
    (g : Tree) × (vs : Variables) × IsFor p.database s old new (purposes.Directive g) vs × Begins Stands p.database (once g) vs × (q ≡ p)
IsSentence Stands names s p old q new sentence.Query =
    (g : Tree) × (vs : Variables) × IsFor p.database s old new (purposes.Query g) vs × Asks Stands p.database g vs names × (q ≡ p)

-- the first goal that waited is begun, or none waits
abbrev pub BeginsLater : (Search → Type 0) → Program → Program → Bool → Type 0
BeginsLater Stands p q true = (a : Asked) × (more : List Asked) × (p.later ≡ a ∷ more) × Begins Stands p.database (once a.goal) a.variables × (q ≡ record p { later = more })
BeginsLater Stands p q false = (p.later ≡ []) × (q ≡ p)

-- reading moved on past what stood there, within the bytes
abbrev pub Moved : Input → Input → Type 0
Moved old new = (old.place < new.place) × (new.place ≤ length old.bytes)

abbrev pub MovesOn : Input → Input → Sentence → Type 0
MovesOn old new sentence.Needs = ⊤
MovesOn old new sentence.End = ⊤
MovesOn old new (sentence.Syntax at) = Moved old new
MovesOn old new sentence.Added = Moved old new
MovesOn old new (sentence.Refused line) = Moved old new
MovesOn old new sentence.Waits = Moved old new
MovesOn old new sentence.Directive = Moved old new
MovesOn old new sentence.Query = Moved old new
