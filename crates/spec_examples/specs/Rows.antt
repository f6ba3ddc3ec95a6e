-- What commands write: with a hundred goals and ten answers to each query, where nothing else is said.
use Rattle.std.specs.Prelude.{ℕ, List, [], ◌∷◌, codes, true, false, Option, Some, None}
use Rattle.spec_numbers.specs.Texts.{Text}
use Rattle.spec_transcript.specs.Causes.{Budgets}
use Rattle.spec_transcript.specs.Session.{Marks, unmarked, Transcript}

-- budgets that no sample spends
abbrev pub some_goals : Budgets
some_goals = record { steps = 100; pivots = 10; answers = 10; rows = 10 }

-- so many goals
abbrev pub goals : ℕ → Budgets
goals n = record some_goals { steps = n }

-- so many answers
abbrev pub answers : ℕ → Budgets
answers n = record some_goals { answers = n }

-- an error line was written
abbrev pub with_error : Marks
with_error = record { faulty = true; stopped = false }

-- a query stopped
abbrev pub with_stop : Marks
with_stop = record { faulty = false; stopped = true }

-- no file is named, and none is there
abbrev pub no_files : Text → Option (List ℕ)
no_files name = None

-- one file
abbrev pub file : Text → Text → Option (List ℕ)
file bytes name = Some bytes

-- the name of one file
abbrev pub one_name : List Text
one_name = codes "p.pl" ∷ []

-- the input writes this text, without an error line or a stop
abbrev pub Writes : Text → Text → Type 0
Writes input text = Transcript some_goals no_files input [] text unmarked

-- the same with an error line
abbrev pub WritesError : Text → Text → Type 0
WritesError input text = Transcript some_goals no_files input [] text with_error

-- the same with a stop
abbrev pub WritesStop : Text → Text → Type 0
WritesStop input text = Transcript some_goals no_files input [] text with_stop

-- with these budgets
abbrev pub WritesWithin : Budgets → Text → Text → Type 0
WritesWithin budgets input text = Transcript budgets no_files input [] text unmarked

-- under these budgets the input writes this text and stops
abbrev pub StopsWithin : Budgets → Text → Text → Type 0
StopsWithin budgets input text = Transcript budgets no_files input [] text with_stop

-- behind a file
abbrev pub WritesAfter : Text → Text → Text → Type 0
WritesAfter bytes input text = Transcript some_goals (file bytes) input one_name text unmarked

-- the same with an error line
abbrev pub WritesErrorAfter : Text → Text → Text → Type 0
WritesErrorAfter bytes input text = Transcript some_goals (file bytes) input one_name text with_error

-- behind this file the input writes this text and stops
abbrev pub StopsAfter : Text → Text → Text → Type 0
StopsAfter bytes input text = Transcript some_goals (file bytes) input one_name text with_stop
