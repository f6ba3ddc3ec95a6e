-- What a run reads, and how far it came.
use Rattle.std.specs.Prelude.{◌≡◌, ◌⊎◌, ◌<◌, ℕ, List, ◌∷◌, length, Option, Some, None, if◌then◌else◌, nat_le}
use Rattle.cq_outside.specs.Files.{Files}
use Rattle.cq_outside.specs.declared.shelf.TheConstants.{SIZE_LIMIT}
use Rattle.cq_words.specs.Asked.{Asked}
use Rattle.spec_numbers.specs.Texts.{Text}
use Rattle.spec_text.specs.Decided.{Decided}
use Rattle.spec_search.specs.Database.{Database, initial}
use Rattle.spec_transcript.specs.Causes.{Budgets}
use Rattle.spec_transcript.specs.declared.Source.TheVariants.{Input}
use Rattle.spec_transcript.specs.Session as session
use Rattle.spec_transcript.specs.Session.{Session, Opening, Reading, Reader, Marks, Runs}

-- the files by their names, and the bytes of the input
pub record Outside : Type 0 where
  pub files : Files
  pub input : List ℕ

-- where both are told
abbrev pub outside : Option Files → Option (List ℕ) → Option Outside
outside (Some files) (Some input) = Some (record { files = files; input = input })
outside files input = None

-- the bytes of a file that is not too large
abbrev pub within_size : Option (List ℕ) → Option (List ℕ)
within_size None = None
within_size (Some bytes) = if nat_le (length bytes) SIZE_LIMIT then Some bytes else None

-- the files that are there and within size
abbrev pub given : Files → Text → Option (List ℕ)
given files name = within_size (files name)

-- the most rows that eliminating a variable may leave
abbrev pub most_rows : ℕ
most_rows = 4096

-- what a query may spend by the words, and how many rows a projection may have
abbrev pub budgets_of : Asked → Budgets
budgets_of a = record { steps = a.steps; pivots = a.pivots; answers = a.answers; rows = most_rows }

module _ (o : Outside) (a : Asked) where
  -- the run came there, and wrote this text
  abbrev pub Reaches : Text → Marks → Session → Type 0
  Reaches text marks here = Runs (budgets_of a) (given o.files) o.input (Opening initial a.files) text marks here

  abbrev pub Transcribes : Text → Marks → Type 0
  Transcribes text marks = session.Transcript (budgets_of a) (given o.files) o.input a.files text marks

  abbrev pub HasWritten : Text → Type 0
  HasWritten text = session.WrittenSoFar (budgets_of a) (given o.files) o.input a.files text

  -- the file of this name is the next to be consulted, and the text is written up to it
  pub record ComesToFile (name text : Text) : Type 0 where
    pub database : Database
    pub later : List Text
    pub marks : Marks
    pub runs : Reaches text marks (Opening database (name ∷ later))

  -- Of the input these bytes are read, and the text is written of all that they decide: behind a clause or an error that they decide
  -- stands one more of them.
  pub record HasReadAll (bytes : List ℕ) (text : Text) : Type 0 where
    pub database : Database
    pub reader : Reader
    pub is_input : reader.source ≡ Input
    pub short : (reader.at ≡ 0) ⊎ (reader.at < length bytes)
    pub undecided : Decided database.operators bytes reader.at → ⊥
    pub marks : Marks
    pub runs : Reaches text marks (Reading database reader)
