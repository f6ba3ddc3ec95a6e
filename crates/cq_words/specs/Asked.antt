-- What the words of the command line ask for.
use Rattle.std.specs.Prelude.{ℕ, List, map}
use Rattle.spec_numbers.specs.Texts.{Text}
use Rattle.cq_words.specs.declared.run.Run.{Run}
use Rattle.cq_words.specs.declared.run.Task as words
use Rattle.cq_words.specs.declared.run.Task.TheVariants as task

-- how many goals a query may select, how many exchanges one maximisation may make, how many answers a query may write, and the
-- names of the files
pub record Asked : Type 0 where
  pub steps : ℕ
  pub pivots : ℕ
  pub answers : ℕ
  pub files : List Text

abbrev pub as_asked : Run → Asked
as_asked r = record { steps = r.steps; pivots = r.pivots; answers = r.answers; files = map (λ s. s.now) r.files.items }

-- the transcript of files and of the input, or the line of the query for a number
pub data Task : Type 0 where
  ToRun : Asked → Task
  ToGen : ℕ → Task

abbrev pub as_task : words.Task → Task
as_task (task.Run r) = ToRun (as_asked r)
as_task (task.Gen n) = ToGen n
