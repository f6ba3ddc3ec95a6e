-- An interpreter as the writer of a transcript sees it.
use Rattle.std.specs.Prelude.{◌≡◌, ℕ, ◌-◌, ◌<◌, List, map, length, All}
use Rattle.spec_linear.specs.Echelon.{AreDistinct}
use Rattle.spec_numbers.specs.Texts.{Text}
use Rattle.spec_syntax.specs.Operators.{Ops}
use Rattle.spec_terms.specs.Term.{named}
use Rattle.spec_syntax.specs.TextTokens.{VariableName}
use Rattle.spec_syntax.specs.Trees.{Tree}
use Rattle.spec_branch.specs.Branch.{State}
use Rattle.spec_search.specs.Search.{Search}
use Rattle.spec_transcript.specs.Causes.{Budgets}
use Rattle.spec_transcript.specs.Session.{Asked}
use Rattle.cq_term.specs.Texts.{text_of}
use Rattle.cq_resolve.specs.StoredValue.{HaveNamesBelow}
use Rattle.cq_term.specs.Meaning.{HeapTerm}
use Rattle.cq_term.specs.Trees.{tree}
use Rattle.cq_settle.specs.Rest.{IsReadyAs}
use Rattle.cq_machine.specs.Machines.{IsName, database_of, now, terms}
use Rattle.cq_engine.specs.Seeking.{IsKept}
use Rattle.cq_engine.specs.Events.{IsRunning, Stands}
use Rattle.cq_engine.specs.declared.events.engine.Engine.{Engine}
use Rattle.cq_session.specs.Sentences.{Program, budgets_within}
use Rattle.cq_interpreter.specs.Counted.{AllCount}
use Rattle.cq_interpreter.specs.Numbered.{AreNumbered}
use Rattle.cq_interpreter.specs.declared.toplevel.Waiting.{Waiting}
use Rattle.cq_interpreter.specs.declared.toplevel.Toplevel.{Toplevel}

-- ---- its engine

-- the images of an engine's variables, and the tree of one of its terms
abbrev pub images_of : Engine → List HeapTerm
images_of e = e.machine.world.first.heap.now.images

abbrev pub read_in : Engine → ℕ → Tree
read_in e id = tree e.machine.atoms (terms e.machine) id

-- the texts of names, the images of variables and the trees of terms
abbrev pub texts : Toplevel → List Text
texts t = t.engine.machine.atoms

abbrev pub images : Toplevel → List HeapTerm
images t = images_of t.engine

abbrev pub term_in : Toplevel → ℕ → Tree
term_in t id = read_in t.engine id

-- ---- what it is for

-- a goal that waits, as the text had it
abbrev pub asked : List Text → Waiting → Asked
asked names w = record { goal = named (text_of names) w.clause.body; variables = record { names = w.names.items; count = w.clause.variables } }

abbrev pub program_of : Toplevel → Program
program_of t = record { database = database_of t.engine.machine; later = map (asked (texts t)) t.later.items }

abbrev pub budgets_of : Toplevel → Budgets
budgets_of t = budgets_within t.steps t.engine.machine.world.first.store.pivots t.answers

abbrev pub left_of : Toplevel → ℕ
left_of t = t.engine.steps - t.engine.selected

abbrev pub names_of : Toplevel → List VariableName
names_of t = t.names.items

-- what it keeps between its calls
pub record IsWhole (t : Toplevel) : Type 0 where
  pub engine : IsKept t.engine.machine
  pub freeze : IsName (texts t) t.freeze "freeze"
  pub later : All (λ w. HaveNamesBelow (length (texts t)) w.clause) t.later.items

-- its engine runs a query for the search, in each of whose branches the variables of the names are counted
pub record IsAsking (t : Toplevel) (s : Search) : Type 0 where
  pub running : IsRunning t.engine
  pub stands : Stands t.engine s
  pub steps : t.engine.steps ≡ t.steps
  pub variables : ℕ
  pub names : AreNumbered 0 t.names.items variables
  pub counted : AllCount variables s.branches

-- its engine's world is the state of an answer, which has the variables of the names
pub record HasAnswered (t : Toplevel) (st : State) (ops : Ops) : Type 0 where
  pub ready : IsReadyAs (texts t) (now t.engine.machine).0 st
  pub operators : ops ≡ (database_of t.engine.machine).operators
  pub live : All (λ n. n.number < length (images t)) t.names.items
  pub distinct : AreDistinct (map (λ n. n.number) t.names.items)
