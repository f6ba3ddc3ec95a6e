-- What continuations have to do, as more of them are made.
use Rattle.std.specs.Prelude.{◌≡◌, ℕ, ◌<◌, ◌≤◌, List, length, Bool, true, false}
use Rattle.spec_numbers.specs.Texts.{Text}
use Rattle.spec_builtins.specs.Kinds.{is_callable}
use Rattle.cq_control.specs.Items.{items_at}
use Rattle.cq_term.specs.Meaning.{HeapTerm}
use Rattle.cq_term.specs.Trees.{tree}
use Rattle.spec_engine.specs.declared.machine.cell.Cell.{Cell}
use Rattle.spec_engine.specs.declared.machine.cell.Cell.TheVariants.{Goal, Call}

-- the continuation is there and has this to do
pub record HasCells (lists : List (List Cell)) (k : ℕ) (cells : List Cell) : Type 0 where
  pub there : k < length lists
  pub are : items_at lists k ≡ cells

-- more were made: those that were there have the same to do
pub record KeepsLists (old new : List (List Cell)) : Type 0 where
  pub more : length old ≤ length new
  pub same : (k : ℕ) → k < length old → items_at new k ≡ items_at old k

-- the cell of a goal that a construct puts in front: one that is not callable is put there as call of it
abbrev pub put_cell : Bool → ℕ → ℕ → Cell
put_cell true t height = Goal t height
put_cell false t height = Call t

-- the same of a term of a heap
abbrev pub goal_cell : List Text → List HeapTerm → ℕ → ℕ → Cell
goal_cell texts ts t height = put_cell (is_callable (tree texts ts t)) t height
