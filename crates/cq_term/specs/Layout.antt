-- How a heap lies in its lists, and what it keeps true now and at each mark.
use Rattle.std.specs.Prelude.{◌≡◌, ℕ, zero, suc, ◌+◌, ◌<◌, ◌≤◌, List, [], ◌∷◌, ◌++◌, map, take, drop, slice_index_or, slice_get, slice_set, length, None, Some, IsTrue, ⊤, Bool, true, false, ◌⊎◌, if◌then◌else◌}
use Rattle.std.specs.declared.option.Option.{Option}
use Rattle.spec_numbers.specs.Rational.{ℚ, int_ℚ, 0ℚ}
use Rattle.cq_trail.specs.Log.{restore}
use Rattle.cq_term.specs.Built.{Built}
use Rattle.cq_term.specs.Built as built
use Rattle.cq_term.specs.Meaning.{Binding, HeapTerm, at, meanings}
use Rattle.cq_term.specs.Ground.{IsGround}
use Rattle.cq_term.specs.HeapValue.{Terms}
use Rattle.cq_term.specs.Rep.{IsHeap, Resolved, terms_of_parts}
use Rattle.cq_term.specs.declared.lists.Cell.{Cell}
use Rattle.cq_term.specs.declared.lists.Cell.TheVariants as cell
use Rattle.cq_term.specs.declared.lists.Lists.{Lists}
use Rattle.cq_term.specs.declared.heap.Place.{Place}

-- what the lists of a heap hold
pub record Contents : Type 0 where
  pub cells : List Cell
  pub wide : List ℚ
  pub args : List ℕ
  pub vars : List ℕ
  pub order : List ℕ
  pub learnt : List ℕ

abbrev pub contents : Lists → Contents
contents l = record { cells = l.cells.items; wide = l.wide.items; args = l.args.items; vars = l.vars.items; order = l.order.items; learnt = l.learnt.items }

-- with one more variable, which is the youngest and unbound
abbrev pub with_var : Contents → Contents
with_var x = record { cells = x.cells ++ cell.Var (length x.vars) ∷ []; wide = x.wide; args = x.args; vars = x.vars ++ length x.cells ∷ []; order = x.order; learnt = x.learnt }

abbrev pub with_vars : ℕ → Contents → Contents
with_vars zero x = x
with_vars (suc n) x = with_var (with_vars n x)

-- with one more variable, which is bound to a term from the start
abbrev pub with_bound : ℕ → Contents → Contents
with_bound id x = record { cells = x.cells; wide = x.wide; args = x.args; vars = x.vars ++ id ∷ []; order = x.order; learnt = x.learnt }

-- what a cell was built as, by the wide numbers and the arguments beside it
abbrev pub read : List ℚ → List ℕ → Cell → Built
read wide args (cell.Var v) = built.Var v
read wide args (cell.Whole n) = built.Number (int_ℚ n)
read wide args (cell.Wide k) = built.Number (slice_index_or wide k 0ℚ)
read wide args (cell.Name a) = built.Name a
read wide args (cell.Compound g n f s) = built.Compound f (take n (drop s args))
read wide args (cell.Long g f s) = built.Compound f (take (slice_index_or args s 0) (drop (s + 1) args))

abbrev pub all_built : Contents → List Built
all_built x = map (read x.wide x.args) x.cells

-- the variable of a variable's cell
abbrev pub own_variable : Cell → ℕ
own_variable (cell.Var v) = v
own_variable (cell.Whole n) = 0
own_variable (cell.Wide k) = 0
own_variable (cell.Name a) = 0
own_variable (cell.Compound g n f s) = 0
own_variable (cell.Long g f s) = 0

abbrev pub variable_at : Option Cell → ℕ
variable_at None = 0
variable_at (Some c) = own_variable c

-- a variable that was bound, by its cell, and what is to stand for it where it is unbound again
abbrev pub note_of : List Cell → ℕ → ℕ × ℕ
note_of cells i = (variable_at (slice_get cells i), i)

-- the variables of these cells before they were bound
abbrev pub restored : List Cell → List ℕ → List ℕ → List ℕ
restored cells order vars = restore (map (note_of cells) order) vars

-- the cell of each variable, or of the term that it was bound to from the start
abbrev pub homes : Contents → List ℕ
homes x = restored x.cells x.order x.vars

abbrev pub binding_of : List ℕ → ℕ × ℕ → Binding
binding_of vars note = record { variable = note.0; term = slice_index_or vars note.0 0 }

abbrev pub bindings : Contents → List Binding
bindings x = map (binding_of x.vars) (map (note_of x.cells) x.order)

-- what the ids mean
abbrev pub meant : Contents → List HeapTerm
meant x = meanings (all_built x) (bindings x)

abbrev pub terms_of : Contents → Terms
terms_of x = terms_of_parts (all_built x) (homes x) (bindings x)

-- what a cell refers to is there, among so many wide numbers and these arguments
abbrev pub IsKept : ℕ → List ℕ → Cell → Type 0
IsKept wides args (cell.Var v) = ⊤
IsKept wides args (cell.Whole n) = ⊤
IsKept wides args (cell.Wide k) = k < wides
IsKept wides args (cell.Name a) = ⊤
IsKept wides args (cell.Compound g n f s) = s + n ≤ length args
IsKept wides args (cell.Long g f s) = s + 1 + slice_index_or args s 0 ≤ length args

-- the cell says that it was built of numbers and names alone
abbrev pub IsClosed : Cell → Type 0
IsClosed (cell.Var v) = ⊥
IsClosed (cell.Whole n) = ⊤
IsClosed (cell.Wide k) = ⊤
IsClosed (cell.Name a) = ⊤
IsClosed (cell.Compound g n f s) = IsTrue g
IsClosed (cell.Long g f s) = IsTrue g

-- each of these cells is of a variable, which is among so many
abbrev pub AreNoted : List Cell → ℕ → List ℕ → Type 0
AreNoted cells n order = (k i : ℕ) → slice_get order k ≡ Some i → (v : ℕ) × (slice_get cells i ≡ Some (cell.Var v)) × (v < n)

-- each of these is among so many cells
abbrev pub AreLearnt : ℕ → List ℕ → Type 0
AreLearnt n learnt = (k i : ℕ) → slice_get learnt k ≡ Some i → i < n

pub record IsWhole (x : Contents) : Type 0 where
  pub kept : (i : ℕ) (c : Cell) → slice_get x.cells i ≡ Some c → IsKept (length x.wide) x.args c
  pub heap : IsHeap (all_built x) (homes x) (bindings x)
  pub noted : AreNoted x.cells (length x.vars) x.order
  pub learnt : AreLearnt (length x.cells) x.learnt
  pub closed : (i : ℕ) (c : Cell) → slice_get x.cells i ≡ Some c → IsClosed c → IsGround (at (meant x) i)

-- the end of the bindings from an id
abbrev pub Leads : Contents → ℕ → ℕ → Type 0
Leads x id end = Resolved (all_built x) (bindings x) id end

-- a cell that says nothing of its variables
abbrev pub open_cell : Cell → Cell
open_cell (cell.Var v) = cell.Var v
open_cell (cell.Whole n) = cell.Whole n
open_cell (cell.Wide k) = cell.Wide k
open_cell (cell.Name a) = cell.Name a
open_cell (cell.Compound g n f s) = cell.Compound false n f s
open_cell (cell.Long g f s) = cell.Long false f s

-- a compound that said nothing of its variables says that it has none
abbrev pub Closes : Cell → Cell → Type 0
Closes (cell.Var v) d = ⊥
Closes (cell.Whole n) d = ⊥
Closes (cell.Wide k) d = ⊥
Closes (cell.Name a) d = ⊥
Closes (cell.Compound g n f s) d = (g ≡ false) × (d ≡ cell.Compound true n f s)
Closes (cell.Long g f s) d = (g ≡ false) × (d ≡ cell.Long true f s)

abbrev pub open_note : List Cell → ℕ → ℕ × Cell
open_note cells i = (i, open_cell (slice_index_or cells i (cell.Wide 0)))

-- the cells before these said that they have no variable
abbrev pub forgotten : List Cell → List ℕ → List Cell
forgotten cells learnt = restore (map (open_note cells) learnt) cells

-- a compound that says now that it has no variable, and whether that is noted
abbrev pub with_closed : Contents → ℕ → Cell → Bool → Contents
with_closed x i d noted = record { cells = slice_set x.cells i d; wide = x.wide; args = x.args; vars = x.vars; order = x.order; learnt = if noted then x.learnt ++ i ∷ [] else x.learnt }

-- nothing changed, or the cell was a compound that says now that it has no variable
abbrev pub Learns : Contents → Contents → ℕ → Bool → Type 0
Learns x y i noted = (y ≡ x) ⊎ ((c : Cell) × (d : Cell) × (slice_get x.cells i ≡ Some c) × Closes c d × (y ≡ with_closed x i d noted))

-- the lists at a mark
abbrev pub contents_at : Contents → Place → Contents
contents_at x p = record {
  cells = take p.cells (forgotten x.cells (drop p.learnt x.learnt));
  wide = take p.wide x.wide;
  args = take p.args x.args;
  vars = take p.vars (restored x.cells (drop p.order x.order) x.vars);
  order = take p.order x.order;
  learnt = take p.learnt x.learnt;
}

abbrev pub terms_at : Contents → Place → Terms
terms_at x p = terms_of (contents_at x p)

pub record IsWithin (p : Place) (x : Contents) : Type 0 where
  pub cells : p.cells ≤ length x.cells
  pub wide : p.wide ≤ length x.wide
  pub args : p.args ≤ length x.args
  pub vars : p.vars ≤ length x.vars
  pub order : p.order ≤ length x.order
  pub learnt : p.learnt ≤ length x.learnt

-- the first mark was made before the second
pub record IsEarlier (p q : Place) : Type 0 where
  pub cells : p.cells ≤ q.cells
  pub wide : p.wide ≤ q.wide
  pub args : p.args ≤ q.args
  pub vars : p.vars ≤ q.vars
  pub order : p.order ≤ q.order
  pub learnt : p.learnt ≤ q.learnt

abbrev pub AreSorted : List Place → Type 0
AreSorted marks = (j k : ℕ) (p q : Place) → slice_get marks j ≡ Some p → slice_get marks k ≡ Some q → j ≤ k → IsEarlier p q

-- the lists now, and as they were at each mark, are those of a heap
pub record IsMarked (x : Contents) (marks : List Place) : Type 0 where
  pub now : IsWhole x
  pub within : (k : ℕ) (p : Place) → slice_get marks k ≡ Some p → IsWithin p x
  pub before : (k : ℕ) (p : Place) → slice_get marks k ≡ Some p → IsWhole (contents_at x p)
  pub sorted : AreSorted marks
