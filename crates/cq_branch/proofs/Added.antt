-- Continuations that were added to those of a world, and the cells of terms that were read.
use Rattle.std.proofs.Common.{◌≡◌, ℕ, zero, suc, ◌<◌, List, [], ◌∷◌, length, Some, ap, ◌∙◌, arith}
use Rattle.std.specs.Prelude.{slice_get}
use Rattle.std.specs.Option.{option_map}
use Rattle.std.proofs.lemmas.Option.{same_Some, none-some}
use Rattle.spec_numbers.specs.Texts.{Text}
use Rattle.spec_terms.specs.Term.{named}
use Rattle.spec_syntax.specs.Trees.{Tree}
use Rattle.spec_builtins.specs.Kinds.{is_callable}
use Rattle.spec_branch.specs.Branch.{State}
use Rattle.cq_term.specs.Texts.{text_of}
use Rattle.cq_control.specs.Items.{items_at}
use Rattle.cq_term.specs.Meaning.{HeapTerm}
use Rattle.cq_term.specs.Trees.{tree}
use Rattle.cq_settle.specs.Contents.{Contents}
use Rattle.spec_engine.specs.declared.machine.cell.Cell.{Cell}
use Rattle.cq_branch.specs.Lists.{HasCells, KeepsLists, put_cell, goal_cell}
use Rattle.cq_branch.specs.Worlds.{ReadsAs}

-- ---- one more

pub keeps_on : (old mid new : List (List Cell)) → KeepsLists old mid → KeepsLists mid new → KeepsLists old new
keeps_on old mid new e f = record { more = omega (arith, e.more, f.more); same = λ k l. f.same k (omega (arith, l, e.more)) ∙ e.same k l }

-- in front of one that has these cells
pub has_more : (mid new : List (List Cell)) (j k : ℕ) (x : Cell) (cells : List Cell) → HasCells mid j cells → HasCells new k (x ∷ items_at mid j) → HasCells new k (x ∷ cells)
has_more mid new j k x cells h n = record { there = n.there; are = n.are ∙ ap (λ cs. x ∷ cs) h.are }

-- one that was there
pub has_still : (mid new : List (List Cell)) (j : ℕ) (cells : List Cell) → HasCells mid j cells → KeepsLists mid new → HasCells new j cells
has_still mid new j cells h k = record { there = omega (arith, h.there, k.more); are = k.same j h.there ∙ h.are }

-- ---- the tree of a number that reads as a term

pub tree_is : (texts : List Text) (ts : List HeapTerm) (id : ℕ) (t : Tree) → option_map (named (text_of texts)) (slice_get ts id) ≡ Some t → tree texts ts id ≡ t
tree_is texts [] id t e = absurd (none-some t e)
tree_is texts (x ∷ ts) zero t e = same_Some (named (text_of texts) x) t e
tree_is texts (x ∷ ts) (suc id) t e = tree_is texts ts id t e

pub reads_tree : (texts : List Text) (w : Contents) (st : State) (id : ℕ) (t : Tree) → ReadsAs texts w st id t → tree texts w.heap.terms id ≡ t
reads_tree texts w st id t r = tree_is texts w.heap.terms id t r.0

-- the cell of a goal that reads as a term
pub cell_is : (texts : List Text) (w : Contents) (st : State) (id height : ℕ) (t : Tree) → ReadsAs texts w st id t
    → goal_cell texts w.heap.terms id height ≡ put_cell (is_callable t) id height
cell_is texts w st id height t r = ap (λ (u : Tree). put_cell (is_callable u) id height) (reads_tree texts w st id t r)

-- what is behind two cells stays as it was
pub has_behind : (old mid new : List (List Cell)) (k rest : ℕ) (x y : Cell) → KeepsLists old mid → rest < length old → HasCells new k (x ∷ y ∷ items_at mid rest)
    → HasCells new k (x ∷ y ∷ items_at old rest)
has_behind old mid new k rest x y e l h = record { there = h.there; are = h.are ∙ ap (λ cs. x ∷ y ∷ cs) (e.same rest l) }

pub has_front : (old mid new : List (List Cell)) (k rest : ℕ) (x : Cell) → KeepsLists old mid → rest < length old → HasCells new k (x ∷ items_at mid rest)
    → HasCells new k (x ∷ items_at old rest)
has_front old mid new k rest x e l h = record { there = h.there; are = h.are ∙ ap (λ cs. x ∷ cs) (e.same rest l) }
