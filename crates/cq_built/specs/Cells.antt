-- Cells of lists on a heap, and the parts of lists.
use Rattle.std.specs.Prelude.{◌≡◌, ℕ, ◌<◌, List, ◌∷◌, length}
use Rattle.spec_numbers.specs.Texts.{Text}
use Rattle.spec_terms.specs.Term.{size}
use Rattle.spec_syntax.specs.Trees.{Tree}
use Rattle.spec_builtins.specs.Kinds.{Parts, parts}
use Rattle.cq_term.specs.Meaning.{HeapTerm, at}
use Rattle.cq_term.specs.Trees.{tree, trees}
use Rattle.cq_built.specs.declared.kinds.lists.Cell.{Cell}
use Rattle.cq_built.specs.declared.kinds.lists.Parts as listed

-- the parts with another element in front
abbrev pub with_first : Tree → Parts → Parts
with_first t p = record p { elements = t ∷ p.elements }

-- the term is a cell of these two, of which the tail is smaller
pub record IsCell (texts : List Text) (ts : List HeapTerm) (id : ℕ) (c : Cell) : Type 0 where
  pub head : c.head < length ts
  pub tail : c.tail < length ts
  pub parts : parts (tree texts ts id) ≡ with_first (tree texts ts c.head) (parts (tree texts ts c.tail))
  pub smaller : size (at ts c.tail) < size (at ts id)

-- the elements and the tail as trees
abbrev pub parts_of : List Text → List HeapTerm → listed.Parts → Parts
parts_of texts ts p = record { elements = trees texts ts p.elements.items; tail = tree texts ts p.tail }
