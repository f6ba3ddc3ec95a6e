-- The left side of a disjunction.
use Rattle.std.specs.Prelude.{◌≡◌, ℕ, List, ◌∷◌, codes}
use Rattle.spec_numbers.specs.Texts.{Text}
use Rattle.spec_syntax.specs.Trees.{Tree, binary}
use Rattle.spec_search.specs.Control.{put, first_items}
use Rattle.spec_search.specs.Replies.{Place}
use Rattle.cq_built.specs.Sides.{HasSides}
use Rattle.cq_built.specs.declared.sides.Sides.{Sides}
use Rattle.cq_term.specs.Meaning.{HeapTerm}
use Rattle.cq_term.specs.Trees.{tree}

-- the term is an if-then of these sides
pub record IsIfThen (texts : List Text) (ts : List HeapTerm) (id : ℕ) (s : Sides) : Type 0 where
  pub sides : HasSides ts id s
  pub term : tree texts ts id ≡ binary (codes "->") (tree texts ts s.left) (tree texts ts s.right)

-- the left side is no if-then: it is put in front as it is
abbrev pub IsPlain : Tree → Type 0
IsPlain a = (p : Place) → first_items p a ≡ put a p.cut ∷ p.rest
