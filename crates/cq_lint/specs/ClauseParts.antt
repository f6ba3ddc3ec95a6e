-- The parts of a clause on a heap.
use Rattle.std.specs.Prelude.{◌≡◌, ℕ, ◌<◌, List, length, Option, Some, None, ⊤}
use Rattle.spec_numbers.specs.Texts.{Text}
use Rattle.spec_syntax.specs.Operators.{Ops}
use Rattle.spec_syntax.specs.Trees.{Tree}
use Rattle.spec_builtins.specs.Built.{compound3}
use Rattle.cq_term.specs.Meaning.{HeapTerm}
use Rattle.cq_term.specs.Trees.{tree}
use Rattle.cq_goals.specs.Operators.{IsLiveGoal}
use Rattle.cq_goals.specs.declared.declarations.operators.OperatorGoal.{OperatorGoal}
use Rattle.cq_lint.specs.Clauses as meant
use Rattle.cq_lint.specs.Clauses.{operators_by}
use Rattle.cq_lint.specs.declared.clauses.Parts.{Parts}

-- the tree of a term, if there is one
abbrev pub tree_if : List Text → List HeapTerm → Option ℕ → Option Tree
tree_if texts ts None = None
tree_if texts ts (Some id) = Some (tree texts ts id)

-- the term is there, if there is one
abbrev pub IsLiveIf : List HeapTerm → Option ℕ → Type 0
IsLiveIf ts None = ⊤
IsLiveIf ts (Some id) = id < length ts

-- these are the head and the body
pub record AreParts (texts : List Text) (ts : List HeapTerm) (meant : meant.Parts) (p : Parts) : Type 0 where
  pub head : tree_if texts ts p.head ≡ meant.head
  pub body : tree_if texts ts p.body ≡ meant.body
  pub head_live : IsLiveIf ts p.head
  pub body_live : IsLiveIf ts p.body

-- the goal of a directive is this one, or sets no operators
abbrev pub IsOperatorGoal : List Text → List HeapTerm → Option Tree → Option OperatorGoal → Type 0
IsOperatorGoal texts ts directive None = (ops : Ops) → operators_by directive ops ≡ ops
IsOperatorGoal texts ts directive (Some g) =
    IsLiveGoal ts g × (directive ≡ Some (compound3 "op" (tree texts ts g.priority) (tree texts ts g.kind) (tree texts ts g.names)))
