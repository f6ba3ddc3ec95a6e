-- Trees over the trees of terms.
use Rattle.std.specs.Prelude.{ℕ, List}
use Rattle.spec_numbers.specs.Texts.{Text}
use Rattle.spec_syntax.specs.Trees.{Tree, binary}
use Rattle.cq_term.specs.Meaning.{HeapTerm}
use Rattle.cq_term.specs.Trees.{tree}

-- a name over two terms
abbrev pub binary_tree : List Text → List HeapTerm → Text → ℕ → ℕ → Tree
binary_tree texts ts f a b = binary f (tree texts ts a) (tree texts ts b)
