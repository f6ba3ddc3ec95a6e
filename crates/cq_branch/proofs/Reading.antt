-- Numbers that a world reads are of its terms, and what it reads them as.
use Rattle.std.proofs.Common.{◌≡◌, ◌<◌, ℕ, zero, suc, List, [], ◌∷◌, length, Some, ap, arith}
use Rattle.std.specs.Prelude.{slice_get}
use Rattle.std.specs.Option.{option_map}
use Rattle.std.proofs.lemmas.Option.{none-some}
use Rattle.spec_numbers.specs.Texts.{Text}
use Rattle.spec_terms.specs.Term.{named}
use Rattle.spec_syntax.specs.Trees.{Tree}
use Rattle.cq_term.specs.Texts.{text_of}
use Rattle.cq_term.specs.Meaning.{HeapTerm}
use Rattle.cq_term.specs.Trees.{tree}

-- a number that is read is of a term
pub read_live : (texts : List Text) (ts : List HeapTerm) (id : ℕ) (t : Tree) → option_map (named (text_of texts)) (slice_get ts id) ≡ Some t → id < length ts
read_live texts [] id t e = absurd (none-some t e)
read_live texts (x ∷ ts) zero t e = omega arith
read_live texts (x ∷ ts) (suc id) t e = let l = read_live texts ts id t e in omega (arith, l)

-- a term that is there is read
pub tree_read : (texts : List Text) (ts : List HeapTerm) (id : ℕ) (t : Tree) → id < length ts → tree texts ts id ≡ t → option_map (named (text_of texts)) (slice_get ts id) ≡ Some t
tree_read texts [] id t l e = absurd (omega (arith, l))
tree_read texts (x ∷ ts) zero t l e = ap (λ (u : Tree). Some u) e
tree_read texts (x ∷ ts) (suc id) t l e = tree_read texts ts id t (omega (arith, l)) e
