-- Terms that are built over others read as themselves where these do.
use Rattle.std.proofs.Common.{◌≡◌, ◌<◌, ℕ, List, length, ap, ap₂}
use Rattle.spec_numbers.specs.Texts.{Text}
use Rattle.spec_terms.specs.Term.{Compound, one, more}
use Rattle.spec_syntax.specs.Trees.{Tree}
use Rattle.spec_branch.specs.Branch.{State, read}
use Rattle.cq_term.specs.Trees.{tree}
use Rattle.cq_settle.specs.Contents.{Contents}
use Rattle.cq_branch.specs.Worlds.{ReadsAs}
use Rattle.cq_branch.proofs.Reading.{tree_read}

-- a term over one that reads as itself
pub reads_over_one : (texts : List Text) (w : Contents) (st : State) (id : ℕ) (f : Text) (a : Tree) → id < length w.heap.terms → tree texts w.heap.terms id ≡ Compound f (one a) → read st a ≡ a
    → ReadsAs texts w st id (Compound f (one a))
reads_over_one texts w st id f a l e r = (tree_read texts w.heap.terms id (Compound f (one a)) l e, ap (λ (x : Tree). Compound f (one x)) r)

-- a term over two
pub reads_over_two : (texts : List Text) (w : Contents) (st : State) (id : ℕ) (f : Text) (a b : Tree) → id < length w.heap.terms
    → tree texts w.heap.terms id ≡ Compound f (more a (one b)) → read st a ≡ a → read st b ≡ b → ReadsAs texts w st id (Compound f (more a (one b)))
reads_over_two texts w st id f a b l e r q =
    (tree_read texts w.heap.terms id (Compound f (more a (one b))) l e, ap₂ (λ (x y : Tree). Compound f (more x (one y))) r q)
