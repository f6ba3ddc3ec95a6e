-- The row of A = B, by the pair of its arguments.
use Rattle.std.proofs.Common.{◌≡◌, ◌<◌, ℕ, List, [], ◌∷◌, length, Some, ap₂}
use Rattle.std.specs.Prelude.{slice_get}
use Rattle.spec_numbers.specs.Texts.{Text}
use Rattle.spec_syntax.specs.Trees.{Tree}
use Rattle.spec_builtins.specs.Alternatives.{◌≐◌}
use Rattle.spec_search.specs.Builtins.{Unify}
use Rattle.spec_search.specs.Replies.{Place, unifies}
use Rattle.cq_term.specs.Meaning.{at}
use Rattle.cq_term.specs.Shown.{arguments}
use Rattle.cq_settle.specs.Contents.{Contents}
use Rattle.cq_branch.specs.Worlds.{ReadsAs}
use Rattle.cq_branch.specs.Begun.{trees_of_pairs}
use Rattle.cq_machine.specs.Stepping.{row_of}
use Rattle.cq_machine.proofs.Kept.{argument_is}

pub unify_row : (texts : List Text) (w : Contents) (p : Place) (goal left right : ℕ) (g : Tree) → ReadsAs texts w p.state goal g
    → left < length w.heap.terms → slice_get (arguments (at w.heap.terms goal)) 0 ≡ Some (at w.heap.terms left)
    → right < length w.heap.terms → slice_get (arguments (at w.heap.terms goal)) 1 ≡ Some (at w.heap.terms right)
    → unifies p (trees_of_pairs texts w.heap.terms (record { left = left; right = right } ∷ [])) ≡ row_of Unify p g
unify_row texts w p goal left right g r l e k f =
    ap₂ (λ (a b : Tree). unifies p ((a ≐ b) ∷ [])) (argument_is texts w p.state goal 0 left g r l e) (argument_is texts w p.state goal 1 right g r k f)
