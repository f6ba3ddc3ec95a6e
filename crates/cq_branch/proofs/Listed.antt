-- The third argument of findall on a heap.
use Rattle.std.proofs.Common.{◌≡◌, ℕ, List, [], ◌∷◌, Bool, true, false, ◌||◌, sym, ap, ◌∙◌}
use Rattle.std.specs.Prelude.{if◌then◌else◌}
use Rattle.spec_numbers.specs.Texts.{Text}
use Rattle.spec_syntax.specs.Trees.{Tree}
use Rattle.spec_builtins.specs.Errors.{type_error}
use Rattle.spec_builtins.specs.Kinds.{is_list, is_partial}
use Rattle.spec_branch.specs.Branch.{State, Collect, Gathered, no_work}
use Rattle.spec_search.specs.Control.{call_of, findall_row}
use Rattle.spec_search.specs.Replies.{Place, Raises, child, makes}
use Rattle.cq_term.specs.Trees.{tree}
use Rattle.cq_settle.specs.Contents.{Contents}
use Rattle.cq_branch.specs.Worlds.{ReadsAs}
use Rattle.cq_branch.proofs.Added.{reads_tree}

-- a list, or a partial one
abbrev pub may_be_list : Tree → Bool
may_be_list t = is_partial t || is_list t

pub may_be : (texts : List Text) (w : Contents) (st : State) (id : ℕ) (l : Tree) → ReadsAs texts w st id l → may_be_list (tree texts w.heap.terms id) ≡ true
    → may_be_list l ≡ true
may_be texts w st id l r e = ap may_be_list (sym (reads_tree texts w st id l r)) ∙ e
