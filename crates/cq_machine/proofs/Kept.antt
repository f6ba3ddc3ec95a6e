-- What a machine keeps while its choices and its world change.
use Rattle.std.proofs.Common.{◌≡◌, ◌<◌, ℕ, List, [], ◌∷◌, ◌++◌, length, Option, Some, subst, sym}
use Rattle.std.specs.Prelude.{slice_get}
use Rattle.std.specs.List.{AllByRecursion}
use Rattle.spec_numbers.specs.Texts.{Text}
use Rattle.spec_syntax.specs.Trees.{Tree}
use Rattle.spec_branch.specs.Branch.{State, Branch}
use Rattle.spec_builtins.specs.Terms as builtins
use Rattle.spec_search.specs.Replies.{Place, Reply}
use Rattle.spec_search.specs.Rows.{nth}
use Rattle.cq_control.specs.Open.{open_choices}
use Rattle.cq_resolve.specs.Database.{Program}
use Rattle.cq_term.specs.Meaning.{at}
use Rattle.cq_term.specs.Shown.{arguments}
use Rattle.cq_term.specs.Trees.{tree}
use Rattle.cq_settle.specs.Contents.{Contents}
use Rattle.spec_engine.specs.Cells.{Value}
use Rattle.cq_branch.specs.declared.alternatives.Alternatives.{Alternatives}
use Rattle.cq_branch.specs.Choices.{CanBeTried, AreOpen, KeepsOlder}
use Rattle.cq_branch.specs.Worlds.{ReadsAs, Leads, stack}
use Rattle.cq_branch.proofs.Added.{reads_tree}
use Rattle.cq_branch.proofs.Arguments.{argument_reads}

-- the same over equal marks
pub leads_over : (texts : List Text) (v : Program) (saved more : List (Value Contents)) (choices : List Alternatives) (now : Value Contents) (current : Option ℕ) (p : Place)
    (behind : List Branch) (r : Reply) → more ≡ saved → Leads texts (stack texts v saved choices) now current p behind r → Leads texts (stack texts v more choices) now current p behind r
leads_over texts v saved more choices now current p behind r e l = subst (λ s. Leads texts (stack texts v s choices) now current p behind r) (sym e) l

abbrev Tried : List Text → Program → Value Contents × Alternatives → Type 0
Tried texts v c = CanBeTried texts v c.0.0.heap.terms c.1

all_behind : (texts : List Text) (v : Program) (gone left : List (Value Contents × Alternatives)) → AllByRecursion (Tried texts v) (gone ++ left) → AllByRecursion (Tried texts v) left
all_behind texts v [] left all = all
all_behind texts v (c ∷ gone) left all = all_behind texts v gone left all.1

-- the older choices can still be gone on with
pub older_open : (texts : List Text) (v : Program) (saved fewer : List (Value Contents)) (choices left : List Alternatives) → AreOpen texts v saved choices
    → KeepsOlder saved choices fewer left → AreOpen texts v fewer left
older_open texts v saved fewer choices left all k =
    all_behind texts v k.gone (open_choices fewer left) (subst (λ cs. AllByRecursion (Tried texts v) cs) k.are all)

-- an argument of a term that reads as itself is that of the term
pub argument_is : (texts : List Text) (w : Contents) (st : State) (id i k : ℕ) (t : Tree) → ReadsAs texts w st id t → k < length w.heap.terms
    → slice_get (arguments (at w.heap.terms id)) i ≡ Some (at w.heap.terms k) → tree texts w.heap.terms k ≡ nth (builtins.arguments t) i
argument_is texts w st id i k t r l e = reads_tree texts w st k (nth (builtins.arguments t) i) (argument_reads texts w st id i k t r l e)
