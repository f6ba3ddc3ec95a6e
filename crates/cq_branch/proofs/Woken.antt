-- Goals that woke, in front of what a continuation has to do.
use Rattle.std.proofs.Common.{◌≡◌, ◌<◌, ℕ, List, [], ◌∷◌, ◌++◌, length, map, refl, ap}
use Rattle.std.specs.Prelude.{All}
use Rattle.std.specs.List.{cons_option}
use Rattle.std.proofs.lemmas.List.Elements.{All-head, All-tail}
use Rattle.spec_numbers.specs.Texts.{Text}
use Rattle.spec_terms.specs.Term.{Subst}
use Rattle.spec_syntax.specs.Trees.{Tree}
use Rattle.spec_builtins.specs.Built.{compound1}
use Rattle.spec_branch.specs.Branch as branch
use Rattle.spec_branch.specs.Branch.{State, Item, Sleeper, read}
use Rattle.spec_branch.specs.Settling.{SleeperState, Sleeps, Wakes, state_of, woken_item, woken}
use Rattle.cq_settle.specs.Settled.{woken_goal, woken_goals}
use Rattle.cq_term.specs.Trees.{tree, trees}
use Rattle.cq_settle.specs.Contents.{Contents}
use Rattle.spec_engine.specs.declared.machine.cell.Cell.{Cell}
use Rattle.spec_engine.specs.Cells.{Fits, Stack}
use Rattle.spec_engine.specs.Standing.{AreItems}
use Rattle.cq_branch.specs.Worlds.{IsBranch, term_in}
use Rattle.cq_branch.specs.Begun.{calls}
use Rattle.cq_branch.proofs.Reading.{tree_read}

-- ---- the items of the branch

abbrev call_item : Tree → Item
call_item g = branch.Goal (compound1 "call" g) 0

one_woken : (x : SleeperState) (items : List Item) (gs : List Tree) → items ≡ map call_item gs → cons_option (woken_item x) items ≡ map call_item (cons_option (woken_goal x) gs)
one_woken Sleeps items gs e = e
one_woken (Wakes g) items gs e = ap (λ (is : List Item). call_item g ∷ is) e

-- the goals that wake, each as call of it
pub woken_calls : (s : Subst Text) (ks : List Sleeper) → woken s ks ≡ map call_item (woken_goals s ks)
woken_calls s [] = refl
woken_calls s (k ∷ ks) = one_woken (state_of s k.asleep) (woken s ks) (woken_goals s ks) (woken_calls s ks)

-- ---- their cells

pub calls_fit : (n : ℕ) (goals : List ℕ) (cs : List Cell) → Fits n cs → Fits n (calls goals ++ cs)
calls_fit n [] cs f = f
calls_fit n (g ∷ goals) cs f = calls_fit n goals cs f

module _ (texts : List Text) (choices : Stack Contents) (w : Contents) (st : State) where
  pub calls_are : (goals : List ℕ) (gs : List Tree) (cs : List Cell) (more : List Item) → All (λ id. id < length w.heap.terms) goals
      → trees texts w.heap.terms goals ≡ map (read st) gs → AreItems (IsBranch texts) (term_in texts) choices w st cs more
      → AreItems (IsBranch texts) (term_in texts) choices w st (calls goals ++ cs) (map call_item gs ++ more)
  calls_are [] [] cs more l e a = a
  calls_are [] (t ∷ gs) cs more l e a = cc
  calls_are (g ∷ goals) [] cs more l e a = cc
  calls_are (g ∷ goals) (t ∷ gs) cs more l e a =
      let first : tree texts w.heap.terms g ≡ read st t = cc in
      let others : trees texts w.heap.terms goals ≡ map (read st) gs = cc in (
        t,
        0,
        map call_item gs ++ more,
        refl,
        tree_read texts w.heap.terms g (read st t) (All-head (λ id. id < length w.heap.terms) g goals l) first,
        calls_are goals gs cs more (All-tail (λ id. id < length w.heap.terms) g goals l) others a,
      )
