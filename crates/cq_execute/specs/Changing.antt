-- What goals that change the clauses of a machine come to.
use Rattle.std.specs.Prelude.{◌≡◌, ℕ, List, ◌++◌, Some}
use Rattle.spec_numbers.specs.Prefixes.{IsPrefix}
use Rattle.spec_syntax.specs.Trees.{Tree}
use Rattle.spec_branch.specs.Branch.{Branch}
use Rattle.spec_search.specs.Replies as reply
use Rattle.spec_search.specs.Replies.{Place, Reply, changes, onward}
use Rattle.spec_search.specs.Search.{Search}
use Rattle.spec_engine.specs.Coming.{Comes}
use Rattle.spec_engine.specs.Standing.{engine}
use Rattle.cq_built.specs.Errors.{error_tree}
use Rattle.cq_branch.specs.Worlds.{IsBranch, term_in}
use Rattle.cq_machine.specs.declared.machine.Machine.{Machine}
use Rattle.cq_machine.specs.declared.step.Step.{Step}
use Rattle.cq_machine.specs.declared.step.Step.TheVariants.{Goes, Back, Raises, Throws, Refuses}
use Rattle.cq_machine.specs.Machines.{terms, now, holds, database_of}
use Rattle.cq_machine.specs.Stepping.{IsSelectedAt, LeadsTo}
use Rattle.cq_catch.specs.Revised.{KeepsShowing}

-- from each search with this machine's database in which the goal's child stands in front of the branches behind it, the machine
-- comes quietly to stand for one; it goes on with the continuation
abbrev pub GoesOnBehind : Machine → ℕ → Place → List Branch → Type 0
GoesOnBehind m rest p behind = (steps : ℕ) (s : Search) → s.database ≡ database_of m → s.branches ≡ onward p ++ behind
    → Comes (IsBranch m.atoms) (term_in m.atoms) steps (engine (database_of m) s.selected (holds m) (now m) (Some rest)) s

-- the reply changes the database to the machine's, and the goal goes on
pub record HasChanged (m : Machine) (rest : ℕ) (p : Place) (behind : List Branch) (r : Reply) : Type 0 where
  pub row : r ≡ changes p (database_of m)
  pub comes : GoesOnBehind m rest p behind

-- the machine has come to what the reply says
abbrev pub IsChange : Machine → Step → Place → List Branch → Reply → Type 0
IsChange m (Goes k) p behind r = HasChanged m k p behind r
IsChange m Back p behind r = ⊥
IsChange m (Raises e) p behind r = r ≡ reply.Raises (error_tree m.atoms (terms m) e)
IsChange m (Throws id) p behind r = ⊥
IsChange m (Refuses pair) p behind r = ⊥

-- wherever the goal of the number is selected, with this continuation behind it, the machine has come to what its row says there
abbrev pub ChangesTo : Machine → Machine → ℕ → ℕ → (Place → Tree → Reply) → Step → Type 0
ChangesTo old new id rest row s = (height : ℕ) (p : Place) (behind : List Branch) (goal : Tree) → IsSelectedAt old id height rest p behind goal
    → IsChange new s p behind (row p goal)

-- the same of a goal that goes on or raises as any other, and changes no clause at once
abbrev pub AsksFor : Machine → Machine → ℕ → ℕ → (Place → Tree → Reply) → Step → Type 0
AsksFor old new id rest row s = (height : ℕ) → LeadsTo old new id height rest row s

-- names may have been added; walks go on to show the same clauses, and the rest of the program is the same
pub record KeepsAllButClauses (old new : Machine) : Type 0 where
  pub atoms : IsPrefix old.atoms new.atoms
  pub names : new.names ≡ old.names
  pub ops : new.ops ≡ old.ops
  pub showing : KeepsShowing old.clauses new.clauses
  pub budget : new.world.first.store.pivots ≡ old.world.first.store.pivots
