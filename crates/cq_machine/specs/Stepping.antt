-- What a selected goal comes to, and what that is in the search.
use Rattle.std.specs.Prelude.{◌≡◌, ◌<◌, ℕ, List, length, Some, None, ⊤}
use Rattle.spec_syntax.specs.Trees.{Tree}
use Rattle.spec_branch.specs.Branch.{Branch, read}
use Rattle.spec_builtins.specs.Terms as builtins
use Rattle.spec_search.specs.Builtins.{Builtin}
use Rattle.spec_search.specs.Replies as reply
use Rattle.spec_search.specs.Replies.{Place, Reply}
use Rattle.spec_search.specs.Rows.{builtin_reply}
use Rattle.cq_built.specs.Errors.{error_tree, HasCulprit}
use Rattle.cq_branch.specs.Worlds.{ReadsAs, Selected, Leads}
use Rattle.cq_term.specs.Trees.{tree}
use Rattle.cq_machine.specs.declared.machine.Machine.{Machine}
use Rattle.cq_machine.specs.declared.step.Step.{Step}
use Rattle.cq_machine.specs.declared.step.Step.TheVariants.{Goes, Back, Raises, Throws, Refuses}
use Rattle.cq_machine.specs.Machines.{terms, now, holds, database_of}

-- The goal of a number is selected at the place, with this continuation and these branches behind it. A cut in it goes back to
-- the height.
pub record IsSelectedAt (m : Machine) (id height rest : ℕ) (p : Place) (behind : List Branch) (goal : Tree) : Type 0 where
  pub selected : Selected m.atoms (holds m) (now m) height rest p behind
  pub reads : ReadsAs m.atoms (now m).0 p.state id goal
  pub database : p.database ≡ database_of m

-- the reply throws the term of the number, which reads as itself
pub record IsThrown (m : Machine) (id : ℕ) (p : Place) (r : Reply) : Type 0 where
  pub is : r ≡ reply.Throws (tree m.atoms (terms m) id)
  pub reads : read p.state (tree m.atoms (terms m) id) ≡ tree m.atoms (terms m) id

-- the machine has come to what the reply says
abbrev pub IsStep : Machine → Step → Place → List Branch → Reply → Type 0
IsStep m (Goes k) p behind r = Leads m.atoms (holds m) (now m) (Some k) p behind r
IsStep m Back p behind r = Leads m.atoms (holds m) (now m) None p behind r
IsStep m (Raises e) p behind r = r ≡ reply.Raises (error_tree m.atoms (terms m) e)
IsStep m (Throws id) p behind r = IsThrown m id p r
IsStep m (Refuses pair) p behind r = r ≡ reply.Overflows pair

-- what it goes on with is there, and the culprit of an error, or the term that is thrown
abbrev pub CanGo : Machine → Step → Type 0
CanGo m (Goes k) = k < length m.world.second.now
CanGo m Back = ⊤
CanGo m (Raises e) = HasCulprit m.atoms (terms m) e
CanGo m (Throws id) = id < length (terms m)
CanGo m (Refuses pair) = ⊤

-- what holds where the goal raises an error, or throws
abbrev pub OnRaises : Step → Type 0 → Type 0
OnRaises (Goes k) P = ⊤
OnRaises Back P = ⊤
OnRaises (Raises e) P = P
OnRaises (Throws id) P = P
OnRaises (Refuses pair) P = ⊤

-- ---- rows

-- the row of a built-in predicate, by the goal as it reads
abbrev pub row_of : Builtin → Place → Tree → Reply
row_of b p goal = builtin_reply p b (builtins.arguments goal)

-- the goal of the number is selected somewhere, with this continuation behind it
abbrev pub IsSelectedSomewhere : Machine → ℕ → ℕ → Type 0
IsSelectedSomewhere m id rest = (height : ℕ) × (p : Place) × (behind : List Branch) × (goal : Tree) × IsSelectedAt m id height rest p behind goal

-- wherever it is selected so, the machine has come to what the goal's row says there
abbrev pub LeadsTo : Machine → Machine → ℕ → ℕ → ℕ → (Place → Tree → Reply) → Step → Type 0
LeadsTo old new id height rest row s = (p : Place) (behind : List Branch) (goal : Tree) → IsSelectedAt old id height rest p behind goal
    → IsStep new s p behind (row p goal)
