-- What the execution of a selected goal comes to, and what that is in the search.
use Rattle.std.specs.Prelude.{◌≡◌, ℕ, List, ◌++◌, Option, Some, None}
use Rattle.spec_numbers.specs.Prefixes.{IsPrefix}
use Rattle.spec_numbers.specs.Texts.{Text}
use Rattle.spec_syntax.specs.Trees.{Tree}
use Rattle.spec_builtins.specs.Built.{compound1}
use Rattle.spec_branch.specs.Branch.{Branch, plain_copy}
use Rattle.spec_search.specs.Replies as reply
use Rattle.spec_search.specs.Replies.{Place, Made, Reply}
use Rattle.spec_search.specs.Rows.{reply_of}
use Rattle.spec_search.specs.Search.{Search}
use Rattle.spec_search.specs.Steps.{Stepped, Steps, Ball, Children, ball_of}
use Rattle.spec_search.specs.Turns.{older}
use Rattle.spec_engine.specs.Coming.{Comes}
use Rattle.spec_engine.specs.Standing.{engine}
use Rattle.cq_built.specs.Errors.{error_tree}
use Rattle.cq_branch.specs.Worlds.{IsBranch, term_in, ReadsAs, Placed}
use Rattle.cq_term.specs.Trees.{tree}
use Rattle.cq_catch.specs.Revised.{KeepsShowing}
use Rattle.cq_machine.specs.declared.machine.Machine.{Machine}
use Rattle.cq_machine.specs.declared.step.Step.{Step}
use Rattle.cq_machine.specs.declared.step.Step.TheVariants.{Goes, Back, Raises, Throws, Refuses}
use Rattle.cq_machine.specs.Machines.{terms, now, holds, database_of}
use Rattle.cq_machine.specs.Stepping.{IsSelectedAt}
use Rattle.cq_execute.specs.declared.executed.Executed.{Executed}

-- The goal's step makes children, with this output and the machine's program. From each search in which they stand in front of
-- the branches that are kept, the machine comes quietly to stand for one. It goes on with the continuation, if it doesn't come
-- back.
pub record Continues (m : Machine) (current : Option ℕ) (text : Text) (p : Place) (behind : List Branch) (goal : Tree) : Type 0 where
  pub made : Made
  pub step : Steps p goal (Children made)
  pub database : made.database ≡ database_of m
  pub output : made.output ≡ text
  pub comes : (steps : ℕ) (s : Search) → s.database ≡ database_of m → s.branches ≡ made.children ++ older made.keeps behind
      → Comes (IsBranch m.atoms) (term_in m.atoms) steps (engine (database_of m) s.selected (holds m) (now m) current) s

-- the goal steps so, and the machine has the program of the place
pub record HasStep (m : Machine) (p : Place) (goal : Tree) (s : Stepped) : Type 0 where
  pub step : Steps p goal s
  pub database : p.database ≡ database_of m

-- the goal's reply is this one, and the machine has the program of the place
pub record HasReply (m : Machine) (p : Place) (goal : Tree) (r : Reply) : Type 0 where
  pub is : reply_of p goal ≡ r
  pub database : p.database ≡ database_of m

-- the machine has come to what the goal's step makes, with this output; or the goal's step is the ball of an error or of the term of a
-- number, or its reply two numbers that are refused
abbrev pub Reaches : Machine → Step → Text → Place → List Branch → Tree → Type 0
Reaches m (Goes k) text p behind goal = Continues m (Some k) text p behind goal
Reaches m Back text p behind goal = Continues m None text p behind goal
Reaches m (Raises e) text p behind goal = HasStep m p goal (ball_of goal (error_tree m.atoms (terms m) e))
Reaches m (Throws id) text p behind goal = HasStep m p goal (Ball (plain_copy (tree m.atoms (terms m) id)))
Reaches m (Refuses pair) text p behind goal = HasReply m p goal (reply.Overflows pair)

-- wherever the goal of the number is selected so, the machine has come to what it comes to there
abbrev pub Executes : Machine → Machine → ℕ → ℕ → ℕ → Executed → Type 0
Executes old new id height rest x = (p : Place) (behind : List Branch) (goal : Tree) → IsSelectedAt old id height rest p behind goal
    → Reaches new x.step x.output.items p behind goal

-- ---- goals that are put in front as calls of them

-- call of the term of a number is selected at the place, with this continuation and these branches behind it
pub record IsCallSelected (m : Machine) (id rest : ℕ) (p : Place) (behind : List Branch) (t : Tree) : Type 0 where
  pub placed : Placed m.atoms (holds m) (now m) rest p behind
  pub reads : ReadsAs m.atoms (now m).0 p.state id t
  pub database : p.database ≡ database_of m

-- call of it is selected somewhere
abbrev pub IsCallSelectedSomewhere : Machine → ℕ → ℕ → Type 0
IsCallSelectedSomewhere m id rest = (p : Place) × (behind : List Branch) × (t : Tree) × IsCallSelected m id rest p behind t

-- wherever call of it is selected so, the machine has come to what that comes to there
abbrev pub ExecutesCall : Machine → Machine → ℕ → ℕ → Executed → Type 0
ExecutesCall old new id rest x = (p : Place) (behind : List Branch) (t : Tree) → IsCallSelected old id rest p behind t
    → Reaches new x.step x.output.items p behind (compound1 "call" t)

-- ---- the program

-- names may have been added, and the clauses are the same
pub record KeepsClauses (old new : Machine) : Type 0 where
  pub atoms : IsPrefix old.atoms new.atoms
  pub names : new.names ≡ old.names
  pub clauses : new.clauses ≡ old.clauses
  pub budget : new.world.first.store.pivots ≡ old.world.first.store.pivots

-- names may have been added, and walks through the clauses of a call go on to show the same
pub record KeepsWalks (old new : Machine) : Type 0 where
  pub atoms : IsPrefix old.atoms new.atoms
  pub names : new.names ≡ old.names
  pub showing : KeepsShowing old.clauses new.clauses
  pub budget : new.world.first.store.pivots ≡ old.world.first.store.pivots

-- its clauses and its operators are the same
abbrev pub HasSameDatabase : Machine → Machine → Type 0
HasSameDatabase old new = database_of new ≡ database_of old
