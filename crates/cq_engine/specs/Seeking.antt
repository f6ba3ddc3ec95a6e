-- A machine as an engine that stands for searches.
use Rattle.std.specs.Prelude.{◌≡◌, ℕ, [], length, Option, None, Some}
use Rattle.spec_numbers.specs.Prefixes.{IsPrefix}
use Rattle.spec_search.specs.Search.{Search}
use Rattle.spec_transcript.specs.Causes.{Budgets}
use Rattle.cq_term.specs.Texts.{AreDifferent}
use Rattle.cq_control.specs.Items.{items_at}
use Rattle.cq_control.specs.Open.{AreMarked}
use Rattle.cq_store.specs.declared.store.StoreFault.{StoreFault}
use Rattle.cq_ops.specs.Tables.{AreNamed}
use Rattle.cq_resolve.specs.Database.{IsProgram}
use Rattle.cq_resolve.specs.StoredValue.{StoredValue}
use Rattle.spec_engine.specs.Coming.{Comes}
use Rattle.spec_engine.specs.Standing.{engine, IsStanding}
use Rattle.cq_branch.specs.Choices.{AreOpen}
use Rattle.cq_branch.specs.Marks.{IsFront}
use Rattle.cq_branch.specs.Stored.{IsCountedTerm}
use Rattle.cq_branch.specs.Worlds.{IsBranch, term_in}
use Rattle.cq_choices.specs.Held.{Held, held}
use Rattle.cq_catch.specs.Taking.{Escapes}
use Rattle.cq_catch.specs.Matching.{FaultStops}
use Rattle.cq_catch.specs.declared.find.Found.{Found}
use Rattle.cq_catch.specs.declared.find.Found.TheVariants.{Front, Escaped, Over}
use Rattle.cq_machine.specs.declared.machine.Machine.{Machine}
use Rattle.cq_machine.specs.Machines.{AreNames, IsSound, database_of, holds, now, saved}

-- what a machine keeps also where it comes back, and nothing is known of the terms of its world
pub record IsKept (m : Machine) : Type 0 where
  pub known : AreNames m.atoms m.names
  pub different : AreDifferent m.atoms
  pub program : IsProgram m.atoms m.clauses
  pub operators_named : AreNamed m.atoms m.ops
  pub marked : AreMarked (saved m) m.choices
  pub untried : AreOpen m.atoms m.clauses (saved m) m.choices

-- names may have been added, and the program is the same
pub record GainsNames (old new : Machine) : Type 0 where
  pub atoms : IsPrefix old.atoms new.atoms
  pub names : new.names ≡ old.names
  pub ops : new.ops ≡ old.ops
  pub clauses : new.clauses ≡ old.clauses
  pub database : database_of new ≡ database_of old

-- names may have been added, and the operators are the same; clauses may be others
pub record KeepsNames (old new : Machine) : Type 0 where
  pub atoms : IsPrefix old.atoms new.atoms
  pub names : new.names ≡ old.names
  pub ops : new.ops ≡ old.ops

-- what it holds
abbrev pub held_on : Machine → Held
held_on m = held m.atoms m.world.first m.world.second m.choices

-- with so many goals selected, it stands for the search, going on so
abbrev pub StandsFor : Machine → ℕ → Option ℕ → Search → Type 0
StandsFor m n current s = IsStanding (IsBranch m.atoms) (term_in m.atoms) (engine (database_of m) n (holds m) (now m) current) s

-- it stands for some search
abbrev pub IsGoing : Machine → Option ℕ → Type 0
IsGoing m current = (n : ℕ) × (s : Search) × StandsFor m n current s

-- the search comes quietly to one for which it stands
abbrev pub ComesTo : ℕ → Machine → ℕ → Option ℕ → Search → Type 0
ComesTo steps m n current s = Comes (IsBranch m.atoms) (term_in m.atoms) steps (engine (database_of m) n (holds m) (now m) current) s

-- each search for which it stood comes quietly to one for which it stands now
abbrev pub GoesTo : Machine → Option ℕ → Machine → Option ℕ → Type 0
GoesTo old start new current = (steps n : ℕ) (s : Search) → StandsFor old n start s → ComesTo steps new n current s

-- each search for which it stood comes quietly to where its query stops for the fault, with the machine's program then
abbrev pub AllStop : Machine → Option ℕ → Machine → StoreFault → Type 0
AllStop old start new fault = (n : ℕ) (s : Search) → StandsFor old n start s
    → FaultStops old.world.first.store.pivots fault (database_of new) s

-- From the search a ball that nothing catches is told next, which is stored so. The machine, with so many goals selected, stands for
-- the search then.
abbrev pub Throws : Budgets → Machine → ℕ → StoredValue → Search → Type 0
Throws budgets m n stored s = Escapes budgets m.clauses (held_on m) stored (database_of m) n s

-- each search for which it stood tells the ball so
abbrev pub ThrowsFrom : Machine → Option ℕ → Machine → StoredValue → Type 0
ThrowsFrom old start new stored = (budgets : Budgets) (n : ℕ) (s : Search) → StandsFor old n start s → Throws budgets new n stored s

-- what it comes to: something in front of a continuation, a ball that nothing catches, or no branch is left
abbrev pub FindsOn : Machine → Option ℕ → Machine → Found → Type 0
FindsOn old start new (Front k) = GoesTo old start new (Some k) × IsFront (items_at new.world.second.now k) × IsSound new
FindsOn old start new (Escaped ball) = ThrowsFrom old start new ball × IsCountedTerm (length new.atoms) ball × (holds new ≡ [])
FindsOn old start new Over = GoesTo old start new None × (holds new ≡ [])
