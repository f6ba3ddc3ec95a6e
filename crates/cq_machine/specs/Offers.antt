-- What a machine holds, and what a call of a predicate on terms or texts adds to it.
use Rattle.std.specs.Prelude.{◌≡◌}
use Rattle.spec_numbers.specs.Prefixes.{IsPrefix}
use Rattle.cq_choices.specs.Held.{Held, held}
use Rattle.cq_machine.specs.Machines.{database_of}
use Rattle.cq_machine.specs.declared.machine.Machine.{Machine}

-- its names, its world and its choices
abbrev pub held_by : Machine → Held
held_by m = held m.atoms m.world.first m.world.second m.choices

-- names may have been added; operators, clauses and the database that they make are the same
pub record HasMoreNames (old new : Machine) : Type 0 where
  pub atoms : IsPrefix old.atoms new.atoms
  pub names : new.names ≡ old.names
  pub ops : new.ops ≡ old.ops
  pub clauses : new.clauses ≡ old.clauses
  pub database : database_of new ≡ database_of old
