-- A machine as the definitions see it.
use Prim.Native.String.{String}
use Rattle.std.specs.Prelude.{◌≡◌, ℕ, List, Option, Some, codes, slice_get}
use Rattle.spec_numbers.specs.Texts.{Text}
use Rattle.spec_search.specs.Database.{Database}
use Rattle.spec_search.specs.Search.{Search}
use Rattle.cq_term.specs.Texts.{AreDifferent}
use Rattle.cq_control.specs.Open.{AreMarked}
use Rattle.cq_ops.specs.Tables.{AreNamed}
use Rattle.cq_resolve.specs.Database.{IsProgram, as_database}
use Rattle.cq_term.specs.Meaning.{HeapTerm}
use Rattle.cq_term.specs.Trees.{KnowsTerms}
use Rattle.cq_settle.specs.Contents.{Contents}
use Rattle.cq_write.specs.Meaning.{operators}
use Rattle.spec_engine.specs.Cells.{Value, Stack}
use Rattle.spec_engine.specs.Standing.{engine, IsStanding}
use Rattle.cq_branch.specs.Choices.{AreOpen}
use Rattle.cq_predicates.specs.Numbered.{AreBuiltins}
use Rattle.cq_branch.specs.Worlds.{IsBranch, term_in, value, saved_values, stack, Grown}
use Rattle.cq_machine.specs.declared.machine.Machine.{Machine}
use Rattle.cq_machine.specs.declared.names.Names.{Names}

-- the terms of its world
abbrev pub terms : Machine → List HeapTerm
terms m = m.world.first.heap.now.terms

-- its world and what each continuation has to do, now and at the live marks, the oldest first
abbrev pub now : Machine → Value Contents
now m = value m.world.first m.world.second.now

abbrev pub saved : Machine → List (Value Contents)
saved m = saved_values m.world.first m.world.second.saved

-- what its choices leave to try
abbrev pub holds : Machine → Stack Contents
holds m = stack m.atoms m.clauses (saved m) m.choices

-- its program, with the operators
abbrev pub database_of : Machine → Database
database_of m = as_database m.atoms (operators m.atoms m.ops) m.clauses

-- the number has this text
abbrev pub IsName : List Text → ℕ → String → Type 0
IsName texts a s = slice_get texts a ≡ Some (codes s)

pub record AreNames (texts : List Text) (names : Names) : Type 0 where
  pub truth : IsName texts names.truth "true"
  pub not : IsName texts names.not "\\+"
  pub equal : IsName texts names.equal "="
  pub once : IsName texts names.once "once"
  pub curly : IsName texts names.curly "{}"
  pub rule : IsName texts names.rule ":-"
  pub builtins : AreBuiltins texts names.builtins

-- what a machine keeps
pub record IsSound (m : Machine) : Type 0 where
  pub known : AreNames m.atoms m.names
  pub different : AreDifferent m.atoms
  pub names : KnowsTerms m.atoms (terms m)
  pub program : IsProgram m.atoms m.clauses
  pub operators_named : AreNamed m.atoms m.ops
  pub marked : AreMarked (saved m) m.choices
  pub untried : AreOpen m.atoms m.clauses (saved m) m.choices

-- names, operators, clauses and how many exchanges a call may make are the same
pub record HasSameProgram (old new : Machine) : Type 0 where
  pub atoms : new.atoms ≡ old.atoms
  pub names : new.names ≡ old.names
  pub ops : new.ops ≡ old.ops
  pub clauses : new.clauses ≡ old.clauses
  pub budget : new.world.first.store.pivots ≡ old.world.first.store.pivots

-- for whatever search it stood, it still does
abbrev pub StillStands : Machine → Machine → Type 0
StillStands old new = (db : Database) (n : ℕ) (current : Option ℕ) (s : Search)
    → IsStanding (IsBranch old.atoms) (term_in old.atoms) (engine db n (holds old) (now old) current) s
    → IsStanding (IsBranch new.atoms) (term_in new.atoms) (engine db n (holds new) (now new) current) s

-- terms without variables of their own were added, and no more
pub record HasBuilt (old new : Machine) : Type 0 where
  pub program : HasSameProgram old new
  pub lists : new.world.second ≡ old.world.second
  pub choices : new.choices ≡ old.choices
  pub saved : saved new ≡ saved old
  pub grown : Grown old.atoms (now old) (now new)
