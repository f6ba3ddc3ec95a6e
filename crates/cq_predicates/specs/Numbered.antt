-- The built-in predicates by the numbers of their names.
use Rattle.std.specs.Prelude.{◌≡◌, ◌≤◌, ℕ, List, Some, length, is_some, true, slice_get}
use Rattle.spec_numbers.specs.Texts.{Text}
use Rattle.spec_builtins.specs.Built.{indicator}
use Rattle.spec_search.specs.Builtins.{builtin_of, is_built_in}
use Rattle.cq_predicates.specs.Entries.{entry}
use Rattle.cq_predicates.specs.TableNames.{as_builtin}
use Rattle.cq_predicates.specs.declared.table.builtins.Builtin.{Builtin}
use Rattle.cq_predicates.specs.declared.table.listed.Entries.{Entries}
use Rattle.cq_predicates.specs.declared.table.numbered.Builtins.{Builtins}

-- there is something at the number of this name
pub record HasEntry (texts : List Text) (entries : Entries) (name : Text) : Type 0 where
  pub number : ℕ
  pub named : slice_get texts number ≡ Some name
  pub there : is_some (entry entries number) ≡ true

-- what is at the number is the built-in predicate of its name with so many arguments
pub record IsRight (texts : List Text) (n : ℕ) (number : ℕ) (b : Builtin) : Type 0 where
  pub name : Text
  pub named : slice_get texts number ≡ Some name
  pub is : builtin_of (indicator name n) ≡ Some (as_builtin b)

abbrev pub AreRight : List Text → ℕ → Entries → Type 0
AreRight texts n entries = (number : ℕ) (b : Builtin) → entry entries number ≡ Some b → IsRight texts n number b

-- these are the built-in predicates with so many arguments, and nothing else
pub record AreWith (texts : List Text) (n : ℕ) (entries : Entries) : Type 0 where
  pub right : AreRight texts n entries
  pub all : (name : Text) → is_built_in (indicator name n) ≡ true → HasEntry texts entries name

-- those with so many arguments stand at this number
abbrev pub AreByArity : List Text → List Entries → Type 0
AreByArity texts by_arity = (n : ℕ) (entries : Entries) → slice_get by_arity n ≡ Some entries → AreWith texts n entries

-- the table has the built-in predicates, which have at most eight arguments, and nothing else
pub record AreBuiltins (texts : List Text) (table : Builtins) : Type 0 where
  pub size : 9 ≤ length table.by_arity.items
  pub lists : AreByArity texts table.by_arity.items
