-- Built-in predicates with some number of arguments, by name.
use Rattle.std.specs.Borrow.{Bor}
use Rattle.std.specs.Prelude.{◌≡◌, ℕ, List, Bool, true, All, Some, bytes_eq, is_some, find}
use Rattle.spec_numbers.specs.Texts.{Text}
use Rattle.spec_builtins.specs.Built.{indicator}
use Rattle.spec_search.specs.Builtins.{builtin_of, is_built_in}
use Rattle.cq_predicates.specs.TableNames.{as_builtin}
use Rattle.cq_predicates.specs.declared.table.builtins.Builtin.{Builtin}

-- the row has this name
abbrev pub is_named : Text → Bor Text × Builtin → Bool
is_named name row = bytes_eq row.0.now name

-- these are the built-in predicates with so many arguments
pub record AreRows (n : ℕ) (rows : List (Bor Text × Builtin)) : Type 0 where
  pub right : All (λ row. builtin_of (indicator row.0.now n) ≡ Some (as_builtin row.1)) rows
  pub all : (name : Text) → is_built_in (indicator name n) ≡ true → is_some (find (is_named name) rows) ≡ true
