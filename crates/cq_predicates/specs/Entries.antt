-- Built-in predicates by number.
use Rattle.std.specs.Prelude.{ℕ, Option, None, slice_index_or}
use Rattle.cq_predicates.specs.declared.table.builtins.Builtin.{Builtin}
use Rattle.cq_predicates.specs.declared.table.listed.Entries.{Entries}

-- what is at the number
abbrev pub entry : Entries → ℕ → Option Builtin
entry entries number = slice_index_or entries.builtins.items number None
