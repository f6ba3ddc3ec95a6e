-- What the fault of a goal says of its errors.
use Rattle.std.specs.Prelude.{◌≡◌, List, Option, Some, ⊤}
use Rattle.spec_numbers.specs.Texts.{Text}
use Rattle.spec_syntax.specs.Trees.{Tree}
use Rattle.cq_term.specs.Meaning.{HeapTerm}
use Rattle.cq_built.specs.Errors.{error_tree}
use Rattle.cq_built.specs.declared.errors.BuiltinFault.{BuiltinFault}
use Rattle.cq_built.specs.declared.errors.BuiltinFault.TheVariants as builtin_fault

-- the error is the one that is found; want of memory says nothing of it
abbrev pub IsFound : List Text → List HeapTerm → Option Tree → BuiltinFault → Type 0
IsFound texts ts found (builtin_fault.Error e) = found ≡ Some (error_tree texts ts e)
IsFound texts ts found builtin_fault.NoMemory = ⊤
