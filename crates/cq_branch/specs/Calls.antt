-- Goals that are called.
use Rattle.std.specs.Prelude.{◌≡◌, List, true, ⊤}
use Rattle.spec_numbers.specs.Texts.{Text}
use Rattle.spec_syntax.specs.Trees.{Tree}
use Rattle.spec_builtins.specs.Bodies.{is_body}
use Rattle.spec_builtins.specs.Kinds.{is_callable}
use Rattle.spec_search.specs.Replies.{Reply, Raises}
use Rattle.cq_built.specs.Errors.{error_tree}
use Rattle.cq_built.specs.declared.errors.BuiltinFault.{BuiltinFault}
use Rattle.cq_built.specs.declared.errors.BuiltinFault.TheVariants as fault
use Rattle.cq_term.specs.Meaning.{HeapTerm}

-- the term may be called: it is an atom or a compound, and each conjunct and branch may be a goal
pub record IsLawful (t : Tree) : Type 0 where
  pub callable : is_callable t ≡ true
  pub body : is_body t ≡ true

-- the reply is the error; want of memory says nothing of it
abbrev pub IsRaised : List Text → List HeapTerm → BuiltinFault → Reply → Type 0
IsRaised texts ts (fault.Error e) reply = reply ≡ Raises (error_tree texts ts e)
IsRaised texts ts fault.NoMemory reply = ⊤
