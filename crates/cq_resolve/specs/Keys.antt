-- By which key a clause is kept, and looked for.
use Rattle.std.specs.Prelude.{None, Some}
use Rattle.std.specs.declared.option.Option.{Option}
use Rattle.cq_term.specs.Meaning.{HeapTerm}
use Rattle.cq_term.specs.declared.view.View.{View}
use Rattle.cq_term.specs.declared.view.View.TheVariants as view
use Rattle.cq_resolve.specs.FirstArgument.{first_shown}
use Rattle.cq_clauses.specs.declared.key.Key.{Key}
use Rattle.cq_clauses.specs.declared.key.Key.TheVariants as key

-- the key of the head of a first argument; a variable has none
abbrev pub key_shown : Option View → Option Key
key_shown None = None
key_shown (Some (view.Var v)) = None
key_shown (Some (view.Number q)) = Some (key.Number q)
key_shown (Some (view.Name a)) = Some (key.Name a)
key_shown (Some (view.Compound f n)) = Some (key.Compound f n)

-- the key of a goal, or of a clause's head
abbrev pub key_of : HeapTerm → Option Key
key_of t = key_shown (first_shown t)
