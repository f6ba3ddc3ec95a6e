-- Readings with variables that are counted on from a number.
use Rattle.std.specs.Prelude.{ℕ, ◌+◌, [], map}
use Rattle.spec_terms.specs.Term.{Var, apply}
use Rattle.spec_syntax.specs.Trees.{Tree}
use Rattle.spec_syntax.specs.TextTokens.{VariableName, Variables}
use Rattle.spec_text.specs.Readings.{Read, Clause, Ended, Syntax}

-- the tree with its variables counted on from a number
abbrev pub tree_later : ℕ → Tree → Tree
tree_later n t = apply (λ v. Var (n + v)) t

-- the variable, numbered from n on
abbrev pub name_later : ℕ → VariableName → VariableName
name_later n v = record { name = v.name; number = n + v.number }

-- the variables, numbered from n on
abbrev pub variables_later : ℕ → Variables → Variables
variables_later n variables = record { names = map (name_later n) variables.names; count = n + variables.count }

-- the variables before the first token, counted on from a number
abbrev pub variables_from : ℕ → Variables
variables_from n = record { names = []; count = n }

-- what was read, with its variables numbered from n on
abbrev pub read_later : ℕ → Read → Read
read_later n (Clause tree variables next) = Clause (tree_later n tree) (variables_later n variables) next
read_later n Ended = Ended
read_later n (Syntax error resume) = Syntax error resume
