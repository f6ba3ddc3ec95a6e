-- Terms and ways to try the predicates with.
use Rattle.std.specs.Prelude.{List, map}
use Rattle.spec_numbers.specs.Texts.{Text}
use Rattle.spec_terms.specs.Term.{Var}
use Rattle.spec_terms.specs.Unifier.{Equation}
use Rattle.spec_syntax.specs.Trees.{Tree}
use Rattle.spec_builtins.specs.Alternatives.{Solutions, Offers, without_new}

-- the variable of number 0
abbrev pub X : Tree
X = Var 0

-- the variable of number 1
abbrev pub Y : Tree
Y = Var 1

-- the variable of number 2
abbrev pub Z : Tree
Z = Var 2

-- these alternatives, in order
abbrev pub ways : List (List (Equation Text)) → Solutions
ways ess = Offers (map without_new ess)
