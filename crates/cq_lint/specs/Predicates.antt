-- Lists of predicates, each once.
use Rattle.std.specs.Prelude.{List, [], ◌∷◌, ◌++◌, Bool, if◌then◌else◌, Option, Some, None}
use Rattle.std.specs.List.{list_any}
use Rattle.spec_builtins.specs.Built.{Indicator, same_indicator}

-- the list has the predicate
abbrev pub has : List Indicator → Indicator → Bool
has is i = list_any (same_indicator i) is

-- the list with the predicate, which goes last where it is new
abbrev pub with : List Indicator → Indicator → List Indicator
with is i = if has is i then is else is ++ i ∷ []

-- the same of a predicate that may be none
abbrev pub with_some : List Indicator → Option Indicator → List Indicator
with_some is None = is
with_some is (Some i) = with is i
