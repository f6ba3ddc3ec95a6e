-- One clause, and a query that doesn't match it.
use Rattle.std.specs.Prelude.{List, []}
use Rattle.spec_syntax.specs.Trees.{Tree}
use Rattle.spec_builtins.specs.Built.{atom, compound1}
use Rattle.spec_branch.specs.Branch.{Branch}
use Rattle.spec_search.specs.Database.{Database, Clause, initial}
use Rattle.spec_search.specs.Changes.{consulted}
use Rattle.spec_search.specs.Control.{clause_child}
use Rattle.spec_search.specs.Replies.{Place}
use Rattle.spec_search.specs.Search.{Search, empty_state}
use Rattle.spec_search.specs.Turns.{Wrote}
use Rattle.spec_builtins.specs.Clauses.{head_body, stored}
use Rattle.spec_search.specs.Runs.{Mark}

-- p(a).
abbrev pub one_clause : Database
one_clause = consulted (compound1 "p" (atom "a")) initial

-- p(b)
abbrev pub asked : Tree
asked = compound1 "p" (atom "b")

-- where the query is selected
abbrev pub place : Place
place = record { database = one_clause; state = empty_state 0; rest = []; cut = 0; height = 0 }

-- the clause as it is stored
abbrev pub only_clause : Clause
only_clause = record { number = 0; parts = stored (head_body (compound1 "p" (atom "a"))) }

-- its child, which is to be pruned
abbrev pub only_child : Branch
only_child = clause_child place asked only_clause

-- the search once the query was selected, with these branches
abbrev pub once_selected : List Branch → Search
once_selected bs = record { database = one_clause; branches = bs; selected = 1 }

-- the query was selected, and nothing was written
abbrev pub selected_once : Mark
selected_once = record { event = Wrote []; selected = 1 }
