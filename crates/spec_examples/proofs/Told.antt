-- A query that tells one term, and the term that joins the empty list at once.
use Rattle.std.proofs.Common.{◌≡◌, ℕ, List, [], ◌∷◌, pos, codes, refl}
use Rattle.spec_linear.specs.Solution.{Constraint, Solvable}
use Rattle.spec_linear.proofs.Points.{all_at}
use Rattle.spec_numbers.proofs.Places.{nothing_within}
use Rattle.spec_syntax.specs.Trees.{Tree}
use Rattle.spec_syntax.specs.TextTokens.{VariableName}
use Rattle.spec_terms.specs.Term.{identity, apply}
use Rattle.spec_branch.specs.Relations.{Is, lin}
use Rattle.spec_branch.specs.Alike.{no_values}
use Rattle.spec_branch.specs.Branch.{Item, Pending, Branch, Unsettled, no_work}
use Rattle.spec_branch.specs.Closure.{IsMove, no_move, move}
use Rattle.spec_branch.specs.Settling.{Settling}
use Rattle.spec_branch.proofs.Idle.{fixes_nothing}
use Rattle.spec_search.specs.Database.{initial}
use Rattle.spec_search.specs.Search.{Search, empty_state}

-- X alone has a name
abbrev pub x_alone : List VariableName
x_alone = record { name = codes "X"; number = 0 } ∷ []

-- the term is told
abbrev pub telling : Tree → Pending
telling t = record no_work { told = t ∷ [] }

-- a branch with these goals and this work, over so many variables
abbrev pub unsettled : List Item → Pending → ℕ → Branch
unsettled items work variables = record { items = items; state = empty_state variables; phase = Unsettled work }

-- a search that selected so many goals, with one branch
abbrev pub search_of : Branch → ℕ → Search
search_of b selected = record { database = initial; branches = b ∷ []; selected = selected }

pub nothing_solvable : Solvable []
nothing_solvable = (all_at (pos 0), tt)

module _ (t : Tree) (row : Constraint) (is : lin no_values (apply identity t) ≡ Is row) where
  pub moved : IsMove identity [] (t ∷ []) (row ∷ []) []
  moved = record {
    before = [];
    term = t;
    after = [];
    among = refl;
    solvable = nothing_solvable;
    result = Is row;
    is_lin = record { fixed = no_values; fixes = fixes_nothing; is = is };
    row = row;
    row_is = refl;
    joins = refl;
    leaves = refl;
  }

  -- it settles to its constraint, and nothing waits
  unfoldable pub settling : Settling (empty_state 1) (telling t) identity
  settling = record {
    equations = [];
    each_newly_bound = record { moves = []; below = tt; is = refl };
    linear = row ∷ [];
    waiting = [];
    closure = record { moves = move moved no_move; closed = λ m x h. nothing_within h.before h.after h.term h.among };
  }
