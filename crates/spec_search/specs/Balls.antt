-- A ball goes to the nearest catch, whose saved branch is settled with it, and further out where that is pruned.
use Rattle.std.specs.Prelude.{ℕ, ◌-◌, List, [], ◌∷◌, Option, Some, None, length, drop}
use Rattle.spec_syntax.specs.Trees.{Tree}
use Rattle.spec_builtins.specs.Alternatives.{◌≐◌}
use Rattle.spec_branch.specs.Branch.{State, Copied, Item, CatchEnd, Branch, Pending, no_work}
use Rattle.spec_search.specs.Replies.{child, landed, landed_term}
use Rattle.spec_search.specs.Control.{call_of}

-- the last k branches
abbrev pub last : ℕ → List Branch → List Branch
last k bs = drop (length bs - k) bs

-- the catcher and the ball's copy as a pair, with what the copy carries; the ball goes on where they don't unify
abbrev pub caught_work : State → Copied → Tree → Pending
caught_work st ball c =
    let l = landed st (ball ∷ []) in
    record no_work { equations = (c ≐ landed_term st ball) ∷ []; rows = l.rows; told = l.told; ball = Some ball }

-- The branch that a catch saved, with the ball. Where it is kept, call(R) follows its woken goals.
abbrev pub caught_branch : Copied → State → Tree → Tree → List Item → Branch
caught_branch ball st c r items = child (call_of r ∷ items) (landed st (ball ∷ [])).state (caught_work st ball c)

-- The branches once a ball came up in front of these items, with these branches behind: the branch that the nearest
-- catch saved, before the older ones that it keeps. None where nothing catches it.
abbrev pub handed : Copied → List Item → List Branch → Option (List Branch)
handed ball [] bs = None
handed ball (CatchEnd k st c r ∷ items) bs = Some (caught_branch ball st c r items ∷ last k bs)
handed ball (i ∷ items) bs = handed ball items bs
