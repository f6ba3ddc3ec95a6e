-- What an engine keeps of a search: cells of what is still to be done, and what its choices leave to try. Terms are numbers
-- that a world reads, continuations are numbers, and heights are numbers of choices.
use Rattle.std.specs.Prelude.{ℕ, suc, ◌≤◌, ◌<◌, List, [], ◌∷◌, length, Bool, Option, Some, None, ⊤}
use Rattle.spec_syntax.specs.Trees.{Tree}
use Rattle.spec_builtins.specs.Alternatives.{Alternative}
use Rattle.spec_search.specs.Database.{Clause}
use Rattle.cq_control.specs.Heights.{branches_below}
use Rattle.cq_control.specs.Open.{last}
use Rattle.spec_engine.specs.declared.machine.cell.Cell.{Cell}
use Rattle.spec_engine.specs.declared.machine.cell.Cell.TheVariants.{Goal, Call, CutTo, CutFail, CatchEnd, Collect}

-- ---- cells

-- Each cell speaks of choices among the oldest n, and what is behind it of those alone that it goes back to.
abbrev pub Fits : ℕ → List Cell → Type 0
Fits n [] = ⊤
Fits n (Goal t cut ∷ cs) = (cut ≤ n) × Fits cut cs
Fits n (Call t ∷ cs) = Fits n cs
Fits n (CutTo h ∷ cs) = (h ≤ n) × Fits h cs
Fits n (CutFail h ∷ cs) = (h ≤ n) × Fits h cs
Fits n (CatchEnd h c r ∷ cs) = (h < n) × Fits h cs
Fits n (Collect h t ∷ cs) = (h < n) × Fits h cs

-- the nearest end of a catch: its height, its two other arguments, and the cells behind it
abbrev pub nearest_catch : List Cell → Option (ℕ × ℕ × ℕ × List Cell)
nearest_catch [] = None
nearest_catch (Goal t cut ∷ cs) = nearest_catch cs
nearest_catch (Call t ∷ cs) = nearest_catch cs
nearest_catch (CutTo h ∷ cs) = nearest_catch cs
nearest_catch (CutFail h ∷ cs) = nearest_catch cs
nearest_catch (CatchEnd h c r ∷ cs) = Some (h, c, r, cs)
nearest_catch (Collect h t ∷ cs) = nearest_catch cs

-- ---- choices

-- what a choice leaves to try
pub data Left : Type 0 where
  -- one branch, which goes on with a continuation
  One : ℕ → Left
  -- the clauses of a call that were not tried: its goal, and the continuation behind it
  Clauses : ℕ → List Clause → ℕ → Left
  -- the alternatives of a predicate that were not tried, and the continuation behind its goal
  Ways : List Alternative → ℕ → Left
  -- no branch: it keeps a world to go back to
  Barrier : Left
  -- no branch: it keeps the world of a catch's call, and the continuation behind the catch
  Catches : ℕ → Left
  -- the branch that a catch saved, with a ball: the ball as it is stored, the catch's two other arguments, and the continuation
  -- behind the catch
  Caught : Tree → ℕ → ℕ → ℕ → Left
  -- a findall's own saved branch: the term that the list is unified with, the copies so far as they are stored, and the
  -- continuation
  Gathers : ℕ → List Tree → ℕ → Left
  -- the clauses that were not compared with one that is asked for: the term of that one, whether a clause is removed once its
  -- branch is kept, and the continuation behind the goal
  Matches : ℕ → Bool → List Clause → ℕ → Left

-- how many branches a choice stands for
abbrev pub size : Left → ℕ
size (One k) = 1
size (Clauses t cs k) = length cs
size (Ways ways k) = length ways
size Barrier = 0
size (Catches k) = 0
size (Caught ball c r k) = 1
size (Gathers t copies k) = 1
size (Matches t removes cs k) = length cs

-- what a world holds, and what each continuation has to do
abbrev pub Value : Type 0 → Type 0
Value W = W × List (List Cell)

-- choices, the newest first, each behind the value that the search goes back to
abbrev pub Stack : Type 0 → Type 0
Stack W = List (Value W × Left)

-- the height of the definitions: how many branches there are below a height
abbrev pub below : {W : Type 0} → Stack W → ℕ → ℕ
below choices height = branches_below size choices height

-- the value of a catch's call, and the continuation behind the catch
abbrev pub as_catch : {W : Type 0} → Value W → Left → Option (Value W × ℕ)
as_catch v (One k) = None
as_catch v (Clauses t cs k) = None
as_catch v (Ways ways k) = None
as_catch v Barrier = None
as_catch v (Catches k) = Some (v, k)
as_catch v (Caught ball c r k) = None
as_catch v (Gathers t copies k) = None
as_catch v (Matches t removes cs k) = None

-- the catch that the newest choice is, if it is one
abbrev pub top_catch : {W : Type 0} → Stack W → Option (Value W × ℕ)
top_catch [] = None
top_catch (c ∷ older) = as_catch c.0 c.1

-- those that the choice with so many older ones keeps
abbrev pub catch_at : {W : Type 0} → Stack W → ℕ → Option (Value W × ℕ)
catch_at choices height = top_catch (last (suc height) choices)

-- a findall gathers there
abbrev pub IsGathering : Left → Type 0
IsGathering (One k) = ⊥
IsGathering (Clauses t cs k) = ⊥
IsGathering (Ways ways k) = ⊥
IsGathering Barrier = ⊥
IsGathering (Catches k) = ⊥
IsGathering (Caught ball c r k) = ⊥
IsGathering (Gathers t copies k) = ⊤
IsGathering (Matches t removes cs k) = ⊥

-- the newest choice is that of a findall
abbrev pub TopGathers : {W : Type 0} → Stack W → Type 0
TopGathers [] = ⊥
TopGathers (c ∷ older) = IsGathering c.1

-- the choice with so many older ones gathers
abbrev pub GathersAt : {W : Type 0} → Stack W → ℕ → Type 0
GathersAt choices height = TopGathers (last (suc height) choices)
