-- What stands in front of a continuation, and where a search comes back to.
use Rattle.std.specs.Prelude.{ℕ, ◌<◌, List, [], ◌∷◌, length, Option, Some, None, ⊤}
use Rattle.spec_engine.specs.declared.machine.cell.Cell.{Cell}
use Rattle.spec_engine.specs.declared.machine.cell.Cell.TheVariants.{Goal, Call, CutTo, CutFail, CatchEnd, Collect}
use Rattle.cq_branch.specs.declared.alternatives.Alternatives.{Alternatives}
use Rattle.cq_branch.specs.declared.alternatives.Alternatives.TheVariants as alternatives
use Rattle.cq_branch.specs.declared.marks.Front.{Front}
use Rattle.cq_branch.specs.declared.marks.Front.TheVariants as front
use Rattle.cq_branch.specs.declared.marks.Came.{Came}
use Rattle.cq_branch.specs.declared.marks.Came.TheVariants as came

-- no mark is in front
abbrev pub IsFront : List Cell → Type 0
IsFront [] = ⊤
IsFront (Goal t height ∷ cs) = ⊤
IsFront (Call t ∷ cs) = ⊤
IsFront (CutTo height ∷ cs) = ⊥
IsFront (CutFail height ∷ cs) = ⊥
IsFront (CatchEnd height c r ∷ cs) = ⊥
IsFront (Collect height t ∷ cs) = ⊤

-- what the engine goes on with past the front of a continuation
abbrev pub past : Front → ℕ → Option ℕ
past front.Clear k = Some k
past (front.Passed rest) k = Some rest
past front.Back k = None

-- it stops where no mark is, and goes on with an earlier continuation
abbrev pub IsPast : Front → ℕ → List Cell → Type 0
IsPast front.Clear k cells = IsFront cells
IsPast (front.Passed rest) k cells = rest < k
IsPast front.Back k cells = ⊤

-- what is left to try first makes a world of its own, as the clauses of a call, or nothing is left
abbrev pub IsCall : List Alternatives → Type 0
IsCall [] = ⊤
IsCall (alternatives.One k ∷ choices) = ⊥
IsCall (alternatives.Clauses t walk k ∷ choices) = ⊤
IsCall (alternatives.Ways s k ∷ choices) = ⊤
IsCall (alternatives.Barrier ∷ choices) = ⊥
IsCall (alternatives.Catches k ∷ choices) = ⊥
IsCall (alternatives.Caught ball c r k ∷ choices) = ⊤
IsCall (alternatives.Gathers t copies k ∷ choices) = ⊤
IsCall (alternatives.Matches t walk removes k ∷ choices) = ⊤

-- what the engine goes on with
abbrev pub came_to : Came → Option ℕ
came_to (came.Back k) = k
came_to came.Call = None

-- a choice is gone, or the newest is to be tried
abbrev pub HasComeBack : Came → List Alternatives → List Alternatives → Type 0
HasComeBack (came.Back k) old new = length new < length old
HasComeBack came.Call old new = IsCall new
