-- A store as its callers see it, and what its calls say of the told list.
use Rattle.std.specs.Prelude.{◌≡◌, ℕ, List, [], ◌∷◌, ◌++◌, ⊤}
use Rattle.std.specs.List.{AllByRecursion}
use Rattle.spec_numbers.specs.Rational.{ℚ}
use Rattle.spec_linear.specs.Form.{Linear, negated_form}
use Rattle.spec_linear.specs.Solution.{Constraint}
use Rattle.spec_linear.specs.Extremes.{IsSupremum, IsInfimum, IsUnbounded}
use Rattle.spec_simplex.specs.Asked.{IsAsked, IsInForce}
use Rattle.spec_simplex.specs.Overflow.{Moment, settling, OverflowDue}
use Rattle.spec_simplex.specs.Chains.{IsBlandChain}
use Rattle.cq_frac.specs.declared.Pair.{Pair}
use Rattle.cq_frac.specs.declared.VarId.{VarId}
use Rattle.cq_store.specs.declared.store.Told.{Told}
use Rattle.cq_store.specs.declared.store.Told.TheVariants as of_told
use Rattle.cq_store.specs.declared.store.Extent.{Extent}
use Rattle.cq_store.specs.declared.store.Extent.TheVariants.{Value, Unbounded}

-- how many exchanges a call may make; the told constraints in the order of telling, now and at the live marks, the oldest
-- first; and how many marks find their memory set aside
pub record StoreValue : Type 0 where
  pub pivots : ℕ
  pub told : List Constraint
  pub saved : List (List Constraint)
  pub room : ℕ

-- what a mark keeps: how many exchanges a call may make, and the told constraints
pub record Kept : Type 0 where
  pub pivots : ℕ
  pub told : List Constraint

abbrev pub kept : ℕ → List Constraint → Kept
kept n l = record { pivots = n; told = l }

-- a fact of the newly fixed variables, if the constraint was kept
abbrev pub IfKept : Told → (List VarId → Type 0) → Type 0
IfKept (of_told.Kept fixed) P = P fixed.items
IfKept (of_told.Unsolvable cert) P = ⊤

-- a fact of the certificate, if the constraint can't hold together with the told list
abbrev pub IfUnsolvable : Told → (List (ℕ × ℚ) → Type 0) → Type 0
IfUnsolvable (of_told.Kept fixed) P = ⊤
IfUnsolvable (of_told.Unsolvable cert) P = P cert

-- how far the form reaches on the list's solutions
abbrev pub IsExtent : List Constraint → Linear → Extent → Type 0
IsExtent l f (Value q) = IsSupremum l f q
IsExtent l f Unbounded = IsUnbounded l f

-- how far it falls there
abbrev pub IsDepth : List Constraint → Linear → Extent → Type 0
IsDepth l f (Value q) = IsInfimum l f q
IsDepth l f Unbounded = IsUnbounded l (negated_form f)

-- ---- faults

-- the list of a call: one in force, or the told list with a constraint that joins it
pub data IsCallList (l : List Constraint) (Joins Questions : Constraint → Type 0) : List Constraint → Type 0 where
  in_force : {m : List Constraint} → IsInForce l Joins Questions m → IsCallList l Joins Questions m
  joined : (c : Constraint) → Joins c → IsCallList l Joins Questions (l ++ c ∷ [])

-- a moment of a call that works on the list, where these constraints may join it, and these questions are asked of it
pub record IsCallMoment (l : List Constraint) (Joins Questions : Constraint → Type 0) (m : Moment) : Type 0 where
  pub stage : m.stage ≡ settling
  pub list : IsCallList l Joins Questions m.list
  pub asked : AllByRecursion (IsAsked m.list Joins Questions) m.asked
  pub operations : m.operations ≡ []
  pub rows : m.rows ≡ []

-- an operation on the pair is due in a moment of the call, and is refused
pub record MayRefuse (l : List Constraint) (Joins Questions : Constraint → Type 0) (pair : Pair) : Type 0 where
  pub moment : Moment
  pub of_call : IsCallMoment l Joins Questions moment
  pub due : OverflowDue moment pair

-- in a moment of the call so many exchanges are made for an asked form, and another is due
pub record MayTake (l : List Constraint) (Joins Questions : Constraint → Type 0) (n : ℕ) : Type 0 where
  pub moment : Moment
  pub of_call : IsCallMoment l Joins Questions moment
  pub chain : IsBlandChain moment n

-- only this constraint joins, or is asked about
abbrev pub Only : Constraint → Constraint → Type 0
Only c k = k ≡ c
