-- The steps of a selected goal: a ball, or children.
use Rattle.std.specs.Prelude.{◌≡◌, ℕ, List, [], ◌∷◌, Bool, true, false, Option, Some, None, ⊤, find, map}
use Rattle.spec_numbers.specs.Rational.{ℚ}
use Rattle.spec_linear.specs.Form.{Linear, negated_form}
use Rattle.spec_linear.specs.Solution.{Constraint, Fixes, Entails, Has}
use Rattle.spec_linear.specs.Extremes.{Leaves, IsSupremum, IsInfimum, IsUnbounded}
use Rattle.spec_terms.specs.Unifier.{HasNoUnifier}
use Rattle.spec_syntax.specs.Trees.{Tree}
use Rattle.spec_builtins.specs.Built.{indicator_of}
use Rattle.spec_builtins.specs.Errors.{type_error, error_ball}
use Rattle.spec_builtins.specs.Alternatives.{◌≐◌}
use Rattle.spec_branch.specs.Relations.{Lin, Is, Waits, False, lin, lin_expression}
use Rattle.spec_branch.specs.Branch.{Branch, Copied, plain_copy, IsCopy}
use Rattle.spec_search.specs.Database.{Clause}
use Rattle.spec_search.specs.Builtins.{Side, Least, Greatest}
use Rattle.spec_search.specs.Replies.{Place, Made, Raises, Throws, WithCopy, Makes, Calls, IfEntailed, WithExtent, made}
use Rattle.spec_search.specs.Control.{instance, clause_child}
use Rattle.spec_search.specs.Rows.{reply_of}

-- ---- clauses of a call

-- Some clauses of a snapshot, in order. Only those are left out whose head no substitution makes equal to the goal, and
-- they would be pruned in a turn of their own, which shows nothing.
pub data IsSelection (p : Place) (goal : Tree) : List Clause → List Clause → Type 0 where
  end : IsSelection p goal [] []
  takes : {c : Clause} {all some : List Clause} → IsSelection p goal all some
      → IsSelection p goal (c ∷ all) (c ∷ some)
  leaves_out : {c : Clause} {all some : List Clause} → HasNoUnifier ((goal ≐ (instance p c).head) ∷ [])
      → IsSelection p goal all some → IsSelection p goal (c ∷ all) some

-- ---- questions to the linear constraints

-- the constraint is not linear yet
abbrev pub waits : {A : Type 0} → Lin A → Bool
waits Waits = true
waits r = false

-- the member is refused as not linear
abbrev pub is_not_linear : (ℕ → Option ℚ) → Tree → Bool
is_not_linear fixed m = waits (lin fixed m)

-- the member is entailed; a false one isn't
abbrev pub IsEntailed : List Constraint → Lin Constraint → Type 0
IsEntailed l (Is c) = Entails l c
IsEntailed l Waits = ⊥
IsEntailed l False = ⊥

-- some solution breaks the member, or it is false
abbrev pub IsBroken : List Constraint → Lin Constraint → Type 0
IsBroken l (Is c) = Leaves l c
IsBroken l Waits = ⊥
IsBroken l False = ⊤

-- the list entails each of the constraints
abbrev pub AllEntailed : List Constraint → (ℕ → Option ℚ) → List Tree → Type 0
AllEntailed l fixed [] = ⊤
AllEntailed l fixed (m ∷ ms) = IsEntailed l (lin fixed m) × AllEntailed l fixed ms

-- the value at a side
abbrev pub IsExtent : Side → List Constraint → Linear → ℚ → Type 0
IsExtent Greatest l f q = IsSupremum l f q
IsExtent Least l f q = IsInfimum l f q

-- there is no value at this side
abbrev pub HasNoExtent : Side → List Constraint → Linear → Type 0
HasNoExtent Greatest l f = IsUnbounded l f
HasNoExtent Least l f = IsUnbounded l (negated_form f)

-- ---- steps

-- what a selected goal comes to: a ball, or the branches in its place
pub data Stepped : Type 0 where
  Ball : Copied → Stepped
  Children : Made → Stepped

-- the ball error(E,PI) of a goal
abbrev pub ball_of : Tree → Tree → Stepped
ball_of goal e = Ball (plain_copy (error_ball e (indicator_of goal)))

-- these branches
abbrev pub children : Place → List Branch → Stepped
children p bs = Children (made p bs)

-- the steps of a goal as it reads
pub data Steps (p : Place) (goal : Tree) : Stepped → Type 0 where
  raises : {e : Tree} → reply_of p goal ≡ Raises e → Steps p goal (ball_of goal e)
  throws : {t : Tree} {c : Copied} → reply_of p goal ≡ Throws t → IsCopy p.state t c → Steps p goal (Ball c)
  copies : {t : Tree} {f : Copied → Branch} {c : Copied} → reply_of p goal ≡ WithCopy t f → IsCopy p.state t c
      → Steps p goal (children p (f c ∷ []))
  makes : {m : Made} → reply_of p goal ≡ Makes m → Steps p goal (Children m)
  calls : {all some : List Clause} → reply_of p goal ≡ Calls all → IsSelection p goal all some
      → Steps p goal (children p (map (clause_child p goal) some))
  not_linear : {ms : List Tree} {b : Branch} {m : Tree} (fixed : ℕ → Option ℚ) → reply_of p goal ≡ IfEntailed ms b
      → Fixes p.state.linear fixed
      → find (is_not_linear fixed) ms ≡ Some m → Steps p goal (ball_of goal (type_error "linear" m))
  entailed : {ms : List Tree} {b : Branch} (fixed : ℕ → Option ℚ) → reply_of p goal ≡ IfEntailed ms b
      → Fixes p.state.linear fixed
      → find (is_not_linear fixed) ms ≡ None → AllEntailed p.state.linear fixed ms
      → Steps p goal (children p (b ∷ []))
  not_entailed : {ms : List Tree} {b : Branch} (m : Tree) (fixed : ℕ → Option ℚ)
      → reply_of p goal ≡ IfEntailed ms b → Fixes p.state.linear fixed
      → find (is_not_linear fixed) ms ≡ None → Has m ms → IsBroken p.state.linear (lin fixed m)
      → Steps p goal (children p [])
  expression_waits : {side : Side} {e : Tree} {f : ℚ → Branch} (fixed : ℕ → Option ℚ)
      → reply_of p goal ≡ WithExtent side e f → Fixes p.state.linear fixed
      → lin_expression fixed e ≡ Waits → Steps p goal (ball_of goal (type_error "linear" e))
  expression_false : {side : Side} {e : Tree} {f : ℚ → Branch} (fixed : ℕ → Option ℚ)
      → reply_of p goal ≡ WithExtent side e f → Fixes p.state.linear fixed
      → lin_expression fixed e ≡ False → Steps p goal (children p [])
  extent : {side : Side} {e : Tree} {f : ℚ → Branch} {form : Linear} {q : ℚ} (fixed : ℕ → Option ℚ)
      → reply_of p goal ≡ WithExtent side e f → Fixes p.state.linear fixed
      → lin_expression fixed e ≡ Is form → IsExtent side p.state.linear form q
      → Steps p goal (children p (f q ∷ []))
  no_extent : {side : Side} {e : Tree} {f : ℚ → Branch} {form : Linear} (fixed : ℕ → Option ℚ)
      → reply_of p goal ≡ WithExtent side e f → Fixes p.state.linear fixed
      → lin_expression fixed e ≡ Is form → HasNoExtent side p.state.linear form → Steps p goal (children p [])
