-- A world in the middle of its settling.
use Rattle.std.specs.Prelude.{◌≡◌, ◌⊎◌, ℕ, ◌<◌, ◌≤◌, List, [], ◌∷◌, ◌++◌, map, length, All, Contains, true, Option, Some, IsPermutation}
use Rattle.std.specs.List.{AllByRecursion, AllZip}
use Rattle.spec_numbers.specs.Rational.{ℚ}
use Rattle.spec_linear.specs.Solution.{Constraint, Fixed}
use Rattle.spec_numbers.specs.Texts.{Text}
use Rattle.spec_terms.specs.Term.{Subst, Var, Occurs, apply, followed_by}
use Rattle.spec_terms.specs.Unifier.{IsUnifier, read_under}
use Rattle.spec_syntax.specs.Trees.{Tree}
use Rattle.spec_branch.specs.Relations.{Waits, lin}
use Rattle.spec_branch.specs.Branch.{State, Pending, Sleeper}
use Rattle.spec_branch.specs.Closure.{Moves}
use Rattle.spec_branch.specs.Settling.{is_bound, binding_equation, newly_bound, numeric_after, value_or_variable, NoClash}
use Rattle.cq_term.specs.HeapValue.{Terms}
use Rattle.cq_term.specs.Meaning.{HeapTerm}
use Rattle.cq_term.specs.Trees.{tree, trees}
use Rattle.cq_attr.specs.Attributes.{Waiting}
use Rattle.cq_attr.specs.declared.susp.Susp.{Susp}
use Rattle.cq_attr.specs.declared.susp.Susp.TheVariants as susp
use Rattle.cq_settle.specs.Contents.{Contents}
use Rattle.cq_settle.specs.Standing.{Stands, constraints, goals, IsAwaited}
use Rattle.cq_settle.specs.Rest.{IsReadThrough, IsAtRest}
use Rattle.cq_settle.specs.Called.{bound_state}

-- ---- what a call may rely on, whatever is being settled

-- the terms and the variable are there
abbrev pub IsLive : Terms → Susp → Type 0
IsLive h (susp.Delayed t) = t < length h.terms
IsLive h (susp.Goal v t) = (v.0 < length h.images) × (t < length h.terms)

-- ---- what is being settled

-- the unified bindings
abbrev pub unified : State → Subst Text → Subst Text
unified st u = followed_by st.bindings u

-- the numeric variables then
abbrev pub numeric_then : State → Pending → Subst Text → ℕ → Rattle.std.specs.Prelude.Bool
numeric_then st p u = numeric_after st u (unified st u) p.told

-- the values as bindings
abbrev pub valued : (ℕ → Option ℚ) → Subst Text
valued values v = value_or_variable (values v) v

-- the unified bindings, with these values
abbrev pub bindings_now : State → Subst Text → (ℕ → Option ℚ) → Subst Text
bindings_now st u values = followed_by (unified st u) (valued values)

-- what does not change: nothing was left to settle in the state, and no numeric variable is to be an atom or a compound
pub record IsTask (st : State) (p : Pending) (u : Subst Text) : Type 0 where
  pub rests : IsAtRest st
  pub unifier : IsUnifier (read_under st.bindings p.equations) u
  pub read_through : IsReadThrough (bound_state st u)
  pub no_clash : NoClash st (unified st u)
  -- the variables of what is told are there
  pub told_below : AllByRecursion (λ t. (v : ℕ) → Occurs v (apply (unified st u) t) → v < st.fresh) p.told

-- some equations and rows have joined
pub record IsJoining (st : State) (p : Pending) (u : Subst Text) (l : List Constraint) : Type 0 where
  pub equations : List Constraint
  pub each_newly_bound : IsPermutation equations (map (binding_equation (unified st u)) (newly_bound st u))
  pub joined : List Constraint
  pub later : List Constraint
  pub split : equations ++ p.rows ≡ joined ++ later
  pub list : l ≡ st.linear ++ joined

-- all have joined, and some waiting terms; these wait
pub record IsReached (st : State) (p : Pending) (u : Subst Text) (l : List Constraint) (w : List Tree) : Type 0 where
  pub equations : List Constraint
  pub each_newly_bound : IsPermutation equations (map (binding_equation (unified st u)) (newly_bound st u))
  pub moves : Moves (unified st u) (st.linear ++ equations ++ p.rows) (st.delayed ++ p.told) l w

-- ---- values that are bound

-- the bound values are those of the numeric variables that were unbound and that the list fixes
pub record AreBound (st : State) (p : Pending) (u : Subst Text) (l : List Constraint) (values : ℕ → Option ℚ) : Type 0 where
  pub numeric : (v : ℕ) (q : ℚ) → values v ≡ Some q → numeric_then st p u v ≡ true
  pub unbound : (v : ℕ) (q : ℚ) → values v ≡ Some q → unified st u v ≡ Var v
  pub fixed : (v : ℕ) (q : ℚ) → values v ≡ Some q → Fixed l v q
  pub complete : (v : ℕ) (q : ℚ) → numeric_then st p u v ≡ true → unified st u v ≡ Var v → Fixed l v q → values v ≡ Some q

-- ---- what is to be looked at

-- the number is among those to be looked at, or one of its variables is among those that were bound
abbrev pub IsToDo : List ℕ → List ℕ → Waiting → Type 0
IsToDo numbers bound k = Contains numbers k.number ⊎ ((v : ℕ) × Contains k.watched v × Contains bound v)

-- the constraint waits under these values, or is to be looked at
abbrev pub WaitsOrToDo : Subst Text → (ℕ → Option ℚ) → List ℕ → List ℕ → Waiting → Tree → Type 0
WaitsOrToDo s values numbers bound k t = (lin values (apply s t) ≡ Waits) ⊎ IsToDo numbers bound k

-- the goal waits for the variable that it had before; where that was bound, it is among all that were
abbrev pub Awaits : State → Subst Text → List ℕ → Waiting → Sleeper → Type 0
Awaits st u all k z = (v : ℕ) → IsAwaited st.bindings v z.asleep → Contains k.watched v × (is_bound u v ≡ true → Contains all v)

-- the state with what has joined, what waits, and the variables that are numeric
abbrev pub state_then : State → Pending → Subst Text → List Constraint → List Tree → State
state_then st p u l w = record st { linear = l; delayed = w; numeric = numeric_then st p u }

-- The world reads under the values that are bound, and the older terms are read with them; `later` are the told terms that are
-- left, by the ids of `rest`. A term that waits does so under these values, or is to be looked at.
pub record IsHere (texts : List Text) (older : List HeapTerm) (c : Contents) (st : State) (p : Pending) (u : Subst Text) (values : ℕ → Option ℚ)
    (waiting later : List Tree) (rest numbers bound all : List ℕ) : Type 0 where
  pub task : IsTask st p u
  pub are_bound : AreBound st p u c.told values
  pub stands : Stands texts c (bindings_now st u values) (bindings_now st u values) (state_then st p u c.told waiting)
  pub older_live : length older ≤ length c.heap.terms
  pub older_read : (id : ℕ) → id < length older → tree texts c.heap.terms id ≡ apply (valued values) (tree texts older id)
  -- `all` has the variable of each goal where it was bound, and each variable that got a value
  pub awaited : AllZip (Awaits st u all) (goals c.attrs) st.sleepers
  pub all_values : (v : ℕ) (q : ℚ) → values v ≡ Some q → Contains all v
  pub numeric_terms : AllByRecursion (λ t. (v : ℕ) → Occurs v (apply (unified st u) t) → numeric_then st p u v ≡ true) (waiting ++ later)
  pub rest_live : All (λ id. id < length c.heap.terms) rest
  pub rest_reads : trees texts c.heap.terms rest ≡ map (apply (bindings_now st u values)) later
  pub looked_at : AllZip (WaitsOrToDo (unified st u) values numbers bound) (constraints c.attrs) waiting

-- all equations and rows have joined, some terms have, and the world is here
pub record IsUnderway (texts : List Text) (older : List HeapTerm) (c : Contents) (st : State) (p : Pending) (u : Subst Text) (values : ℕ → Option ℚ)
    (waiting later : List Tree) (rest numbers bound all : List ℕ) : Type 0 where
  pub reached : IsReached st p u c.told (waiting ++ later)
  pub here : IsHere texts older c st p u values waiting later rest numbers bound all

-- the equations and rows have joined, and the told terms are left
pub record HasStarted (texts : List Text) (older : List HeapTerm) (c : Contents) (told all : List ℕ) (st : State) (p : Pending) (u : Subst Text) : Type 0 where
  pub values : ℕ → Option ℚ
  pub underway : IsUnderway texts older c st p u values st.delayed p.told told [] all all

-- ---- from one world to the next, whatever is being settled

-- the told terms that are left; the numbers and the bound variables whose terms are to be looked at; and all variables that were bound
pub record ToDo : Type 0 where
  pub rest : List ℕ
  pub numbers : List ℕ
  pub bound : List ℕ
  pub all : List ℕ

abbrev pub to_do : List ℕ → List ℕ → List ℕ → List ℕ → ToDo
to_do rest numbers bound all = record { rest = rest; numbers = numbers; bound = bound; all = all }

-- a settling that is underway in one world is so in the other, with other terms left and other things to look at
abbrev pub GoesOn : List Text → Contents → Contents → ToDo → ToDo → Type 0
GoesOn texts c d i j = (st : State) (p : Pending) (u : Subst Text) (older : List HeapTerm) (values : ℕ → Option ℚ) (waiting later : List Tree)
    → IsUnderway texts older c st p u values waiting later i.rest i.numbers i.bound i.all
    → (values' : ℕ → Option ℚ) × (waiting' : List Tree) × (later' : List Tree)
    × IsUnderway texts older d st p u values' waiting' later' j.rest j.numbers j.bound j.all

-- what holds of each settling that is underway
abbrev pub OfEach : List Text → Contents → ToDo → (State → Pending → Subst Text → Type 0) → Type 0
OfEach texts c i P = (st : State) (p : Pending) (u : Subst Text) (older : List HeapTerm) (values : ℕ → Option ℚ) (waiting later : List Tree)
    → IsUnderway texts older c st p u values waiting later i.rest i.numbers i.bound i.all → P st p u

-- some settling is underway
pub record SomeIsUnderway (texts : List Text) (c : Contents) (i : ToDo) : Type 0 where
  pub state : State
  pub pending : Pending
  pub unifier : Subst Text
  pub older : List HeapTerm
  pub values : ℕ → Option ℚ
  pub waiting : List Tree
  pub later : List Tree
  pub is : IsUnderway texts older c state pending unifier values waiting later i.rest i.numbers i.bound i.all
