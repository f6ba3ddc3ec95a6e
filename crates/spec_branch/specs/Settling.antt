-- Settling: bindings, equations, told constraints, waiting terms, fixed values and woken goals.
use Rattle.std.specs.Prelude.{◌≡◌, ℕ, List, ◌++◌, map, filter, Bool, true, false, if◌then◌else◌, not, ◌&&◌, ◌||◌, ◌==◌, Option, Some, None, IsPermutation}
use Rattle.std.specs.List.{list_any, filter_map}
use Rattle.spec_numbers.specs.Rational.{ℚ}
use Rattle.spec_linear.specs.declared.Relation.TheVariants.{Eq}
use Rattle.spec_linear.specs.Form.{Linear, constant_form, variable_form, difference_form}
use Rattle.spec_linear.specs.Solution.{Constraint, Solvable, Unsolvable, Fixes}
use Rattle.spec_numbers.specs.Texts.{Text}
use Rattle.spec_terms.specs.Term.{Subst, Var, Number, apply, followed_by}
use Rattle.spec_terms.specs.Unifier.{IsUnifier, HasNoUnifier, read_under}
use Rattle.spec_terms.specs.Variables.{variables, counted_from}
use Rattle.spec_syntax.specs.Trees.{Tree}
use Rattle.spec_builtins.specs.Built.{compound1}
use Rattle.spec_branch.specs.Branch.{Asleep, Frozen, Sleeper, State, Item, Goal, Pending, Settled, Branch}
use Rattle.spec_branch.specs.Closure.{IsClosure}

-- ---- bindings

-- the term is this variable
abbrev pub is_the_variable : ℕ → Tree → Bool
is_the_variable v (Var w) = w == v
is_the_variable v t = false

-- the image is another term than the variable itself
abbrev pub is_bound : Subst Text → ℕ → Bool
is_bound s v = not (is_the_variable v (s v))

-- neither a variable nor a number
abbrev pub is_no_number : Tree → Bool
is_no_number (Var v) = false
is_no_number (Number q) = false
is_no_number t = true

-- a numeric variable is to be an atom or a compound
pub record Clashes (st : State) (s : Subst Text) : Type 0 where
  pub variable : ℕ
  pub numeric : st.numeric variable ≡ true
  pub image : is_no_number (s variable) ≡ true

-- each numeric variable is to be a variable or a number
abbrev pub NoClash : State → Subst Text → Type 0
NoClash st s = (v : ℕ) → st.numeric v ≡ true → is_no_number (s v) ≡ false

-- the numeric variables that were unbound and that the unifier binds, ascending
abbrev pub newly_bound : State → Subst Text → List ℕ
newly_bound st u = filter (λ v. st.numeric v && not (is_bound st.bindings v) && is_bound u v) (counted_from 0 st.fresh)

-- the form of a number or a variable
abbrev pub image_form : Tree → Linear
image_form (Var w) = variable_form w
image_form (Number q) = constant_form q
image_form t = variable_form 0

-- the variable less its image is zero
abbrev pub binding_equation : Subst Text → ℕ → Constraint
binding_equation s v = record { relation = Eq; form = difference_form (variable_form v) (image_form (s v)) }

-- the variable stands in some term as it reads
abbrev pub stands_in : Subst Text → List Tree → ℕ → Bool
stands_in s ts v = list_any (λ t. list_any (λ w. w == v) (variables (apply s t))) ts

-- the numeric variables then: those before, the images of newly bound ones, and those of told terms
abbrev pub numeric_after : State → Subst Text → Subst Text → List Tree → ℕ → Bool
numeric_after st u s told v =
    st.numeric v || list_any (λ w. is_the_variable v (s w)) (newly_bound st u) || stands_in s told v

-- ---- fixed values

-- the value, or the variable where it has none
abbrev pub value_or_variable : Option ℚ → ℕ → Tree
value_or_variable None v = Var v
value_or_variable (Some q) v = Number q

-- each numeric variable that is fixed is its value
abbrev pub fixed_values : (ℕ → Bool) → (ℕ → Option ℚ) → Subst Text
fixed_values numeric fixed v = if numeric v then value_or_variable (fixed v) v else Var v

-- ---- sleepers

-- what a sleeper does: it goes on sleeping, or its goal wakes
pub data SleeperState : Type 0 where
  Sleeps : SleeperState
  Wakes : Tree → SleeperState

-- freeze(X,G) sleeps while X is a variable, and then wakes G
abbrev pub frozen_state : Tree → Tree → SleeperState
frozen_state (Var v) g = Sleeps
frozen_state t g = Wakes g

-- what sleeps, its terms read under the bindings
abbrev pub state_of : Subst Text → Asleep → SleeperState
state_of s (Frozen x g) = frozen_state (apply s x) g

-- it goes on waiting
abbrev pub still_sleeps : SleeperState → Bool
still_sleeps Sleeps = true
still_sleeps x = false

-- the goal that wakes, as call(G)
abbrev pub woken_item : SleeperState → Option Item
woken_item (Wakes g) = Some (Goal (compound1 "call" g) 0)
woken_item x = None

-- those that go on waiting under the bindings
abbrev pub left_asleep : Subst Text → List Sleeper → List Sleeper
left_asleep s ks = filter (λ k. still_sleeps (state_of s k.asleep)) ks

-- the goals that wake, ascending by number
abbrev pub woken : Subst Text → List Sleeper → List Item
woken s ks = filter_map (λ k. woken_item (state_of s k.asleep)) ks

-- ---- settling

-- from the bindings on: equations, rows and told terms join, and waiting terms move until none can
pub record Settling (st : State) (p : Pending) (u : Subst Text) : Type 0 where
  -- the equation of each newly bound numeric variable, in any order
  pub equations : List Constraint
  pub each_newly_bound : IsPermutation equations (map (binding_equation (followed_by st.bindings u)) (newly_bound st u))
  pub linear : List Constraint
  pub waiting : List Tree
  pub closure : IsClosure (followed_by st.bindings u) (st.linear ++ equations ++ p.rows) (st.delayed ++ p.told) linear waiting

-- the bindings with the fixed values
abbrev pub bindings_after : State → Pending → Subst Text → (ℕ → Option ℚ) → Subst Text
bindings_after st p u fixed =
    let s = followed_by st.bindings u in
    followed_by s (fixed_values (numeric_after st u s p.told) fixed)

-- the branch that is kept
abbrev pub kept_branch : List Item → State → Pending → Subst Text → List Constraint → List Tree → (ℕ → Option ℚ)
    → Branch
kept_branch items st p u linear waiting fixed =
    let s = bindings_after st p u fixed in
    record {
      items = woken s st.sleepers ++ items;
      state = record st {
        bindings = s;
        linear = linear;
        delayed = waiting;
        numeric = numeric_after st u (followed_by st.bindings u) p.told;
        sleepers = left_asleep s st.sleepers;
      };
      phase = Settled;
    }

-- why a branch is pruned: a clash of terms, or a list of linear constraints without a solution
pub data Why : Type 0 where
  Clash : Why
  NoSolution : List Constraint → Why

-- the branch that is kept, or why it is pruned
pub data Outcome : Type 0 where
  Kept : Branch → Outcome
  Pruned : Why → Outcome

-- settling with a unifier of the pairs
pub data SettlesUnified (items : List Item) (st : State) (p : Pending) (u : Subst Text) : Outcome → Type 0 where
  clash : Clashes st (followed_by st.bindings u) → SettlesUnified items st p u (Pruned Clash)
  no_solution : NoClash st (followed_by st.bindings u) → (j : Settling st p u) → Unsolvable j.linear
      → SettlesUnified items st p u (Pruned (NoSolution j.linear))
  kept : NoClash st (followed_by st.bindings u) → (j : Settling st p u) → Solvable j.linear → (fixed : ℕ → Option ℚ)
      → Fixes j.linear fixed
      → SettlesUnified items st p u (Kept (kept_branch items st p u j.linear j.waiting fixed))

-- settling of an unsettled branch
pub data Settles (items : List Item) (st : State) (p : Pending) : Outcome → Type 0 where
  no_unifier : HasNoUnifier (read_under st.bindings p.equations) → Settles items st p (Pruned Clash)
  unified : {o : Outcome} → (u : Subst Text) → IsUnifier (read_under st.bindings p.equations) u
      → SettlesUnified items st p u o → Settles items st p o
