-- What holds of a branch and its world between goals.
use Rattle.std.specs.Prelude.{◌≡◌, ℕ, ◌<◌, ◌≤◌, List, true}
use Rattle.std.specs.List.{AllByRecursion}
use Rattle.spec_numbers.specs.Rational.{ℚ}
use Rattle.spec_linear.specs.Solution.{Solvable, Fixed}
use Rattle.spec_numbers.specs.Texts.{Text}
use Rattle.spec_terms.specs.Term.{Var, Occurs}
use Rattle.spec_branch.specs.Relations.{Waits, lin}
use Rattle.spec_branch.specs.Branch.{State, read}
use Rattle.spec_branch.specs.Alike.{no_values}
use Rattle.spec_branch.specs.Settling.{is_bound, still_sleeps, state_of, NoClash}
use Rattle.cq_settle.specs.Contents.{Contents}
use Rattle.cq_settle.specs.Standing.{Stands}

-- images are read through, a variable becomes an older one, and all variables are below the next one
pub record IsReadThrough (st : State) : Type 0 where
  pub through : (v w : ℕ) → Occurs w (st.bindings v) → st.bindings w ≡ Var w
  pub older : (v w : ℕ) → st.bindings v ≡ Var w → w ≤ v
  pub below : (v w : ℕ) → v < st.fresh → Occurs w (st.bindings v) → w < st.fresh
  pub beyond : (v : ℕ) → st.fresh ≤ v → st.bindings v ≡ Var v
  pub numeric : (v : ℕ) → st.numeric v ≡ true → v < st.fresh

-- a state in which nothing is left to settle
pub record IsAtRest (st : State) : Type 0 where
  pub read_through : IsReadThrough st
  pub solvable : Solvable st.linear
  -- each numeric variable that the linear constraints fix is bound, to a number or a numeric variable
  pub fixed : (v : ℕ) (q : ℚ) → st.numeric v ≡ true → Fixed st.linear v q → is_bound st.bindings v ≡ true
  pub no_clash : NoClash st st.bindings
  pub images : (v w : ℕ) → st.numeric v ≡ true → st.bindings v ≡ Var w → st.numeric w ≡ true
  -- each delayed constraint waits, and its variables are numeric
  pub waiting : AllByRecursion (λ t. lin no_values (read st t) ≡ Waits) st.delayed
  pub delayed : AllByRecursion (λ t. (v : ℕ) → Occurs v (read st t) → st.numeric v ≡ true) st.delayed
  pub asleep : AllByRecursion (λ k. still_sleeps (state_of st.bindings k.asleep) ≡ true) st.sleepers

-- the world is a state in which nothing is left to settle, and what waits, waits for its variables
pub record IsReadyAs (texts : List Text) (c : Contents) (st : State) : Type 0 where
  pub stands : Stands texts c st.bindings st.bindings st
  pub rests : IsAtRest st

abbrev pub IsReady : List Text → Contents → Type 0
IsReady texts c = (st : State) × IsReadyAs texts c st
