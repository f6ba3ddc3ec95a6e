-- What settling is called for.
use Rattle.std.specs.Prelude.{◌≡◌, ◌≢◌, ℕ, ◌<◌, List, map, length, All, Contains, true, false}
use Rattle.std.specs.List.{AllPairs}
use Rattle.spec_linear.specs.Solution.{Constraint}
use Rattle.spec_numbers.specs.Texts.{Text}
use Rattle.spec_terms.specs.Term.{Subst, apply, followed_by}
use Rattle.spec_terms.specs.Unifier.{IsUnifier, read_under}
use Rattle.spec_branch.specs.Branch.{State, Pending}
use Rattle.spec_branch.specs.Settling.{is_bound}
use Rattle.cq_frac.specs.declared.VarId.{VarId}
use Rattle.cq_term.specs.Trees.{trees}
use Rattle.cq_attr.specs.Attributes.{WaitsFor}
use Rattle.cq_term.specs.Places.{numbers_of}
use Rattle.cq_settle.specs.Contents.{Contents}
use Rattle.cq_settle.specs.Standing.{Stands}
use Rattle.cq_settle.specs.Rest.{IsReadThrough, IsAtRest}

-- the state with its bindings and the unifier behind them
abbrev pub bound_state : State → Subst Text → State
bound_state st u = record st { bindings = followed_by st.bindings u }

-- a variable of the state that was unbound, and that the unifier binds
pub record IsNewlyBound (st : State) (u : Subst Text) (v : ℕ) : Type 0 where
  pub there : v < st.fresh
  pub unbound : is_bound st.bindings v ≡ false
  pub binds : is_bound u v ≡ true

-- Since nothing was left to settle in the state, the pairs were made equal by their unifier, and nothing else was done. `newly`
-- names bound variables, each once, and among them each that is numeric or that something waits for.
pub record IsCalled (texts : List Text) (c : Contents) (newly : List VarId) (told : List ℕ) (rows : List Constraint) (st : State) (p : Pending)
    (u : Subst Text) : Type 0 where
  pub rests : IsAtRest st
  pub unifier : IsUnifier (read_under st.bindings p.equations) u
  pub read_through : IsReadThrough (bound_state st u)
  pub stands : Stands texts c st.bindings (followed_by st.bindings u) st
  pub once : AllPairs ◌≢◌ (numbers_of newly)
  pub bound : All (IsNewlyBound st u) (numbers_of newly)
  pub numeric : (v : ℕ) → st.numeric v ≡ true → IsNewlyBound st u v → Contains (numbers_of newly) v
  pub awaited : (v n : ℕ) → WaitsFor c.attrs n v → IsNewlyBound st u v → Contains (numbers_of newly) v
  pub told_live : All (λ id. id < length c.heap.terms) told
  pub told_reads : trees texts c.heap.terms told ≡ map (apply (followed_by st.bindings u)) p.told
  pub rows_are : rows ≡ p.rows

-- there is a state that settling is called for
pub record SomeIsCalled (texts : List Text) (c : Contents) (newly : List VarId) (told : List ℕ) (rows : List Constraint) : Type 0 where
  pub state : State
  pub pending : Pending
  pub unifier : Subst Text
  pub is : IsCalled texts c newly told rows state pending unifier

-- what holds of each such state
abbrev pub OfCalls : List Text → Contents → List VarId → List ℕ → List Constraint → (State → Pending → Subst Text → Type 0) → Type 0
OfCalls texts c newly told rows P = (st : State) (p : Pending) (u : Subst Text) → IsCalled texts c newly told rows st p u → P st p u
