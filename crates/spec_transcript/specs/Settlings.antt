-- The moments of a settling. No law takes these relations apart: only code introduces them, so that they can grow.
use Rattle.std.specs.Prelude.{◌≡◌, ℕ, List, [], ◌++◌, map, flat_map, Option, IsPermutation}
use Rattle.std.specs.List.{AllByRecursion}
use Rattle.spec_numbers.specs.Rational.{ℚ}
use Rattle.spec_linear.specs.Solution.{Constraint, Fixes, Has}
use Rattle.spec_simplex.specs.Overflow.{Moment, settling}
use Rattle.spec_simplex.specs.Asked.{IsAsked, IsInForce, NoQuestion}
use Rattle.spec_numbers.specs.Texts.{Text}
use Rattle.spec_terms.specs.Term.{Subst, apply, followed_by}
use Rattle.spec_terms.specs.Unifier.{IsUnifier, read_under}
use Rattle.spec_syntax.specs.Trees.{Tree}
use Rattle.spec_branch.specs.Relations.{Is, lin}
use Rattle.spec_branch.specs.Branch.{State, Pending}
use Rattle.spec_branch.specs.Closure.{Moves}
use Rattle.spec_branch.specs.Settling.{binding_equation, newly_bound}
use Rattle.spec_transcript.specs.Operands.{relation_operands}

-- the list during a settling, with the unifier u of its pairs: none, some or all of the equations of newly bound
-- variables and of the rows have joined, and some waiting terms
pub record IsListOf (st : State) (p : Pending) (u : Subst Text) (l : List Constraint) : Type 0 where
  pub is_unifier : IsUnifier (read_under st.bindings p.equations) u
  pub equations : List Constraint
  pub each_newly_bound : IsPermutation equations (map (binding_equation (followed_by st.bindings u)) (newly_bound st u))
  pub joined : List Constraint
  pub later : List Constraint
  pub split : equations ++ p.rows ≡ joined ++ later
  pub waiting : List Tree
  pub moves : Moves (followed_by st.bindings u) (st.linear ++ joined) (st.delayed ++ p.told) l waiting

-- the constraints that join in a settling
pub data JoinsIn (st : State) (p : Pending) (u : Subst Text) : Constraint → Type 0 where
  of_binding : (x : ℕ) → Has x (newly_bound st u) → JoinsIn st p u (binding_equation (followed_by st.bindings u) x)
  of_row : (c : Constraint) → Has c p.rows → JoinsIn st p u c
  of_term : (t : Tree) (c : Constraint) (l : List Constraint) (fixed : ℕ → Option ℚ) → Has t (st.delayed ++ p.told)
      → IsListOf st p u l → Fixes l fixed → lin fixed (apply (followed_by st.bindings u) t) ≡ Is c → JoinsIn st p u c

-- a moment of a settling
pub record IsSettlingMoment (st : State) (p : Pending) (m : Moment) : Type 0 where
  pub stage : m.stage ≡ settling
  pub unifier : Subst Text
  pub list : List Constraint
  pub is_list : IsListOf st p unifier list
  pub in_force : IsInForce list (JoinsIn st p unifier) NoQuestion m.list
  pub asked : AllByRecursion (IsAsked m.list (JoinsIn st p unifier) NoQuestion) m.asked
  -- the operations of all terms that wait or are told, with the values that some list of the settling fixes: a list that
  -- a constraint joins just now may turn out to have no solution
  pub valued : List Constraint
  pub is_valued : IsListOf st p unifier valued
  pub fixed : ℕ → Option ℚ
  pub fixes : Fixes valued fixed
  pub operations : m.operations
      ≡ flat_map (λ t. relation_operands fixed (apply (followed_by st.bindings unifier) t)) (st.delayed ++ p.told)
  -- no row of an answer is divided
  pub rows : m.rows ≡ []
