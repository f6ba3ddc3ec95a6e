-- What linear constraints and waiting terms say together of the values of variables. It helps to state laws.
use Rattle.std.specs.Prelude.{◌≡◌, ℕ, List, ◌++◌, map, true}
use Rattle.std.specs.List.{AllByRecursion}
use Rattle.spec_numbers.specs.Rational.{ℚ}
use Rattle.spec_linear.specs.Solution.{Constraint, Point, number, Solves, Solvable, Fixed, Has}
use Rattle.spec_numbers.specs.Texts.{Text}
use Rattle.spec_terms.specs.Term.{Subst, Var, apply, followed_by}
use Rattle.spec_syntax.specs.Trees.{Tree}
use Rattle.spec_branch.specs.Relations.{Lin, Waits, IsLin}
use Rattle.spec_branch.specs.Values.{IsTrueAt}
use Rattle.spec_branch.specs.Branch.{State, Pending, read}
use Rattle.spec_branch.specs.Settling.{newly_bound, binding_equation}

-- the point solves the linear constraints, and each waiting term is true there, as it reads
pub record IsSolution (s : Subst Text) (l : List Constraint) (w : List Tree) (p : Point) : Type 0 where
  pub solves : Solves p l
  pub true_there : AllByRecursion (λ t. IsTrueAt (number p) (apply s t)) w

-- a solution of a state
abbrev pub SolvesState : State → Point → Type 0
SolvesState st p = IsSolution st.bindings st.linear st.delayed p

-- a solution of a state with work to do, where u unifies the pairs: the numeric variables that are bound are as their
-- images, and what is told is true
abbrev pub SolvesPending : State → Pending → Subst Text → Point → Type 0
SolvesPending st w u p =
    let s = followed_by st.bindings u in
    IsSolution s (st.linear ++ map (binding_equation s) (newly_bound st u) ++ w.rows) (st.delayed ++ w.told) p

-- the linear constraints have a solution, no waiting term is linear or false over them, and they fix no numeric variable
-- that is unbound
pub record IsSettled (st : State) : Type 0 where
  pub solvable : Solvable st.linear
  pub waiting : (t : Tree) (r : Lin Constraint) → Has t st.delayed → IsLin st.linear (read st t) r → r ≡ Waits
  pub unbound : (v : ℕ) (q : ℚ) → st.numeric v ≡ true → st.bindings v ≡ Var v → Fixed st.linear v q → ⊥
