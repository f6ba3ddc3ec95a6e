-- How far forms reach on the weak list of a list, said of assignments alone.
use Rattle.std.specs.Prelude.{◌≡◌, ℕ, List, ◌∷◌, ◌⊎◌, ⊤}
use Rattle.spec_numbers.specs.Rational.{ℚ, 0ℚ, IsNotNegative, ◌≤ℚ◌}
use Rattle.spec_linear.specs.declared.Relation.{Relation}
use Rattle.spec_linear.specs.declared.Relation.TheVariants.{Eq, Gt, Ge, Ne}
use Rattle.spec_linear.specs.Form.{Linear, value_at}
use Rattle.spec_linear.specs.Solution.{Constraint, Satisfies, Satisfiable, Has}
use Rattle.spec_linear.specs.Weak.{above_zero, weak}

-- f is positive at some solution of the weak list
abbrev pub Rises : List Constraint → Linear → Type 0
Rises l f = Satisfiable (above_zero f ∷ weak l)

-- f is negative at no solution of the weak list
abbrev pub NeverNegative : List Constraint → Linear → Type 0
NeverNegative l f = (v : ℕ → ℚ) → Satisfies v (weak l) → IsNotNegative (value_at v f)

-- f is zero at each assignment in A
abbrev pub IsFlat : ((ℕ → ℚ) → Type 0) → Linear → Type 0
IsFlat A f = (v : ℕ → ℚ) → A v → value_at v f ≡ 0ℚ

-- f is not zero at some assignment in A
pub record Moves (A : (ℕ → ℚ) → Type 0) (f : Linear) : Type 0 where
  pub at : ℕ → ℚ
  pub inside : A at
  pub apart : value_at at f ≡ 0ℚ → ⊥

-- how a member stands: an equation is zero in A, a strict row rises, a weak row does one or the other, a disequation moves in A
abbrev pub Stands : ((ℕ → ℚ) → Type 0) → List Constraint → Relation → Linear → Type 0
Stands A l Eq f = IsFlat A f
Stands A l Gt f = Rises l f
Stands A l Ge f = IsFlat A f ⊎ Rises l f
Stands A l Ne f = Moves A f

-- A holds the solutions of the weak list, of which there are some, and each member stands
pub record Kept (A : (ℕ → ℚ) → Type 0) (l : List Constraint) : Type 0 where
  pub start : Satisfiable (weak l)
  pub inside : (v : ℕ → ℚ) → Satisfies v (weak l) → A v
  pub stands : (c : Constraint) → Has c l → Stands A l c.relation c.form

-- A without the assignments where f is not zero
abbrev pub Cut : ((ℕ → ℚ) → Type 0) → Linear → (ℕ → ℚ) → Type 0
Cut A f v = A v × (value_at v f ≡ 0ℚ)

-- what has to be looked at again of a member when the solutions grow fewer
abbrev pub Again : ((ℕ → ℚ) → Type 0) → List Constraint → Relation → Linear → Type 0
Again A l Eq f = ⊤
Again A l Gt f = Rises l f
Again A l Ge f = IsFlat A f ⊎ Rises l f
Again A l Ne f = Moves A f

-- f is at most q at each solution of the weak list, and q at one of them
pub record IsGreatest (l : List Constraint) (f : Linear) (q : ℚ) : Type 0 where
  pub bound : (v : ℕ → ℚ) → Satisfies v (weak l) → value_at v f ≤ℚ q
  pub at : ℕ → ℚ
  pub solves : Satisfies at (weak l)
  pub value : value_at at f ≡ q

-- two lists with the same members
pub record SameMembers (l m : List Constraint) : Type 0 where
  pub there : (c : Constraint) → Has c l → Has c m
  pub back : (c : Constraint) → Has c m → Has c l
