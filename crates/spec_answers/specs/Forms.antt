-- When rows are in the form of an answer.
use Rattle.std.specs.Prelude.{◌≡◌, ◌≢◌, ◌⊎◌, ℕ, ◌<◌, List, [], ◌∷◌, ⊤}
use Rattle.std.specs.List.{AllByRecursion}
use Rattle.spec_numbers.specs.Rational.{ℚ, 0ℚ, 1ℚ, ◌<ℚ◌}
use Rattle.spec_numbers.specs.Sums.{Monomial, factor_of}
use Rattle.spec_linear.specs.Solution.{Constraint}
use Rattle.spec_linear.specs.Echelon.{InOrder, variables}
use Rattle.spec_projection.specs.Printed.{Comparison, AtLeast, Above, AtMost, Below}
use Rattle.spec_projection.specs.Projection.{AreProjectedRows}
use Rattle.spec_answers.specs.Rows.{Inequality, Disequation, Rows, other_constraints}

-- ---- scale

-- products of the variables in this order, no factor zero, and the first one 1
pub record IsScaled (order : List ℕ) (s : List Monomial) : Type 0 where
  pub ordered : InOrder order (variables s)
  pub nonzero : AllByRecursion (λ m. m.factor ≢ 0ℚ) s
  pub first : Monomial
  pub rest : List Monomial
  pub leads : s ≡ first ∷ rest
  pub one : first.factor ≡ 1ℚ

-- ---- order

-- by coefficients as lists in the order of variables, the greater first, and then by what breaks the tie
abbrev pub Before : List ℕ → List Monomial → List Monomial → Type 0 → Type 0
Before [] s t tie = tie
Before (x ∷ order) s t tie = (factor_of x t <ℚ factor_of x s) ⊎ ((factor_of x s ≡ factor_of x t) × Before order s t tie)

-- >= before > before =< before <
abbrev pub rank : Comparison → ℕ
rank AtLeast = 0
rank Above = 1
rank AtMost = 2
rank Below = 3

-- by coefficients, then by comparison, then the lesser number first
abbrev pub InequalityBefore : List ℕ → Inequality → Inequality → Type 0
InequalityBefore order i j = Before order i.products j.products ((rank i.comparison < rank j.comparison)
    ⊎ ((i.comparison ≡ j.comparison) × (i.bound <ℚ j.bound)))

-- by coefficients, then the lesser number first
abbrev pub DisequationBefore : List ℕ → Disequation → Disequation → Type 0
DisequationBefore order c d = Before order c.products d.products (c.bound <ℚ d.bound)

-- each comes before the next
abbrev pub IsSorted : {A : Type 0} → (A → A → Type 0) → List A → Type 0
IsSorted P [] = ⊤
IsSorted P (x ∷ []) = ⊤
IsSorted P (x ∷ y ∷ xs) = P x y × IsSorted P (y ∷ xs)

-- ---- the form

-- the rows say of these variables just what the list says, none follows from the others, and they are scaled and sorted
pub record AreAnswerRows (order : List ℕ) (l : List Constraint) (r : Rows) : Type 0 where
  pub projected : AreProjectedRows order l r.equations (other_constraints r)
  pub scaled_inequalities : AllByRecursion (λ i. IsScaled order i.products) r.inequalities
  pub scaled_disequations : AllByRecursion (λ d. IsScaled order d.products) r.disequations
  pub sorted_inequalities : IsSorted (InequalityBefore order) r.inequalities
  pub sorted_disequations : IsSorted (DisequationBefore order) r.disequations
