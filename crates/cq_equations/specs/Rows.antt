-- The rows of an answer, and the pairs of numbers that may stop the making of them.
use Rattle.std.specs.Prelude.{◌≡◌, ℕ, List, ◌∷◌, ◌++◌, map}
use Rattle.spec_numbers.specs.Rational.{ℚ}
use Rattle.spec_numbers.specs.Sums.{Monomial}
use Rattle.spec_linear.specs.Solution.{Constraint, Has, MentionsOnly}
use Rattle.spec_linear.specs.Echelon.{Solved, AreDistinct}
use Rattle.cq_frac.specs.declared.Pair.{Pair}
use Rattle.cq_frac.specs.declared.VarId.{VarId}
use Rattle.cq_equations.specs.Told.{numbers_of, CallMakes}
use Rattle.cq_equations.specs.declared.project.Equation.{Equation}

-- a variable and its factor
abbrev pub monomial_of : VarId × ℚ → Monomial
monomial_of p = record { variable = p.0.0; factor = p.1 }

-- the equation that a row is
abbrev pub solved_of : Equation → Solved
solved_of e = record { variable = e.variable.0; form = record { products = map monomial_of e.products.items; constant = e.constant } }

-- the equations that the rows are
abbrev pub equations_of : List Equation → List Solved
equations_of es = map solved_of es

-- a pair that telling a member of the list behind those before it makes, while these variables and maybe others are known
pub record ProjectionMakes (first : List ℕ) (told : List Constraint) (p : Pair) : Type 0 where
  pub before : List Constraint
  pub member : Constraint
  pub after : List Constraint
  pub order : List ℕ
  pub split : told ≡ before ++ member ∷ after
  pub stays : (x : ℕ) → Has x first → Has x order
  pub made : CallMakes before order member p

-- the keys are the wanted variables and then others, each once, and the constraints mention no more
pub record Knows (keep : List VarId) (l : List Constraint) (keys : List VarId) : Type 0 where
  pub others : List VarId
  pub split : keys ≡ keep ++ others
  pub distinct : AreDistinct (numbers_of keys)
  pub all : MentionsOnly (numbers_of keys) l

-- the wanted variables stand behind others in the order, each once, and the constraints mention no more
pub record IsOrdered (keep : List VarId) (l : List Constraint) (order : List ℕ) : Type 0 where
  pub others : List ℕ
  pub split : order ≡ others ++ numbers_of keep
  pub distinct : AreDistinct order
  pub all : MentionsOnly order l
