-- Printed rows, what they say, and the inequalities and disequations of an answer that they are.
use Rattle.std.specs.Prelude.{ℕ, List, map, Bool, true, false}
use Rattle.spec_numbers.specs.Rational.{ℚ}
use Rattle.spec_numbers.specs.Sums.{Monomial}
use Rattle.spec_linear.specs.declared.Relation.{Relation}
use Rattle.spec_linear.specs.declared.Relation.TheVariants.{Eq, Gt, Ge, Ne}
use Rattle.spec_linear.specs.Solution.{Constraint}
use Rattle.spec_projection.specs.Printed.{compared, unequal_to}
use Rattle.spec_projection.specs.Printed as answer
use Rattle.spec_answers.specs.Rows.{Inequality, Disequation}
use Rattle.cq_frac.specs.declared.VarId.{VarId}
use Rattle.cq_elimination.specs.declared.arrange.Comparison.{Comparison}
use Rattle.cq_elimination.specs.declared.arrange.Comparison.TheVariants.{AtLeast, Above, AtMost, Below, Unequal}
use Rattle.cq_elimination.specs.declared.arrange.PrintedRow.{PrintedRow}

-- a variable with its factor
abbrev pub monomial_of : VarId × ℚ → Monomial
monomial_of p = record { variable = p.0.0; factor = p.1 }

abbrev pub monomials_of : List (VarId × ℚ) → List Monomial
monomials_of s = map monomial_of s

-- products, how they stand to a number, and the number
pub record Line : Type 0 where
  pub products : List Monomial
  pub comparison : Comparison
  pub bound : ℚ

abbrev pub line_of : PrintedRow → Line
line_of r = record { products = monomials_of r.products.items; comparison = r.comparison; bound = r.bound }

abbrev pub lines_of : List PrintedRow → List Line
lines_of rows = map line_of rows

-- >= before > before =< before <, and =\= behind
abbrev pub rank_of : Comparison → ℕ
rank_of AtLeast = 0
rank_of Above = 1
rank_of AtMost = 2
rank_of Below = 3
rank_of Unequal = 4

-- how the products of a row of the relation stand to a number, once it is by a coefficient that is positive, or negative
abbrev pub comparison_by : Relation → Bool → Comparison
comparison_by Eq positive = Unequal
comparison_by Gt true = Above
comparison_by Gt false = Below
comparison_by Ge true = AtLeast
comparison_by Ge false = AtMost
comparison_by Ne positive = Unequal

-- ---- what a line says

abbrev pub said_by : List Monomial → Comparison → ℚ → Constraint
said_by s AtLeast q = compared s answer.AtLeast q
said_by s Above q = compared s answer.Above q
said_by s AtMost q = compared s answer.AtMost q
said_by s Below q = compared s answer.Below q
said_by s Unequal q = unequal_to s q

abbrev pub said : Line → Constraint
said l = said_by l.products l.comparison l.bound

-- ---- the inequality and the disequation that a line is

-- the comparison of an inequality
abbrev pub comparison_of : Comparison → answer.Comparison
comparison_of AtLeast = answer.AtLeast
comparison_of Above = answer.Above
comparison_of AtMost = answer.AtMost
comparison_of Below = answer.Below
comparison_of Unequal = answer.Below

abbrev pub inequality_of : Line → Inequality
inequality_of l = record { products = l.products; comparison = comparison_of l.comparison; bound = l.bound }

abbrev pub disequation_of : Line → Disequation
disequation_of l = record { products = l.products; bound = l.bound }
