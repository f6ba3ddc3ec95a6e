-- The rows of an answer as they are printed, what they say, and their texts.
use Rattle.std.specs.Prelude.{ℕ, List, [], ◌∷◌, ◌++◌, map, codes}
use Rattle.spec_numbers.specs.Rational.{ℚ, 0ℚ}
use Rattle.spec_numbers.specs.Sums.{Monomial}
use Rattle.spec_linear.specs.Solution.{Constraint}
use Rattle.spec_linear.specs.Echelon.{Solved, variables}
use Rattle.spec_projection.specs.Printed.{Comparison, AtLeast, Above, AtMost, Below, compared, unequal_to}
use Rattle.spec_numbers.specs.Texts.{Text}
use Rattle.spec_text.specs.Numbers.{number_text}
use Rattle.spec_answers.specs.RowText.{related, linear_text, equation_text}

-- products, a comparison, and the number on the right
pub record Inequality : Type 0 where
  pub products : List Monomial
  pub comparison : Comparison
  pub bound : ℚ

-- products =\= the number on the right
pub record Disequation : Type 0 where
  pub products : List Monomial
  pub bound : ℚ

-- the rows of an answer, those of each kind in their order
pub record Rows : Type 0 where
  pub equations : List Solved
  pub inequalities : List Inequality
  pub disequations : List Disequation

-- no row
abbrev pub no_rows : Rows
no_rows = record { equations = []; inequalities = []; disequations = [] }

-- ---- what they say

-- the constraint that a printed inequality is
abbrev pub inequality : Inequality → Constraint
inequality i = compared i.products i.comparison i.bound

-- the constraint that a printed disequation is
abbrev pub disequation : Disequation → Constraint
disequation d = unequal_to d.products d.bound

-- the constraints that are no equations
abbrev pub other_constraints : Rows → List Constraint
other_constraints r = map inequality r.inequalities ++ map disequation r.disequations

-- ---- the variables that stand in rows, an occurrence each

-- the variables of the equations as they are printed, repeated ones too
abbrev pub equation_variables : List Solved → List ℕ
equation_variables [] = []
equation_variables (e ∷ es) = e.variable ∷ variables e.form.products ++ equation_variables es

-- those of the inequalities
abbrev pub inequality_variables : List Inequality → List ℕ
inequality_variables [] = []
inequality_variables (i ∷ is) = variables i.products ++ inequality_variables is

-- those of the disequations
abbrev pub disequation_variables : List Disequation → List ℕ
disequation_variables [] = []
disequation_variables (d ∷ ds) = variables d.products ++ disequation_variables ds

-- the variables of all rows, as they are printed
abbrev pub row_variables : Rows → List ℕ
row_variables r = equation_variables r.equations ++ inequality_variables r.inequalities
    ++ disequation_variables r.disequations

-- ---- texts

-- the symbol of a comparison
abbrev pub comparison_text : Comparison → Text
comparison_text AtLeast = codes ">="
comparison_text Above = codes ">"
comparison_text AtMost = codes "=<"
comparison_text Below = codes "<"

-- with these names of variables
abbrev pub inequality_text : (ℕ → Text) → Inequality → Text
inequality_text name i = related (linear_text name i.products 0ℚ) (comparison_text i.comparison) (number_text i.bound)

-- the text of a disequation: products, =\= and a number
abbrev pub disequation_text : (ℕ → Text) → Disequation → Text
disequation_text name d = related (linear_text name d.products 0ℚ) (codes "=\\=") (number_text d.bound)

-- the texts of the rows: equations, inequalities, disequations
abbrev pub row_texts : (ℕ → Text) → Rows → List Text
row_texts name r = map (equation_text name) r.equations ++ map (inequality_text name) r.inequalities
    ++ map (disequation_text name) r.disequations
