-- Whether a variable stands in one of three kinds of rows.
use Rattle.std.proofs.Common.{◌≡◌, ℕ, Bool, true, false, ◌||◌, List, [], ◌∷◌, ◌++◌, map, refl, sym, ap, ap₂, ◌∙◌}
use Rattle.spec_linear.specs.Form.{variables}
use Rattle.spec_answers.specs.Rows.{equation_variables, inequality_variables, disequation_variables, row_variables}
use Rattle.cq_elimination.specs.declared.arrange.PrintedRow.{PrintedRow}
use Rattle.cq_elimination.specs.Lines.{lines_of, inequality_of, disequation_of, monomials_of}
use Rattle.cq_equations.specs.Rows.{equations_of}
use Rattle.cq_project.specs.declared.Rows.{Rows}
use Rattle.cq_project.specs.Projecting.{rows_of}
use Rattle.cq_answer.specs.Numbered.{has_variable}
use Rattle.cq_answer.specs.Standing.{line_variables}
use Rattle.cq_answer.proofs.Members.{has_append}

inequalities_are : (rs : List PrintedRow) → inequality_variables (map inequality_of (lines_of rs)) ≡ line_variables rs
inequalities_are [] = refl
inequalities_are (r ∷ rs) = ap (λ vs. variables (monomials_of r.products.items) ++ vs) (inequalities_are rs)

disequations_are : (rs : List PrintedRow) → disequation_variables (map disequation_of (lines_of rs)) ≡ line_variables rs
disequations_are [] = refl
disequations_are (r ∷ rs) = ap (λ vs. variables (monomials_of r.products.items) ++ vs) (disequations_are rs)

module _ (r : Rows) (v : ℕ) where
  parts : has_variable (row_variables (rows_of r)) v
      ≡ ((has_variable (equation_variables (equations_of r.equations.items)) v || has_variable (line_variables r.inequalities.items) v) || has_variable (line_variables r.disequations.items) v)
  parts =
      let e = equation_variables (equations_of r.equations.items) in
      let i = inequality_variables (map inequality_of (lines_of r.inequalities.items)) in
      let d = disequation_variables (map disequation_of (lines_of r.disequations.items)) in
      has_append (e ++ i) d v
      ∙ ap₂ (λ a b. a || b) (has_append e i v ∙ ap (λ vs. has_variable e v || has_variable vs v) (inequalities_are r.inequalities.items)) (ap (λ vs. has_variable vs v) (disequations_are r.disequations.items))

  second : (a b c : Bool) → true ≡ b → true ≡ ((a || b) || c)
  second true b c e = refl
  second false b c e = ap (λ x. x || c) e

  third : (a b c : Bool) → false ≡ a → false ≡ b → c ≡ ((a || b) || c)
  third a b c e f = ap₂ (λ x y. (x || y) || c) e f

  pub in_inequalities : true ≡ has_variable (line_variables r.inequalities.items) v → true ≡ has_variable (row_variables (rows_of r)) v
  in_inequalities e =
      second (has_variable (equation_variables (equations_of r.equations.items)) v) (has_variable (line_variables r.inequalities.items) v) (has_variable (line_variables r.disequations.items) v) e ∙ sym parts

  pub in_disequations : false ≡ has_variable (equation_variables (equations_of r.equations.items)) v → false ≡ has_variable (line_variables r.inequalities.items) v →
      has_variable (line_variables r.disequations.items) v ≡ has_variable (row_variables (rows_of r)) v
  in_disequations e f =
      third (has_variable (equation_variables (equations_of r.equations.items)) v) (has_variable (line_variables r.inequalities.items) v) (has_variable (line_variables r.disequations.items) v) e f ∙ sym parts
