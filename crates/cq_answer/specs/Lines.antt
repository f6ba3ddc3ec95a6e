-- The lines of an answer with names that are given.
use Rattle.std.specs.Prelude.{ℕ, List, ◌++◌, map, codes}
use Rattle.spec_numbers.specs.Texts.{Text}
use Rattle.spec_syntax.specs.Operators.{Ops}
use Rattle.spec_terms.specs.Term.{Subst}
use Rattle.spec_terms.specs.VariableName.{VariableName}
use Rattle.spec_syntax.specs.Trees.{Tree}
use Rattle.spec_text.specs.declared.writing.Style.TheVariants.{Quoted}
use Rattle.spec_text.specs.Written.{text_within}
use Rattle.spec_answers.specs.Answer.{braced}
use Rattle.spec_answers.specs.Rows.{Rows, row_texts}

module _ (ops : Ops) (given : List VariableName) where
  -- a query variable and what it is
  abbrev pub binding_line : Subst Text → VariableName → Text
  binding_line s n = n.name ++ codes " = " ++ text_within Quoted ops given 699 (s n.number)

  abbrev pub constraint_line : Tree → Text
  constraint_line t = braced (text_within Quoted ops given 1200 t)

  abbrev pub goal_line : Tree → Text
  goal_line t = text_within Quoted ops given 1200 t

  -- the bound query variables, the rows with these names of variables, the constraints and the goals that wait
  abbrev pub lines_with : (ℕ → Text) → Subst Text → List VariableName → Rows → List Tree → List Tree → List Text
  lines_with among s bound r constraints goals =
      map (binding_line s) bound ++ map braced (row_texts among r) ++ map constraint_line constraints ++ map goal_line goals
