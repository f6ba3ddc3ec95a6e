-- The variables of printed rows.
use Rattle.std.specs.Prelude.{ℕ, List, [], ◌∷◌, ◌++◌, map}
use Rattle.spec_linear.specs.Form.{variables}
use Rattle.cq_elimination.specs.declared.arrange.PrintedRow.{PrintedRow}
use Rattle.cq_elimination.specs.Lines.{monomials_of}

abbrev pub line_variables : List PrintedRow → List ℕ
line_variables [] = []
line_variables (r ∷ rs) = variables (monomials_of r.products.items) ++ line_variables rs
