-- The last line of an answer that prints a row: a point at which all of its rows hold.
use Rattle.std.specs.Prelude.{◌≡◌, ◌≢◌, ℕ, List, [], ◌∷◌, ◌++◌, codes, filter, Bool, ◌==◌}
use Rattle.std.specs.List.{list_any}
use Rattle.spec_numbers.specs.Rational.{ℚ}
use Rattle.spec_numbers.specs.Texts.{Text}
use Rattle.spec_linear.specs.Form.{variables}
use Rattle.spec_linear.specs.Solution.{Constraint}
use Rattle.spec_linear.specs.Echelon.{Solved, equations}
use Rattle.spec_text.specs.Numbers.{number_text}
use Rattle.spec_points.specs.Points.{IsPoint}

-- the variable stands in a row
abbrev pub stands_in : List Constraint → ℕ → Bool
stands_in rows x = list_any (λ c. list_any (λ y. y == x) (variables c.form.products)) rows

-- the variables that stand in rows, in the order of variables
abbrev pub point_variables : List ℕ → List Constraint → List ℕ
point_variables order rows = filter (stands_in rows) order

module _ (name : ℕ → Text) (v : ℕ → ℚ) where
  -- no blank stands round `=`
  abbrev pub value_text : ℕ → Text
  value_text x = name x ++ codes "=" ++ number_text (v x)

  abbrev pub values_text : List ℕ → Text
  values_text [] = []
  values_text (x ∷ []) = value_text x
  values_text (x ∷ y ∷ xs) = value_text x ++ codes ", " ++ values_text (y ∷ xs)

  abbrev pub point_line : List ℕ → Text
  point_line xs = codes "% at " ++ values_text xs

-- what stands behind the other lines of an answer: nothing where it prints no row, else the line of the rows' point
pub data ArePointLines (name : ℕ → Text) (order : List ℕ) (es : List Solved) (others : List Constraint) : List Text → Type 0 where
  no_row : equations es ++ others ≡ [] → ArePointLines name order es others []
  a_point : (v : ℕ → ℚ) → equations es ++ others ≢ []
      → IsPoint es others (point_variables order (equations es ++ others)) v
      → ArePointLines name order es others (point_line name v (point_variables order (equations es ++ others)) ∷ [])
