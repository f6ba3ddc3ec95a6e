-- Rows to try points on, and values and names to try their line on. X, Y and Z are the variables 0, 1 and 2.
use Rattle.std.specs.Prelude.{ℕ, zero, suc, pos, negsuc, List, [], ◌∷◌, codes}
use Rattle.spec_numbers.specs.Rational.{ℚ, 0ℚ, 1ℚ, int_ℚ, ratio, neg_ℚ}
use Rattle.spec_numbers.specs.Sums.{Monomial}
use Rattle.spec_linear.specs.Solution.{Constraint}
use Rattle.spec_linear.specs.Echelon.{Solved}
use Rattle.spec_projection.specs.Printed.{compared, AtLeast, Above, AtMost, unequal_to}
use Rattle.spec_numbers.specs.Texts.{Text}
use Rattle.spec_points.specs.Bounds.{whole}
use Rattle.spec_points.specs.Lines.{point_line}

-- ---- rows

-- X
abbrev pub x : Monomial
x = record { variable = 0; factor = 1ℚ }

-- Y
abbrev pub y : Monomial
y = record { variable = 1; factor = 1ℚ }

-- Z
abbrev pub z : Monomial
z = record { variable = 2; factor = 1ℚ }

-- -Z
abbrev pub minus_z : Monomial
minus_z = record { variable = 2; factor = neg_ℚ 1ℚ }

-- -Y
abbrev pub minus_y : Monomial
minus_y = record { variable = 1; factor = neg_ℚ 1ℚ }

-- X>=5
abbrev pub at_least_five : List Constraint
at_least_five = compared (x ∷ []) AtLeast (whole 5) ∷ []

-- X-Y=\=0
abbrev pub unequal : List Constraint
unequal = unequal_to (x ∷ minus_y ∷ []) 0ℚ ∷ []

-- X+Y>=1, X-Y=<3, Y=<2
abbrev pub wedge : List Constraint
wedge =
    compared (x ∷ y ∷ []) AtLeast (whole 1)
    ∷ compared (x ∷ minus_y ∷ []) AtMost (whole 3)
    ∷ compared (y ∷ []) AtMost (whole 2) ∷ []

-- X>0 and Y>0, as where Y is a copy of X
abbrev pub both_positive : List Constraint
both_positive = compared (x ∷ []) Above 0ℚ ∷ compared (y ∷ []) Above 0ℚ ∷ []

-- X-Z>=0, Z>=0, Y-Z=\=0: Z is kept for the disequation
abbrev pub kept_apart : List Constraint
kept_apart =
    compared (x ∷ minus_z ∷ []) AtLeast 0ℚ
    ∷ compared (z ∷ []) AtLeast 0ℚ
    ∷ unequal_to (y ∷ minus_z ∷ []) 0ℚ ∷ []

-- a loan over three months: X=1000000r1030301*Y+3030100r1030301*Z
abbrev pub loan : List Solved
loan = record {
  variable = 0;
  form = record {
    products =
        record { variable = 1; factor = ratio (pos 1000000) 1030301 }
        ∷ record { variable = 2; factor = ratio (pos 3030100) 1030301 } ∷ [];
    constant = 0ℚ;
  };
} ∷ []

-- ---- lines

-- X, Y and one without a name
abbrev pub names : ℕ → Text
names zero = codes "X"
names (suc zero) = codes "Y"
names (suc (suc n)) = codes "_1"

-- 1, -1 and a half
abbrev pub values : ℕ → ℚ
values zero = whole 1
values (suc zero) = int_ℚ (negsuc 0)
values (suc (suc n)) = ratio (pos 1) 2

-- the line of these variables, with the names and values above
abbrev pub sample_line : List ℕ → Text
sample_line xs = point_line names values xs
