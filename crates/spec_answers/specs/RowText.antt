-- The text of an equation of an answer: a variable, `=`, and what it is.
use Rattle.std.specs.Prelude.{ℕ, List, [], ◌∷◌, ◌++◌, codes, ◌==◌, ◌&&◌, Bool, false, if◌then◌else◌}
use Rattle.std.specs.Ordering.{int_eq}
use Rattle.spec_numbers.specs.Rational.{ℚ, 1ℚ, neg_ℚ}
use Rattle.spec_numbers.specs.Sums.{Monomial}
use Rattle.spec_linear.specs.Form.{is_zero}
use Rattle.spec_linear.specs.Echelon.{Solved}
use Rattle.spec_numbers.specs.Texts.{Text}
use Rattle.spec_text.specs.Numbers.{number_text}

-- the numbers are the same
abbrev pub same_number : ℚ → ℚ → Bool
same_number p q = int_eq p.numerator q.numerator && (p.below == q.below)

-- the text begins with `-`
abbrev pub begins_with_minus : Text → Bool
begins_with_minus [] = false
begins_with_minus (b ∷ bs) = b == 45

-- a text behind a sum: its own `-`, or `+`, joins it
abbrev pub joined : Text → Text → Text
joined sum text = if begins_with_minus text then sum ++ text else sum ++ codes "+" ++ text

-- one blank follows the relation where the right side begins with `-`
abbrev pub related : Text → Text → Text → Text
related left relation right = left ++ relation ++ (if begins_with_minus right then codes " " else []) ++ right

-- the names of variables
module _ (name : ℕ → Text) where
  -- a coefficient 1 is left away, and -1 is `-`
  abbrev pub product_text : Monomial → Text
  product_text m =
      if same_number m.factor 1ℚ then name m.variable
      else if same_number m.factor (neg_ℚ 1ℚ) then codes "-" ++ name m.variable
      else number_text m.factor ++ codes "*" ++ name m.variable

  -- a sum with more products behind it
  abbrev pub sum_onto : Text → List Monomial → Text
  sum_onto sum [] = sum
  sum_onto sum (m ∷ ms) = sum_onto (joined sum (product_text m)) ms

  -- products in their order, then the constant, which is left away where it is zero and a product stands before it
  abbrev pub linear_text : List Monomial → ℚ → Text
  linear_text [] q = number_text q
  linear_text (m ∷ ms) q =
      let sum = sum_onto (product_text m) ms in
      if is_zero q then sum else joined sum (number_text q)

  -- a row: the variable that is solved for, and its form
  abbrev pub equation_text : Solved → Text
  equation_text e = related (name e.variable) (codes "=") (linear_text e.form.products e.form.constant)
