-- What is left of a text behind a cut, and products whose variables are in order.
use Rattle.std.specs.Prelude.{ℕ, suc, List, [], length, if◌then◌else◌, ◌==◌, Option, Some, None}
use Rattle.std.specs.List.{slice_split}
use Rattle.spec_numbers.specs.Texts.{Text}
use Rattle.spec_numbers.specs.Rational.{ℚ}
use Rattle.spec_numbers.specs.Sums.{Monomial}
use Rattle.spec_log.specs.Verdicts.{are_counted, products_of}

-- its parts between the bytes `at`
abbrev pub pieces : ℕ → Option Text → List Text
pieces at None = []
pieces at (Some t) = slice_split (λ b. b == at) t

abbrev pub words_of : Text → List Text
words_of t = slice_split (λ b. b == 32) t

-- how many bytes are left, that of the cut too
abbrev pub size : Option Text → ℕ
size None = 0
size (Some t) = suc (length t)

-- the products that pairs are, where variables up to a number have occurred and theirs are in order
abbrev pub counted_products : ℕ → Option (List (ℕ × ℚ)) → Option (List Monomial)
counted_products seen None = None
counted_products seen (Some ps) = if are_counted seen 0 ps then Some (products_of ps) else None
