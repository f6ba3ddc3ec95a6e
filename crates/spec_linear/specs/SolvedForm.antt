-- A list of equations in solved form: some variables as forms of the others, which are free.
use Rattle.std.specs.Prelude.{◌≡◌, ◌↔◌, ℕ, List, [], ◌∷◌, Option, Some, None}
use Rattle.std.specs.List.{filter_map}
use Rattle.spec_numbers.specs.Rational.{ℚ}
use Rattle.spec_numbers.specs.Sums.{Monomial, Mentions}
use Rattle.spec_linear.specs.Form.{Linear, value_at}
use Rattle.spec_linear.specs.Solution.{Constraint, Fixed, MentionsOnly, Satisfies}
use Rattle.spec_linear.specs.Echelon.{Solved, AreDistinct, IsBefore}

-- a gives each variable that is solved for the value of its form
abbrev pub Agrees : (ℕ → ℚ) → (ℕ → Option Linear) → Type 0
Agrees a solved = (x : ℕ) (f : Linear) → solved x ≡ Some f → a x ≡ value_at a f

-- The list's variables are in the order. Each that is solved for is a form of free variables behind it, and the list says
-- just that.
pub record IsSolvedForm (order : List ℕ) (l : List Constraint) (solved : ℕ → Option Linear) : Type 0 where
  pub distinct : AreDistinct order
  pub known : MentionsOnly order l
  pub before : (x : ℕ) (f : Linear) → solved x ≡ Some f → IsBefore order x f.products
  pub free : (x y : ℕ) (f : Linear) → solved x ≡ Some f → Mentions y f.products → solved y ≡ None
  pub same : (a : ℕ → ℚ) → Satisfies a l ↔ Agrees a solved

-- the equation of a variable, if it is solved for
abbrev pub row_at : ℕ → Option Linear → Option Solved
row_at x None = None
row_at x (Some f) = Some (record { variable = x; form = f })

-- the equations of some variables, in their order
abbrev pub rows_of : (ℕ → Option Linear) → List ℕ → List Solved
rows_of solved targets = filter_map (λ x. row_at x (solved x)) targets

-- the number that a form without products is
abbrev pub constant_of : List Monomial → ℚ → Option ℚ
constant_of [] q = Some q
constant_of (m ∷ ms) q = None

-- the number that a variable is solved for
abbrev pub number_in : Option Linear → Option ℚ
number_in None = None
number_in (Some f) = constant_of f.products f.constant

-- the list gives x no single value
abbrev pub NotFixed : List Constraint → ℕ → Type 0
NotFixed l x = (q : ℚ) → Fixed l x q → ⊥
