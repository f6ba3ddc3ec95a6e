-- The equations of an answer: the reduced echelon form over some variables in an order.
use Rattle.std.specs.Prelude.{◌≡◌, ◌≢◌, ◌⊎◌, ℕ, List, [], ◌∷◌, map, ⊤}
use Rattle.std.specs.List.{AllByRecursion}
use Rattle.spec_numbers.specs.Rational.{0ℚ, 1ℚ, neg_ℚ}
use Rattle.spec_numbers.specs.Sums.{Monomial, Mentions, negated_products}
use Rattle.spec_linear.specs.Form.{Linear}
pub use Rattle.spec_linear.specs.Form.{variables}
use Rattle.spec_linear.specs.Solution.{Constraint, equal_zero, Entails, Has}

-- an equation solved for a variable: the variable is the form
pub record Solved : Type 0 where
  pub variable : ℕ
  pub form : Linear

-- the variable less the form
abbrev pub difference : Solved → Linear
difference e = record { products = record { variable = e.variable; factor = 1ℚ } ∷ negated_products e.form.products; constant = neg_ℚ e.form.constant }

-- the constraint that the variable is the form
abbrev pub equation : Solved → Constraint
equation e = equal_zero (difference e)

-- the equations that the solved rows are
abbrev pub equations : List Solved → List Constraint
equations es = map equation es

-- the variables that are solved for
abbrev pub solved_variables : List Solved → List ℕ
solved_variables es = map (λ e. e.variable) es

-- ---- order

-- each number at most once
abbrev pub AreDistinct : List ℕ → Type 0
AreDistinct [] = ⊤
AreDistinct (x ∷ xs) = (Has x xs → ⊥) × AreDistinct xs

-- the variables stand in this order, each at most once
abbrev pub InOrder : List ℕ → List ℕ → Type 0
InOrder order [] = ⊤
InOrder [] (x ∷ xs) = ⊥
InOrder (v ∷ order) (x ∷ xs) = ((x ≡ v) × InOrder order xs) ⊎ InOrder order (x ∷ xs)

-- a variable and products behind it in the order, no factor zero
pub record IsBefore (order : List ℕ) (x : ℕ) (s : List Monomial) : Type 0 where
  pub ordered : InOrder order (x ∷ variables s)
  pub nonzero : AllByRecursion (λ m. m.factor ≢ 0ℚ) s

-- no variable of the products is solved for
abbrev pub MentionsNone : List Solved → List Monomial → Type 0
MentionsNone es s = AllByRecursion (λ e. Mentions e.variable s → ⊥) es

-- each product is of one of the variables
abbrev pub IsOver : List ℕ → Linear → Type 0
IsOver order f = (x : ℕ) → Mentions x f.products → Has x order

-- the reduced echelon form, in this order of variables, of all equations over them that the list entails
pub record IsEchelon (order : List ℕ) (l : List Constraint) (es : List Solved) : Type 0 where
  -- each is solved for its first variable
  pub first : AllByRecursion (λ e. IsBefore order e.variable e.form.products) es
  -- the first variables stand in the order
  pub sorted : InOrder order (map (λ e. e.variable) es)
  -- a variable that is solved for stands in no other equation
  pub reduced : AllByRecursion (λ e. MentionsNone es e.form.products) es
  pub entailed : AllByRecursion (λ e. Entails l (equation e)) es
  -- every entailed equation over the variables follows
  pub complete : (f : Linear) → IsOver order f → Entails l (equal_zero f) → Entails (equations es) (equal_zero f)
