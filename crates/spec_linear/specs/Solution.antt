-- Linear constraints, their solutions, and what a list of them fixes and entails.
-- A solution has whole numbers over one denominator; the laws tie it to assignments of rationals.
use Rattle.std.specs.Prelude.{◌≡◌, ◌↔◌, ◌⊎◌, ℕ, ◌<◌, List, [], ◌∷◌, ⊤, Option, Some, ℤ, pos}
use Rattle.spec_linear.specs.declared.Relation.{Relation}
use Rattle.spec_linear.specs.declared.Relation.TheVariants.{Eq, Gt, Ge, Ne}
use Rattle.spec_numbers.specs.Rational.{ℚ, 0ℚ, 1ℚ, ratio, int_ℚ, ◌+ℚ◌, ◌*ℚ◌, IsPositive, IsNotNegative}
use Rattle.spec_numbers.specs.Sums.{Mentions, sum_at}
use Rattle.spec_linear.specs.Form.{Linear, constant_form, variable_form, difference_form, value_at}

-- a form, and how it stands to zero
pub record Constraint : Type 0 where
  pub relation : Relation
  pub form : Linear

-- the constraint that nothing meets: 1 = 0
abbrev pub false_constraint : Constraint
false_constraint = record { relation = Eq; form = constant_form 1ℚ }

-- f = 0
abbrev pub equal_zero : Linear → Constraint
equal_zero f = record { relation = Eq; form = f }

-- the equation of a variable and a number
abbrev pub equal_to : ℕ → ℚ → Constraint
equal_to x q = record { relation = Eq; form = difference_form (variable_form x) (constant_form q) }

-- the number stands to zero as the relation says: = 0, > 0, >= 0, =\= 0
abbrev pub Meets : Relation → ℚ → Type 0
Meets Eq q = q ≡ 0ℚ
Meets Gt q = IsPositive q
Meets Ge q = IsNotNegative q
Meets Ne q = q ≡ 0ℚ → ⊥

-- ---- solutions

-- one positive whole denominator for all variables, and a whole numerator for each
pub record Point : Type 0 where
  pub denominator : ℕ
  pub positive : 0 < denominator
  pub numerator : ℕ → ℤ

-- the rational that it gives a variable
abbrev pub number : Point → ℕ → ℚ
number p x = ratio (p.numerator x) p.denominator

-- a form multiplied through by the denominator
abbrev pub through : Point → Linear → ℚ
through p f = f.constant *ℚ int_ℚ (pos p.denominator) +ℚ sum_at (λ x. int_ℚ (p.numerator x)) f.products

-- the constraint holds, multiplied through by the denominator
abbrev pub Holds : Point → Constraint → Type 0
Holds p c = Meets c.relation (through p c.form)

-- each constraint holds
abbrev pub Solves : Point → List Constraint → Type 0
Solves p [] = ⊤
Solves p (c ∷ l) = Holds p c × Solves p l

-- some point satisfies every constraint
abbrev pub Solvable : List Constraint → Type 0
Solvable l = (p : Point) × Solves p l

-- no point does
abbrev pub Unsolvable : List Constraint → Type 0
Unsolvable l = (p : Point) → Solves p l → ⊥

-- the list is solvable, and every solution gives x the value q
pub record Fixed (l : List Constraint) (x : ℕ) (q : ℚ) : Type 0 where
  pub solvable : Solvable l
  pub always : (p : Point) → Solves p l → number p x ≡ q

-- a value for each variable that the list fixes, and for no other
pub record Fixes (l : List Constraint) (fixed : ℕ → Option ℚ) : Type 0 where
  pub sound : (x : ℕ) (q : ℚ) → fixed x ≡ Some q → Fixed l x q
  pub complete : (x : ℕ) (q : ℚ) → Fixed l x q → fixed x ≡ Some q

-- every solution of the list satisfies the constraint
abbrev pub Entails : List Constraint → Constraint → Type 0
Entails l c = (p : Point) → Solves p l → Holds p c

-- the lists have the same solutions
abbrev pub Equivalent : List Constraint → List Constraint → Type 0
Equivalent l m = (p : Point) → Solves p l ↔ Solves p m

-- each constraint is an equation
abbrev pub AreEquations : List Constraint → Type 0
AreEquations [] = ⊤
AreEquations (c ∷ l) = (c.relation ≡ Eq) × AreEquations l

-- ---- the same solutions on some variables, the targets

-- the constraint holds where a gives the variables their values
abbrev pub HoldsAt : (ℕ → ℚ) → Constraint → Type 0
HoldsAt a c = Meets c.relation (value_at a c.form)

-- each constraint holds there
abbrev pub Satisfies : (ℕ → ℚ) → List Constraint → Type 0
Satisfies a [] = ⊤
Satisfies a (c ∷ l) = HoldsAt a c × Satisfies a l

-- some assignment satisfies the list
abbrev pub Satisfiable : List Constraint → Type 0
Satisfiable l = (v : ℕ → ℚ) × Satisfies v l

-- the point gives each target the value that a gives it
abbrev pub AgreesOn : List ℕ → (ℕ → ℚ) → Point → Type 0
AgreesOn [] a p = ⊤
AgreesOn (x ∷ targets) a p = (number p x ≡ a x) × AgreesOn targets a p

-- the values of the targets extend to a solution of the list
abbrev pub Extends : List ℕ → (ℕ → ℚ) → List Constraint → Type 0
Extends targets a l = (p : Point) × AgreesOn targets a p × Solves p l

-- x is one of them
abbrev pub Has : {A : Type 0} → A → List A → Type 0
Has x [] = ⊥
Has x (y ∷ s) = (x ≡ y) ⊎ Has x s

-- some constraint's form mentions x
abbrev pub SomeMentions : ℕ → List Constraint → Type 0
SomeMentions x [] = ⊥
SomeMentions x (c ∷ l) = Mentions x c.form.products ⊎ SomeMentions x l

-- the constraints mention no other variables
abbrev pub MentionsOnly : List ℕ → List Constraint → Type 0
MentionsOnly targets l = (x : ℕ) → SomeMentions x l → Has x targets

-- the rows are of the targets alone, and values for the targets satisfy them exactly where they extend to a solution of the list
pub record Same (targets : List ℕ) (rows l : List Constraint) : Type 0 where
  pub mentions : MentionsOnly targets rows
  pub same : (a : ℕ → ℚ) → Satisfies a rows ↔ Extends targets a l
