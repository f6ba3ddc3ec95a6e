-- What expressions and constraints say where their variables have values: exact arithmetic, and no linear form is spoken of.
use Rattle.std.specs.Prelude.{◌≡◌, ◌≢◌, ◌⊎◌, ℕ, Bool, true, false, if◌then◌else◌, Option, Some, None}
use Rattle.spec_numbers.specs.Rational.{ℚ, ◌+ℚ◌, ◌-ℚ◌, ◌*ℚ◌, ◌/ℚ◌, neg_ℚ, ◌≤ℚ◌, ◌<ℚ◌}
use Rattle.spec_linear.specs.Form.{is_zero}
use Rattle.spec_terms.specs.Operations.{unary_value, least, greatest}
use Rattle.spec_terms.specs.declared.arithmetic.UnaryOperation.TheVariants as unary
use Rattle.spec_terms.specs.Term.{Var, Number, Name, Compound, one, more}
use Rattle.spec_syntax.specs.Trees.{Tree}
use Rattle.spec_branch.specs.Expressions.{UnaryName, Same, Opposite, Absolute, BinaryName, Plus, Minus, Times, Over, Power, Least, Greatest, unary_name, binary_name, exponent_of, power}
use Rattle.spec_branch.specs.Relations.{RelationName, Equals, Differs, Greater, GreaterOrEqual, Lesser, LesserOrEqual, relation_name}
use Rattle.spec_branch.specs.Checks.{is_conjunction, is_disjunction}

-- ---- the value of an expression

-- the value of an operation of one argument
abbrev pub value_of_unary : UnaryName → ℚ → ℚ
value_of_unary Same p = p
value_of_unary Opposite p = neg_ℚ p
value_of_unary Absolute p = unary_value unary.Absolute p

-- none where the divisor is zero
abbrev pub value_of_quotient : ℚ → ℚ → Option ℚ
value_of_quotient p q = if is_zero q then None else Some (p /ℚ q)

-- none where the exponent isn't a whole number from 0 to 64
abbrev pub value_of_power : ℚ → Option ℕ → Option ℚ
value_of_power p None = None
value_of_power p (Some n) = Some (power p n)

-- the value of an operation of two arguments; none where it has no value
abbrev pub value_of_binary : BinaryName → ℚ → ℚ → Option ℚ
value_of_binary Plus p q = Some (p +ℚ q)
value_of_binary Minus p q = Some (p -ℚ q)
value_of_binary Times p q = Some (p *ℚ q)
value_of_binary Over p q = value_of_quotient p q
value_of_binary Power p q = value_of_power p (exponent_of (Some q))
value_of_binary Least p q = Some (least p q)
value_of_binary Greatest p q = Some (greatest p q)

-- without a value of each part there is none
abbrev pub unary_at : Option UnaryName → Option ℚ → Option ℚ
unary_at (Some n) (Some p) = Some (value_of_unary n p)
unary_at n p = None

-- the same, where the operation is known and both arguments have values
abbrev pub binary_at : Option BinaryName → Option ℚ → Option ℚ → Option ℚ
binary_at (Some n) (Some p) (Some q) = value_of_binary n p q
binary_at n p q = None

-- the value of an expression where a gives the variables their values; other terms have none
abbrev pub value_of : (ℕ → ℚ) → Tree → Option ℚ
value_of a (Var x) = Some (a x)
value_of a (Number q) = Some q
value_of a (Name n) = None
value_of a (Compound f (one t)) = unary_at (unary_name f) (value_of a t)
value_of a (Compound f (more t (one u))) = binary_at (binary_name f) (value_of a t) (value_of a u)
value_of a (Compound f (more t (more u us))) = None

-- ---- when a constraint is true

-- how p is to stand to q
abbrev pub Stand : RelationName → ℚ → ℚ → Type 0
Stand Equals p q = p ≡ q
Stand Differs p q = p ≢ q
Stand Greater p q = q <ℚ p
Stand GreaterOrEqual p q = q ≤ℚ p
Stand Lesser p q = p <ℚ q
Stand LesserOrEqual p q = p ≤ℚ q

-- both sides have values, which stand so
abbrev pub SidesStand : Option RelationName → Option ℚ → Option ℚ → Type 0
SidesStand (Some r) (Some p) (Some q) = Stand r p q
SidesStand r p q = ⊥

-- a relation is true where a gives the variables their values; other terms aren't
abbrev pub IsTrueAt : (ℕ → ℚ) → Tree → Type 0
IsTrueAt a (Compound r (more t (one u))) = SidesStand (relation_name r) (value_of a t) (value_of a u)
IsTrueAt a t = ⊥

-- by whether the name is that of a conjunction or of a disjunction: both sides, either, or the relation
abbrev pub Joined : Bool → Bool → Type 0 → Type 0 → Type 0 → Type 0
Joined true d left right relation = left × right
Joined false true left right relation = left ⊎ right
Joined false false left right relation = relation

-- a constraint with conjunctions and disjunctions is met there
abbrev pub IsMetAt : (ℕ → ℚ) → Tree → Type 0
IsMetAt a (Compound f (more t (one u))) =
    Joined (is_conjunction f) (is_disjunction f) (IsMetAt a t) (IsMetAt a u)
    (SidesStand (relation_name f) (value_of a t) (value_of a u))
IsMetAt a t = ⊥

-- ---- fixed values

-- a gives each variable that has a fixed value this value
abbrev pub Agrees : (ℕ → Option ℚ) → (ℕ → ℚ) → Type 0
Agrees fixed a = (x : ℕ) (q : ℚ) → fixed x ≡ Some q → a x ≡ q
