-- The form that a constant and a list of entries are, and how forms are stored in proofs.
use Rattle.std.specs.Prelude.{◌≡◌, ℕ, List, map}
use Rattle.std.proofs.Common.{zero, suc, refl, ap}
use Rattle.std.specs.Coded.{Coded, code_by, coded×, coded_ℕ, coded_list}
use Rattle.spec_numbers.specs.Rational.{ℚ}
use Rattle.spec_numbers.specs.Sums.{Monomial}
use Rattle.spec_linear.specs.declared.Relation.{Relation}
use Rattle.spec_linear.specs.declared.Relation.TheVariants.{Eq, Gt, Ge, Ne}
use Rattle.spec_linear.specs.Form.{Linear}
use Rattle.spec_linear.specs.Solution.{Constraint}
use Rattle.cq_frac.specs.Code.{rational_code}
use Rattle.cq_frac.specs.declared.VarId.{VarId}
use Rattle.cq_frac.specs.declared.row.Entry.{Entry}

-- the entry of a variable with its coefficient
abbrev pub entry_of : VarId × ℚ → Entry
entry_of p = record { quantity = p.0.0; factor = p.1 }

-- the product that an entry is, where its quantity is a variable
abbrev pub product_of : Entry → Monomial
product_of m = record { variable = m.quantity; factor = m.factor }

abbrev pub products_of : List Entry → List Monomial
products_of s = map product_of s

abbrev pub form_of : ℚ → List Entry → Linear
form_of constant s = record { products = products_of s; constant = constant }

-- ---- codes

abbrev pub product_code : Coded Monomial
product_code = code_by (ℕ × ℚ) (coded× coded_ℕ rational_code) (λ p. (p.variable, p.factor)) (λ p. record { variable = p.0; factor = p.1 }) (λ _. refl)

abbrev pub linear_code : Coded Linear
linear_code = code_by (List Monomial × ℚ) (coded× (coded_list product_code) rational_code) (λ f. (f.products, f.constant)) (λ p. record { products = p.0; constant = p.1 }) (λ _. refl)

-- a relation as a number
abbrev pub number_of : Relation → ℕ
number_of Eq = 0
number_of Gt = 1
number_of Ge = 2
number_of Ne = 3

abbrev pub relation_of : ℕ → Relation
relation_of zero = Eq
relation_of (suc zero) = Gt
relation_of (suc (suc zero)) = Ge
relation_of (suc (suc (suc n))) = Ne

abbrev pub relation_back : (r : Relation) → relation_of (number_of r) ≡ r
relation_back Eq = refl
relation_back Gt = refl
relation_back Ge = refl
relation_back Ne = refl

abbrev pub constraint_code : Coded Constraint
constraint_code =
    code_by (ℕ × Linear) (coded× coded_ℕ linear_code) (λ c. (number_of c.relation, c.form)) (λ p. record { relation = relation_of p.0; form = p.1 })
    (λ c. ap (λ r. record { relation = r; form = c.form }) (relation_back c.relation))

abbrev pub cert_code : Coded (List (ℕ × ℚ))
cert_code = coded_list (coded× coded_ℕ rational_code)
