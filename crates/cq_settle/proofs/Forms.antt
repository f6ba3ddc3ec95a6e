-- The forms of a variable less an older one, and less a number.
use Rattle.std.proofs.Common.{◌≡◌, ℕ, ◌<◌, suc, List, [], ◌∷◌, Bool, true, false, cond, nat_eq, pos, refl, sym, ap, ap₂, ◌∙◌, arith}
use Rattle.std.specs.Prelude.{nat_lt}
use Rattle.spec_numbers.specs.Rational.{ℚ, 0ℚ, 1ℚ, ◌+ℚ◌, neg_ℚ}
use Rattle.spec_numbers.specs.Sums.{Monomial}
use Rattle.spec_numbers.proofs.Ring.{var, int, ◌⊕◌, minus}
use Rattle.spec_numbers.proofs.RationalLemmas.{ring}
use Rattle.spec_numbers.proofs.Sign.{one_not_zero}
use Rattle.spec_linear.specs.declared.Relation.TheVariants.{Eq}
use Rattle.spec_linear.specs.Form.{Linear, variable_form, constant_form, difference_form, is_zero, in_front, with_product}
use Rattle.spec_linear.specs.Solution.{Constraint, equal_zero}
use Rattle.spec_linear.proofs.Values.{is_zero-true}
use Rattle.spec_numbers.proofs.Tests.{nat_eq-apart}
use Rattle.cq_settle.specs.Steps.{zero_difference}

abbrev pub one_of : ℕ → ℚ → Monomial
one_of v q = record { variable = v; factor = q }

abbrev pub pair_form : ℕ → ℕ → Linear
pair_form v w = record { products = one_of w (neg_ℚ 1ℚ) ∷ one_of v 1ℚ ∷ []; constant = 0ℚ }

abbrev pub single_form : ℕ → ℚ → Linear
single_form v q = record { products = one_of v 1ℚ ∷ []; constant = neg_ℚ q }

not_below : (v w : ℕ) → w < v → nat_lt v w ≡ false
not_below v w l = search (arith, Rattle.std.proofs.Common.tests)

behind : (v w : ℕ) (a b : Bool) (xs ys : List Monomial) (zs : List Monomial) → a ≡ false → b ≡ false → cond a xs (cond b ys zs) ≡ zs
behind v w true b xs ys zs e f = cc
behind v w false true xs ys zs e f = cc
behind v w false false xs ys zs e f = refl

front_by : (v : ℕ) (b : Bool) → is_zero 1ℚ ≡ b → cond b [] (one_of v 1ℚ ∷ []) ≡ one_of v 1ℚ ∷ []
front_by v true e = absurd (one_not_zero (is_zero-true 1ℚ e))
front_by v false e = refl

in_front_one : (v : ℕ) → in_front (one_of v 1ℚ) [] ≡ one_of v 1ℚ ∷ []
in_front_one v = front_by v (is_zero 1ℚ) refl

zero_less_zero : 0ℚ +ℚ neg_ℚ 0ℚ ≡ 0ℚ
zero_less_zero = ring [] (int (pos 0) ⊕ minus (int (pos 0))) (int (pos 0)) refl

zero_less : (q : ℚ) → 0ℚ +ℚ neg_ℚ q ≡ neg_ℚ q
zero_less q = ring (q ∷ []) (int (pos 0) ⊕ minus (var 0)) (minus (var 0)) refl

two_products : (v w : ℕ) → w < v → with_product (one_of v 1ℚ) (one_of w (neg_ℚ 1ℚ) ∷ []) ≡ one_of w (neg_ℚ 1ℚ) ∷ one_of v 1ℚ ∷ []
two_products v w l =
    behind v w (nat_lt v w) (nat_eq v w) _ _ _ (not_below v w l) (nat_eq-apart v w (λ e. omega (arith, e, l)))
    ∙ ap (λ (xs : List Monomial). one_of w (neg_ℚ 1ℚ) ∷ xs) (in_front_one v)

pub of_two : (v w : ℕ) → w < v → difference_form (variable_form v) (variable_form w) ≡ pair_form v w
of_two v w l = ap₂ (λ (ps : List Monomial) (q : ℚ). record { products = ps; constant = q }) (two_products v w l) zero_less_zero

pub of_one : (v : ℕ) (q : ℚ) → difference_form (variable_form v) (constant_form q) ≡ single_form v q
of_one v q = ap₂ (λ (ps : List Monomial) (r : ℚ). record { products = ps; constant = r }) (in_front_one v) (zero_less q)

pub neg_one_not_zero : neg_ℚ 1ℚ ≡ 0ℚ → ⊥
neg_one_not_zero e = one_not_zero (ring [] (int (pos 1)) (minus (minus (int (pos 1)))) refl ∙ ap neg_ℚ e ∙ ring [] (minus (int (pos 0))) (int (pos 0)) refl)

-- ---- such a form is zero

pub two_differ : (v w : ℕ) (n o z : ℚ) (f : Linear) → w < v → n ≡ neg_ℚ 1ℚ → o ≡ 1ℚ → z ≡ 0ℚ → f ≡ record { products = one_of w n ∷ one_of v o ∷ []; constant = z }
    → record { relation = Eq; form = f } ≡ zero_difference v (variable_form w)
two_differ v w n o z f l a b d e =
    ap equal_zero
    (e ∙ ap₂ (λ (x y : ℚ). record { products = one_of w x ∷ one_of v y ∷ []; constant = z }) a b
    ∙ ap (λ (x : ℚ). record { products = one_of w (neg_ℚ 1ℚ) ∷ one_of v 1ℚ ∷ []; constant = x }) d ∙ sym (of_two v w l))

pub one_differs : (v : ℕ) (q o k : ℚ) (f : Linear) → k ≡ neg_ℚ q → o ≡ 1ℚ → f ≡ record { products = one_of v o ∷ []; constant = k }
    → record { relation = Eq; form = f } ≡ zero_difference v (constant_form q)
one_differs v q o k f a b e =
    ap equal_zero (e ∙ ap₂ (λ (x y : ℚ). record { products = one_of v x ∷ []; constant = y }) b a ∙ sym (of_one v q))
