-- The pairs that operations on forms refuse, as overflows of the operations of a term.
use Rattle.std.proofs.Common.{◌≡◌, ℕ, zero, suc, ◌<◌, ◌≤◌, Result, Ok, Err, List, [], ◌∷◌, ◌++◌, Some, inl, inr, refl, ap, sym, subst, arith}
use Rattle.std.specs.Prelude.{IsErrAnd}
use Rattle.spec_numbers.specs.Rational.{ℚ}
use Rattle.spec_numbers.specs.Sums.{factor_of}
use Rattle.spec_numbers.proofs.RationalLemmas.{mul_comm}
use Rattle.spec_linear.specs.Form.{Linear, IsForm, constant_form}
use Rattle.spec_linear.specs.Solution.{Has}
use Rattle.spec_linear.proofs.Denominators.{has_left, has_right}
use Rattle.spec_simplex.specs.Overflow.{Operands, on, Moment, IsSumOrDifference, IsNumberOf, of_variable as number_of_variable, of_constant, Makes, coefficients, constants, operands}
use Rattle.spec_branch.specs.Expressions.{number_of, power}
use Rattle.spec_branch.proofs.Kept.{is_constant_form}
use Rattle.spec_transcript.specs.Operands.{power_products}
use Rattle.cq_frac.specs.Fits.{Exceeds}
use Rattle.cq_frac.specs.Refused.{IsRefused, Refuses, Tells}
use Rattle.cq_frac.specs.declared.Operation.{Operation}
use Rattle.cq_frac.specs.declared.Operation.TheVariants.{Difference, Product as Times, Quotient}
use Rattle.cq_frac.specs.declared.Pair.{Pair}
use Rattle.cq_frac.specs.declared.row.Entry.{Entry}
use Rattle.cq_frac.specs.declared.row.Joining.{Joining}
use Rattle.cq_frac.specs.declared.row.Joining.TheVariants.{Plus, Less}
use Rattle.cq_frac.specs.Rows as row
use Rattle.cq_form.specs.Entries.{product_of, products_of}
use Rattle.cq_form.specs.Steps.{HasCoefficient, of_variable as common, of_variable as multiple, JoinedPair, coefficients as common_pair, constants as constants_pair, ScalePair, coefficient as multiple_pair, constant as constant_pair}
use Rattle.cq_form.proofs.Forms.{coefficient_is}
use Rattle.std.proofs.lemmas.Bool.{cases_lt}
use Rattle.cq_cexpr.specs.Overflows.{Within, ComesFrom}

-- ---- more operations

pub within_left : (s t : List Operands) → Within s (s ++ t)
within_left s t o h = has_left o s t h

pub within_right : (s t : List Operands) → Within t (s ++ t)
within_right s t o h = has_right o s t h

pub within_trans : (s t u : List Operands) → Within s t → Within t u → Within s u
within_trans s t u h k o i = k o (h o i)

pub comes_within : (s t : List Operands) (pair : Pair) → Within s t → ComesFrom s pair → ComesFrom t pair
comes_within s t pair h c = λ m k. c m (λ o i. k o (h o i))

-- ---- sums and differences

pub is_joining : (how : Joining) → IsSumOrDifference (row.operation_of how)
is_joining Plus = inl refl
is_joining Less = inr refl

joined_makes : (m : Moment) (how : Joining) (f g : Linear) → IsForm f → IsForm g → Has (on (row.operation_of how) f g) m.operations
    → (o : Operation) (p q : ℚ) → JoinedPair how f g o p q → Makes m o p q
joined_makes m how f g h k has o p q (common_pair a b (common x i j)) =
    subst (λ r. Makes m (row.operation_of how) r b) (coefficient_is 0 x a f.products h i)
    (subst (λ r. Makes m (row.operation_of how) (factor_of x f.products) r) (coefficient_is 0 x b g.products k j)
    (coefficients (on (row.operation_of how) f g) has (is_joining how) x))
joined_makes m how f g h k has o p q constants_pair = constants (on (row.operation_of how) f g) has (is_joining how)

pub joined_comes : (how : Joining) (f g : Linear) → IsForm f → IsForm g → (pair : Pair)
    → JoinedPair how f g pair.operation pair.left pair.right × IsRefused pair → ComesFrom (on (row.operation_of how) f g ∷ []) pair
joined_comes how f g h k pair w = λ m i. record {
  made = joined_makes m how f g h k (i (on (row.operation_of how) f g) (inl refl)) pair.operation pair.left pair.right w.0;
  refused = w.1;
}

-- ---- products

number_in : (f : Linear) → IsForm f → (x : ℕ) (q : ℚ) → HasCoefficient x q f.products → IsNumberOf f q
number_in f h x q i = subst (IsNumberOf f) (coefficient_is 0 x q f.products h i) (number_of_variable x)

scaled_makes : (m : Moment) (k : ℚ) (f : Linear) → IsForm f → Has (on Times (constant_form k) f) m.operations
    → (o : Operation) (p q : ℚ) → ScalePair k f o p q → Makes m o p q
scaled_makes m k f h has o p q (multiple_pair n (multiple x i)) =
    operands (on Times (constant_form k) f) has (inl refl) of_constant (number_in f h x n i)
scaled_makes m k f h has o p q constant_pair = operands (on Times (constant_form k) f) has (inl refl) of_constant of_constant

-- a form times the number that stands before it
pub scaled_comes : (g : Linear) (k : ℚ) (f : Linear) → number_of g ≡ Some k → IsForm f → (pair : Pair)
    → ScalePair k f pair.operation pair.left pair.right × IsRefused pair → ComesFrom (on Times g f ∷ []) pair
scaled_comes g k f e h pair w =
    subst (λ y. ComesFrom (on Times y f ∷ []) pair) (sym (is_constant_form g k e))
    (λ m i. record { made = scaled_makes m k f h (i (on Times (constant_form k) f) (inl refl)) pair.operation pair.left pair.right w.0; refused = w.1 })

turned_makes : (m : Moment) (k : ℚ) (f : Linear) → IsForm f → Has (on Times f (constant_form k)) m.operations
    → (o : Operation) (p q : ℚ) → ScalePair k f o p q → Makes m o q p
turned_makes m k f h has o p q (multiple_pair n (multiple x i)) =
    operands (on Times f (constant_form k)) has (inl refl) (number_in f h x n i) of_constant
turned_makes m k f h has o p q constant_pair = operands (on Times f (constant_form k)) has (inl refl) of_constant of_constant

turned_refused : (k : ℚ) (f : Linear) (o : Operation) (p q : ℚ) → ScalePair k f o p q → Refuses o p q → Refuses o q p
turned_refused k f o p q (multiple_pair n i) r = subst Exceeds (mul_comm k n) r
turned_refused k f o p q constant_pair r = subst Exceeds (mul_comm k f.constant) r

-- a form times the number that stands behind it
pub turned_comes : (k : ℚ) (f : Linear) → IsForm f → (pair turned : Pair) → turned ≡ record { operation = pair.operation; left = pair.right; right = pair.left }
    → ScalePair k f pair.operation pair.left pair.right × IsRefused pair → ComesFrom (on Times f (constant_form k) ∷ []) turned
turned_comes k f h pair turned e w =
    subst (ComesFrom (on Times f (constant_form k) ∷ [])) (sym e)
    (λ m i. record {
      made = turned_makes m k f h (i (on Times f (constant_form k)) (inl refl)) pair.operation pair.left pair.right w.0;
      refused = turned_refused k f pair.operation pair.left pair.right w.0 w.1;
    })

-- ---- quotients

-- a number of the form by the divisor
pub quotient_comes : (f : Linear) (d a : ℚ) → IsNumberOf f a → (pair : Pair) → Tells Quotient a d pair → ComesFrom (on Quotient f (constant_form d) ∷ []) pair
quotient_comes f d a n pair t =
    subst (ComesFrom (on Quotient f (constant_form d) ∷ [])) (sym t.is_pair)
    (λ m i. record { made = operands (on Quotient f (constant_form d)) (i (on Quotient f (constant_form d)) (inl refl)) (inr refl) n of_constant; refused = t.refused })

has_product : (e : Entry) (s : List Entry) → row.Has e s → Has (product_of e) (products_of s)
has_product e [] h = h
has_product e (m ∷ s) (inl h) = inl (ap product_of h)
has_product e (m ∷ s) (inr h) = inr (has_product e s h)

-- a coefficient by the divisor
pub entry_comes : (f : Linear) (d : ℚ) (s : List Entry) → products_of s ≡ f.products → IsForm f → (pair : Pair) → row.IsQuotientPair s d pair
    → ComesFrom (on Quotient f (constant_form d) ∷ []) pair
entry_comes f d s e h pair w =
    quotient_comes f d w.entry.factor (number_in f h w.entry.quantity w.entry.factor (subst (Has (product_of w.entry)) e (has_product w.entry s w.in_row))) pair w.tells

-- ---- powers

has_power : (q : ℚ) (n k : ℕ) → suc k < n → Has (on Times (constant_form (power q (suc k))) (constant_form q)) (power_products q n)
has_power q zero k h = absurd (omega (arith, h))
has_power q (suc zero) k h = absurd (omega (arith, h))
has_power q (suc (suc n)) k h =
    elim (cases_lt (suc k) (suc n)) [
      | inl less ↦ has_left (product_at k) (power_products q (suc n)) (product_at n ∷ []) (has_power q (suc n) k less)
      | inr other ↦
          let same : k ≡ n = omega (arith, h, other) in
          has_right (product_at k) (power_products q (suc n)) (product_at n ∷ []) (inl (ap product_at same))
    ]
  where
    product_at : ℕ → Operands
    product_at i = on Times (constant_form (power q (suc i))) (constant_form q)

-- a lower power with the base
pub power_comes : (q : ℚ) (n i : ℕ) → 1 ≤ i → i < n → (p : ℚ) → p ≡ power q i → (pair : Pair) → Tells Times p q pair → ComesFrom (power_products q n) pair
power_comes q n zero l h p e pair t = absurd (omega (arith, l))
power_comes q n (suc k) l h p e pair t =
    subst (ComesFrom (power_products q n)) (sym t.is_pair)
    (λ m i. record {
      made = subst (λ r. Makes m Times r q) (sym e) (operands (on Times (constant_form (power q (suc k))) (constant_form q)) (i (on Times (constant_form (power q (suc k))) (constant_form q)) (has_power q n k h)) (inl refl) of_constant of_constant);
      refused = t.refused;
    })

-- ---- exits

-- the error that a `?` passes on as it is
pub error_told : {T E : Type 0} (r : Result T E) (told f : E) → IsErrAnd r (λ g. g ≡ told) → r ≡ Err f → told ≡ f
error_told (Ok x) told f h e = absurd h
error_told (Err g) told f h e = cc

-- ---- the two sides of a relation

pub first_order : (f g : Linear) (pair : Pair) → ComesFrom (on Difference f g ∷ []) pair → ComesFrom (on Difference f g ∷ on Difference g f ∷ []) pair
first_order f g pair c = comes_within (on Difference f g ∷ []) (on Difference f g ∷ on Difference g f ∷ []) pair (within_left (on Difference f g ∷ []) (on Difference g f ∷ [])) c

pub second_order : (f g : Linear) (pair : Pair) → ComesFrom (on Difference g f ∷ []) pair → ComesFrom (on Difference f g ∷ on Difference g f ∷ []) pair
second_order f g pair c = comes_within (on Difference g f ∷ []) (on Difference f g ∷ on Difference g f ∷ []) pair (within_right (on Difference f g ∷ []) (on Difference g f ∷ [])) c
