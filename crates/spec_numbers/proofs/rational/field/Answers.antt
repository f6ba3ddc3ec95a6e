use Rattle.std.proofs.Common.{[], ◌∷◌, pos, refl}
use Rattle.spec_numbers.proofs.rational.field.Goals as goal
use Rattle.spec_numbers.proofs.Ring.{var, int, ◌⊕◌, ◌⊗◌, minus}
use Rattle.spec_numbers.proofs.RationalLemmas.{ring}
use Rattle.spec_numbers.proofs.Sign.{one_not_zero}

pub returns-clause-sum_commutes : goal.returns-clause-sum_commutes
returns-clause-sum_commutes c p q = ring (p ∷ q ∷ []) (var 0 ⊕ var 1) (var 1 ⊕ var 0) refl

pub returns-clause-sum_associates : goal.returns-clause-sum_associates
returns-clause-sum_associates c p q r = ring (p ∷ q ∷ r ∷ []) ((var 0 ⊕ var 1) ⊕ var 2) (var 0 ⊕ (var 1 ⊕ var 2)) refl

pub returns-clause-sum_with_zero : goal.returns-clause-sum_with_zero
returns-clause-sum_with_zero c p = ring (p ∷ []) (int (pos 0) ⊕ var 0) (var 0) refl

pub returns-clause-sum_with_negative : goal.returns-clause-sum_with_negative
returns-clause-sum_with_negative c p = ring (p ∷ []) (var 0 ⊕ minus (var 0)) (int (pos 0)) refl

pub returns-clause-product_commutes : goal.returns-clause-product_commutes
returns-clause-product_commutes c p q = ring (p ∷ q ∷ []) (var 0 ⊗ var 1) (var 1 ⊗ var 0) refl

pub returns-clause-product_associates : goal.returns-clause-product_associates
returns-clause-product_associates c p q r = ring (p ∷ q ∷ r ∷ []) ((var 0 ⊗ var 1) ⊗ var 2) (var 0 ⊗ (var 1 ⊗ var 2)) refl

pub returns-clause-product_with_one : goal.returns-clause-product_with_one
returns-clause-product_with_one c p = ring (p ∷ []) (int (pos 1) ⊗ var 0) (var 0) refl

pub returns-clause-product_of_sum : goal.returns-clause-product_of_sum
returns-clause-product_of_sum c p q r = ring (p ∷ q ∷ r ∷ []) (var 0 ⊗ (var 1 ⊕ var 2)) (var 0 ⊗ var 1 ⊕ var 0 ⊗ var 2) refl

pub returns-clause-one_is_not_zero : goal.returns-clause-one_is_not_zero
returns-clause-one_is_not_zero c = one_not_zero
