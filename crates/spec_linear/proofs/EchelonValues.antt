-- The values that a list in solved form fixes.
use Rattle.std.proofs.Common.{◌≡◌, ℕ, List, [], ◌∷◌, Option, Some, None, refl, ap, subst}
use Rattle.spec_numbers.specs.Rational.{ℚ}
use Rattle.spec_numbers.specs.Sums.{Monomial}
use Rattle.spec_linear.specs.Form.{Linear}
use Rattle.spec_linear.specs.Solution.{Constraint, Fixed, Fixes}
use Rattle.spec_linear.proofs.Lists.{fixed_once}
use Rattle.spec_linear.specs.SolvedForm.{IsSolvedForm, constant_of, number_in}
use Rattle.spec_linear.proofs.Solving.{fixed, free-not_fixed, dependent-not_fixed}

module _ (order : List ℕ) (l : List Constraint) (solved : ℕ → Option Linear) (s : IsSolvedForm order l solved) where
  sound : (x : ℕ) (q : ℚ) (o : Option Linear) → solved x ≡ o → number_in o ≡ Some q → Fixed l x q
  sound x q None e n = cc
  sound x q (Some f) e n = by_products f.products f.constant refl e n
    where
      by_products : (ms : List Monomial) (c : ℚ) → f.products ≡ ms → solved x ≡ Some f → constant_of ms f.constant ≡ Some q → Fixed l x q
      by_products [] c none e n = let same : f.constant ≡ q = cc in subst (Fixed l x) same (fixed order l solved s x f e none)
      by_products (m ∷ ms) c some e n = cc

  complete : (x : ℕ) (q : ℚ) (o : Option Linear) → solved x ≡ o → Fixed l x q → number_in o ≡ Some q
  complete x q None e is_fixed = absurd (free-not_fixed order l solved s x e q is_fixed)
  complete x q (Some f) e is_fixed = by_products f.products refl
    where
      by_products : (ms : List Monomial) → f.products ≡ ms → constant_of ms f.constant ≡ Some q
      by_products [] none = ap Some (fixed_once l x f.constant q (fixed order l solved s x f e none) is_fixed)
      by_products (m ∷ ms) some = absurd (dependent-not_fixed order l solved s x f m ms e some q is_fixed)

  pub solved_form_fixes : Fixes l (λ x. number_in (solved x))
  solved_form_fixes = record {
    sound = λ x q n. sound x q (solved x) refl n;
    complete = λ x q is_fixed. complete x q (solved x) refl is_fixed;
  }
