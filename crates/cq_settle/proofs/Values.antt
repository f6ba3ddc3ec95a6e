-- Fixed values, and a term under two maps of them.
use Rattle.std.proofs.Common.{◌≡◌, ℕ, Bool, true, false, Option, None, Some, refl, sym, ap, ◌∙◌}
use Rattle.std.specs.Prelude.{if◌then◌else◌}
use Rattle.spec_numbers.specs.Rational.{ℚ}
use Rattle.spec_terms.specs.Term.{Occurs}
use Rattle.spec_terms.proofs.Substitution.{apply_agree}
use Rattle.spec_syntax.specs.Trees.{Tree}
use Rattle.spec_branch.specs.Relations.{lin}
use Rattle.spec_branch.specs.Alike.{no_values}
use Rattle.spec_branch.specs.Settling.{value_or_variable}
use Rattle.cq_settle.specs.Underway.{valued}
use Rattle.cq_settle.proofs.Bound.{lin_same}

-- two options with the same values
pub same_value : (a b : Option ℚ) → ((q : ℚ) → a ≡ Some q → b ≡ Some q) → ((q : ℚ) → b ≡ Some q → a ≡ Some q) → a ≡ b
same_value None None f g = refl
same_value None (Some q) f g = g q refl
same_value (Some q) b f g = sym (f q refl)

-- a term depends on the values of its variables alone
pub lin_agree : (f g : ℕ → Option ℚ) (t : Tree) → ((v : ℕ) → Occurs v t → f v ≡ g v) → lin f t ≡ lin g t
lin_agree f g t h =
    sym (lin_same f t)
    ∙ ap (λ (x : Tree). lin no_values x) (apply_agree (valued f) (valued g) t (λ v o. ap (λ (x : Option ℚ). value_or_variable x v) (h v o)))
    ∙ lin_same g t

-- the values of numeric variables, and those that are numeric among them
pub one_image : (b : Bool) (x y : Option ℚ) (w : ℕ) → (b ≡ true → x ≡ y) → ((q : ℚ) → x ≡ Some q → b ≡ true)
    → value_or_variable x w ≡ (if b then value_or_variable y w else value_or_variable None w)
one_image true x y w f g = ap (λ (o : Option ℚ). value_or_variable o w) (f refl)
one_image false None y w f g = refl
one_image false (Some q) y w f g = let e : false ≡ true = g q refl in cc
