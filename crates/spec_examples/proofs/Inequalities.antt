-- Inequalities that can all be strict at once: they fix no value, and no equation follows from them.
use Rattle.std.proofs.Common.{◌≡◌, ℕ, List, [], None, ◌∙◌}
use Rattle.spec_numbers.specs.Rational.{ℚ}
use Rattle.spec_linear.specs.Form.{Linear}
use Rattle.spec_linear.specs.Solution.{Constraint, Satisfies, Solvable, Fixes, Entails, number, equal_zero}
use Rattle.spec_linear.specs.Echelon.{IsEchelon}
use Rattle.spec_linear.proofs.Points.{holds_same}
use Rattle.spec_linear.proofs.Denominators.{solvable_same}
use Rattle.spec_linear.proofs.NoVariable.{number_everywhere}
use Rattle.spec_projection.specs.Interior.{strictly, equations_of}
use Rattle.spec_projection.proofs.Interior.{strictly_weaker}
use Rattle.spec_projection.proofs.Inside.{several_values, no_equation_entailed}

module _ (l : List Constraint) (none : equations_of l ≡ []) (a : ℕ → ℚ) (inside : Satisfies a (strictly l)) where
  strictly_solvable : Solvable (strictly l)
  strictly_solvable = (solvable_same (strictly l)).1 (a, inside)

  pub solvable_inside : Solvable l
  solvable_inside = (solvable_same l).1 (a, strictly_weaker a l inside)

  pub no_value_fixed : Fixes l (λ x. None)
  no_value_fixed = record { sound = λ x q e. cc; complete = λ x q f. absurd (several_values l none strictly_solvable x q f) }

  follows : (f : Linear) → Entails l (equal_zero f) → Entails [] (equal_zero f)
  follows f e p h =
      let n = no_equation_entailed l f none strictly_solvable e in
      (holds_same p (equal_zero f)).1 (number_everywhere f n.0 (number p) ∙ n.1)

  pub no_equation_follows : (order : List ℕ) → IsEchelon order l []
  no_equation_follows order = record { first = tt; sorted = tt; reduced = tt; entailed = tt; complete = λ f over e. follows f e }
