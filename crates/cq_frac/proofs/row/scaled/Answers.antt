use Rattle.std.proofs.Common.{◌≡◌, pos, [], ◌∷◌, refl, sym, subst}
use Rattle.spec_numbers.specs.Rational.{◌*ℚ◌}
use Rattle.spec_numbers.proofs.Ring.{var, int, ◌⊗◌}
use Rattle.spec_numbers.proofs.RationalLemmas.{ring}
use Rattle.cq_frac.specs.Rows.{multiplier, AcceptsScaled}
use Rattle.cq_frac.proofs.row.scaled.Goals as goal

pub returns-in-None : goal.returns-in-None
returns-in-None c =
    subst (λ s. (c.args.number ≡ multiplier s *ℚ c.args.number) × AcceptsScaled s c.args.number) (sym c.in-None.is)
    (ring (c.args.number ∷ []) (var 0) (int (pos 1) ⊗ var 0) refl, tt)
