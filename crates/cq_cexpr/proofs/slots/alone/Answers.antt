use Rattle.std.proofs.Common.{◌∙◌, [], ◌∷◌, pos, refl, ap, sym}
use Rattle.spec_numbers.specs.Rational.{0ℚ}
use Rattle.spec_numbers.proofs.Ring.{var, int, ◌⊕◌, minus}
use Rattle.spec_numbers.proofs.RationalLemmas.{ring}
use Rattle.cq_frac.specs.Rows.{joined}
use Rattle.cq_cexpr.proofs.slots.alone.Goals as goal

pub returns-in-Plus : goal.returns-in-Plus
returns-in-Plus c = ring (c.args.number ∷ []) (var 0) (int (pos 0) ⊕ var 0) refl ∙ ap (λ h. joined h 0ℚ c.args.number) (sym c.in-Plus.is)

pub returns-in-Less : goal.returns-in-Less
returns-in-Less c =
    c.neg.ensures ∙ ring (c.args.number ∷ []) (minus (var 0)) (int (pos 0) ⊕ minus (var 0)) refl ∙ ap (λ h. joined h 0ℚ c.args.number) (sym c.in-Less.is)
