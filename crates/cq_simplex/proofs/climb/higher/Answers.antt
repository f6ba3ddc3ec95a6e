use Rattle.std.proofs.Common.{refl, sym, subst, ◌∙◌, inl, inr}
use Rattle.spec_numbers.proofs.Order.{is_less_back}
use Rattle.cq_simplex.proofs.Ratios.{not_less_ratio}
use Rattle.cq_simplex.specs.Climbs.{IsHigher}
use Rattle.cq_simplex.proofs.climb.higher.Goals as goal

pub returns-in-Less : goal.returns-in-Less
returns-in-Less c =
    subst (λ b. IsHigher b c.args.next c.args.next) (sym c.in-Some.is)
    (inl (is_less_back c.in-Some.rise.gain c.args.next.gain (sym c.cmp.ensures ∙ c.in-Less.is), refl))

pub returns-in_default : goal.returns-in_default
returns-in_default c =
    subst (λ b. IsHigher b c.args.next c.in-Some.rise) (sym c.in-Some.is)
    (inr (not_less_ratio c.in-Some.rise.gain c.args.next.gain (λ e. c.in_default.not-Less (c.cmp.ensures ∙ e)), refl))
