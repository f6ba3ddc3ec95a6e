use Rattle.std.proofs.Common.{◌≡◌, Err, pos, to_z, ap, sym, subst, ◌∙◌}
use Rattle.std.specs.Int.{w128}
use Rattle.std.proofs.Math.Facts.{to_z_pos}
use Rattle.spec_numbers.specs.Rational.{quotient}
use Rattle.cq_frac.specs.Fits.{Exceeds}
use Rattle.cq_read.proofs.Readings.{makes_fraction}
use Rattle.cq_read.proofs.lex.numerals.fraction.Goals as goal

pub unreachable-requires : goal.unreachable-requires
unreachable-requires c =
    let over : to_z w128 c.args.over ≡ pos c.args.over = to_z_pos w128 c.requires.over_fits in
    let under : to_z w128 c.args.under ≡ pos c.args.under = to_z_pos w128 c.requires.under_fits in
    makes_fraction c.args.over c.args.under c.in-Err.field-0 c.requires.over_fits c.requires.under_fits c.requires.not_zero
    (λ e. sym under ∙ c.in-Err.ensures.zero.0 (ap (λ f. Err f) e))
    (λ e. subst (λ n. Exceeds (quotient n (pos c.args.under))) over (subst (λ d. Exceeds (quotient (to_z w128 c.args.over) d)) under (c.in-Err.ensures.overflow.0 (ap (λ f. Err f) e)).1))
