use Rattle.std.proofs.Common.{◌≡◌, Err, pos, to_z, ap, subst}
use Rattle.std.specs.Int.{w128}
use Rattle.std.proofs.Math.Facts.{to_z_pos}
use Rattle.spec_numbers.specs.Rational.{quotient}
use Rattle.cq_frac.specs.Fits.{Exceeds}
use Rattle.cq_cert.proofs.Fractions.{never_refused}
use Rattle.cq_cert.proofs.words.integer.Goals as goal

pub unreachable-requires : goal.unreachable-requires
unreachable-requires c =
    let same : to_z w128 c.args.n ≡ pos c.args.n = to_z_pos w128 c.requires in
    never_refused c.args.n c.in-Err.field-0 c.requires (λ e. c.in-Err.ensures.zero.0 (ap (λ f. Err f) e))
    (λ e. subst (λ n. Exceeds (quotient n (pos 1))) same (c.in-Err.ensures.overflow.0 (ap (λ f. Err f) e)).1)
