use Rattle.std.proofs.Common.{◌<◌, nat_abs, to_z, of_z, sym, subst, ap, ◌∙◌}
use Rattle.std.proofs.lemmas.Int.{to_z-of_z}
use mir.Syntax.{w128}
use Rattle.spec_numbers.specs.Rational.{int_ℚ}
use Rattle.cq_frac.specs.Fits.{limit}
use Rattle.spec_terms.proofs.Wholes.{is_taken, is_whole_number}
use Rattle.cq_goals.proofs.arith.operations.whole.Goals as goal

pub unwrap-requires : goal.unwrap-requires
unwrap-requires c =
    let same = to_z-of_z w128 c.args.value c.ranges.value in
    is_taken (to_z w128 (of_z w128 c.args.value)) c.new.result (subst (λ z. nat_abs z < limit) (sym same) c.requires) c.new.ensures.zero.0 (λ e. (c.new.ensures.overflow.0 e).1)

pub returns : goal.returns
returns c =
    is_whole_number (to_z w128 (of_z w128 c.args.value)) c.new.result c.unwrap.result c.new.ensures.value c.unwrap.ensures
    ∙ ap int_ℚ (to_z-of_z w128 c.args.value c.ranges.value)
