use Rattle.std.proofs.Common.{◌≡◌, ◌∙◌, ap, subst, arith, pos, IfOk}
use Rattle.std.proofs.lemmas.Int.{to_z_pos}
use mir.Syntax.{w128}
use Rattle.spec_numbers.specs.Rational.{ℚ, ratio}
use Rattle.spec_terms.specs.Term.{Number}
use Rattle.cq_frac.specs.Fits.{Exceeds}
use Rattle.spec_terms.proofs.Wholes.{is_taken, is_whole_number}
use Rattle.cq_built.proofs.Trees.{tree_last}
use Rattle.cq_built.proofs.building.whole.Goals as goal

pub unwrap-requires : goal.unwrap-requires
unwrap-requires c =
    let same = to_z_pos w128 c.args.number (omega (arith, c.ranges.number.fits)) in
    is_taken (pos c.args.number) c.new.result (omega (arith, c.ranges.number.fits)) c.new.ensures.zero.0 (λ e. subst (λ z. Exceeds (ratio z 1)) same (c.new.ensures.overflow.0 e).1)

pub returns-clause-built : goal.returns-clause-built
returns-clause-built c =
    let same = to_z_pos w128 c.args.number (omega (arith, c.ranges.number.fits)) in
    tree_last c.args.atoms.now c.args.heap.now.now.terms c.number.new.self.now.terms (Number c.unwrap.result) c.in_ok-id.id c.in_ok-id.ensures.terms c.in_ok-id.ensures.id
    ∙ ap (λ (q : ℚ). Number q)
    (is_whole_number (pos c.args.number) c.new.result c.unwrap.result (subst (λ z. IfOk c.new.result (λ (q : ℚ). q ≡ ratio z 1)) same c.new.ensures.value) c.unwrap.ensures)
