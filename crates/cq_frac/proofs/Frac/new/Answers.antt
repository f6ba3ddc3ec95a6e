use Rattle.std.proofs.Common.{◌≡◌, ◌∙◌, ℕ, ◌/◌, to_z, of_z, ap, refl, arith}
use Rattle.std.proofs.lemmas.Int.{to_z-of_z}
use mir.Syntax.{w128}
use Rattle.cq_frac.proofs.Parts.{Read, Cut, g_pos, cut-coprime, cut-pos, cut-value, cut-exceeds, cut-fits, fits_not_exceeds, past}
use Rattle.cq_frac.proofs.Frac.new.Goals as goal
use Rattle.cq_frac.proofs.Frac.new.Goals.{After-gcd-g}

read : (c : After-gcd-g) → Read c.args.n c.args.d (to_z w128 (of_z w128 c.args.n)) (to_z w128 (of_z w128 c.args.d)) c.unsigned_abs-top.result c.unsigned_abs-bottom.result c.gcd-g.result
read c = record {
  top_read = to_z-of_z w128 c.args.n c.ranges.n;
  bottom_read = to_z-of_z w128 c.args.d c.ranges.d;
  top_is = c.unsigned_abs-top.ensures.value;
  bottom_is = c.unsigned_abs-bottom.ensures.value;
  gcd_is = c.gcd-g.ensures;
  nonzero = λ e. c.if-d-eq0.false (ap (of_z w128) e);
}

cut : (c : After-gcd-g) {x y : ℕ} → x ≡ c.unsigned_abs-top.result / c.gcd-g.result → y ≡ c.unsigned_abs-bottom.result / c.gcd-g.result →
    Cut c.args.n c.args.d (to_z w128 (of_z w128 c.args.n)) (to_z w128 (of_z w128 c.args.d)) c.unsigned_abs-top.result c.unsigned_abs-bottom.result c.gcd-g.result x y
cut c e f = record { read = read c; x_is = e; y_is = f }

pub part-top-requires : goal.part-top-requires
part-top-requires c = g_pos (read c)

pub part-bottom-requires : goal.part-bottom-requires
part-bottom-requires c = g_pos (read (goal.at.part-bottom-requires c).After-gcd-g)

pub returns-then-top-gt-LIMIT-clause-overflow : goal.returns-then-top-gt-LIMIT-clause-overflow
returns-then-top-gt-LIMIT-clause-overflow c =
    let r = (goal.at.returns-then-top-gt-LIMIT-clause-overflow c).After-gcd-g in
    ((λ _. ((read r).nonzero, cut-exceeds (cut r c.part-top.ensures c.part-bottom.ensures) (past c.then-top-gt-LIMIT.either))), (λ _. refl))

pub made-requires-clause-coprime : goal.made-requires-clause-coprime
made-requires-clause-coprime c = cut-coprime (cut (goal.at.made-requires-clause-coprime c).After-gcd-g c.part-top.ensures c.part-bottom.ensures)

pub made-requires-clause-b_pos : goal.made-requires-clause-b_pos
made-requires-clause-b_pos c = cut-pos (cut (goal.at.made-requires-clause-b_pos c).After-gcd-g c.part-top.ensures c.part-bottom.ensures)

pub returns-clause-value : goal.returns-clause-value
returns-clause-value c = c.made.ensures ∙ cut-value (cut (goal.at.returns-clause-value c).After-gcd-g c.part-top.ensures c.part-bottom.ensures)

pub returns-clause-accepted : goal.returns-clause-accepted
returns-clause-accepted c =
    let r = (goal.at.returns-clause-accepted c).After-gcd-g in
    ((read r).nonzero, cut-fits (cut r c.part-top.ensures c.part-bottom.ensures) (omega arith) (omega arith))

pub returns-clause-overflow : goal.returns-clause-overflow
returns-clause-overflow c =
    let r = (goal.at.returns-clause-overflow c).After-gcd-g in
    ((λ e. cc), (λ (z, x). absurd (fits_not_exceeds _ (cut-fits (cut r c.part-top.ensures c.part-bottom.ensures) (omega arith) (omega arith)) x)))
