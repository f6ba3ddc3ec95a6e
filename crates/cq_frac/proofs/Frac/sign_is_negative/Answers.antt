use Rattle.std.proofs.Common.{◌∙◌, ap, pos, int_lt}
use Rattle.cq_frac.proofs.View.{num_is, back}
use Rattle.cq_frac.proofs.Frac.sign_is_negative.Goals as goal

pub returns : goal.returns
returns c = ap (λ x. int_lt x (pos 0)) (back _ c.self.invariant.num_fits ∙ num_is _ _ _ c.self.invariant c.self.view_is)
