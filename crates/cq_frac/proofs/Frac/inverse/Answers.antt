use Rattle.std.proofs.Common.{◌∙◌, sym}
use Rattle.cq_frac.proofs.Zero.{flipped, flipped_negative}
use Rattle.cq_frac.proofs.Frac.inverse.Goals as goal

pub invariant_of-t-3 : goal.invariant_of-t-3
invariant_of-t-3 c = (flipped_negative _ _ _ c.self.invariant c.self.view_is (sym c.sign_is_negative.ensures ∙ c.if-sign_is_negative.true)).lowest

pub invariant_of-result : goal.invariant_of-result
invariant_of-result c = (flipped _ _ _ c.self.invariant c.self.view_is c.requires (sym c.sign_is_negative.ensures ∙ c.if-sign_is_negative.false)).lowest

pub returns-then-sign_is_negative : goal.returns-then-sign_is_negative
returns-then-sign_is_negative c = (flipped_negative _ _ _ c.self.invariant c.self.view_is (sym c.sign_is_negative.ensures ∙ c.if-sign_is_negative.true)).value

pub returns-else-sign_is_negative : goal.returns-else-sign_is_negative
returns-else-sign_is_negative c = (flipped _ _ _ c.self.invariant c.self.view_is c.requires (sym c.sign_is_negative.ensures ∙ c.if-sign_is_negative.false)).value
