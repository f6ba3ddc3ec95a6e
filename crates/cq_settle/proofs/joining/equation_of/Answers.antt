use Rattle.std.proofs.Common.{[], ◌∷◌}
use Rattle.cq_settle.proofs.Joined.{told_ahead}
use Rattle.cq_settle.proofs.joining.equation_of.Goals as goal

pub returns-in_ok-push-in-Var-clause-still : goal.returns-in_ok-push-in-Var-clause-still
returns-in_ok-push-in-Var-clause-still c = told_ahead c.args.fixed.now.items (c.in-Var.image ∷ []) c.push.new.self.items c.in_ok-push-in-Var.ensures.items
