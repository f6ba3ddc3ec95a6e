use Rattle.std.proofs.Common.{◌≡◌, ◌∷◌, subst}
use Rattle.std.specs.Prelude.{OnOk}
use Rattle.cq_clauses.specs.declared.walk.Walk.{Walk}
use Rattle.cq_branch.specs.Choices.{LeavesAlso}
use Rattle.cq_branch.specs.Worlds.{saved_values, value}
use Rattle.cq_branch.specs.declared.alternatives.Alternatives.TheVariants.{Clauses}
use Rattle.cq_calls.proofs.calling.wait.Goals as goal

pub returns-clause-waits : goal.returns-clause-waits
returns-clause-waits c =
    subst (λ (w : Walk). OnOk c.push.result (LeavesAlso (saved_values c.args.world.now.first c.args.world.now.second.saved) c.args.choices.now
    (value c.args.world.now.first c.args.world.now.second.now) (Clauses c.args.goal w c.args.rest)
    (saved_values c.push.new.world.first c.push.new.world.second.saved) c.push.new.self)) c.new.ensures c.push.ensures.open

pub returns-clause-contents : goal.returns-clause-contents
returns-clause-contents c =
    subst (λ (w : Walk). OnOk c.push.result (c.push.new.self ≡ Clauses c.args.goal w c.args.rest ∷ c.args.choices.now)) c.new.ensures c.push.ensures.contents
