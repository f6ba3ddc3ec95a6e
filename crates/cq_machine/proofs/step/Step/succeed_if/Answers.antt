use Rattle.std.proofs.Common.{◌≡◌, Bool, None, sym, subst}
use Rattle.spec_search.specs.Replies.{succeeds_if}
use Rattle.cq_branch.specs.Worlds.{Leads}
use Rattle.cq_machine.specs.Machines.{now, holds}
use Rattle.cq_machine.proofs.step.Step.succeed_if.Goals as goal

pub returns-else-holds-clause-row : goal.returns-else-holds-clause-row
returns-else-holds-clause-row c = λ m goal height p behind g s.
    subst (λ (b : Bool). Leads m.atoms (holds m) (now m) None p behind (succeeds_if b p)) (sym c.if-holds.false)
    (c.goals_succeed_or_fail.ensures.back m.atoms (holds m) (now m) height c.args.rest p behind s.selected)
