use Rattle.std.proofs.Common.{sym, ◌∙◌}
use Rattle.cq_settle.specs.Worlds.{now_of}
use Rattle.cq_branch.proofs.Calling.{call_done, raised_as}
use Rattle.cq_branch.proofs.calls.call.Goals as goal

pub returns-in_ok-k-in-Ok-clause-row : goal.returns-in_ok-k-in-Ok-clause-row
returns-in_ok-k-in-Ok-clause-row c = λ choices p behind g same s r.
    call_done c.args.atoms.now (now_of c.args.world.now.first) c.args.world.now.second.now c.cell_before.new.lists.now c.args.rest p behind choices s
    c.in_ok-k-in-Ok.k c.height.result c.args.goal g (c.height.ensures ∙ sym same) c.in-Ok.ensures.lawful r c.in_ok-k-in-Ok.ensures.cells

pub returns-in-Err-clause-fault : goal.returns-in-Err-clause-fault
returns-in-Err-clause-fault c = λ p g r.
    raised_as c.args.atoms.now (now_of c.args.world.now.first) p c.args.goal g c.in-Err.fault r (c.in-Err.ensures.fault p)
