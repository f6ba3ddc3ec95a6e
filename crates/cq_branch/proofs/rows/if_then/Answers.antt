use Rattle.std.proofs.Common.{sym, ◌∙◌}
use Rattle.cq_settle.specs.Worlds.{now_of}
use Rattle.cq_branch.proofs.Added.{has_more}
use Rattle.cq_branch.proofs.Done.{if_then_done}
use Rattle.cq_branch.proofs.rows.if_then.Goals as goal

pub returns-clause-row : goal.returns-clause-row
returns-clause-row c = λ texts choices p behind condition t same s rc rt.
    if_then_done texts (now_of c.args.world.now.first) c.args.world.now.second.now c.goal_before.new.lists.now c.args.height c.args.rest p behind choices s c.in_ok-all.all c.height-top.result c.args.condition c.args.goal condition t
    (c.height-top.ensures ∙ sym same)
    (has_more c.then_before.new.lists.now c.goal_before.new.lists.now c.in_ok-mark.mark c.in_ok-all.all _ _ (c.in_ok-mark.ensures.cells texts) (c.in_ok-all.ensures.cells texts)) rc rt
