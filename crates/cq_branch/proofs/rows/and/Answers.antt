use Rattle.cq_settle.specs.Worlds.{now_of}
use Rattle.cq_branch.proofs.Added.{has_more}
use Rattle.cq_branch.proofs.Done.{and_done}
use Rattle.cq_branch.proofs.rows.and.Goals as goal

pub returns-clause-row : goal.returns-clause-row
returns-clause-row c = λ texts choices p behind a b s ra rb.
    and_done texts (now_of c.args.world.now.first) c.args.world.now.second.now c.goal_before-2.new.lists.now c.args.height c.args.rest p behind choices s c.in_ok-both.both c.args.left c.args.right a b
    (has_more c.goal_before.new.lists.now c.goal_before-2.new.lists.now c.in_ok-behind.behind c.in_ok-both.both _ _ (c.in_ok-behind.ensures.cells texts) (c.in_ok-both.ensures.cells texts)) ra rb
