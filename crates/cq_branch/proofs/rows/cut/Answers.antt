use Rattle.spec_search.specs.Control.{cut_row}
use Rattle.cq_control.specs.Open.{last}
use Rattle.cq_settle.specs.Worlds.{now_of}
use Rattle.cq_branch.specs.Worlds.{IsBranch, term_in, saved_values, stack}
use Rattle.cq_branch.proofs.Branches.{branches_rest}
use Rattle.cq_branch.proofs.Control.{cut_becomes}
use Rattle.cq_branch.proofs.Done.{leads_same, stack_cut}
use Rattle.cq_branch.proofs.Older.{older_last}
use Rattle.cq_branch.proofs.rows.cut.Goals as goal

pub returns-clause-row : goal.returns-clause-row
returns-clause-row c = λ texts v rest p behind s.
    let first = c.args.world.now.first in
    let lists = c.args.world.now.second.now in
    let saved = saved_values first c.args.world.now.second.saved in
    let choices = stack texts v saved c.args.choices.now in
    leads_same texts rest p behind (cut_row p) (last c.args.height choices) _ (now_of first, lists) _
    (stack_cut texts v saved (saved_values c.cut.new.world.first c.cut.new.world.second.saved) c.args.choices.now c.cut.new.self c.args.height c.cut.ensures.open)
    c.cut.ensures.now
    (cut_becomes (IsBranch texts) (term_in texts) (branches_rest texts) choices (now_of first) lists lists c.args.height rest p behind s)

pub returns-clause-older : goal.returns-clause-older
returns-clause-older c =
    older_last c.args.height (saved_values c.args.world.now.first c.args.world.now.second.saved) (saved_values c.cut.new.world.first c.cut.new.world.second.saved)
    c.args.choices.now c.cut.new.self c.cut.ensures.open
