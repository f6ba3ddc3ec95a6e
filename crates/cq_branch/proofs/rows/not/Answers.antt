use Rattle.std.proofs.Common.{◌∷◌, sym, ap, ap₂, ◌∙◌}
use Rattle.spec_search.specs.Control.{not_row}
use Rattle.spec_engine.specs.Cells.{One}
use Rattle.cq_settle.specs.Worlds.{now_of}
use Rattle.cq_control.specs.Open.{open_choices}
use Rattle.cq_branch.specs.declared.alternatives.Alternatives.TheVariants as alternatives
use Rattle.cq_branch.specs.Worlds.{value, saved_values, stack}
use Rattle.cq_branch.proofs.Added.{has_more, keeps_on}
use Rattle.cq_branch.proofs.Done.{not_done, length-stack, leads_same}
use Rattle.cq_branch.proofs.rows.not.Goals as goal

pub returns-clause-row : goal.returns-clause-row
returns-clause-row c = λ texts v height p behind g s r.
    let first = c.args.world.now.first in
    let old = c.args.world.now.second.now in
    let mid = c.cell_before.new.lists.now in
    let new = c.goal_before.new.lists.now in
    let choices = stack texts v (saved_values first c.args.world.now.second.saved) c.args.choices.now in
    let saved = c.in_ok-both.ensures.saved ∙ c.in_ok-mark.ensures.saved in
    leads_same texts c.in_ok-both.both p behind (not_row p g) (((now_of first, new), One c.args.rest) ∷ choices) _ (now_of first, new) _
    (c.in_ok-leave.ensures.stack texts v ∙ ap (λ l. ((now_of first, new), One c.args.rest) ∷ stack texts v (saved_values first l) c.args.choices.now) saved)
    (ap₂ (λ x y. (x, y)) c.in_ok-leave.ensures.first c.in_ok-leave.ensures.lists)
    (not_done texts (now_of first) old new height c.args.rest p behind choices s c.in_ok-both.both c.args.rest c.height-top.result c.in_ok-above.above c.args.goal g
    (c.height-top.ensures ∙ sym (length-stack texts v (saved_values first c.args.world.now.second.saved) c.args.choices.now c.requires.marked))
    c.in_ok-above.ensures (keeps_on old mid new c.in_ok-mark.ensures.keeps c.in_ok-both.ensures.keeps)
    (has_more mid new c.in_ok-mark.mark c.in_ok-both.both _ _ c.in_ok-mark.ensures.cells (c.in_ok-both.ensures.cells texts)) r)

pub returns-clause-choices : goal.returns-clause-choices
returns-clause-choices c =
    let first = c.args.world.now.first in
    let saved = c.in_ok-both.ensures.saved ∙ c.in_ok-mark.ensures.saved in
    let left = c.in_ok-leave.ensures.choices in (
      left.0,
      left.1
          ∙ ap (λ l. (value c.leave.new.world.first c.leave.new.world.second.now, alternatives.One left.0) ∷ open_choices (saved_values first l) c.args.choices.now) saved,
    )
