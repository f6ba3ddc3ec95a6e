use Rattle.std.proofs.Common.{◌∷◌, sym, ap, ap₂, ◌∙◌, codes}
use Rattle.spec_syntax.specs.Trees.{binary}
use Rattle.spec_search.specs.Control.{or_row}
use Rattle.spec_engine.specs.Cells.{One}
use Rattle.cq_settle.specs.Worlds.{now_of}
use Rattle.cq_control.specs.Open.{open_choices}
use Rattle.cq_branch.specs.declared.alternatives.Alternatives.TheVariants as alternatives
use Rattle.cq_branch.specs.Worlds.{value, saved_values, stack}
use Rattle.cq_branch.proofs.Added.{has_behind, has_more, has_still, keeps_on}
use Rattle.cq_branch.proofs.Done.{if_then_else_done, length-stack, leads_same}
use Rattle.cq_branch.proofs.disjunction.if_then_else.Goals as goal

pub returns-clause-row : goal.returns-clause-row
returns-clause-row c = λ texts v p behind condition t b s rc rt rb.
    let first = c.args.world.now.first in
    let old = c.args.world.now.second.now in
    let low = c.goal_before.new.lists.now in
    let mid = c.then_before.new.lists.now in
    let new = c.goal_before-2.new.lists.now in
    let choices = stack texts v (saved_values first c.args.world.now.second.saved) c.args.choices.now in
    let saved = c.in_ok-all.ensures.saved ∙ c.in_ok-mark.ensures.saved ∙ c.in_ok-other.ensures.saved in
    leads_same texts c.in_ok-all.all p behind (or_row p (binary (codes "->") condition t) b) (((now_of first, new), One c.in_ok-other.other) ∷ choices) _ (now_of first, new) _
    (c.in_ok-leave.ensures.stack texts v ∙ ap (λ l. ((now_of first, new), One c.in_ok-other.other) ∷ stack texts v (saved_values first l) c.args.choices.now) saved)
    (ap₂ (λ x y. (x, y)) c.in_ok-leave.ensures.first c.in_ok-leave.ensures.lists)
    (if_then_else_done texts (now_of first) old new c.args.height c.args.rest p behind choices s c.in_ok-all.all c.in_ok-other.other c.height-top.result c.in_ok-above.above
    c.args.left.now.left c.args.left.now.right c.args.right condition t b
    (c.height-top.ensures ∙ sym (length-stack texts v (saved_values first c.args.world.now.second.saved) c.args.choices.now c.requires.marked))
    c.in_ok-above.ensures
    (has_more mid new c.in_ok-mark.mark c.in_ok-all.all _ _
    (has_behind old low mid c.in_ok-mark.mark c.args.rest _ _ c.in_ok-other.ensures.keeps c.requires.rest (c.in_ok-mark.ensures.cells texts)) (c.in_ok-all.ensures.cells texts))
    (has_still low new c.in_ok-other.other _ (c.in_ok-other.ensures.cells texts) (keeps_on low mid new c.in_ok-mark.ensures.keeps c.in_ok-all.ensures.keeps)) rc rt rb)

pub returns-clause-choices : goal.returns-clause-choices
returns-clause-choices c =
    let first = c.args.world.now.first in
    let saved = c.in_ok-all.ensures.saved ∙ c.in_ok-mark.ensures.saved ∙ c.in_ok-other.ensures.saved in
    let left = c.in_ok-leave.ensures.choices in (
      left.0,
      left.1
          ∙ ap (λ l. (value c.leave.new.world.first c.leave.new.world.second.now, alternatives.One left.0) ∷ open_choices (saved_values first l) c.args.choices.now) saved,
    )
