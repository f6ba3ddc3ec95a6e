use Rattle.std.proofs.Common.{◌∷◌, ap, ap₂, ◌∙◌}
use Rattle.spec_search.specs.Control.{or_row}
use Rattle.spec_engine.specs.Cells.{One}
use Rattle.cq_settle.specs.Worlds.{now_of}
use Rattle.cq_control.specs.Open.{open_choices}
use Rattle.cq_branch.specs.declared.alternatives.Alternatives.TheVariants as alternatives
use Rattle.cq_branch.specs.Worlds.{value, saved_values, stack}
use Rattle.cq_branch.proofs.Added.{has_front, has_still}
use Rattle.cq_branch.proofs.Done.{or_done, leads_same}
use Rattle.cq_branch.proofs.disjunction.either.Goals as goal

pub returns-clause-row : goal.returns-clause-row
returns-clause-row c = λ texts v p behind a b s ra rb plain.
    let first = c.args.world.now.first in
    let old = c.args.world.now.second.now in
    let mid = c.goal_before.new.lists.now in
    let new = c.goal_before-2.new.lists.now in
    let choices = stack texts v (saved_values first c.args.world.now.second.saved) c.args.choices.now in
    let saved = c.in_ok-first.ensures.saved ∙ c.in_ok-second.ensures.saved in
    leads_same texts c.in_ok-first.first p behind (or_row p a b) (((now_of first, new), One c.in_ok-second.second) ∷ choices) _ (now_of first, new) _
    (c.in_ok-leave.ensures.stack texts v ∙ ap (λ l. ((now_of first, new), One c.in_ok-second.second) ∷ stack texts v (saved_values first l) c.args.choices.now) saved)
    (ap₂ (λ x y. (x, y)) c.in_ok-leave.ensures.first c.in_ok-leave.ensures.lists)
    (or_done texts (now_of first) old new c.args.height c.args.rest p behind choices s c.in_ok-first.first c.in_ok-second.second c.args.left c.args.right a b
    (has_front old mid new c.in_ok-first.first c.args.rest _ c.in_ok-second.ensures.keeps c.requires.rest (c.in_ok-first.ensures.cells texts))
    (has_still mid new c.in_ok-second.second _ (c.in_ok-second.ensures.cells texts) c.in_ok-first.ensures.keeps) ra rb plain)

pub returns-clause-choices : goal.returns-clause-choices
returns-clause-choices c =
    let first = c.args.world.now.first in
    let saved = c.in_ok-first.ensures.saved ∙ c.in_ok-second.ensures.saved in
    let left = c.in_ok-leave.ensures.choices in (
      left.0,
      left.1
          ∙ ap (λ l. (value c.leave.new.world.first c.leave.new.world.second.now, alternatives.One left.0) ∷ open_choices (saved_values first l) c.args.choices.now) saved,
    )
