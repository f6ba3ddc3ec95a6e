use Rattle.std.proofs.Common.{◌∷◌, sym, ap, ap₂, ◌∙◌}
use Rattle.cq_control.specs.Open.{open_choices}
use Rattle.cq_settle.specs.Worlds.{now_of}
use Rattle.cq_branch.specs.declared.alternatives.Alternatives.TheVariants.{Catches}
use Rattle.cq_branch.specs.Worlds.{value, saved_values}
use Rattle.cq_branch.proofs.Added.{has_more, keeps_on}
use Rattle.cq_branch.proofs.Saving.{catch_done}
use Rattle.cq_branch.proofs.catching.catch.Goals as goal

pub returns-clause-row : goal.returns-clause-row
returns-clause-row c = λ texts v height p behind g f r s rg rf rr.
    let first = c.args.world.now.first in
    let old = c.args.world.now.second.now in
    let mid = c.cell_before.new.lists.now in
    let new = c.cell_before-2.new.lists.now in
    let saved = c.in_ok-all.ensures.saved ∙ c.in_ok-end.ensures.saved in
    catch_done texts v (now_of first) old new height c.args.rest p behind (saved_values first c.args.world.now.second.saved)
    (saved_values c.push.new.world.first c.push.new.world.second.saved) c.args.choices.now c.push.new.self (value c.push.new.world.first c.push.new.world.second.now)
    c.requires.marked s (keeps_on old mid new c.in_ok-end.ensures.keeps c.in_ok-all.ensures.keeps) c.in_ok-push.ensures.now
    c.in_ok-all.all c.height-top.result c.args.goal c.args.catcher c.args.recovery g f r c.height-top.ensures
    (has_more mid new c.in_ok-end.end c.in_ok-all.all _ _ c.in_ok-end.ensures.cells c.in_ok-all.ensures.cells)
    (c.in_ok-push.ensures.open ∙ ap (λ l. ((now_of first, new), Catches c.args.rest) ∷ open_choices (saved_values first l) c.args.choices.now) saved) rg rf rr

pub returns-clause-choices : goal.returns-clause-choices
returns-clause-choices c =
    let first = c.args.world.now.first in
    let saved = c.in_ok-all.ensures.saved ∙ c.in_ok-end.ensures.saved in
    c.in_ok-push.ensures.open
    ∙ ap₂ (λ x l. (x, Catches c.args.rest) ∷ open_choices (saved_values first l) c.args.choices.now) (sym c.in_ok-push.ensures.now) saved
