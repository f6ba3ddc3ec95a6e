use Rattle.std.proofs.Common.{List, ◌∷◌, sym, ap₂, ◌∙◌}
use Rattle.cq_control.specs.Open.{open_choices}
use Rattle.cq_resolve.specs.StoredValue.{StoredValue}
use Rattle.cq_settle.specs.Worlds.{now_of}
use Rattle.cq_branch.specs.declared.alternatives.Alternatives.TheVariants.{Gathers}
use Rattle.cq_branch.specs.Worlds.{value, saved_values}
use Rattle.cq_branch.proofs.Added.{has_more, keeps_on}
use Rattle.cq_branch.proofs.Listed.{may_be}
use Rattle.cq_branch.proofs.Saving.{findall_done}
use Rattle.cq_branch.proofs.gathering.findall.Goals as goal

pub returns-clause-row : goal.returns-clause-row
returns-clause-row c = λ v height p behind t g l s rt rg rl.
    let texts = c.args.atoms.now in
    let first = c.args.world.now.first in
    let old = c.args.world.now.second.now in
    let mid = c.cell_before.new.lists.now in
    let new = c.cell_before-2.new.lists.now in
    let saved = c.in_ok-all.ensures.saved ∙ c.in_ok-end.ensures.saved in
    findall_done texts v (now_of first) old new height c.args.rest p behind (saved_values first c.args.world.now.second.saved)
    (saved_values c.push.new.world.first c.push.new.world.second.saved) c.args.choices.now c.push.new.self (value c.push.new.world.first c.push.new.world.second.now)
    c.requires.marked s (keeps_on old mid new c.in_ok-end.ensures.keeps c.in_ok-all.ensures.keeps) c.in_ok-push.ensures.now
    c.in_ok-all.all c.height-top.result c.args.template c.args.goal c.args.list t g l c.height-top.ensures
    (has_more mid new c.in_ok-end.end c.in_ok-all.all _ _ c.in_ok-end.ensures.cells c.in_ok-all.ensures.cells)
    (c.in_ok-push.ensures.open
    ∙ ap₂ (λ (n : List StoredValue) x. ((now_of first, new), Gathers c.args.list n c.args.rest) ∷ open_choices (saved_values first x) c.args.choices.now) c.new-none.ensures saved)
    rt rg rl (may_be texts (now_of first) p.state c.args.list l rl (sym c.in_ok-may_be_list.ensures ∙ c.if-not-branch.false))
