use Rattle.std.proofs.Common.{◌∷◌, List, sym, ap, ◌∙◌, subst}
use Rattle.cq_control.specs.Items.{items_at}
use Rattle.cq_branch.specs.Choices.{AreOpen}
use Rattle.cq_branch.specs.Worlds.{value, saved_values}
use Rattle.cq_branch.specs.declared.alternatives.Alternatives.{Alternatives}
use Rattle.cq_branch.proofs.Copied.{copy_counted}
use Rattle.cq_catch.proofs.Marked.{template_there, gathers_at_mark, collects, open_gathered, total_gathered}
use Rattle.cq_catch.proofs.Places.{on_ok, on_both}
use Rattle.cq_catch.proofs.gather.collect.Goals as goal

pub gather_at-requires : goal.gather_at-requires
gather_at-requires c =
    let saved = saved_values c.args.world.now.first c.args.world.now.second.saved in
    let now = value c.args.world.now.first c.args.world.now.second.now in
    let front = c.in-Some.ensures.some ∙ ap (λ x. x ∷ items_at now.1 c.in-Some._rest) c.in-Collect.is in
    gathers_at_mark saved c.args.choices.now now c.args.front c.in-Some._rest c.in-Collect.height c.in-Collect.template c.requires.marked front c.requires.works

pub returns-clause-comes : goal.returns-clause-comes
returns-clause-comes c =
    let saved = saved_values c.args.world.now.first c.args.world.now.second.saved in
    let now = value c.args.world.now.first c.args.world.now.second.now in
    let front = c.in-Some.ensures.some ∙ ap (λ x. x ∷ items_at now.1 c.in-Some._rest) c.in-Collect.is in
    let live = template_there saved c.args.choices.now now c.args.front c.in-Some._rest c.in-Collect.height c.in-Collect.template c.requires.marked front c.requires.works in
    on_ok c.gather_at.result
    (collects saved c.args.choices.now now c.args.front c.in-Some._rest c.in-Collect.height c.in-Collect.template c.requires.marked front c.gather_at.new.choices c.in_ok-copy.copy live
    c.in_ok-copy.ensures.renamed)
    c.gather_at.ensures.ok

pub returns-clause-open : goal.returns-clause-open
returns-clause-open c = λ texts v known o.
    let saved = saved_values c.args.world.now.first c.args.world.now.second.saved in
    let now = value c.args.world.now.first c.args.world.now.second.now in
    let front = c.in-Some.ensures.some ∙ ap (λ x. x ∷ items_at now.1 c.in-Some._rest) c.in-Collect.is in
    let live = template_there saved c.args.choices.now now c.args.front c.in-Some._rest c.in-Collect.height c.in-Collect.template c.requires.marked front c.requires.works in
    let counted = copy_counted texts now.0.heap.terms c.in-Collect.template c.in_ok-copy.copy known live c.in_ok-copy.ensures.renamed c.in_ok-copy.ensures.variables c.in_ok-copy.ensures.names in
    on_both c.gather_at.result
    (λ g. open_gathered texts v saved c.args.choices.now c.gather_at.new.choices c.in-Collect.height c.in_ok-copy.copy c.requires.marked g counted o)
    (λ e. subst (λ (cs : List Alternatives). AreOpen texts v saved cs) (sym e) o) c.gather_at.ensures.ok c.gather_at.ensures.err

pub returns-clause-as_many : goal.returns-clause-as_many
returns-clause-as_many c =
    let saved = saved_values c.args.world.now.first c.args.world.now.second.saved in
    on_ok c.gather_at.result
    (λ g texts v. total_gathered texts v saved c.args.choices.now c.gather_at.new.choices c.in-Collect.height c.in_ok-copy.copy c.requires.marked g)
    c.gather_at.ensures.ok
