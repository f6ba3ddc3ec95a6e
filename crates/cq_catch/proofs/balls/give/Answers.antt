use Rattle.std.proofs.Common.{ap, ◌∙◌}
use Rattle.cq_settle.specs.Contents.{Contents}
use Rattle.spec_engine.specs.Cells.{Value}
use Rattle.cq_branch.specs.Worlds.{value, saved_values}
use Rattle.cq_branch.proofs.Budgets.{same_budget}
use Rattle.cq_catch.proofs.Given.{newest_catch, catch_given}
use Rattle.cq_catch.proofs.Nearest.{same_newest}
use Rattle.cq_catch.proofs.balls.give.Goals as goal

pub unreachable-requires-in_default-newest : goal.unreachable-requires-in_default-newest
unreachable-requires-in_default-newest c =
    let saved = saved_values c.args.world.now.first c.args.world.now.second.saved in
    let fewer = saved_values c.cut.new.world.first c.cut.new.world.second.saved in
    let k = newest_catch saved fewer c.args.choices.now c.cut.new.self c.args.end.height c.in-Some.newest.now c.in-Some.ensures.some.0 c.cut.ensures.marked c.in-Some.ensures.some.1
    c.cut.ensures.open c.requires.catch in
    c.in_default-newest.not-Catches k.0 k.1

pub returns-clause-given : goal.returns-clause-given
returns-clause-given c =
    let saved = saved_values c.args.world.now.first c.args.world.now.second.saved in
    let fewer = saved_values c.cut.new.world.first c.cut.new.world.second.saved in
    let more = saved_values c.retry.new.world.first c.retry.new.world.second.saved in
    let start = value c.retry.new.world.first c.retry.new.world.second.now in
    let was = same_newest c.retry.result c.in-Some.newest.now c.retry.ensures.contents.0 c.in-Some.ensures.some.0 c.cut.new.self c.retry.ensures.contents.1 c.in-Some.ensures.some.1 ∙ c.in-Catches.is in
    catch_given saved fewer more c.args.choices.now c.cut.new.self c.retry.new.self c.args.end.height start c.retry.result c.retry.ensures.open.0 c.args.ball c.args.end.catcher
    c.args.end.recovery c.in-Catches.behind c.requires.marked c.requires.within c.cut.ensures.open c.retry.ensures.open.1 c.retry.ensures.open.2 was

pub returns-clause-budget : goal.returns-clause-budget
returns-clause-budget c =
    let start = value c.retry.new.world.first c.retry.new.world.second.now in
    same_budget c.cut.new.world.first c.cut.new.world.second.saved c.cut.new.self start c.retry.result c.retry.ensures.open.0 c.retry.ensures.open.1
    ∙ ap (λ (w : Value Contents). w.0.pivots) c.cut.ensures.now
