use Rattle.cq_branch.specs.Worlds.{value, saved_values}
use Rattle.cq_catch.proofs.Handed.{catch_there, catches_it, misses_it}
use Rattle.cq_catch.proofs.Nearest.{within}
use Rattle.cq_catch.proofs.balls.hand.Goals as goal

pub give-requires-clause-within : goal.give-requires-clause-within
give-requires-clause-within c =
    within (saved_values c.args.world.now.first c.args.world.now.second.saved) c.args.choices.now (value c.args.world.now.first c.args.world.now.second.now) c.args.from
    c.requires.marked c.in-Some.end c.in-Some.ensures.some c.requires.comes_up

pub give-requires-clause-catch : goal.give-requires-clause-catch
give-requires-clause-catch c =
    catch_there (saved_values c.args.world.now.first c.args.world.now.second.saved) c.args.choices.now (value c.args.world.now.first c.args.world.now.second.now) c.args.from c.in-Some.end
    c.in-Some.ensures.some c.requires.comes_up

pub returns-in-Some-clause-caught : goal.returns-in-Some-clause-caught
returns-in-Some-clause-caught c =
    catches_it (saved_values c.args.world.now.first c.args.world.now.second.saved) c.args.choices.now (value c.args.world.now.first c.args.world.now.second.now) c.args.from c.in-Some.end
    c.in-Some.ensures.some c.args.ball (saved_values c.give.new.world.first c.give.new.world.second.saved) c.give.new.choices c.give.ensures.given

pub returns-in-None-clause-missed : goal.returns-in-None-clause-missed
returns-in-None-clause-missed c =
    misses_it (saved_values c.args.world.now.first c.args.world.now.second.saved) c.args.choices.now (value c.args.world.now.first c.args.world.now.second.now) c.args.from
    c.in-None.ensures.none
