use Rattle.std.proofs.Common.{◌∷◌, Some, None, refl, sym, ap, ◌∙◌, arith}
use Rattle.cq_calls.proofs.Left.{newest_on, gone_on}
use Rattle.cq_branch.proofs.Back.{back_still, still_back, comes_then, stops_then}
use Rattle.cq_catch.proofs.Reached.{compares_then}
use Rattle.cq_catch.proofs.matching.matching.compare_all.Goals as goal

pub clauses-init : goal.clauses-init
clauses-init c =
    let older = c.requires.newest in
    record {
      newest = (_, older.0, older.1, older.1);
      marked = c.requires.marked;
      are_open = c.requires.open;
      comes = back_still c.args.atoms.now c.args.clauses.now c.args.world.now.first c.args.world.now.first c.args.world.now.second c.args.world.now.second c.args.choices.now
          c.args.choices.now refl;
      waiting = omega arith;
      budget = refl;
    }

pub compare_next-requires-clause-works : goal.compare_next-requires-clause-works
compare_next-requires-clause-works c =
    still_back c.args.atoms.now c.args.clauses.now c.args.world.now.first c.clauses.world.first c.args.world.now.second c.clauses.world.second c.args.choices.now c.clauses.choices
    c.requires.works c.clauses.invariant.comes

pub compare_next-requires-clause-newest : goal.compare_next-requires-clause-newest
compare_next-requires-clause-newest c = let n = c.clauses.invariant.newest in (n.1, n.3)

pub returns-in-Goes-clause-comes : goal.returns-in-Goes-clause-comes
returns-in-Goes-clause-comes c =
    compares_then c.args.atoms.now c.args.clauses.now c.args.removes c.args.world.now.first c.clauses.world.first c.args.world.now.second c.clauses.world.second c.args.choices.now c.clauses.choices
    c.clauses.invariant.comes c.compare_next.new.world.first c.compare_next.new.world.second c.compare_next.new.choices (Some c.in-Goes.matched) (rw c.in-Goes.is at c.in-Ok.ensures.comes)

pub returns-in-Goes-clause-known : goal.returns-in-Goes-clause-known
returns-in-Goes-clause-known c = rw c.in-Goes.is at c.in-Ok.ensures.left

pub clauses-preserved : goal.clauses-preserved
clauses-preserved c = record {
  newest = newest_on (rw c.in-Pruned.is at c.in-Ok.ensures.left) c.clauses.invariant.newest;
  marked = c.in-Ok.ensures.marked;
  are_open = c.in-Ok.ensures.open;
  comes = comes_then c.args.atoms.now c.args.clauses.now c.args.world.now.first c.clauses.world.first c.args.world.now.second c.clauses.world.second c.args.choices.now c.clauses.choices
      c.clauses.invariant.comes c.compare_next.new.world.first c.compare_next.new.world.second c.compare_next.new.choices None (rw c.in-Pruned.is at c.in-Ok.ensures.comes);
  waiting = omega (arith, c.in-Ok.ensures.fewer, c.clauses.invariant.waiting);
  budget = c.in-Ok.ensures.budget ∙ c.clauses.invariant.budget;
}

pub returns-in-Ended-clause-gone : goal.returns-in-Ended-clause-gone
returns-in-Ended-clause-gone c = gone_on (rw c.in-Ended.is at c.in-Ok.ensures.left) c.clauses.invariant.newest

pub returns-in-Ended-clause-comes : goal.returns-in-Ended-clause-comes
returns-in-Ended-clause-comes c =
    compares_then c.args.atoms.now c.args.clauses.now c.args.removes c.args.world.now.first c.clauses.world.first c.args.world.now.second c.clauses.world.second c.args.choices.now c.clauses.choices
    c.clauses.invariant.comes c.compare_next.new.world.first c.compare_next.new.world.second c.compare_next.new.choices None (rw c.in-Ended.is at c.in-Ok.ensures.comes)

pub returns-in-Err-clause-err : goal.returns-in-Err-clause-err
returns-in-Err-clause-err c =
    comes_then c.args.atoms.now c.args.clauses.now c.args.world.now.first c.clauses.world.first c.args.world.now.second c.clauses.world.second c.args.choices.now c.clauses.choices
    c.clauses.invariant.comes c.compare_next.new.world.first c.compare_next.new.world.second c.compare_next.new.choices None c.in-Err.ensures.err

pub returns-in-Err-clause-stops : goal.returns-in-Err-clause-stops
returns-in-Err-clause-stops c =
    stops_then c.args.atoms.now c.args.clauses.now c.args.world.now.first c.clauses.world.first c.args.world.now.second c.clauses.world.second c.args.choices.now c.clauses.choices
    c.clauses.invariant.comes c.in-Err.fault c.clauses.invariant.budget c.in-Err.ensures.stops
