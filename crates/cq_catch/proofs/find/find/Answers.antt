use Rattle.std.proofs.Common.{◌∙◌, refl, Some, None, arith}
use Rattle.spec_numbers.proofs.Prefixes.{prefix_both, prefix_same}
use Rattle.cq_resolve.specs.Database.{as_database}
use Rattle.cq_choices.specs.Held.{held}
use Rattle.cq_catch.proofs.Going.{over_older, no_more, reaches_at_once, reaches_then, stops_then, throws_then, going_then, working}
use Rattle.cq_catch.proofs.find.find.Goals as goal

pub choices-init : goal.choices-init
choices-init c =
    let start = held c.args.atoms.now c.args.world.now.first c.args.world.now.second c.args.choices.now in
    record {
      different = c.requires.different;
      over = c.requires.over;
      marked = c.requires.marked;
      comes = reaches_at_once c.args.clauses.now start c.args.start;
      longer = prefix_same c.args.atoms.now c.args.atoms.now refl;
      budget = refl;
    }

pub find_front-requires-clause-works : goal.find_front-requires-clause-works
find_front-requires-clause-works c =
    let start = held c.args.atoms.now c.args.world.now.first c.args.world.now.second c.args.choices.now in
    let here = held c.choices.atoms c.choices.world.first c.choices.world.second c.choices.choices in
    working c.choices.clauses here c.choices.current
    (going_then c.args.clauses.now c.choices.clauses c.choices.clauses start here here c.args.start c.choices.current c.choices.invariant.comes c.requires.works)

-- a front is found, or the newest choice is to be tried
pub returns-in-Some-clause-found : goal.returns-in-Some-clause-found
returns-in-Some-clause-found c =
    let start = held c.args.atoms.now c.args.world.now.first c.args.world.now.second c.args.choices.now in
    let here = held c.choices.atoms c.choices.world.first c.choices.world.second c.choices.choices in
    let front = held c.choices.atoms c.find_front.new.world.first c.find_front.new.world.second c.find_front.new.choices in (
      reaches_then c.args.clauses.now c.choices.clauses c.choices.clauses start here front c.args.start c.choices.current c.choices.invariant.comes (Some c.in-Some.front)
          (λ steps ops n s j. c.in-Some.ensures.arrives steps c.choices.atoms c.choices.clauses (as_database c.choices.atoms ops c.choices.clauses) n s j),
      c.in-Some.ensures.front,
    )

pub returns-in-Some-clause-over : goal.returns-in-Some-clause-over
returns-in-Some-clause-over c =
    let here = held c.choices.atoms c.choices.world.first c.choices.world.second c.choices.choices in
    let front = held c.choices.atoms c.find_front.new.world.first c.find_front.new.world.second c.find_front.new.choices in
    over_older c.choices.clauses here front refl c.in-Some.ensures.older c.choices.invariant.over

pub try_newest-requires-clause-over : goal.try_newest-requires-clause-over
try_newest-requires-clause-over c =
    let here = held c.choices.atoms c.choices.world.first c.choices.world.second c.choices.choices in
    let front = held c.choices.atoms c.find_front.new.world.first c.find_front.new.world.second c.find_front.new.choices in
    over_older c.choices.clauses here front refl c.in_default.ensures.older c.choices.invariant.over

pub try_newest-requires-clause-works : goal.try_newest-requires-clause-works
try_newest-requires-clause-works c =
    let start = held c.args.atoms.now c.args.world.now.first c.args.world.now.second c.args.choices.now in
    let here = held c.choices.atoms c.choices.world.first c.choices.world.second c.choices.choices in
    let front = held c.choices.atoms c.find_front.new.world.first c.find_front.new.world.second c.find_front.new.choices in
    let come = reaches_then c.args.clauses.now c.choices.clauses c.choices.clauses start here front c.args.start c.choices.current c.choices.invariant.comes None
    (λ steps ops n s j. c.in_default.ensures.arrives steps c.choices.atoms c.choices.clauses (as_database c.choices.atoms ops c.choices.clauses) n s j) in
    going_then c.args.clauses.now c.choices.clauses c.choices.clauses start front front c.args.start None come c.requires.works

pub choices-smaller : goal.choices-smaller
choices-smaller c =
    let here = held c.choices.atoms c.choices.world.first c.choices.world.second c.choices.choices in
    let front = held c.choices.atoms c.find_front.new.world.first c.find_front.new.world.second c.find_front.new.choices in
    let more = no_more c.choices.clauses here front refl c.in_default.ensures.older in
    let next = rw c.in-Goes.is at c.in-Ok.ensures.next in
    omega (arith, more, next.1)

pub choices-preserved : goal.choices-preserved
choices-preserved c =
    let start = held c.args.atoms.now c.args.world.now.first c.args.world.now.second c.args.choices.now in
    let here = held c.choices.atoms c.choices.world.first c.choices.world.second c.choices.choices in
    let front = held c.choices.atoms c.find_front.new.world.first c.find_front.new.world.second c.find_front.new.choices in
    let new = held c.try_newest.new.atoms c.try_newest.new.world.first c.try_newest.new.world.second c.try_newest.new.choices in
    let come = reaches_then c.args.clauses.now c.choices.clauses c.choices.clauses start here front c.args.start c.choices.current c.choices.invariant.comes None
    (λ steps ops n s j. c.in_default.ensures.arrives steps c.choices.atoms c.choices.clauses (as_database c.choices.atoms ops c.choices.clauses) n s j) in
    let done = c.in-Ok.ensures in
    record {
      different = done.different;
      over = done.over;
      marked = done.marked;
      comes = reaches_then c.args.clauses.now c.choices.clauses c.try_newest.new.clauses start front new c.args.start None come c.in-Goes.next (rw c.in-Goes.is at done.next).0;
      longer = prefix_both c.args.atoms.now c.choices.atoms c.try_newest.new.atoms c.choices.invariant.longer done.longer;
      budget = done.budget ∙ c.in_default.ensures.budget ∙ c.choices.invariant.budget;
    }

pub returns-in-Escaped-clause-found : goal.returns-in-Escaped-clause-found
returns-in-Escaped-clause-found c =
    let start = held c.args.atoms.now c.args.world.now.first c.args.world.now.second c.args.choices.now in
    let here = held c.choices.atoms c.choices.world.first c.choices.world.second c.choices.choices in
    let front = held c.choices.atoms c.find_front.new.world.first c.find_front.new.world.second c.find_front.new.choices in
    let new = held c.try_newest.new.atoms c.try_newest.new.world.first c.try_newest.new.world.second c.try_newest.new.choices in
    let come = reaches_then c.args.clauses.now c.choices.clauses c.choices.clauses start here front c.args.start c.choices.current c.choices.invariant.comes None
    (λ steps ops n s j. c.in_default.ensures.arrives steps c.choices.atoms c.choices.clauses (as_database c.choices.atoms ops c.choices.clauses) n s j) in
    let next = rw c.in-Escaped.is at c.in-Ok.ensures.next in
    (throws_then c.args.clauses.now c.choices.clauses c.try_newest.new.clauses start front new c.args.start None come c.in-Escaped.ball next.0, next.1, next.2)

pub returns-in-Over-clause-found : goal.returns-in-Over-clause-found
returns-in-Over-clause-found c =
    let start = held c.args.atoms.now c.args.world.now.first c.args.world.now.second c.args.choices.now in
    let here = held c.choices.atoms c.choices.world.first c.choices.world.second c.choices.choices in
    let front = held c.choices.atoms c.find_front.new.world.first c.find_front.new.world.second c.find_front.new.choices in
    let new = held c.try_newest.new.atoms c.try_newest.new.world.first c.try_newest.new.world.second c.try_newest.new.choices in
    let come = reaches_then c.args.clauses.now c.choices.clauses c.choices.clauses start here front c.args.start c.choices.current c.choices.invariant.comes None
    (λ steps ops n s j. c.in_default.ensures.arrives steps c.choices.atoms c.choices.clauses (as_database c.choices.atoms ops c.choices.clauses) n s j) in
    let next = rw c.in-Over.is at c.in-Ok.ensures.next in
    (reaches_then c.args.clauses.now c.choices.clauses c.try_newest.new.clauses start front new c.args.start None come None next.0, next.1)

pub returns-in-Err-clause-err : goal.returns-in-Err-clause-err
returns-in-Err-clause-err c =
    let start = held c.args.atoms.now c.args.world.now.first c.args.world.now.second c.args.choices.now in
    let here = held c.choices.atoms c.choices.world.first c.choices.world.second c.choices.choices in
    let front = held c.choices.atoms c.find_front.new.world.first c.find_front.new.world.second c.find_front.new.choices in
    let new = held c.try_newest.new.atoms c.try_newest.new.world.first c.try_newest.new.world.second c.try_newest.new.choices in
    let come = reaches_then c.args.clauses.now c.choices.clauses c.choices.clauses start here front c.args.start c.choices.current c.choices.invariant.comes None
    (λ steps ops n s j. c.in_default.ensures.arrives steps c.choices.atoms c.choices.clauses (as_database c.choices.atoms ops c.choices.clauses) n s j) in
    reaches_then c.args.clauses.now c.choices.clauses c.try_newest.new.clauses start front new c.args.start None come None c.in-Err.ensures.err

pub returns-in-Err-clause-stops : goal.returns-in-Err-clause-stops
returns-in-Err-clause-stops c =
    let start = held c.args.atoms.now c.args.world.now.first c.args.world.now.second c.args.choices.now in
    let here = held c.choices.atoms c.choices.world.first c.choices.world.second c.choices.choices in
    let front = held c.choices.atoms c.find_front.new.world.first c.find_front.new.world.second c.find_front.new.choices in
    let new = held c.try_newest.new.atoms c.try_newest.new.world.first c.try_newest.new.world.second c.try_newest.new.choices in
    let come = reaches_then c.args.clauses.now c.choices.clauses c.choices.clauses start here front c.args.start c.choices.current c.choices.invariant.comes None
    (λ steps ops n s j. c.in_default.ensures.arrives steps c.choices.atoms c.choices.clauses (as_database c.choices.atoms ops c.choices.clauses) n s j) in
    stops_then c.args.clauses.now c.choices.clauses c.try_newest.new.clauses start front new c.args.start None come c.args.world.now.first.store.pivots c.find_front.new.world.first.store.pivots c.in-Err.fault
    (c.in_default.ensures.budget ∙ c.choices.invariant.budget) c.in-Err.ensures.stops
