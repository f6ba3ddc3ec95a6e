use Rattle.std.proofs.Common.{◌∙◌, refl, subst, Some, None, arith}
use Rattle.spec_numbers.proofs.Prefixes.{prefix_both, prefix_within}
use Rattle.cq_choices.specs.Held.{held}
use Rattle.cq_choices.specs.Trying.{IsTaken, StopsOver}
use Rattle.cq_choices.proofs.Ending.{comes_same, over_same, comes_then, stays_then, stops_then, works_then, on_err}
use Rattle.cq_choices.proofs.trying.try_ways.Goals as goal

pub returns-in_err-known-clause-comes_err : goal.returns-in_err-known-clause-comes_err
returns-in_err-known-clause-comes_err c =
    let start = held c.args.atoms.now c.args.world.now.first c.args.world.now.second c.args.choices.now in
    let first = held c.some_name.new.atoms c.args.world.now.first c.args.world.now.second c.args.choices.now in
    on_err c.from_residual.result (comes_same start first c.names_are_of_terms.ensures.choices c.some_name.ensures.longer refl)

pub ways-init : goal.ways-init
ways-init c =
    let start = held c.args.atoms.now c.args.world.now.first c.args.world.now.second c.args.choices.now in
    let first = held c.some_name.new.atoms c.args.world.now.first c.args.world.now.second c.args.choices.now in
    let longer = c.some_name.ensures.longer in
    record {
      marked = c.requires.marked;
      newest = c.requires.newest;
      works = works_then start first (λ v o. over_same start first v o longer refl) (comes_same start first c.names_are_of_terms.ensures.choices longer refl) c.requires.works;
      known = c.in_ok-known.ensures.known;
      comes = comes_same start first c.names_are_of_terms.ensures.choices longer refl;
      over = λ v o. over_same start first v o longer refl;
      longer = longer;
      same = refl;
      budget = refl;
    }

pub returns-in_err-way-clause-comes_err : goal.returns-in_err-way-clause-comes_err
returns-in_err-way-clause-comes_err c =
    let start = held c.args.atoms.now c.args.world.now.first c.args.world.now.second c.args.choices.now in
    let here = held c.ways.atoms c.ways.world.first c.ways.world.second c.ways.choices in
    let mid = held c.take_way.new.atoms c.take_way.new.world.first c.take_way.new.world.second c.take_way.new.choices in
    let i = c.ways.invariant in
    on_err c.from_residual-in_err-way.result (comes_then start here mid None i.over i.comes c.in_err-way.ensures.err)

pub returns-in_err-way-clause-over : goal.returns-in_err-way-clause-over
returns-in_err-way-clause-over c =
    let start = held c.args.atoms.now c.args.world.now.first c.args.world.now.second c.args.choices.now in
    let here = held c.ways.atoms c.ways.world.first c.ways.world.second c.ways.choices in
    let mid = held c.take_way.new.atoms c.take_way.new.world.first c.take_way.new.world.second c.take_way.new.choices in
    let i = c.ways.invariant in
    stays_then start here mid i.over c.take_way.ensures.over

pub returns-in_default-clause-comes : goal.returns-in_default-clause-comes
returns-in_default-clause-comes c =
    let start = held c.args.atoms.now c.args.world.now.first c.args.world.now.second c.args.choices.now in
    let here = held c.ways.atoms c.ways.world.first c.ways.world.second c.ways.choices in
    let mid = held c.take_way.new.atoms c.take_way.new.world.first c.take_way.new.world.second c.take_way.new.choices in
    let i = c.ways.invariant in
    comes_then start here mid None i.over i.comes (rw c.in_default.is at c.in_ok-way.ensures.gone)

pub returns-in_default-clause-over : goal.returns-in_default-clause-over
returns-in_default-clause-over c =
    let start = held c.args.atoms.now c.args.world.now.first c.args.world.now.second c.args.choices.now in
    let here = held c.ways.atoms c.ways.world.first c.ways.world.second c.ways.choices in
    let mid = held c.take_way.new.atoms c.take_way.new.world.first c.take_way.new.world.second c.take_way.new.choices in
    let i = c.ways.invariant in
    stays_then start here mid i.over c.take_way.ensures.over

pub returns-in-Err-clause-comes_err : goal.returns-in-Err-clause-comes_err
returns-in-Err-clause-comes_err c =
    let start = held c.args.atoms.now c.args.world.now.first c.args.world.now.second c.args.choices.now in
    let here = held c.ways.atoms c.ways.world.first c.ways.world.second c.ways.choices in
    let mid = held c.take_way.new.atoms c.take_way.new.world.first c.take_way.new.world.second c.take_way.new.choices in
    let i = c.ways.invariant in
    let end = held c.take_way.new.atoms c.begin_way.new.world.first c.begin_way.new.world.second c.begin_way.new.choices in
    let t : IsTaken here mid c.in-Some.way = rw c.in-Some.is at c.in_ok-way.ensures.taken in
    comes_then start here end None i.over i.comes (c.in-Err.ensures.comes_err here t)

pub returns-in-Err-clause-stops : goal.returns-in-Err-clause-stops
returns-in-Err-clause-stops c =
    let start = held c.args.atoms.now c.args.world.now.first c.args.world.now.second c.args.choices.now in
    let here = held c.ways.atoms c.ways.world.first c.ways.world.second c.ways.choices in
    let mid = held c.take_way.new.atoms c.take_way.new.world.first c.take_way.new.world.second c.take_way.new.choices in
    let i = c.ways.invariant in
    let end = held c.take_way.new.atoms c.begin_way.new.world.first c.begin_way.new.world.second c.begin_way.new.choices in
    let t : IsTaken here mid c.in-Some.way = rw c.in-Some.is at c.in_ok-way.ensures.taken in
    stops_then start here c.args.world.now.first.store.pivots c.in-Err.fault i.over i.comes
    (subst (λ n. StopsOver here n c.in-Err.fault) (c.take_way.ensures.budget ∙ i.budget) (c.in-Err.ensures.stops here t))

pub returns-in-Err-clause-over : goal.returns-in-Err-clause-over
returns-in-Err-clause-over c =
    let start = held c.args.atoms.now c.args.world.now.first c.args.world.now.second c.args.choices.now in
    let here = held c.ways.atoms c.ways.world.first c.ways.world.second c.ways.choices in
    let mid = held c.take_way.new.atoms c.take_way.new.world.first c.take_way.new.world.second c.take_way.new.choices in
    let i = c.ways.invariant in
    let end = held c.take_way.new.atoms c.begin_way.new.world.first c.begin_way.new.world.second c.begin_way.new.choices in
    let t : IsTaken here mid c.in-Some.way = rw c.in-Some.is at c.in_ok-way.ensures.taken in
    stays_then start here end i.over (c.begin_way.ensures.over here t)

pub returns-in-Goes-clause-comes : goal.returns-in-Goes-clause-comes
returns-in-Goes-clause-comes c =
    let start = held c.args.atoms.now c.args.world.now.first c.args.world.now.second c.args.choices.now in
    let here = held c.ways.atoms c.ways.world.first c.ways.world.second c.ways.choices in
    let mid = held c.take_way.new.atoms c.take_way.new.world.first c.take_way.new.world.second c.take_way.new.choices in
    let i = c.ways.invariant in
    let end = held c.take_way.new.atoms c.begin_way.new.world.first c.begin_way.new.world.second c.begin_way.new.choices in
    let t : IsTaken here mid c.in-Some.way = rw c.in-Some.is at c.in_ok-way.ensures.taken in
    comes_then start here end (Some c.in-Goes.first) i.over i.comes ((rw c.in-Goes.is at c.in-Ok.ensures.comes) here t)

pub returns-in-Goes-clause-over : goal.returns-in-Goes-clause-over
returns-in-Goes-clause-over c =
    let start = held c.args.atoms.now c.args.world.now.first c.args.world.now.second c.args.choices.now in
    let here = held c.ways.atoms c.ways.world.first c.ways.world.second c.ways.choices in
    let mid = held c.take_way.new.atoms c.take_way.new.world.first c.take_way.new.world.second c.take_way.new.choices in
    let i = c.ways.invariant in
    let end = held c.take_way.new.atoms c.begin_way.new.world.first c.begin_way.new.world.second c.begin_way.new.choices in
    let t : IsTaken here mid c.in-Some.way = rw c.in-Some.is at c.in_ok-way.ensures.taken in
    stays_then start here end i.over (c.begin_way.ensures.over here t)

pub ways-preserved : goal.ways-preserved
ways-preserved c =
    let start = held c.args.atoms.now c.args.world.now.first c.args.world.now.second c.args.choices.now in
    let here = held c.ways.atoms c.ways.world.first c.ways.world.second c.ways.choices in
    let mid = held c.take_way.new.atoms c.take_way.new.world.first c.take_way.new.world.second c.take_way.new.choices in
    let i = c.ways.invariant in
    let end = held c.take_way.new.atoms c.begin_way.new.world.first c.begin_way.new.world.second c.begin_way.new.choices in
    let t : IsTaken here mid c.in-Some.way = rw c.in-Some.is at c.in_ok-way.ensures.taken in
    let fewer = (rw c.in-Pruned.is at c.in-Ok.ensures.fewer) here t in
    let over = stays_then start here end i.over (c.begin_way.ensures.over here t) in
    let comes = comes_then start here end None i.over i.comes ((rw c.in-Pruned.is at c.in-Ok.ensures.comes) here t) in
    record {
      marked = c.begin_way.ensures.marked;
      newest = fewer.ways;
      works = works_then start end over comes c.requires.works;
      known = prefix_within c.ways.atoms c.take_way.new.atoms c.in_ok-known.known c.take_way.ensures.longer i.known;
      comes = comes;
      over = over;
      longer = prefix_both c.args.atoms.now c.ways.atoms c.take_way.new.atoms i.longer c.take_way.ensures.longer;
      same = (rw c.in-Pruned.is at c.in-Ok.ensures.same) ∙ (rw c.in-Some.is at c.in_ok-way.ensures.same) ∙ i.same;
      budget = c.begin_way.ensures.budget ∙ c.take_way.ensures.budget ∙ i.budget;
    }

pub returns-in_err-known-clause-over : goal.returns-in_err-known-clause-over
returns-in_err-known-clause-over c =
    let start = held c.args.atoms.now c.args.world.now.first c.args.world.now.second c.args.choices.now in
    let first = held c.some_name.new.atoms c.args.world.now.first c.args.world.now.second c.args.choices.now in
    λ v o. over_same start first v o c.some_name.ensures.longer refl

pub returns-in-Goes-clause-no_more : goal.returns-in-Goes-clause-no_more
returns-in-Goes-clause-no_more c =
    let fewer = rw c.in-Goes.is at c.in-Ok.ensures.no_more in
    let same = rw c.in-Some.is at c.in_ok-way.ensures.same in
    omega (arith, fewer, same, c.ways.invariant.same)
