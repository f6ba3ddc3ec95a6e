use Rattle.std.proofs.Common.{[], List, Ok, ap, sym, subst, length}
use Rattle.spec_linear.specs.Solution.{Constraint}
use Rattle.cq_settle.specs.Called.{SomeIsCalled}
use Rattle.cq_settle.specs.Settled.{MayRefuse, MayTake}
use Rattle.cq_settle.specs.Ready.{with_terms}
use Rattle.cq_settle.specs.Worlds.{now_of}
use Rattle.cq_branch.proofs.Begins.{CallsForEach, pairs_live, told_live, pruned_at_once, goes_ok, pruned_ok, of_each}
use Rattle.cq_branch.proofs.begin.beginning.run.Goals as goal
use Rattle.cq_branch.proofs.begin.beginning.run.Goals.{After-proceed}

pub returns-in_default-clause-pruned : goal.returns-in_default-clause-pruned
returns-in_default-clause-pruned c = λ st p r w.
    pruned_at_once st p (c.equated_worlds_may_be_settled.ensures.none c.args.atoms.now (now_of c.args.world.now) c.args.pairs.now c.args.told.items [] st p c.requires.different r.stands.names
    (pairs_live c.args.world.now.heap.now c.args.pairs.now c.requires.pairs) (c.in_ok-newly.ensures.none (ap Ok c.in_default.is)) w)

pub proceed-requires-clause-called : goal.proceed-requires-clause-called
proceed-requires-clause-called c =
    let w = now_of c.args.world.now in
    let h = c.equate.new.heap.now in
    subst (λ (rows : List Constraint). SomeIsCalled c.args.atoms.now (with_terms w h) c.in-Some.newly c.args.told.items rows) (sym c.new-rows.ensures.items)
    (c.equated_worlds_may_be_settled.ensures.called c.args.atoms.now w h c.args.pairs.now c.in-Some.newly c.args.told.items [] c.requires.different c.requires.ready
    (rw c.in-Some.is at c.in_ok-newly.ensures.equal) (c.in_ok-newly.ensures.names (length c.args.atoms.now) c.requires.ready.1.stands.names) c.requires.told)

-- settling is called for of each work
for_each : (c : After-proceed) → CallsForEach c.args.atoms.now (now_of c.args.world.now) c.equate.new.heap.now c.args.pairs.now c.in-Some.newly c.args.told.items
for_each c = λ st p r w.
    c.equated_worlds_may_be_settled.ensures.each c.args.atoms.now (now_of c.args.world.now) c.equate.new.heap.now c.args.pairs.now c.in-Some.newly c.args.told.items [] st p c.requires.different r
    (rw c.in-Some.is at c.in_ok-newly.ensures.equal) (c.in_ok-newly.ensures.names (length c.args.atoms.now) c.requires.ready.1.stands.names)
    (told_live c.args.world.now.heap.now c.args.told.items c.requires.told) w

pub returns-clause-goes : goal.returns-clause-goes
returns-clause-goes c =
    goes_ok c.args.atoms.now (now_of c.args.world.now) c.equate.new.heap.now c.args.pairs.now c.in-Some.newly c.args.told.items (rw c.in-Some.is at c.in_ok-newly.ensures.equal) (for_each c)
    c.new-rows.result.items c.new-rows.ensures.items (now_of c.proceed.new.world) c.args.lists.now.now c.proceed.new.lists.now c.args.rest c.proceed.result c.proceed.ensures.goes

pub returns-clause-pruned : goal.returns-clause-pruned
returns-clause-pruned c =
    pruned_ok c.args.atoms.now (now_of c.args.world.now) c.equate.new.heap.now c.args.pairs.now c.in-Some.newly c.args.told.items (rw c.in-Some.is at c.in_ok-newly.ensures.equal) (for_each c)
    c.new-rows.result.items c.new-rows.ensures.items c.proceed.result c.proceed.ensures.pruned

pub returns-clause-overflow : goal.returns-clause-overflow
returns-clause-overflow c = λ pair e.
    of_each c.args.atoms.now (now_of c.args.world.now) c.equate.new.heap.now c.args.pairs.now c.in-Some.newly c.args.told.items (rw c.in-Some.is at c.in_ok-newly.ensures.equal) (for_each c)
    c.new-rows.result.items c.new-rows.ensures.items (λ st p. MayRefuse st p pair) (c.proceed.ensures.overflow pair e)

pub returns-clause-pivots : goal.returns-clause-pivots
returns-clause-pivots c = λ n e.
    let o = c.proceed.ensures.pivots n e in (
      o.0,
      of_each c.args.atoms.now (now_of c.args.world.now) c.equate.new.heap.now c.args.pairs.now c.in-Some.newly c.args.told.items (rw c.in-Some.is at c.in_ok-newly.ensures.equal) (for_each c)
          c.new-rows.result.items c.new-rows.ensures.items (λ st p. MayTake st p n) o.1,
    )
