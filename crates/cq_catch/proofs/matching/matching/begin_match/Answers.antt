use Rattle.std.proofs.Common.{[], ◌∷◌, ℕ, List, length, map, ap, ◌∙◌, arith}
use Rattle.std.specs.List.{zip}
use Rattle.spec_branch.specs.Branch.{State}
use Rattle.spec_search.specs.Replies.{with_new}
use Rattle.cq_store.specs.StoreValue.{kept}
use Rattle.cq_settle.specs.Equal.{IsWork, work_of}
use Rattle.cq_settle.specs.Settled.{MayRefuse, MayTake}
use Rattle.cq_branch.specs.Worlds.{with_heap}
use Rattle.cq_term.specs.HeapValue.{Terms}
use Rattle.cq_term.specs.Trees.{KnowsTerms}
use Rattle.cq_settle.specs.Contents.{contents_of}
use Rattle.cq_settle.specs.Rest.{IsReadyAs}
use Rattle.cq_settle.specs.Worlds.{now_of, saved_of}
use Rattle.cq_branch.proofs.Newer.{ready_more}
use Rattle.cq_catch.proofs.Ruled.{Moves, pairs, of_match, goes_ok, pruned_ok}
use Rattle.cq_catch.proofs.matching.matching.begin_match.Goals as goal
use Rattle.cq_catch.proofs.matching.matching.begin_match.Goals.{After-begin}

pub begin-requires-clause-ready : goal.begin-requires-clause-ready
begin-requires-clause-ready c =
    let r = c.requires.ready in
    let e = c.in_ok-there.ensures in (
      with_new c.args.clause.now.variables r.0,
      ready_more c.args.atoms.now (now_of c.args.world.now) c.rule_of.new.heap.now c.args.clause.now.variables e.terms e.images
          (e.names (length c.args.atoms.now) c.requires.clause.below r.1.stands.names) r.0 r.1,
    )

names : (c : After-begin) → KnowsTerms c.args.atoms.now c.rule_of.new.heap.now.terms
names c = c.in_ok-there.ensures.names (length c.args.atoms.now) c.requires.clause.below c.requires.ready.1.stands.names

moves : (c : After-begin) → Moves c.args.atoms.now c.args.clause.now
moves c = (
  λ n. c.clauses_are_counted.ensures.moved c.args.atoms.now n (length c.args.atoms.now) c.args.clause.now c.requires.clause,
  c.clauses_are_counted.ensures.variables c.args.atoms.now 0 (length c.args.atoms.now) c.args.clause.now c.requires.clause,
)

-- the two terms as they read are the work
works : (c : After-begin) (st : State) → IsReadyAs c.args.atoms.now (with_heap c.rule_of.new.heap.now (now_of c.args.world.now)) st
    → IsWork c.args.atoms.now (with_heap c.rule_of.new.heap.now (now_of c.args.world.now)) st (record { left = c.args.asked; right = c.in_ok-there.there } ∷ []) [] []
    (work_of c.args.atoms.now (with_heap c.rule_of.new.heap.now (now_of c.args.world.now)) (record { left = c.args.asked; right = c.in_ok-there.there } ∷ []) [] [])
works c st r =
    c.equated_worlds_may_be_settled.ensures.work c.args.atoms.now (with_heap c.rule_of.new.heap.now (now_of c.args.world.now)) (record { left = c.args.asked; right = c.in_ok-there.there } ∷ []) [] [] st r
    c.look_at_pairs.ensures.equal (λ i d l. absurd (omega (arith, l)))

pub returns-clause-goes : goal.returns-clause-goes
returns-clause-goes c =
    goes_ok c.args.atoms.now (now_of c.args.world.now) c.rule_of.new.heap.now c.args.clause.now c.args.asked c.in_ok-there.there c.in_ok-there.ensures.terms c.in_ok-there.ensures.images (names c)
    (moves c) (λ a e. c.in_ok-there.ensures.reads c.args.atoms.now a e) (works c) c.args.lists.now.now c.args.rest c.new-told.result.items c.new-told.ensures.items
    (now_of c.begin.new.world) c.begin.new.lists.now c.begin.result c.begin.ensures.goes

pub returns-clause-pruned : goal.returns-clause-pruned
returns-clause-pruned c =
    pruned_ok c.args.atoms.now (now_of c.args.world.now) c.rule_of.new.heap.now c.args.clause.now c.args.asked c.in_ok-there.there c.in_ok-there.ensures.terms c.in_ok-there.ensures.images (names c)
    (moves c) (λ a e. c.in_ok-there.ensures.reads c.args.atoms.now a e) (works c) c.args.lists.now.now c.args.rest c.new-told.result.items c.new-told.ensures.items
    c.begin.result c.begin.ensures.pruned

pub returns-clause-overflow : goal.returns-clause-overflow
returns-clause-overflow c = λ pair e.
    of_match c.args.atoms.now (now_of c.args.world.now) c.rule_of.new.heap.now c.args.clause.now c.args.asked c.in_ok-there.there c.in_ok-there.ensures.terms c.in_ok-there.ensures.images (names c)
    (moves c) (λ a f. c.in_ok-there.ensures.reads c.args.atoms.now a f) (works c) c.args.lists.now.now c.args.rest c.new-told.result.items c.new-told.ensures.items
    (λ st p. MayRefuse st p pair) (c.begin.ensures.overflow pair e)

pub returns-clause-pivots : goal.returns-clause-pivots
returns-clause-pivots c = λ n e.
    let o = c.begin.ensures.pivots n e in (
      o.0,
      of_match c.args.atoms.now (now_of c.args.world.now) c.rule_of.new.heap.now c.args.clause.now c.args.asked c.in_ok-there.there c.in_ok-there.ensures.terms c.in_ok-there.ensures.images
          (names c) (moves c) (λ a f. c.in_ok-there.ensures.reads c.args.atoms.now a f) (works c) c.args.lists.now.now c.args.rest c.new-told.result.items c.new-told.ensures.items
          (λ st p. MayTake st p n) o.1,
    )

pub returns-clause-saved : goal.returns-clause-saved
returns-clause-saved c =
    let w = c.args.world.now in
    c.begin.ensures.saved
    ∙ ap (λ (hs : List Terms). map contents_of (zip hs (zip w.attrs.saved (map (kept w.store.pivots) w.store.saved)))) c.in_ok-there.ensures.saved
