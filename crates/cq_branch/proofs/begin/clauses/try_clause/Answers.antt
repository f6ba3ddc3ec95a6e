use Rattle.std.proofs.Common.{◌++◌, [], ◌∷◌, ℕ, List, Ok, length, refl, sym, ap, ◌∙◌, subst, arith}
use Rattle.spec_linear.specs.Solution.{Constraint}
use Rattle.cq_frac.specs.declared.VarId.{VarId}
use Rattle.cq_resolve.specs.Resolved.{Resolved}
use Rattle.cq_settle.specs.Called.{SomeIsCalled}
use Rattle.cq_settle.specs.Settled.{MayRefuse, MayTake}
use Rattle.cq_settle.specs.Equal.{work_of}
use Rattle.spec_search.specs.Replies.{with_new}
use Rattle.cq_branch.specs.Worlds.{with_heap}
use Rattle.cq_term.specs.Trees.{KnowsTerms}
use Rattle.cq_settle.specs.Worlds.{now_of}
use Rattle.cq_branch.proofs.Begins.{CallsForEach, pairs_live}
use Rattle.cq_branch.proofs.Entered.{Works, names_mid, ready_mid, some_entered}
use Rattle.cq_branch.proofs.Instances.{Moves, none_comes, of_clause, comes_ok}
use Rattle.cq_branch.proofs.Leading.{none_told, one_told}
use Rattle.cq_branch.proofs.Renamed.{numbered_below, renamed, with_head, head_and, pair_may, body_may, pair_none, unified, unified_names, all_equal}
use Rattle.cq_branch.proofs.begin.clauses.try_clause.Goals as goal
use Rattle.cq_branch.proofs.begin.clauses.try_clause.Goals.{After-proceed, After-resolve}

pub body_before-requires-clause-names : goal.body_before-requires-clause-names
body_before-requires-clause-names c = c.requires.clause.below.body

works : (c : After-resolve) → Works c.args.atoms.now (now_of c.args.world.now) c.args.clause.now c.args.goal
works c = λ st r.
    let old = c.args.world.now.heap.now in
    let kept = c.args.clause.now in
    let within = numbered_below kept c.requires.clause.numbered in
    c.equated_worlds_may_be_settled.ensures.work c.args.atoms.now (with_heap (renamed old kept) (now_of c.args.world.now)) (head_and old kept c.args.goal ∷ []) (length (with_head old kept) ∷ []) [] st r
    (pair_may old kept within c.args.goal c.look_at.ensures.told) (one_told (renamed old kept) (length (with_head old kept)) (body_may old kept within))

moves : (c : After-resolve) → Moves c.args.atoms.now c.args.clause.now
moves c = (
  λ n. c.clauses_are_counted.ensures.moved c.args.atoms.now n (length c.args.atoms.now) c.args.clause.now c.requires.clause,
  c.clauses_are_counted.ensures.variables c.args.atoms.now 0 (length c.args.atoms.now) c.args.clause.now c.requires.clause,
)

pub returns-in_default-clause-comes : goal.returns-in_default-clause-comes
returns-in_default-clause-comes c =
    let k = (goal.at.returns-in_default-clause-comes c).After-resolve in
    let old = c.args.world.now.heap.now in
    let kept = c.args.clause.now in
    let within = numbered_below kept c.requires.clause.numbered in
    none_comes c.args.atoms.now (now_of c.args.world.now) kept c.requires.clause.below (moves k) c.args.goal (works k) c.args.lists.now.now c.args.lists.now.now c.args.height c.args.rest
    (with_heap c.resolve.new.heap.now (now_of c.args.world.now))
    (λ st p w. c.equated_worlds_may_be_settled.ensures.none c.args.atoms.now (with_heap (renamed old kept) (now_of c.args.world.now)) (head_and old kept c.args.goal ∷ []) [] [] st p c.requires.different
    (names_mid c.args.atoms.now (now_of c.args.world.now) kept c.requires.clause.below c.requires.ready.0 c.requires.ready.1)
    (pairs_live (renamed old kept) (head_and old kept c.args.goal ∷ []) (pair_may old kept within c.args.goal c.look_at.ensures.told))
    (pair_none old kept c.args.goal c.requires.goal (c.in_ok-body.ensures.none (ap Ok c.in_default.is))) w)

-- the goal was resolved, with these variables bound
resolved : (c : After-proceed) → Resolved c.args.world.now.heap.now c.resolve.new.heap.now c.args.clause.now c.args.goal c.in-Some.body c.resolve.new.newly
resolved c =
    let r = c.in_ok-body.ensures.resolved c.in-Some.body (ap Ok c.in-Some.is) in
    subst (λ (vs : List VarId). Resolved c.args.world.now.heap.now c.resolve.new.heap.now c.args.clause.now c.args.goal c.in-Some.body vs)
    (sym (r.1 ∙ ap (λ (vs : List VarId). vs ++ r.0) c.new-newly.ensures)) r.2

names : (c : After-proceed) → KnowsTerms c.args.atoms.now c.resolve.new.heap.now.terms
names c = c.resolve.ensures.names (length c.args.atoms.now) c.requires.clause.below c.requires.ready.1.stands.names

each : (c : After-proceed) → CallsForEach c.args.atoms.now (with_heap (renamed c.args.world.now.heap.now c.args.clause.now) (now_of c.args.world.now))
    (unified c.args.world.now.heap.now c.args.clause.now c.resolve.new.heap.now c.args.goal c.in-Some.body c.resolve.new.newly (resolved c))
    (head_and c.args.world.now.heap.now c.args.clause.now c.args.goal ∷ []) c.resolve.new.newly []
each c = λ st p r w.
    let old = c.args.world.now.heap.now in
    let kept = c.args.clause.now in
    let h = c.resolve.new.heap.now in
    c.equated_worlds_may_be_settled.ensures.each c.args.atoms.now (with_heap (renamed old kept) (now_of c.args.world.now))
    (unified old kept h c.args.goal c.in-Some.body c.resolve.new.newly (resolved c)) (head_and old kept c.args.goal ∷ []) c.resolve.new.newly [] [] st p c.requires.different r
    (all_equal old kept h c.args.goal c.in-Some.body c.resolve.new.newly (resolved c) (numbered_below kept c.requires.clause.numbered) c.look_at.ensures.told)
    (unified_names old kept h c.args.goal c.in-Some.body c.resolve.new.newly (resolved c) (length c.args.atoms.now) (names c) c.requires.goal)
    (λ i d l. absurd (omega (arith, l))) w

pub proceed-requires-clause-called : goal.proceed-requires-clause-called
proceed-requires-clause-called c =
    let old = c.args.world.now.heap.now in
    let kept = c.args.clause.now in
    let h = c.resolve.new.heap.now in
    let texts = c.args.atoms.now in
    let world = now_of c.args.world.now in
    let mid = with_heap (renamed old kept) world in
    let within = numbered_below kept c.requires.clause.numbered in
    let pairs = head_and old kept c.args.goal ∷ [] in
    let may = pair_may old kept within c.args.goal c.look_at.ensures.told in
    let r = c.in_ok-body.ensures.resolved c.in-Some.body (ap Ok c.in-Some.is) in
    let is = subst (λ (vs : List VarId). Resolved old h kept c.args.goal c.in-Some.body vs) (sym (r.1 ∙ ap (λ (vs : List VarId). vs ++ r.0) c.new-newly.ensures)) r.2 in
    let names = c.resolve.ensures.names (length texts) c.requires.clause.below c.requires.ready.1.stands.names in
    let none = none_told (renamed old kept) [] refl in
    let ready = ready_mid texts world kept c.requires.clause.below c.requires.ready.0 c.requires.ready.1 in
    subst (λ (ids : List ℕ). SomeIsCalled texts (with_heap h world) c.resolve.new.newly ids c.new-rows.result.items) (sym c.new-told.ensures.items)
    (subst (λ (rows : List Constraint). SomeIsCalled texts (with_heap h world) c.resolve.new.newly [] rows) (sym c.new-rows.ensures.items)
    (some_entered texts world kept c.requires.clause.below h c.args.goal c.in-Some.body c.resolve.new.newly is names
    (λ st p x w. c.equated_worlds_may_be_settled.ensures.each texts mid (unified old kept h c.args.goal c.in-Some.body c.resolve.new.newly is) pairs c.resolve.new.newly [] [] st p c.requires.different x
    (all_equal old kept h c.args.goal c.in-Some.body c.resolve.new.newly is within c.look_at.ensures.told)
    (unified_names old kept h c.args.goal c.in-Some.body c.resolve.new.newly is (length texts) names c.requires.goal) (λ i d l. absurd (omega (arith, l))) w)
    c.requires.ready.0 c.requires.ready.1 (work_of texts mid pairs [] [])
    (c.equated_worlds_may_be_settled.ensures.work texts mid pairs [] [] (with_new kept.variables c.requires.ready.0) ready may none)))

pub returns-clause-comes : goal.returns-clause-comes
returns-clause-comes c =
    let k = (goal.at.returns-clause-comes c).After-proceed in
    let j = (goal.at.returns-clause-comes c).After-resolve in
    comes_ok c.args.atoms.now (now_of c.args.world.now) c.args.clause.now c.requires.clause.below (moves j) c.args.goal (works j) c.resolve.new.heap.now c.in-Some.body c.resolve.new.newly
    (resolved k) (names k) (each k) c.args.lists.now.now c.body_before.new.lists.now c.args.height c.args.rest c.in_ok-behind.behind c.in_ok-behind.ensures.cells
    c.new-told.result.items c.new-told.ensures.items c.new-rows.result.items c.new-rows.ensures.items (now_of c.proceed.new.world) c.proceed.new.lists.now c.proceed.result
    c.proceed.ensures.goes c.proceed.ensures.pruned

pub returns-clause-overflow : goal.returns-clause-overflow
returns-clause-overflow c = λ two x.
    let k = (goal.at.returns-clause-overflow c).After-proceed in
    let j = (goal.at.returns-clause-overflow c).After-resolve in
    of_clause c.args.atoms.now (now_of c.args.world.now) c.args.clause.now c.requires.clause.below (moves j) c.args.goal (works j) c.resolve.new.heap.now c.in-Some.body c.resolve.new.newly
    (resolved k) (names k) (each k) c.args.lists.now.now c.body_before.new.lists.now c.args.height c.args.rest c.in_ok-behind.behind c.in_ok-behind.ensures.cells
    c.new-told.result.items c.new-told.ensures.items c.new-rows.result.items c.new-rows.ensures.items (λ st p. MayRefuse st p two) (c.proceed.ensures.overflow two x)

pub returns-clause-pivots : goal.returns-clause-pivots
returns-clause-pivots c = λ n x.
    let k = (goal.at.returns-clause-pivots c).After-proceed in
    let j = (goal.at.returns-clause-pivots c).After-resolve in
    let o = c.proceed.ensures.pivots n x in (
      o.0,
      of_clause c.args.atoms.now (now_of c.args.world.now) c.args.clause.now c.requires.clause.below (moves j) c.args.goal (works j) c.resolve.new.heap.now c.in-Some.body c.resolve.new.newly
          (resolved k) (names k) (each k) c.args.lists.now.now c.body_before.new.lists.now c.args.height c.args.rest c.in_ok-behind.behind c.in_ok-behind.ensures.cells
          c.new-told.result.items c.new-told.ensures.items c.new-rows.result.items c.new-rows.ensures.items (λ st p. MayTake st p n) o.1,
    )
