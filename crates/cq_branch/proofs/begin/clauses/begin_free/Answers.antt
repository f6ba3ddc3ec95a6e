use Rattle.std.proofs.Common.{◌<◌, ◌++◌, [], ◌∷◌, List, Ok, length, refl, sym, ap, ◌∙◌, subst, arith}
use Rattle.cq_frac.specs.declared.VarId.{VarId}
use Rattle.spec_terms.specs.Term.{named}
use Rattle.spec_terms.specs.Unifier.{HasNoUnifier}
use Rattle.cq_term.specs.Texts.{text_of}
use Rattle.cq_control.specs.Items.{items_at}
use Rattle.cq_resolve.specs.Resolved.{Resolved, call}
use Rattle.spec_engine.specs.declared.machine.cell.Cell.{Cell}
use Rattle.cq_branch.specs.Lists.{HasCells}
use Rattle.cq_branch.specs.Worlds.{with_heap}
use Rattle.cq_term.specs.HeapValue.{HeapValue}
use Rattle.cq_term.specs.Trees.{KnowsTerms}
use Rattle.cq_settle.specs.Worlds.{now_of}
use Rattle.cq_branch.specs.BeginCalls.{body_cells}
use Rattle.cq_branch.specs.declared.begin.beginning.Begun.TheVariants.{Goes}
use Rattle.cq_branch.proofs.Begins.{CallsForEach, pairs_live}
use Rattle.cq_branch.proofs.Entered.{Works, names_mid}
use Rattle.cq_branch.proofs.Free.{none_woken}
use Rattle.cq_branch.proofs.Instances.{Moves, none_comes, comes_ok}
use Rattle.cq_branch.proofs.Leading.{one_told}
use Rattle.cq_branch.proofs.Renamed.{numbered_below, renamed, with_head, head_and, pair_may, body_may, pair_none, unified, unified_names, all_equal}
use Rattle.cq_branch.proofs.begin.clauses.begin_free.Goals as goal
use Rattle.cq_branch.proofs.begin.clauses.begin_free.Goals.{After-enter}

works : (c : After-enter) → Works c.args.atoms.now (now_of c.args.world.now) c.args.clause.now c.args.goal
works c = λ st r.
    let old = c.args.world.now.heap.now in
    let kept = c.args.clause.now in
    let within = numbered_below kept c.requires.clause.numbered in
    c.equated_worlds_may_be_settled.ensures.work c.args.atoms.now (with_heap (renamed old kept) (now_of c.args.world.now)) (head_and old kept c.args.goal ∷ []) (length (with_head old kept) ∷ []) [] st r
    (pair_may old kept within c.args.goal c.look_at.ensures.told) (one_told (renamed old kept) (length (with_head old kept)) (body_may old kept within))

moves : (c : After-enter) → Moves c.args.atoms.now c.args.clause.now
moves c = (
  λ n. c.clauses_are_counted.ensures.moved c.args.atoms.now n (length c.args.atoms.now) c.args.clause.now c.requires.clause,
  c.clauses_are_counted.ensures.variables c.args.atoms.now 0 (length c.args.atoms.now) c.args.clause.now c.requires.clause,
)

pub enter-requires : goal.enter-requires
enter-requires c = subst (λ (h : HeapValue). c.args.goal < length h.now.terms) (sym c.spare_newly-newly.ensures.same) c.requires.goal

pub returns-in-Clash-clause-comes : goal.returns-in-Clash-clause-comes
returns-in-Clash-clause-comes c =
    let k = (goal.at.returns-in-Clash-clause-comes c).After-enter in
    let old = c.args.world.now.heap.now in
    let kept = c.args.clause.now in
    let within = numbered_below kept c.requires.clause.numbered in
    none_comes c.args.atoms.now (now_of c.args.world.now) kept c.requires.clause.below (moves k) c.args.goal (works k) c.args.lists.now.now c.reserve_cells.new.self.now c.args.height c.args.rest
    (with_heap c.keep_newly.new.self.now (now_of c.args.world.now))
    (λ st p w. c.equated_worlds_may_be_settled.ensures.none c.args.atoms.now (with_heap (renamed old kept) (now_of c.args.world.now)) (head_and old kept c.args.goal ∷ []) [] [] st p c.requires.different
    (names_mid c.args.atoms.now (now_of c.args.world.now) kept c.requires.clause.below c.requires.ready.0 c.requires.ready.1)
    (pairs_live (renamed old kept) (head_and old kept c.args.goal ∷ []) (pair_may old kept within c.args.goal c.look_at.ensures.told))
    (pair_none old kept c.args.goal c.requires.goal
    (subst (λ (h : HeapValue). HasNoUnifier (call h.now kept c.args.goal)) c.spare_newly-newly.ensures.same (rw c.in-Clash.is at c.in_ok-entry.ensures.clash)))
    w)

pub returns-in-Body-clause-comes : goal.returns-in-Body-clause-comes
returns-in-Body-clause-comes c =
    let k = (goal.at.returns-in-Body-clause-comes c).After-enter in
    let texts = c.args.atoms.now in
    let world = now_of c.args.world.now in
    let old = c.args.world.now.heap.now in
    let kept = c.args.clause.now in
    let mid = with_heap (renamed old kept) world in
    let h = c.keep_newly.new.self.now in
    let newly = c.enter.new.newly in
    let body = c.in-Body.body in
    let within = numbered_below kept c.requires.clause.numbered in
    let same = c.spare_newly-newly.ensures.same in
    let r = rw c.in-Body.is at c.in_ok-entry.ensures.body in
    let bound =
    subst (λ (vs : List VarId). Resolved c.spare_newly-newly.new.self.now c.enter.new.heap.now kept c.args.goal body vs)
    (sym (r.1 ∙ ap (λ (vs : List VarId). vs ++ r.0) c.spare_newly-newly.ensures.empty)) r.2 in
    let is =
    subst (λ (v : HeapValue). Resolved old v.now kept c.args.goal body newly) (sym c.keep_newly.ensures)
    (subst (λ (v : HeapValue). Resolved v.now c.enter.new.heap.now kept c.args.goal body newly) same bound) in
    let known = (rw c.in-Body.is at c.in_ok-entry.ensures.names) in
    let names : KnowsTerms texts h.terms =
    subst (λ (v : HeapValue). KnowsTerms texts v.now.terms) (sym c.keep_newly.ensures)
    (known (length texts) c.requires.clause.below (subst (λ (v : HeapValue). KnowsTerms texts v.now.terms) (sym same) c.requires.ready.1.stands.names)) in
    let each : CallsForEach texts mid (unified old kept h c.args.goal body newly is) (head_and old kept c.args.goal ∷ []) newly [] =
    (λ st p x w. c.equated_worlds_may_be_settled.ensures.each texts mid (unified old kept h c.args.goal body newly is) (head_and old kept c.args.goal ∷ []) newly [] [] st p c.requires.different x
    (all_equal old kept h c.args.goal body newly is within c.look_at.ensures.told)
    (unified_names old kept h c.args.goal body newly is (length texts) names c.requires.goal) (λ i d l. absurd (omega (arith, l))) w) in
    let later = c.body_before.new.lists.now in
    let behind = c.unwrap-behind.result in
    let after = (rw c.unwrap-behind.ensures at c.body_before.ensures.cells) in
    let cells = subst (λ (ls : List (List Cell)). HasCells later behind (body_cells (named (text_of texts) kept.body) body c.args.height (items_at ls c.args.rest))) c.reserve_cells.ensures.now after in
    let f = c.told-told.ensures.fixes in
    comes_ok texts world kept c.requires.clause.below (moves k) c.args.goal (works k) h body newly is names each c.args.lists.now.now later c.args.height c.args.rest behind cells
    [] refl [] refl (with_heap h world) later (Ok (Goes behind))
    (none_woken texts (with_heap h world) newly (rw c.in-Body.is at c.in_ok-entry.ensures.free) c.told-told.ensures.solvable f.0 f.1 later behind cells.there) tt
