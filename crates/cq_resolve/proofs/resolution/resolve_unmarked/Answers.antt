use Rattle.std.proofs.Common.{◌≡◌, ◌+◌, ◌-◌, ◌∷◌, [], ℕ, map, sym, subst, arith, true, false}
use Rattle.spec_terms.specs.Unifier.{HasNoUnifier}
use Rattle.cq_term.specs.Names.{HasNamesBelow}
use Rattle.cq_resolve.specs.StoredValue.{ClauseValue}
use Rattle.cq_resolve.specs.Pattern.{IsPattern, term_of}
use Rattle.cq_resolve.specs.Marks.{shown}
use Rattle.cq_resolve.proofs.StoredNamed.{named_pattern}
use Rattle.cq_resolve.specs.Matching.{Call, Walked}
use Rattle.cq_resolve.specs.Resolved.{Resolved, call}
use Rattle.cq_resolve.proofs.Started.{ok_is, ok_some, the_call, walked_start, resolved_end, all_there}
use Rattle.cq_resolve.proofs.resolution.resolve_unmarked.Goals as goal
use Rattle.cq_resolve.proofs.resolution.resolve_unmarked.Goals.{After-head}

abbrev the_call_of : After-head → Call
the_call_of c = the_call c.args.heap.now.now c.variables-count.result (map shown c.head.result.now) c.args.goal c.args.newly.now

pattern : (c : After-head) → IsPattern c.variables-count.result (map shown c.head.result.now)
pattern c = subst (λ (n : ℕ). IsPattern n (map shown c.head.result.now)) (sym c.variables-count.ensures) c.head.ensures.pattern

start : (c : After-head) → Walked (the_call_of c) (map shown c.head.result.now) c.variables-first.result c.args.heap.now.now c.args.newly.now 0 0 (c.args.goal ∷ [])
start c =
    walked_start c.args.heap.now.now c.variables-count.result (map shown c.head.result.now) c.args.goal c.args.newly.now c.variables-first.result
    (pattern c) (omega arith) c.variables-first.ensures (omega (arith, c.variables-first.ensures)) c.requires (c.variables_are_unbound.ensures c.args.goal)

pub match_head-requires-clause-walk : goal.match_head-requires-clause-walk
match_head-requires-clause-walk c = (let k = (goal.at.match_head-requires-clause-walk c).After-head in (the_call_of k, start k))

pub overflow_sub-met : goal.overflow_sub-met
overflow_sub-met c =
    let k = (goal.at.overflow_sub-met c).After-head in
    let m = c.in_ok-match_head.ensures.matched (ok_is c.in_ok-match_head.field-0 true c.if-branch.true) (the_call_of k) (start k) in
    omega (arith, c.variables.ensures, c.variables-first.ensures, m.2.made)

pub overflow_sub-count : goal.overflow_sub-count
overflow_sub-count c =
    let k = (goal.at.overflow_sub-count c).After-head in
    let m = c.in_ok-match_head.ensures.matched (ok_is c.in_ok-match_head.field-0 true c.if-branch.true) (the_call_of k) (start k) in
    omega (arith, c.variables.ensures, c.variables-first.ensures, m.2.made, m.2.some)

pub build-requires : goal.build-requires
build-requires c =
    let k = (goal.at.build-requires c).After-head in
    let m = c.in_ok-match_head.ensures.matched (ok_is c.in_ok-match_head.field-0 true c.if-branch.true) (the_call_of k) (start k) in
    let rest : m.1 + (c.variables-count.result - (c.variables.result - c.variables-first.result)) ≡ c.variables-count.result = omega (arith, c.variables.ensures, c.variables-first.ensures, m.2.made, m.2.some) in (
      c.variables-count.result,
      subst (λ (n : ℕ). IsPattern n (map shown c.body.result.now)) (sym c.variables-count.ensures) c.body.ensures.pattern,
      all_there c.args.heap.now.now c.variables-count.result (map shown c.head.result.now) c.args.goal c.args.newly.now c.variables-first.result c.match_head.new.heap.now c.match_head.new.newly m.0 m.1 m.2
          (c.variables-count.result - (c.variables.result - c.variables-first.result)) rest c.new_variables.new.heap.now c.new_variables.ensures.terms c.in_ok-new_variables.ensures.images
          c.in_ok-new_variables.field-0 c.in_ok-new_variables.ensures.first c.in_ok-new_variables.ensures.there,
    )

pub returns-in_ok-body-clause-resolved : goal.returns-in_ok-body-clause-resolved
returns-in_ok-body-clause-resolved c = λ body e.
    let k = (goal.at.returns-in_ok-body-clause-resolved c).After-head in
    let m = c.in_ok-match_head.ensures.matched (ok_is c.in_ok-match_head.field-0 true c.if-branch.true) (the_call_of k) (start k) in
    let rest : m.1 + (c.variables-count.result - (c.variables.result - c.variables-first.result)) ≡ c.variables-count.result = omega (arith, c.variables.ensures, c.variables-first.ensures, m.2.made, m.2.some) in
    let old = c.args.heap.now.now in
    let new = c.build.new.heap.now in
    let count = c.variables-count.result in
    let bs = (map shown c.body.result.now) in
    let end = resolved_end old count (map shown c.head.result.now) c.args.goal c.args.newly.now c.variables-first.result c.match_head.new.heap.now c.match_head.new.newly m.0 m.1 m.2
    (count - (c.variables.result - c.variables-first.result)) rest c.new_variables.new.heap.now c.new_variables.ensures.terms c.in_ok-new_variables.ensures.images
    new bs c.in_ok-body.body (subst (λ (n : ℕ). IsPattern n bs) (sym c.variables-count.ensures) c.body.ensures.pattern)
    c.in_ok-body.ensures.terms c.in_ok-body.ensures.images c.in_ok-body.ensures.live c.in_ok-body.ensures.built in
    let kept : ◌≡◌ {A = ClauseValue} (record { head = term_of (map shown c.head.result.now); body = term_of bs; variables = count }) c.args.clause.now =
    (λ i. record { head = c.head.ensures.term i; body = c.body.ensures.term i; variables = c.variables-count.ensures i }) in
    (m.2.matching.told, m.2.matching.listed, subst (λ (b : ℕ). Resolved old new c.args.clause.now c.args.goal b m.2.matching.told) (ok_some c.in_ok-body.body body e) (subst (λ (v : ClauseValue). Resolved old new v c.args.goal c.in_ok-body.body m.2.matching.told) kept end))

pub returns-in_ok-body-clause-names : goal.returns-in_ok-body-clause-names
returns-in_ok-body-clause-names c = λ body e n h all.
    let k = (goal.at.returns-in_ok-body-clause-names c).After-head in
    let in_head = named_pattern n c.variables-count.result (map shown c.head.result.now) (pattern k) (subst (HasNamesBelow n) (sym c.head.ensures.term) h.head) in
    let in_body = named_pattern n c.args.clause.now.variables (map shown c.body.result.now) c.body.ensures.pattern (subst (HasNamesBelow n) (sym c.body.ensures.term) h.body) in
    c.in_ok-body.ensures.names n in_body (c.new_variables.ensures.names n (c.in_ok-match_head.ensures.names n in_head all))

pub returns-else-branch-clause-none : goal.returns-else-branch-clause-none
returns-else-branch-clause-none c = λ e.
    let k = (goal.at.returns-else-branch-clause-none c).After-head in
    let none = c.in_ok-match_head.ensures.none (ok_is c.in_ok-match_head.field-0 false c.if-branch.false) (the_call_of k) (start k) in
    let kept : ◌≡◌ {A = ClauseValue} (record { head = term_of (map shown c.head.result.now); body = c.args.clause.now.body; variables = c.args.clause.now.variables }) c.args.clause.now =
    (λ i. record { head = c.head.ensures.term i; body = c.args.clause.now.body; variables = c.args.clause.now.variables }) in
    subst (λ (v : ClauseValue). HasNoUnifier (call c.args.heap.now.now v c.args.goal)) kept none
