use Rattle.std.proofs.Common.{Some, sym, ap, ◌∙◌}
use Rattle.cq_resolve.specs.StoredValue.{ClauseValue}
use Rattle.cq_term.specs.Meaning.{at}
use Rattle.cq_calls.specs.Calling.{numbers_left}
use Rattle.cq_calls.specs.Matching.{all}
use Rattle.cq_calls.proofs.Narrowing.{asked_apart, one_less}
use Rattle.cq_calls.proofs.calling.next_clause.Goals as goal

pub clauses-init : goal.clauses-init
clauses-init c = record { passed = all; opened = c.requires.walk; behind = c.requires.behind; known = c.requires.known; next = c.requires.next }

pub returns-in_default-clause-passed : goal.returns-in_default-clause-passed
returns-in_default-clause-passed c =
    let v = c.args.clauses.now in
    let term = at c.args.heap.now.now.terms c.args.goal in
    one_less v term (numbers_left v c.args.walk.now) (numbers_left v c.clauses.walk) (numbers_left v c.clauses.behind) c.clauses.number c.clauses.invariant.passed c.clauses.invariant.next
    (asked_apart v term c.clauses.number c.clause.result.now (c.content.ensures ∙ ap (λ (x : ClauseValue). Some x) (sym c.clause.ensures)) (c.may_match.ensures c.if-may_match.false)
    c.clauses.invariant.known)

pub clauses-preserved : goal.clauses-preserved
clauses-preserved c =
    let v = c.args.clauses.now in
    let term = at c.args.heap.now.now.terms c.args.goal in
    let apart =
    asked_apart v term c.clauses.number c.clause.result.now (c.content.ensures ∙ ap (λ (x : ClauseValue). Some x) (sym c.clause.ensures)) (c.may_match.ensures c.if-may_match.false)
    c.clauses.invariant.known in
    record {
      passed = one_less v term (numbers_left v c.args.walk.now) (numbers_left v c.clauses.walk) (numbers_left v c.clauses.behind) c.clauses.number c.clauses.invariant.passed
          c.clauses.invariant.next apart;
      opened = c.clauses.invariant.behind;
      behind = c.in-Some.ensures.opened;
      known = c.in-Some.ensures.known;
      next = c.in-Some.ensures.some;
    }
