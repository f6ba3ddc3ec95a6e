use Rattle.std.proofs.Common.{length, Some, sym, ap, subst, ◌∙◌, arith}
use Rattle.cq_resolve.specs.StoredValue.{ClauseValue}
use Rattle.cq_term.specs.Meaning.{at}
use Rattle.cq_calls.specs.Calling.{numbers_left}
use Rattle.cq_calls.specs.Matching.{Narrows, all}
use Rattle.cq_calls.proofs.Narrowing.{asked_apart, first_stepped, none_first, one_less}
use Rattle.cq_calls.proofs.calling.may_follow.Goals as goal

pub clauses-init : goal.clauses-init
clauses-init c = record { passed = all; opened = c.requires.walk }

pub returns-in_default : goal.returns-in_default
returns-in_default c = λ no.
    let v = c.args.clauses.now in
    let none = none_first (numbers_left v c.clauses.left) c.in_default.ensures.first in
    subst (Narrows v (at c.args.heap.now.now.terms c.args.goal) (numbers_left v c.args.walk)) none c.clauses.invariant.passed

pub clauses-smaller : goal.clauses-smaller
clauses-smaller c =
    let v = c.args.clauses.now in
    let left =
    first_stepped c.step.result (numbers_left v c.clauses.left) (numbers_left v c.step.new.walk) c.in-Some.number c.step.ensures.none c.step.ensures.some (sym c.in-Some.ensures.first) in
    omega (arith, ap length left)

pub clauses-preserved : goal.clauses-preserved
clauses-preserved c =
    let v = c.args.clauses.now in
    let term = at c.args.heap.now.now.terms c.args.goal in
    let left =
    first_stepped c.step.result (numbers_left v c.clauses.left) (numbers_left v c.step.new.walk) c.in-Some.number c.step.ensures.none c.step.ensures.some (sym c.in-Some.ensures.first) in
    let apart =
    asked_apart v term c.in-Some.number c.clause.result.now (c.content.ensures ∙ ap (λ (x : ClauseValue). Some x) (sym c.clause.ensures)) (c.may_match.ensures c.if-may_match.false)
    c.in-Some.ensures.known in
    record {
      passed = one_less v term (numbers_left v c.args.walk) (numbers_left v c.clauses.left) (numbers_left v c.step.new.walk) c.in-Some.number c.clauses.invariant.passed left apart;
      opened = c.step.ensures.opened;
    }
