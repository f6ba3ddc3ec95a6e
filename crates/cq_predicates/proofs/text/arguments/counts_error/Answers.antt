use Rattle.std.proofs.Common.{◌∙◌, rules}
use Rattle.cq_predicates.specs.Arguments.{other_integer_tests}
use Rattle.cq_predicates.proofs.Asked.{if_some}
use Rattle.cq_predicates.proofs.text.arguments.counts_error.Goals as goal

pub returns-in-Some-clause-some : goal.returns-in-Some-clause-some
returns-in-Some-clause-some c = λ texts rest.
    let ts = c.args.heap.now.now.terms in
    c.in-Some.ensures.some texts (other_integer_tests ts c.args.args.now.len texts (other_integer_tests ts c.args.args.now.after texts rest))

pub returns-in-Some-other_integer_error-clause-some : goal.returns-in-Some-other_integer_error-clause-some
returns-in-Some-other_integer_error-clause-some c = λ texts rest.
    let ts = c.args.heap.now.now.terms in
    let last = other_integer_tests ts c.args.args.now.after texts rest in
    let h = c.in-Some-other_integer_error.ensures.some texts last in
    (c.in_default.ensures.none (search rules) texts (other_integer_tests ts c.args.args.now.len texts last) ∙ h.0, h.1)

pub returns-clause-some : goal.returns-clause-some
returns-clause-some c = if_some c.other_integer_error-3.result c.other_integer_error-3.ensures.some (λ e refused. λ texts rest.
    (let ts = c.args.heap.now.now.terms in
    let last = other_integer_tests ts c.args.args.now.after texts rest in
    let h = refused texts rest in (
      c.in_default.ensures.none (search rules) texts (other_integer_tests ts c.args.args.now.len texts last)
          ∙ c.in_default-other_integer_error.ensures.none (search rules) texts last ∙ h.0,
      h.1,
    )))
