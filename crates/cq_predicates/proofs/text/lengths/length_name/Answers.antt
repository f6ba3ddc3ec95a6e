use Rattle.std.proofs.Common.{◌∙◌}
use Rattle.spec_builtins.specs.Errors.{domain_error}
use Rattle.spec_builtins.specs.Kinds.{is_below_zero}
use Rattle.spec_builtins.specs.Alternatives.{faults_if}
use Rattle.cq_term.specs.Trees.{tree}
use Rattle.cq_predicates.specs.Arguments.{other_integer_tests}
use Rattle.cq_predicates.proofs.Asked.{atom_passes}
use Rattle.cq_predicates.proofs.text.lengths.length_name.Goals as goal

pub returns-in-Err-clause-err : goal.returns-in-Err-clause-err
returns-in-Err-clause-err c = λ texts rest.
    let ts = c.args.heap.now.now.terms in
    let last = faults_if (is_below_zero (tree texts ts c.args.len)) (domain_error "not_less_than_zero" (tree texts ts c.args.len)) rest in
    c.in-Err.ensures.err texts (other_integer_tests ts c.args.len texts last)

pub returns-in-Some-clause-err : goal.returns-in-Some-clause-err
returns-in-Some-clause-err c = λ texts rest.
    let ts = c.args.heap.now.now.terms in
    let last = faults_if (is_below_zero (tree texts ts c.args.len)) (domain_error "not_less_than_zero" (tree texts ts c.args.len)) rest in
    let h = c.in-Some.ensures.some texts last in
    (atom_passes texts ts c.args.text c.in-Ok.name c.in-Ok.ensures.ok (other_integer_tests ts c.args.len texts last) ∙ h.0, h.1)
