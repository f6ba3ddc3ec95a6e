use Rattle.std.proofs.Common.{◌≡◌, ◌<◌, ◌∙◌, true, false, is_some, length, sym, subst, ap, arith}
use Rattle.spec_terms.specs.Term.{Compound, one, more, size}
use Rattle.spec_branch.specs.Checks.{expression_error}
use Rattle.spec_branch.specs.Expressions.{binary_name}
use Rattle.cq_term.specs.Texts.{text_of}
use Rattle.cq_term.specs.Meaning.{at}
use Rattle.cq_term.specs.Shown.{arguments}
use Rattle.cq_term.specs.Trees.{tree}
use Rattle.cq_term.proofs.Arguments.{both_arguments}
use Rattle.cq_goals.proofs.Steps.{has_two, two_arguments}
use Rattle.cq_built.specs.Faults.{IsFound}
use Rattle.cq_goals.specs.declared.checks.Part.TheVariants as part
use Rattle.cq_goals.proofs.Heads.{not_two, two_expression}
use Rattle.cq_goals.proofs.Checking.{goes_to_both}
use Rattle.cq_goals.proofs.checks.look_at_binary.Goals as goal

pub returns-then-not-is_binary_expression-clause-fault : goal.returns-then-not-is_binary_expression-clause-fault
returns-then-not-is_binary_expression-clause-fault c =
    let texts = c.args.atoms.now in
    let ts = c.args.heap.now.now.terms in
    let k = both_arguments (at ts c.args.id) c.args.name c.requires.shown in
    subst (IsFound texts ts (expression_error (tree texts ts c.args.id))) (sym c.not_evaluable.ensures)
    (not_two (text_of texts) (at ts c.args.id) k.0 k.1 c.args.name k.2
    (ap (λ x. is_some (binary_name x)) (sym c.text.ensures.value) ∙ sym c.is_binary_expression.ensures ∙ c.if-not-is_binary_expression.true))

pub arg-left-requires-clause-within : goal.arg-left-requires-clause-within
arg-left-requires-clause-within c =
    let two : 1 < length (arguments (at c.args.heap.now.now.terms c.args.id)) = has_two (at c.args.heap.now.now.terms c.args.id) c.args.name c.requires.shown in
    omega (arith, two)

pub arg-right-requires-clause-within : goal.arg-right-requires-clause-within
arg-right-requires-clause-within c = has_two (at c.args.heap.now.now.terms c.args.id) c.args.name c.requires.shown

pub returns-clause-goes_on : goal.returns-clause-goes_on
returns-clause-goes_on c = λ p.
    let texts = c.args.atoms.now in
    let ts = c.args.heap.now.now.terms in
    let built : at ts c.args.id ≡ Compound c.args.name (more (at ts c.arg-left.result) (one (at ts c.arg-right.result))) =
    two_arguments (at ts c.args.id) (at ts c.arg-left.result) (at ts c.arg-right.result) c.args.name c.requires.shown c.arg-left.ensures.arg c.arg-right.ensures.arg in
    let sizes = ap size built in
    goes_to_both p texts ts c.args.waiting.now.items c.wait.new.waiting.items (expression_error (tree texts ts c.args.id)) (size (at ts c.args.id))
    (part.Expression c.arg-left.result) (part.Expression c.arg-right.result) c.in_ok-wait.ensures
    (two_expression (text_of texts) (at ts c.args.id) (at ts c.arg-left.result) (at ts c.arg-right.result) c.args.name built
    (ap (λ x. is_some (binary_name x)) (sym c.text.ensures.value) ∙ sym c.is_binary_expression.ensures ∙ c.if-not-is_binary_expression.false))
    c.arg-left.ensures.live c.arg-right.ensures.live (omega (arith, sizes))
