use Rattle.std.proofs.Common.{◌≡◌, ◌∙◌, is_some, sym, subst, ap, arith}
use Rattle.spec_terms.specs.Term.{Compound, one, size}
use Rattle.spec_branch.specs.Checks.{expression_error}
use Rattle.spec_branch.specs.Expressions.{unary_name}
use Rattle.cq_term.specs.Texts.{text_of}
use Rattle.cq_term.specs.Meaning.{at}
use Rattle.cq_term.specs.Trees.{tree}
use Rattle.cq_goals.proofs.Steps.{only_argument, has_one, one_argument}
use Rattle.cq_built.specs.Faults.{IsFound}
use Rattle.cq_goals.specs.declared.checks.Part.TheVariants as part
use Rattle.cq_goals.proofs.Heads.{not_one, one_expression}
use Rattle.cq_goals.proofs.Checking.{goes_to}
use Rattle.cq_goals.proofs.checks.look_at_unary.Goals as goal

pub returns-then-not-is_unary-clause-fault : goal.returns-then-not-is_unary-clause-fault
returns-then-not-is_unary-clause-fault c =
    let texts = c.args.atoms.now in
    let ts = c.args.heap.now.now.terms in
    let k = only_argument (at ts c.args.id) c.args.name c.requires.shown in
    subst (IsFound texts ts (expression_error (tree texts ts c.args.id))) (sym c.not_evaluable.ensures)
    (not_one (text_of texts) (at ts c.args.id) k.0 c.args.name k.1
    (ap (λ x. is_some (unary_name x)) (sym c.text.ensures.value) ∙ sym c.is_unary.ensures ∙ c.if-not-is_unary.true))

pub arg-argument-requires-clause-within : goal.arg-argument-requires-clause-within
arg-argument-requires-clause-within c = has_one (at c.args.heap.now.now.terms c.args.id) c.args.name c.requires.shown

pub returns-clause-goes_on : goal.returns-clause-goes_on
returns-clause-goes_on c = λ p.
    let texts = c.args.atoms.now in
    let ts = c.args.heap.now.now.terms in
    let built : at ts c.args.id ≡ Compound c.args.name (one (at ts c.arg-argument.result)) = one_argument (at ts c.args.id) (at ts c.arg-argument.result) c.args.name c.requires.shown c.arg-argument.ensures.arg in
    let sizes = ap size built in
    goes_to p texts ts c.args.waiting.now.items c.wait_alone.new.waiting.items (expression_error (tree texts ts c.args.id)) (size (at ts c.args.id)) (part.Expression c.arg-argument.result) c.in_ok-wait_alone.ensures
    (one_expression (text_of texts) (at ts c.args.id) (at ts c.arg-argument.result) c.args.name built (ap (λ x. is_some (unary_name x)) (sym c.text.ensures.value) ∙ sym c.is_unary.ensures ∙ c.if-not-is_unary.false))
    c.arg-argument.ensures.live (omega (arith, sizes))
