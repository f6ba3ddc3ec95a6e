use Rattle.std.proofs.Common.{◌∙◌, ap, sym}
use Rattle.std.proofs.lemmas.Result.{IfOk-weaker}
use Rattle.cq_lint.specs.Goals.{adds_arguments}
use Rattle.cq_lint.proofs.Heads.{called_many, called_other, many_known}
use Rattle.cq_lint.proofs.goals.called_by.Goals as goal

pub text-requires : goal.text-requires
text-requires c = many_known c.args.atoms.now c.args.heap.now.now.terms c.args.goal c.in-Some.many c.in-Some.ensures.some c.requires.names c.requires.live

pub returns-then-adds_arguments : goal.returns-then-adds_arguments
returns-then-adds_arguments c =
    let adds = ap (λ x. adds_arguments x c.in-Some.many.more) (sym c.text.ensures.value) ∙ sym c.adds_arguments.ensures ∙ c.if-adds_arguments.true in
    let same = called_many c.args.atoms.now c.args.heap.now.now.terms c.args.goal c.in-Some.many c.in-Some.ensures.some adds in
    IfOk-weaker c.predicate_with.result _ _ (λ p e. e ∙ sym same) c.predicate_with.ensures

pub returns : goal.returns
returns c =
    let adds = ap (λ x. adds_arguments x c.in-Some.many.more) (sym c.text.ensures.value) ∙ sym c.adds_arguments.ensures ∙ c.if-adds_arguments.false in
    let same = called_other c.args.atoms.now c.args.heap.now.now.terms c.args.goal c.in-Some.many c.in-Some.ensures.some adds in
    IfOk-weaker c.predicate_of-2.result _ _ (λ p e. e ∙ sym same) c.predicate_of-2.ensures
