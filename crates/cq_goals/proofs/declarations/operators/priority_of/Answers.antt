use Rattle.std.proofs.Common.{◌∙◌, true, false, is_some, sym, ap, rules}
use Rattle.std.specs.Int.{w128}
use Rattle.std.specs.Prelude.{FitsSigned}
use Rattle.std.proofs.lemmas.Int.{to_z-of_z}
use Rattle.spec_syntax.specs.Operators.{in_range}
use Rattle.cq_term.specs.Trees.{tree}
use Rattle.cq_goals.proofs.Declaring.{not_whole, priority_tested}
use Rattle.cq_goals.proofs.declarations.operators.priority_of.Goals as goal

pub returns-then-not-is_integer-clause-err : goal.returns-then-not-is_integer-clause-err
returns-then-not-is_integer-clause-err c = λ texts. not_whole (tree texts c.args.heap.now.now.terms c.args.priority) (sym (c.is_integer.ensures texts) ∙ c.if-not-is_integer.true)

pub returns-then-is_in_range-clause-lawful : goal.returns-then-is_in_range-clause-lawful
returns-then-is_in_range-clause-lawful c = λ texts.
    let fits : FitsSigned w128 c.whole_of-number.result = search rules in
    priority_tested (tree texts c.args.heap.now.now.terms c.args.priority) true (sym (c.is_integer.ensures texts) ∙ c.if-not-is_integer.false)
    (ap (λ z. is_some (in_range z)) (c.whole_of-number.ensures texts ∙ sym (to_z-of_z w128 c.whole_of-number.result fits)) ∙ sym c.is_in_range.ensures ∙ c.if-is_in_range.true)

pub returns-else-is_in_range-clause-err : goal.returns-else-is_in_range-clause-err
returns-else-is_in_range-clause-err c = λ texts.
    let fits : FitsSigned w128 c.whole_of-number.result = search rules in
    priority_tested (tree texts c.args.heap.now.now.terms c.args.priority) false (sym (c.is_integer.ensures texts) ∙ c.if-not-is_integer.false)
    (ap (λ z. is_some (in_range z)) (c.whole_of-number.ensures texts ∙ sym (to_z-of_z w128 c.whole_of-number.result fits)) ∙ sym c.is_in_range.ensures ∙ c.if-is_in_range.false)
