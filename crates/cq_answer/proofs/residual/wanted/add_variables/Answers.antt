use Rattle.std.proofs.Common.{◌≡◌, ◌<◌, ◌≤◌, ◌∙◌, ap, length, get_or, refl}
use Rattle.std.proofs.lemmas.List.{take_all, get_or_default}
use Rattle.cq_frac.specs.declared.VarId.{VarId}
use Rattle.cq_frac.specs.contracts.VarIdPartialEq.TheImpl as same_variable
use Rattle.spec_terms.specs.Variables.{with_variable}
use Rattle.cq_term.specs.Texts.{text_of}
use Rattle.cq_term.specs.Meaning.{at}
use Rattle.cq_term.specs.Places.{numbers_of}
use Rattle.cq_term.proofs.WalkPlaces.{numbers_of-insert_key}
use Rattle.cq_answer.proofs.Variables.{with_all, each_more, all_of_term}
use Rattle.cq_answer.proofs.residual.wanted.add_variables.Goals as goal

pub variables-preserved : goal.variables-preserved
variables-preserved c =
    let old = numbers_of c.args.found.now.keys in
    let xs = c.deref-variable-items.result.now in
    let i = c.variables.variable-index in
    let d : VarId = record { 0 = 0 } in
    let x = get_or xs i d in
    let here : i < length xs = c.variables-test.true in
    ap numbers_of c.in_ok-insert.ensures.keys
    ∙ numbers_of-insert_key same_variable.eq-value.it (λ a b. refl) c.variables.found.keys x
    ∙ ap (λ vs. with_variable vs x.0) c.variables.invariant
    ∙ each_more (λ (v : VarId). v.0) old xs i x here (get_or_default xs i d x here)

pub returns : goal.returns
returns c texts =
    let old = numbers_of c.args.found.now.keys in
    let xs = c.deref-variable-items.result.now in
    let end : length xs ≤ c.variables.variable-index = c.variables-test.false in
    c.variables.invariant
    ∙ ap (λ ys. with_all old (numbers_of ys)) (take_all c.variables.variable-index xs end ∙ c.deref-variable-items.ensures.value)
    ∙ ap (with_all old) c.in_ok-variables.ensures.variables
    ∙ all_of_term (text_of texts) old (at c.args.heap.now.now.terms c.args.term)
