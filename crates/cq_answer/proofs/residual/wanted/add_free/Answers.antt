use Rattle.std.proofs.Common.{◌≡◌, ◌<◌, ◌∙◌, ap, ap₂, length, refl}
use Rattle.cq_frac.specs.contracts.VarIdPartialEq.TheImpl as same_variable
use Rattle.spec_terms.specs.VariableName.{VariableName}
use Rattle.spec_terms.specs.Variables.{with_variable}
use Rattle.cq_term.specs.Places.{numbers_of}
use Rattle.cq_term.proofs.WalkPlaces.{numbers_of-insert_key}
use Rattle.cq_answer.proofs.Variables.{each_more}
use Rattle.cq_answer.proofs.residual.wanted.add_free.Goals as goal

pub free-preserved : goal.free-preserved
free-preserved c =
    let xs = c.args.free.now in
    let i = c.free.named-index in
    let n = c.named-item.result in
    let v = c.named.inside.variable in
    let here : i < length xs = c.free-test.true in
    ap numbers_of c.in_ok-insert.ensures.keys
    ∙ numbers_of-insert_key same_variable.eq-value.it (λ a b. refl) c.free.found.keys v
    ∙ ap₂ with_variable c.free.invariant (ap (λ (m : VariableName). m.number) c.named.view_is)
    ∙ each_more (λ (m : VariableName). m.number) (numbers_of c.args.found.now.keys) xs i n here c.named-item.is
