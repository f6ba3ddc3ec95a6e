use Rattle.std.proofs.Common.{◌≡◌, ◌∙◌, Some, None, ap, sym, refl}
use Rattle.spec_builtins.specs.Errors.{or_error}
use Rattle.cq_built.specs.Errors.{error_tree}
use Rattle.cq_built.proofs.SidesErrors.{found_first, found_same, neither}
use Rattle.cq_goals.specs.declared.declarations.operators.OperatorGoal.{OperatorGoal}
use Rattle.cq_ops.specs.Tables.{named}
use Rattle.cq_goals.specs.Operators.{goal_error, arguments_error, refusal_error}
use Rattle.cq_goals.proofs.Declaring.{in_turn}
use Rattle.cq_goals.proofs.declarations.operators.declare_operators.Goals as goal

pub returns-in-Err-clause-fault : goal.returns-in-Err-clause-fault
returns-in-Err-clause-fault c =
    let texts = c.args.atoms.now in
    let ts = c.args.heap.now.now.terms in
    let g = c.args.goal in
    let ops = named texts c.args.ops.now in
    found_same texts ts (goal_error texts ts g ops) (or_error (arguments_error texts ts g) (refusal_error texts ts g ops)) c.in-Err.fault (in_turn texts ts g ops) (found_first texts ts (arguments_error texts ts g) (refusal_error texts ts g ops) c.in-Err.fault c.in-Err.ensures.fault)

pub returns-in-Some-clause-fault : goal.returns-in-Some-clause-fault
returns-in-Some-clause-fault c =
    let texts = c.args.atoms.now in
    let ts = c.args.heap.now.now.terms in
    let g = c.args.goal in
    let ops = named texts c.args.ops.now in
    let refused : refusal_error texts ts g ops ≡ Some (error_tree texts ts c.in-Some.error) = ap (λ (h : OperatorGoal). refusal_error texts ts h ops) (sym c.in-Ok.ensures.goal) ∙ c.in-Some.ensures.some in
    in_turn texts ts g ops ∙ (λ i. or_error (c.in-Ok.ensures.lawful i) (refused i))

pub returns-in-Ok-with_operators-clause-lawful : goal.returns-in-Ok-with_operators-clause-lawful
returns-in-Ok-with_operators-clause-lawful c =
    let texts = c.args.atoms.now in
    let ts = c.args.heap.now.now.terms in
    let g = c.args.goal in
    let ops = named texts c.args.ops.now in
    let passed : refusal_error texts ts g ops ≡ None = ap (λ (h : OperatorGoal). refusal_error texts ts h ops) (sym c.in-Ok.ensures.goal) ∙ c.in_default.ensures.none refl in
    in_turn texts ts g ops ∙ neither (arguments_error texts ts g) (refusal_error texts ts g ops) c.in-Ok.ensures.lawful passed
