use Rattle.std.proofs.Common.{None, Some, refl}
use Rattle.spec_builtins.specs.Errors.{permission_error}
use Rattle.cq_term.specs.Trees.{tree}
use Rattle.cq_ops.specs.Tables.{named}
use Rattle.cq_goals.proofs.Declaring.{refused_comma, refused_clash}
use Rattle.cq_goals.proofs.declarations.operators.refusal.Goals as goal

pub returns-in-Some-clause-some : goal.returns-in-Some-clause-some
returns-in-Some-clause-some c =
    let texts = c.args.atoms.now in
    let ts = c.args.heap.now.now.terms in
    refused_comma texts ts c.args.asked.now c.requires.asked (named texts c.args.ops.now) (permission_error "modify" "operator" (tree texts ts c.in-Some.name)) (c.in-Some.ensures.some (λ n. permission_error "modify" "operator" n))

pub returns-in-Some-refused_name-clause-some : goal.returns-in-Some-refused_name-clause-some
returns-in-Some-refused_name-clause-some c =
    let texts = c.args.atoms.now in
    let ts = c.args.heap.now.now.terms in
    refused_clash texts ts c.args.asked.now c.requires.asked (named texts c.args.ops.now) (Some (permission_error "create" "operator" (tree texts ts c.in-Some-refused_name.name)))
    (c.in_default.ensures.none refl (λ n. permission_error "modify" "operator" n)) (c.in-Some-refused_name.ensures.some (λ n. permission_error "create" "operator" n))

pub returns-in-None-clause-none : goal.returns-in-None-clause-none
returns-in-None-clause-none c = λ none.
    let texts = c.args.atoms.now in
    let ts = c.args.heap.now.now.terms in
    refused_clash texts ts c.args.asked.now c.requires.asked (named texts c.args.ops.now) None
    (c.in_default.ensures.none refl (λ n. permission_error "modify" "operator" n)) (c.in-None.ensures.none refl (λ n. permission_error "create" "operator" n))
