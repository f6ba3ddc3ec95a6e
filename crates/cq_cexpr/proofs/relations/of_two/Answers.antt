use Rattle.std.proofs.Common.{◌<◌, length, Err, refl, ap, sym, subst, ◌∙◌, arith}
use Rattle.spec_branch.specs.Relations.{relation_name}
use Rattle.cq_frac.proofs.Exits.{refusal_told}
use Rattle.cq_built.proofs.Arguments.{has_two, two_arguments}
use Rattle.cq_term.specs.Meaning.{at}
use Rattle.cq_term.specs.Names.{HasNamesBelow}
use Rattle.cq_term.specs.Shown.{arguments}
use Rattle.cq_cexpr.specs.Found.{is_false, is_or_waits}
use Rattle.cq_cexpr.specs.Work.{form_in}
use Rattle.cq_cexpr.specs.Names.{relation_meant}
use Rattle.cq_cexpr.proofs.Sides.{left_comes, right_comes, sides_come, left_false, right_false, neither}
use Rattle.cq_cexpr.proofs.relations.of_two.Goals as goal

pub arg-left-requires-clause-within : goal.arg-left-requires-clause-within
arg-left-requires-clause-within c =
    let two : 1 < length (arguments (at c.args.heap.now.now.terms c.args.term)) = has_two (at c.args.heap.now.now.terms c.args.term) c.args.name 2 c.requires.shown refl in
    omega (arith, two)

pub arg-right-requires-clause-within : goal.arg-right-requires-clause-within
arg-right-requires-clause-within c =
    let two : 1 < length (arguments (at c.args.heap.now.now.terms c.args.term)) = has_two (at c.args.heap.now.now.terms c.args.term) c.args.name 2 c.requires.shown refl in
    omega (arith, two)

pub linearise_expression-requires-clause-names : goal.linearise_expression-requires-clause-names
linearise_expression-requires-clause-names c =
    let ts = c.args.heap.now.now.terms in
    let shape = two_arguments (at ts c.args.term) (at ts c.arg-left.result) (at ts c.arg-right.result) c.args.name 2 c.requires.shown refl c.arg-left.ensures.arg c.arg-right.ensures.arg in
    (subst (HasNamesBelow (length c.args.atoms.now)) shape c.requires.names).1.0

pub linearise_expression-requires-2-clause-names : goal.linearise_expression-requires-2-clause-names
linearise_expression-requires-2-clause-names c =
    let ts = c.args.heap.now.now.terms in
    let shape = two_arguments (at ts c.args.term) (at ts c.arg-left.result) (at ts c.arg-right.result) c.args.name 2 c.requires.shown refl c.arg-left.ensures.arg c.arg-right.ensures.arg in
    (subst (HasNamesBelow (length c.args.atoms.now)) shape c.requires.names).1.1

pub returns-in_err-first-clause-overflow : goal.returns-in_err-first-clause-overflow
returns-in_err-first-clause-overflow c = λ pair e.
    let ts = c.args.heap.now.now.terms in
    let shape = two_arguments (at ts c.args.term) (at ts c.arg-left.result) (at ts c.arg-right.result) c.args.name 2 c.requires.shown refl c.arg-left.ensures.arg c.arg-right.ensures.arg in
    left_comes c.args.atoms.now ts c.args.term c.arg-left.result c.arg-right.result c.args.name shape pair
    (c.in_err-first.ensures.overflow pair (ap Err (refusal_told _ _ pair c.from_residual.ensures.1 e)))

pub returns-then-is_false-clause-lin : goal.returns-then-is_false-clause-lin
returns-then-is_false-clause-lin c =
    let ts = c.args.heap.now.now.terms in
    let shape = two_arguments (at ts c.args.term) (at ts c.arg-left.result) (at ts c.arg-right.result) c.args.name 2 c.requires.shown refl c.arg-left.ensures.arg c.arg-right.ensures.arg in
    left_false c.args.atoms.now ts c.args.term c.arg-left.result c.arg-right.result c.args.name shape
    (ap is_false (sym c.in_ok-first.ensures.lin) ∙ sym c.is_false.ensures ∙ c.if-is_false.true)

pub returns-in_err-second-clause-overflow : goal.returns-in_err-second-clause-overflow
returns-in_err-second-clause-overflow c = λ pair e.
    let ts = c.args.heap.now.now.terms in
    let shape = two_arguments (at ts c.args.term) (at ts c.arg-left.result) (at ts c.arg-right.result) c.args.name 2 c.requires.shown refl c.arg-left.ensures.arg c.arg-right.ensures.arg in
    right_comes c.args.atoms.now ts c.args.term c.arg-left.result c.arg-right.result c.args.name shape pair
    (c.in_err-second.ensures.overflow pair (ap Err (refusal_told _ _ pair c.from_residual-in_err-second.ensures.1 e)))

pub returns-then-is_false-2-clause-lin : goal.returns-then-is_false-2-clause-lin
returns-then-is_false-2-clause-lin c =
    let ts = c.args.heap.now.now.terms in
    let shape = two_arguments (at ts c.args.term) (at ts c.arg-left.result) (at ts c.arg-right.result) c.args.name 2 c.requires.shown refl c.arg-left.ensures.arg c.arg-right.ensures.arg in
    right_false c.args.atoms.now ts c.args.term c.arg-left.result c.arg-right.result c.args.name shape
    (ap is_false (sym c.in_ok-second.ensures.lin) ∙ sym c.is_false-2.ensures ∙ c.if-is_false-2.true)

pub returns-in_err-constraint-clause-overflow : goal.returns-in_err-constraint-clause-overflow
returns-in_err-constraint-clause-overflow c = λ pair e.
    let ts = c.args.heap.now.now.terms in
    let shape = two_arguments (at ts c.args.term) (at ts c.arg-left.result) (at ts c.arg-right.result) c.args.name 2 c.requires.shown refl c.arg-left.ensures.arg c.arg-right.ensures.arg in
    sides_come c.args.atoms.now ts c.args.term c.arg-left.result c.arg-right.result c.args.name shape c.form.result c.form-2.result pair
    (c.form.ensures ∙ ap form_in c.in_ok-first.ensures.lin) (c.form-2.ensures ∙ ap form_in c.in_ok-second.ensures.lin)
    (c.in_err-constraint.ensures.overflow pair (ap Err (refusal_told _ _ pair c.from_residual-in_err-constraint.ensures.1 e)))

pub returns-in_ok-waiting-in-None-clause-lin : goal.returns-in_ok-waiting-in-None-clause-lin
returns-in_ok-waiting-in-None-clause-lin c =
    let ts = c.args.heap.now.now.terms in
    let shape = two_arguments (at ts c.args.term) (at ts c.arg-left.result) (at ts c.arg-right.result) c.args.name 2 c.requires.shown refl c.arg-left.ensures.arg c.arg-right.ensures.arg in
    c.in_ok-waiting-in-None.ensures.lin ∙ ap is_or_waits (sym c.in-None.is) ∙ c.in_ok-constraint.ensures.value
    ∙ neither c.args.atoms.now ts c.args.term c.arg-left.result c.arg-right.result c.args.name shape (relation_meant c.relation_named-comparison.result) c.form.result c.form-2.result
    (c.relation_named-comparison.ensures ∙ ap relation_name c.text.ensures.value)
    (c.form.ensures ∙ ap form_in c.in_ok-first.ensures.lin) (c.form-2.ensures ∙ ap form_in c.in_ok-second.ensures.lin)
    (ap is_false (sym c.in_ok-first.ensures.lin) ∙ sym c.is_false.ensures ∙ c.if-is_false.false) (ap is_false (sym c.in_ok-second.ensures.lin) ∙ sym c.is_false-2.ensures ∙ c.if-is_false-2.false)

pub returns-in-Some-clause-lin : goal.returns-in-Some-clause-lin
returns-in-Some-clause-lin c =
    let ts = c.args.heap.now.now.terms in
    let shape = two_arguments (at ts c.args.term) (at ts c.arg-left.result) (at ts c.arg-right.result) c.args.name 2 c.requires.shown refl c.arg-left.ensures.arg c.arg-right.ensures.arg in
    ap is_or_waits (sym c.in-Some.is) ∙ c.in_ok-constraint.ensures.value
    ∙ neither c.args.atoms.now ts c.args.term c.arg-left.result c.arg-right.result c.args.name shape (relation_meant c.relation_named-comparison.result) c.form.result c.form-2.result
    (c.relation_named-comparison.ensures ∙ ap relation_name c.text.ensures.value)
    (c.form.ensures ∙ ap form_in c.in_ok-first.ensures.lin) (c.form-2.ensures ∙ ap form_in c.in_ok-second.ensures.lin)
    (ap is_false (sym c.in_ok-first.ensures.lin) ∙ sym c.is_false.ensures ∙ c.if-is_false.false) (ap is_false (sym c.in_ok-second.ensures.lin) ∙ sym c.is_false-2.ensures ∙ c.if-is_false-2.false)
