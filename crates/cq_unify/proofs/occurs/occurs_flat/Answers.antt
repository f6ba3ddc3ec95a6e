use Rattle.std.proofs.Common.{◌≡◌, ◌<◌, ◌≤◌, length, sym, arith, rules}
use Rattle.std.proofs.lemmas.Bool.{false≢true}
use Rattle.std.proofs.lemmas.List.{take_all}
use Rattle.spec_terms.specs.Term.{Var}
use Rattle.cq_term.specs.Meaning.{at}
use Rattle.cq_term.proofs.Arguments.{shown_variable}
use Rattle.cq_unify.proofs.Occurrences.{IsAbsent, flat_absent, flat_compound, flat_found, flat_past, not_another, not_in_constant}
use Rattle.cq_unify.proofs.occurs.occurs_flat.Goals as goal
use Rattle.cq_unify.proofs.occurs.occurs_flat.Goals.{in-Var+else-shown-variable, in-Number, in-Compound+else-not-is_ground}

pub returns-then-shown-variable-clause-found : goal.returns-then-shown-variable-clause-found
returns-then-shown-variable-clause-found c =
    let ts = c.args.heap.now.now.terms in
    let id = c.id-item.result in
    let within : c.loop-id.id-index < length c.args-ids.result.now = omega (arith, c.loop-id-test.true) in
    let is : at ts id ≡ Var c.args.variable.0 = rw (← c.if-shown-variable.true) (shown_variable (at ts id) c.in-Var.shown (sym c.in-Var.ensures.view)) in (
      λ _. flat_found ts c.args.variable.0 (at ts c.args.term) c.args-ids.result.now c.args-ids.ensures.args c.loop-id.id-index id within c.id-item.is is,
      λ _. search rules,
    )

pub returns-then-not-is_ground-clause-none : goal.returns-then-not-is_ground-clause-none
returns-then-not-is_ground-clause-none c =
    let within : c.loop-id.id-index < length c.args-ids.result.now = omega (arith, c.loop-id-test.true) in
    flat_compound c.args.heap.now.now.terms c.args.variable.0 (at c.args.heap.now.now.terms c.args.term) c.args-ids.result.now c.args-ids.ensures.args c.loop-id.id-index c.id-item.result within c.id-item.is c.in-Compound.field-0 c.in-Compound.field-1 (sym c.in-Compound.ensures.view)

pub loop-id-preserved : goal.loop-id-preserved
loop-id-preserved c =
    let ts = c.args.heap.now.now.terms in
    let id = c.id-item.result in
    let within : c.loop-id.id-index < length c.args-ids.result.now = omega (arith, c.loop-id-test.true) in
    let absent : IsAbsent ts c.args.variable.0 id =
    elim c.match-view.branch [
      | in-Var+else-shown-variable w ↦ not_another (at ts id) c.args.variable.0 w.in-Var.shown (sym w.in-Var.ensures.view) w.if-shown-variable.false
      | in-Number w ↦ not_in_constant (at ts id) c.args.variable.0 c.view.result w.in-Number.is c.view.ensures.view
      | in-Compound+else-not-is_ground w ↦ w.is_ground.ensures w.if-not-is_ground.false c.args.variable.0
    ] in
    flat_past ts c.args.variable.0 (at ts c.args.term) c.args-ids.result.now c.args-ids.ensures.args c.loop-id.id-index id within c.id-item.is c.loop-id.invariant absent

pub returns-clause-found : goal.returns-clause-found
returns-clause-found c =
    let ids = c.args-ids.result.now in
    let all : length ids ≤ c.loop-id.id-index = omega (arith, c.loop-id-test.false) in
    (λ h. absurd (false≢true h), λ o. absurd (flat_absent c.args.heap.now.now.terms c.args.variable.0 (at c.args.heap.now.now.terms c.args.term) ids c.args-ids.ensures.args c.requires.compound (rw (take_all c.loop-id.id-index ids all) at c.loop-id.invariant) o))
