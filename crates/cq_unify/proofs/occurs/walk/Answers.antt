use Rattle.std.proofs.Common.{◌≡◌, List, ℕ, [], ◌∷◌, ◌++◌, ◌∙◌, ap, refl, sym}
use Rattle.cq_term.specs.Meaning.{at}
use Rattle.spec_terms.specs.Term.{Var}
use Rattle.cq_term.proofs.Arguments.{length-arguments, shown_variable}
use Rattle.cq_unify.proofs.Occurrences.{looks_found, not_another, not_in_constant}
use Rattle.cq_unify.proofs.Visited.{sizes_visit}
use Rattle.cq_unify.proofs.Walked.{walks_start, walks_variable, walks_constant, walks_compound}
use Rattle.cq_unify.proofs.occurs.walk.Goals as goal

pub returns-then-shown-variable : goal.returns-then-shown-variable
returns-then-shown-variable c =
    let ts = c.args.heap.now.now.terms in
    let is : at ts c.in-Some.id ≡ Var c.args.variable.0 = rw (← c.if-shown-variable.true) (shown_variable (at ts c.in-Some.id) c.in-Var.shown (sym c.in-Var.ensures.view)) in
    looks_found ts c.args.variable.0 (at ts c.args.term) c.loop-id.work.items c.pop.new.self.items c.in-Some.id c.in-Some.ensures.items c.loop-id.invariant.sought.looks is

pub visit-requires-clause-arity : goal.visit-requires-clause-arity
visit-requires-clause-arity c = length-arguments (at c.args.heap.now.now.terms c.in-Some.id) c.in-Compound.field-0 c.in-Compound.arity (sym c.in-Compound.ensures.view)

pub loop-id-init : goal.loop-id-init
loop-id-init c = walks_start c.args.heap.now.now.terms c.args.variable.0 c.args.term c.push.new.self.items c.args.walked.now.items c.new-visited.result c.requires.live
    (c.in_ok-push.ensures.items ∙ ap (λ (l : List ℕ). l ++ c.args.term ∷ []) c.requires.work) c.requires.walked c.new-visited.ensures

pub loop-id-smaller : goal.loop-id-smaller
loop-id-smaller c =
    sizes_visit c.args.heap.now.now.terms c.loop-id.work.items c.pop.new.self.items c.visit.new.work.items c.loop-id.visited c.visit.new.self c.in-Some.id c.in-Compound.field-0 c.in-Compound.arity
    c.in-Some.ensures.items (sym c.in-Compound.ensures.view) c.in_ok-visit-in-Compound.ensures

pub loop-id-preserved : goal.loop-id-preserved
loop-id-preserved c =
    walks_compound c.args.heap.now.now.terms c.args.variable.0 (at c.args.heap.now.now.terms c.args.term) c.loop-id.work.items c.pop.new.self.items c.in-Some.id c.in-Some.ensures.items c.loop-id.visited.known c.loop-id.walked.items c.loop-id.is_clean c.loop-id.invariant
    c.loop-id.visited c.visit.new.self refl c.in-Compound.field-0 c.in-Compound.arity (sym c.in-Compound.ensures.view) c.visit.new.work.items c.in_ok-visit-in-Compound.ensures
    c.push-in-Compound.new.self.items c.in_ok-push-in-Compound.ensures.items

pub loop-id-preserved-in-Var : goal.loop-id-preserved-in-Var
loop-id-preserved-in-Var c =
    let ts = c.args.heap.now.now.terms in
    walks_variable ts c.args.variable.0 (at ts c.args.term) c.loop-id.work.items c.pop.new.self.items c.in-Some.id c.in-Some.ensures.items c.loop-id.visited.known c.loop-id.walked.items c.loop-id.is_clean c.loop-id.invariant
    c.loop-id.visited refl (not_another (at ts c.in-Some.id) c.args.variable.0 c.in-Var.shown (sym c.in-Var.ensures.view) c.if-shown-variable.false)

pub loop-id-preserved-in-Number : goal.loop-id-preserved-in-Number
loop-id-preserved-in-Number c =
    let ts = c.args.heap.now.now.terms in
    walks_constant ts c.args.variable.0 (at ts c.args.term) c.loop-id.work.items c.pop.new.self.items c.in-Some.id c.in-Some.ensures.items c.loop-id.visited.known c.loop-id.walked.items c.loop-id.is_clean c.loop-id.invariant
    c.loop-id.visited refl (λ w. not_in_constant (at ts c.in-Some.id) w c.view.result c.in-Number.is c.view.ensures.view)
