use Rattle.std.proofs.Common.{◌<◌, ◌∙◌, [], ◌∷◌, ◌++◌, length, refl, sym, ap, subst, arith}
use Rattle.std.specs.Prelude.{not, map}
use Rattle.std.proofs.lemmas.List.Elements.{All-same, All-push}
use Rattle.spec_builtins.specs.Errors.{type_error}
use Rattle.spec_builtins.specs.Clauses.{is_indicator}
use Rattle.cq_term.specs.Trees.{trees}
use Rattle.cq_term.specs.declared.names.Pred.{Pred}
use Rattle.cq_built.specs.Errors.{indicator_of}
use Rattle.cq_built.specs.Faults.{IsFound}
use Rattle.cq_goals.specs.Declarations.{indicators_error}
use Rattle.cq_goals.proofs.Declaring.{first_passes, first_here, first_end}
use Rattle.cq_goals.proofs.Declared.{declared_next, declared_over}
use Rattle.cq_goals.proofs.declarations.declarations.predicates.Goals as goal

pub loop-id-preserved : goal.loop-id-preserved
loop-id-preserved c =
    let texts = c.args.atoms.now in
    let ts = c.args.heap.now.now.terms in
    let ids = c.args.ids.now in
    let i = c.loop-id.id-index in
    let p = c.in-Some.predicate in
    let h = c.in-Some.ensures.some in
    let found = c.loop-id.found.items in
    let e = c.in-Ok.ensures.items in
    record {
      error =
          c.loop-id.invariant.error
          ∙ first_passes texts ts (λ t. not (is_indicator t)) ids i c.id-item.result (omega (arith, c.loop-id-test.true)) c.id-item.is (λ t. type_error "predicate_indicator" t) (ap not h.lawful);
      declared = declared_next texts ts ids i c.id-item.result (omega (arith, c.loop-id-test.true)) c.id-item.is found c.push.new.self.items p h e ∙ c.loop-id.invariant.declared;
      known = All-same (λ (q : Pred). q.name < length texts) c.push.new.self.items (found ++ p ∷ []) e (All-push (λ (q : Pred). q.name < length texts) found p c.loop-id.invariant.known h.known);
    }

pub returns-in-None-clause-fault : goal.returns-in-None-clause-fault
returns-in-None-clause-fault c =
    let texts = c.args.atoms.now in
    let ts = c.args.heap.now.now.terms in
    let ids = c.args.ids.now in
    subst (IsFound texts ts (indicators_error (trees texts ts ids))) (sym c.no_indicator.ensures)
    (c.loop-id.invariant.error
    ∙ first_here texts ts (λ t. not (is_indicator t)) ids c.loop-id.id-index c.id-item.result (omega (arith, c.loop-id-test.true)) c.id-item.is (λ t. type_error "predicate_indicator" t) (ap not (c.in-None.ensures.none refl)))

pub returns-clause-declared : goal.returns-clause-declared
returns-clause-declared c =
    let texts = c.args.atoms.now in
    let ts = c.args.heap.now.now.terms in
    let ids = c.args.ids.now in
    let i = c.loop-id.id-index in
    record {
      lawful = c.loop-id.invariant.error ∙ first_end texts ts (λ t. not (is_indicator t)) ids i (omega (arith, c.loop-id-test.false)) (λ t. type_error "predicate_indicator" t);
      declared = sym (declared_over texts ts ids i (omega (arith, c.loop-id-test.false)) (map (indicator_of texts) c.loop-id.found.items)) ∙ c.loop-id.invariant.declared;
      known = c.loop-id.invariant.known;
    }
