use Rattle.std.proofs.Common.{◌≡◌, ◌∙◌, map, None, Some, sym, ap, subst}
use Rattle.spec_builtins.specs.Clauses.{declarations, not_changeable}
use Rattle.spec_search.specs.Builtins.{is_built_in}
use Rattle.cq_built.specs.Errors.{error_tree, indicator_of, HasCulprit}
use Rattle.cq_built.specs.declared.errors.BuiltinError.{BuiltinError}
use Rattle.cq_term.specs.Trees.{tree}
use Rattle.cq_catch.proofs.Declared.{found_among, found_first}
use Rattle.cq_catch.proofs.revise.declaring.check_declared.Goals as goal

pub returns-in-Some-clause-fault : goal.returns-in-Some-clause-fault
returns-in-Some-clause-fault c =
    let texts = c.args.atoms.now in
    let ts = c.args.heap.now.now.terms in
    let t = tree texts ts c.args.term in
    let are : map (indicator_of texts) c.deref.result.now ≡ declarations t = ap (map (indicator_of texts)) c.deref.ensures.value ∙ c.in-Ok.ensures.declared in
    found_among t (c.declarations_in_turn.ensures is_built_in t) (map (indicator_of texts) c.deref.result.now) (Some (not_changeable (indicator_of texts c.in-Some.predicate)))
    c.in-Ok.ensures.lawful are c.in-Some.ensures.some
    ∙ ap (λ (e : BuiltinError). Some (error_tree texts ts e)) (sym c.refused-error.ensures)

pub returns-in-Some-clause-culprit : goal.returns-in-Some-clause-culprit
returns-in-Some-clause-culprit c =
    subst (λ (e : BuiltinError). HasCulprit c.args.atoms.now c.args.heap.now.now.terms e) (sym c.refused-error.ensures) c.in-Some.ensures.known

pub returns-in-None-clause-lawful : goal.returns-in-None-clause-lawful
returns-in-None-clause-lawful c =
    let texts = c.args.atoms.now in
    let ts = c.args.heap.now.now.terms in
    let t = tree texts ts c.args.term in
    let are : map (indicator_of texts) c.deref.result.now ≡ declarations t = ap (map (indicator_of texts)) c.deref.ensures.value ∙ c.in-Ok.ensures.declared in
    found_among t (c.declarations_in_turn.ensures is_built_in t) (map (indicator_of texts) c.deref.result.now) None c.in-Ok.ensures.lawful are c.in-None.ensures.none

pub returns-in-Err-clause-fault : goal.returns-in-Err-clause-fault
returns-in-Err-clause-fault c =
    let texts = c.args.atoms.now in
    let ts = c.args.heap.now.now.terms in
    let t = tree texts ts c.args.term in
    found_first t (c.declarations_in_turn.ensures is_built_in t) texts ts c.in-Err.fault c.in-Err.ensures.fault
