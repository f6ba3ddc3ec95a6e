use Rattle.std.proofs.Common.{◌≡◌, ◌<◌, ◌++◌, [], ◌∷◌, length, position, false, refl, ap, ◌∙◌, arith}
use Rattle.std.specs.List.{list_any}
use Rattle.std.proofs.lemmas.List.{length-map}
use Rattle.cq_term.specs.declared.names.Pred.{Pred}
use Rattle.cq_clauses.specs.declared.procedures.Kind.TheVariants.{Dynamic}
use Rattle.cq_clauses.specs.Database.{same_pred}
use Rattle.cq_clauses.specs.Procedures.{pred_of, is_of, made_dynamic}
use Rattle.cq_clauses.proofs.Found.{position-map, list_any-map}
use Rattle.cq_clauses.proofs.Kept.{keys_set, procedure_read, with_dynamic_at, with_dynamic_new}
use Rattle.cq_clauses.proofs.procedures.declare.Goals as goal

pub returns-in-Some-clause-keys : goal.returns-in-Some-clause-keys
returns-in-Some-clause-keys c =
    let items = c.args.procedures.now.items in
    let p = c.index_mut.result.now in
    let within : c.in-Some.number < length items = omega (arith, c.in-Some.ensures.within, ap length c.requires.keys, length-map items pred_of) in
    c.requires.keys ∙ keys_set items c.in-Some.number p (made_dynamic p) (procedure_read items items c.in-Some.number p refl within c.index_mut.ensures.value) refl

pub returns-in-Some-clause-declared : goal.returns-in-Some-clause-declared
returns-in-Some-clause-declared c =
    let items = c.args.procedures.now.items in
    let p = c.index_mut.result.now in
    let within : c.in-Some.number < length items = omega (arith, c.in-Some.ensures.within, ap length c.requires.keys, length-map items pred_of) in
    with_dynamic_at items items c.in-Some.number p refl (procedure_read items items c.in-Some.number p refl within c.index_mut.ensures.value) c.args.pred.now
    (c.in-Some.ensures.value ∙ ap (position (same_pred c.args.pred.now)) c.requires.keys ∙ position-map pred_of (same_pred c.args.pred.now) items)

pub returns-in-None-clause-declared : goal.returns-in-None-clause-declared
returns-in-None-clause-declared c =
    let items = c.args.procedures.now.items in
    let none : false ≡ list_any (is_of c.args.pred.now) items =
    c.in-None.ensures.found ∙ ap (list_any (same_pred c.args.pred.now)) c.requires.keys ∙ list_any-map pred_of (same_pred c.args.pred.now) items in
    rw (c.push.ensures.items, c.unwrap.ensures)
    (with_dynamic_new items (items ++ record { pred = c.copy-in-None.result; kind = Dynamic; clauses = c.new.result } ∷ []) c.args.pred.now c.new.result none
    (ap (λ (k : Pred). items ++ record { pred = k; kind = Dynamic; clauses = c.new.result } ∷ []) c.copy-in-None.ensures) c.new.ensures)
