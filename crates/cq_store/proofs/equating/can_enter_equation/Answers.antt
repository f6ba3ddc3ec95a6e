use Rattle.std.proofs.Common.{List, Err, ap, refl, subst}
use Rattle.std.specs.Prelude.{IfSome}
use Rattle.spec_linear.specs.Form.{IsForm, negated_form}
use Rattle.spec_linear.specs.Solution.{Constraint}
use Rattle.spec_simplex.specs.Asked.{NoQuestion}
use Rattle.cq_dict.specs.DictValue.{quantities_of}
use Rattle.cq_tableau.specs.Stored.{IsPlaced}
use Rattle.cq_store.specs.declared.equating.Approached.{Approached}
use Rattle.cq_frac.specs.declared.row.Entry.{Entry}
use Rattle.cq_store.specs.Alone.{IsPlaceBehind}
use Rattle.cq_store.proofs.Alone.{new_if}
use Rattle.cq_store.specs.Equated.{IsRowBehind, Crosses, StaysBelow, OfJoining, IsApproached}
use Rattle.cq_store.specs.StoreValue.{MayRefuse, MayTake, Only}
use Rattle.cq_store.proofs.Approach.{joining, stays_below, stays_above}
use Rattle.cq_store.proofs.Passed.{search_refused, spent, store_spent}
use Rattle.cq_store.proofs.Possible.{below_never, above_never}
use Rattle.cq_store.proofs.equating.can_enter_equation.Goals as goal

pub approach-requires : goal.approach-requires
approach-requires c =
    let told = c.args.told.now in
    let names = c.place.new.names.now in
    let k : Constraint = record { relation = c.c.inside.relation; form = c.c.inside.form } in
    let p = c.in_ok-places.ensures in
    let j = joining told names k (quantities_of c.place.new.dict) _ refl (p.stored told c.requires.stored) _ _ c.deref-2.ensures.value p.placed p.in_order _ c.constant.ensures in
    record { told = told; names = names; constraint = k; joins = j }

pub returns-in_err-q-clause-overflow : goal.returns-in_err-q-clause-overflow
returns-in_err-q-clause-overflow c = λ pair e.
    let told = c.args.told.now in
    let names = c.place.new.names.now in
    let k : Constraint = record { relation = c.c.inside.relation; form = c.c.inside.form } in
    let p = c.in_ok-places.ensures in
    let j = joining told names k (quantities_of c.place.new.dict) _ refl (p.stored told c.requires.stored) _ _ c.deref-2.ensures.value p.placed p.in_order _ c.constant.ensures in
    let f = search_refused c.from_residual-in_err-q.result c.in_err-q.field-0.0 pair c.from_residual-in_err-q.ensures.1 e in
    subst (λ (z : Constraint). MayRefuse told (Only z) NoQuestion pair) c.c.view_is (c.in_err-q.ensures.overflow pair (ap Err f) told names k j)

pub returns-in_err-q-clause-pivots : goal.returns-in_err-q-clause-pivots
returns-in_err-q-clause-pivots c = λ n e.
    let told = c.args.told.now in
    let names = c.place.new.names.now in
    let k : Constraint = record { relation = c.c.inside.relation; form = c.c.inside.form } in
    let p = c.in_ok-places.ensures in
    let j = joining told names k (quantities_of c.place.new.dict) _ refl (p.stored told c.requires.stored) _ _ c.deref-2.ensures.value p.placed p.in_order _ c.constant.ensures in
    let f = spent c.from_residual-in_err-q.result c.in_err-q.field-0.0 n c.from_residual-in_err-q.ensures.1 e in
    let o = c.in_err-q.ensures.pivots n (ap Err f) in
    (o.0, subst (λ (z : Constraint). MayTake told (Only z) NoQuestion n) c.c.view_is (o.1 told names k j))

pub enter_zero-requires-clause-behind : goal.enter_zero-requires-clause-behind
enter_zero-requires-clause-behind c =
    let told = c.args.told.now in
    let names = c.place.new.names.now in
    let k : Constraint = record { relation = c.c.inside.relation; form = c.c.inside.form } in
    let p = c.in_ok-places.ensures in
    let j = joining told names k (quantities_of c.place.new.dict) _ refl (p.stored told c.requires.stored) _ _ c.deref-2.ensures.value p.placed p.in_order _ c.constant.ensures in
    let new = c.approach.new.dict in
    let a = subst (λ (y : Approached). OfJoining (quantities_of c.place.new.dict) c.deref-2.result.now c.constant.result (IsApproached new.roles new.restricted y)) c.in-Zero.is
    c.in_ok-q.ensures.approached in
    subst (λ (z : Constraint). IsRowBehind told names z new.roles new.restricted c.in-Zero.q) c.c.view_is (a told names k j).0

pub enter_zero-requires-clause-zero : goal.enter_zero-requires-clause-zero
enter_zero-requires-clause-zero c =
    let told = c.args.told.now in
    let names = c.place.new.names.now in
    let k : Constraint = record { relation = c.c.inside.relation; form = c.c.inside.form } in
    let p = c.in_ok-places.ensures in
    let j = joining told names k (quantities_of c.place.new.dict) _ refl (p.stored told c.requires.stored) _ _ c.deref-2.ensures.value p.placed p.in_order _ c.constant.ensures in
    let new = c.approach.new.dict in
    let a = subst (λ (y : Approached). OfJoining (quantities_of c.place.new.dict) c.deref-2.result.now c.constant.result (IsApproached new.roles new.restricted y)) c.in-Zero.is
    c.in_ok-q.ensures.approached in
    (a told names k j).1

pub enter_crossing-requires-clause-crosses : goal.enter_crossing-requires-clause-crosses
enter_crossing-requires-clause-crosses c =
    let told = c.args.told.now in
    let names = c.place.new.names.now in
    let k : Constraint = record { relation = c.c.inside.relation; form = c.c.inside.form } in
    let p = c.in_ok-places.ensures in
    let j = joining told names k (quantities_of c.place.new.dict) _ refl (p.stored told c.requires.stored) _ _ c.deref-2.ensures.value p.placed p.in_order _ c.constant.ensures in
    let new = c.approach.new.dict in
    let a = subst (λ (y : Approached). OfJoining (quantities_of c.place.new.dict) c.deref-2.result.now c.constant.result (IsApproached new.roles new.restricted y)) c.in-Crossing.is
    c.in_ok-q.ensures.approached in
    subst (λ (z : Constraint). Crosses told names z new.roles new.restricted c.in-Crossing.q c.in-Crossing.column) c.c.view_is (a told names k j)

pub enter_crossing-requires-clause-new : goal.enter_crossing-requires-clause-new
enter_crossing-requires-clause-new c =
    let told = c.args.told.now in
    let names = c.place.new.names.now in
    let p = c.in_ok-places.ensures in
    new_if told c.args.names.now.now (quantities_of c.args.dict.now) c.requires.stored names p.grows (p.stored told c.requires.stored).once c.args.c.now c.in_ok-places.places.items
    (subst (λ (z : Constraint). IsPlaced names z.form.products c.in_ok-places.places.items) c.c.view_is p.placed)
    (subst (λ (z : Constraint). IsForm z.form) c.c.view_is p.in_order) c.len-known.result c.len-known.ensures c.new_place-new.result
    (subst (λ (s : List Entry). IfSome c.new_place-new.result (IsPlaceBehind c.len-known.result s)) c.deref.ensures.value c.new_place-new.ensures)

pub returns-in-Below-clause-solvable : goal.returns-in-Below-clause-solvable
returns-in-Below-clause-solvable c =
    let told = c.args.told.now in
    let names = c.place.new.names.now in
    let k : Constraint = record { relation = c.c.inside.relation; form = c.c.inside.form } in
    let p = c.in_ok-places.ensures in
    let j = joining told names k (quantities_of c.place.new.dict) _ refl (p.stored told c.requires.stored) _ _ c.deref-2.ensures.value p.placed p.in_order _ c.constant.ensures in
    let new = c.approach.new.dict in
    let a = subst (λ (y : Approached). OfJoining (quantities_of c.place.new.dict) c.deref-2.result.now c.constant.result (IsApproached new.roles new.restricted y)) c.in-Below.is
    c.in_ok-q.ensures.approached in
    below_never told c.args.c.now c.requires.equation (subst (λ (z : Constraint). StaysBelow told z.form) c.c.view_is (stays_below told names k new.roles new.restricted _ (a told names k j)))

pub returns-clause-solvable : goal.returns-clause-solvable
returns-clause-solvable c =
    let told = c.args.told.now in
    let names = c.place.new.names.now in
    let k : Constraint = record { relation = c.c.inside.relation; form = c.c.inside.form } in
    let p = c.in_ok-places.ensures in
    let j = joining told names k (quantities_of c.place.new.dict) _ refl (p.stored told c.requires.stored) _ _ c.deref-2.ensures.value p.placed p.in_order _ c.constant.ensures in
    let new = c.approach.new.dict in
    let a = subst (λ (y : Approached). OfJoining (quantities_of c.place.new.dict) c.deref-2.result.now c.constant.result (IsApproached new.roles new.restricted y)) c.in-Above.is
    c.in_ok-q.ensures.approached in
    above_never told c.args.c.now c.requires.equation (subst (λ (z : Constraint). StaysBelow told (negated_form z.form)) c.c.view_is (stays_above told names k new.roles new.restricted _ (a told names k j)))

pub returns-in_err-entered-in-Zero-clause-pivots : goal.returns-in_err-entered-in-Zero-clause-pivots
returns-in_err-entered-in-Zero-clause-pivots c = λ n e.
    c.in_err-entered-in-Zero.ensures.pivots n
    (ap Err (store_spent c.from_residual-in_err-entered-in-Zero.result c.in_err-entered-in-Zero.field-0.0 n c.from_residual-in_err-entered-in-Zero.ensures.1 e))

pub returns-in_err-entered-in-Crossing-clause-pivots : goal.returns-in_err-entered-in-Crossing-clause-pivots
returns-in_err-entered-in-Crossing-clause-pivots c = λ n e.
    c.in_err-entered-in-Crossing.ensures.pivots n
    (ap Err (store_spent c.from_residual-in_err-entered-in-Crossing.result c.in_err-entered-in-Crossing.field-0.0 n c.from_residual-in_err-entered-in-Crossing.ensures.1 e))
