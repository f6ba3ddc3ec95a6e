use Rattle.std.proofs.Common.{◌≡◌, ℕ, List, Err, ap, sym, subst, ◌∙◌}
use Rattle.std.specs.Prelude.{IfSome}
use Rattle.spec_numbers.specs.Rational.{0ℚ}
use Rattle.spec_numbers.specs.Sums.{Mentions}
use Rattle.spec_linear.specs.Form.{IsForm, negated_form}
use Rattle.spec_linear.specs.Solution.{Constraint}
use Rattle.spec_simplex.specs.Asked.{NoQuestion}
use Rattle.cq_dict.specs.DictValue.{quantities_of}
use Rattle.cq_dict.specs.Roles.{Quantities, constant_at}
use Rattle.cq_tableau.specs.Stored.{IsKnown, IsPlaced, IsStored}
use Rattle.cq_tableau.proofs.Restores.{undone}
use Rattle.cq_tableau.proofs.Storing.{placed_known}
use Rattle.cq_store.specs.declared.equating.Approached.{Approached}
use Rattle.cq_store.specs.declared.store.StoreFault.TheVariants.{Overflow, Pivots}
use Rattle.cq_frac.specs.declared.row.Entry.{Entry}
use Rattle.cq_store.specs.Alone.{IsPlaceBehind}
use Rattle.cq_store.proofs.Alone.{new_if}
use Rattle.cq_store.specs.Equated.{IsRowBehind, Crosses, StaysBelow, IsShortBelow, IsShortAbove, OfJoining, IsApproached}
use Rattle.cq_store.specs.StoreValue.{MayRefuse, MayTake, Only}
use Rattle.cq_store.proofs.Approach.{joining, stays_below, stays_above}
use Rattle.cq_store.proofs.Against.{read_below, read_above}
use Rattle.cq_store.proofs.Passed.{told_pair, told_number, one_fault, spent}
use Rattle.cq_store.proofs.equating.enter_equation.Goals as goal

pub approach-requires : goal.approach-requires
approach-requires c =
    let k : Constraint = record { relation = c.c.inside.relation; form = c.c.inside.form } in
    let p = c.in_ok-places.ensures in
    record {
      told = c.args.told.now;
      names = c.place.new.names.now;
      constraint = k;
      joins = joining c.args.told.now c.place.new.names.now k _ _ c.mark.ensures.now (p.stored c.args.told.now c.requires.stored) _ _ c.deref-2.ensures.value p.placed p.in_order _
          c.constant.ensures;
    }

pub enter_zero-requires-clause-behind : goal.enter_zero-requires-clause-behind
enter_zero-requires-clause-behind c =
    let told = c.args.told.now in
    let names = c.place.new.names.now in
    let k : Constraint = record { relation = c.c.inside.relation; form = c.c.inside.form } in
    let p = c.in_ok-places.ensures in
    let new = c.approach.new.dict in
    let j = joining told names k _ _ c.mark.ensures.now (p.stored told c.requires.stored) _ _ c.deref-2.ensures.value p.placed p.in_order _ c.constant.ensures in
    let a = subst (λ (y : Approached). OfJoining (quantities_of c.mark.new.self) c.deref-2.result.now c.constant.result (IsApproached new.roles new.restricted y)) c.in-Ok-Zero.field-0-is
    c.in-Ok-Zero.ensures.approached in
    subst (λ (z : Quantities). IsRowBehind told names c.args.c.now z.roles z.restricted c.in-Ok-Zero.q) (sym c.forget.ensures.now)
    (subst (λ (z : Constraint). IsRowBehind told names z new.roles new.restricted c.in-Ok-Zero.q) c.c.view_is (a told names k j).0)

pub enter_zero-requires-clause-zero : goal.enter_zero-requires-clause-zero
enter_zero-requires-clause-zero c =
    let told = c.args.told.now in
    let names = c.place.new.names.now in
    let k : Constraint = record { relation = c.c.inside.relation; form = c.c.inside.form } in
    let p = c.in_ok-places.ensures in
    let new = c.approach.new.dict in
    let j = joining told names k _ _ c.mark.ensures.now (p.stored told c.requires.stored) _ _ c.deref-2.ensures.value p.placed p.in_order _ c.constant.ensures in
    let a = subst (λ (y : Approached). OfJoining (quantities_of c.mark.new.self) c.deref-2.result.now c.constant.result (IsApproached new.roles new.restricted y)) c.in-Ok-Zero.field-0-is
    c.in-Ok-Zero.ensures.approached in
    subst (λ (z : Quantities). constant_at z.roles c.in-Ok-Zero.q ≡ 0ℚ) (sym c.forget.ensures.now) (a told names k j).1

pub enter_crossing-requires-clause-crosses : goal.enter_crossing-requires-clause-crosses
enter_crossing-requires-clause-crosses c =
    let told = c.args.told.now in
    let names = c.place.new.names.now in
    let k : Constraint = record { relation = c.c.inside.relation; form = c.c.inside.form } in
    let p = c.in_ok-places.ensures in
    let new = c.approach.new.dict in
    let j = joining told names k _ _ c.mark.ensures.now (p.stored told c.requires.stored) _ _ c.deref-2.ensures.value p.placed p.in_order _ c.constant.ensures in
    let a = subst (λ (y : Approached). OfJoining (quantities_of c.mark.new.self) c.deref-2.result.now c.constant.result (IsApproached new.roles new.restricted y)) c.in-Ok-Crossing.field-0-is
    c.in-Ok-Crossing.ensures.approached in
    subst (λ (z : Quantities). Crosses told names c.args.c.now z.roles z.restricted c.in-Ok-Crossing.q c.in-Ok-Crossing.column) (sym c.forget-in-Ok-Crossing.ensures.now)
    (subst (λ (z : Constraint). Crosses told names z new.roles new.restricted c.in-Ok-Crossing.q c.in-Ok-Crossing.column) c.c.view_is (a told names k j))

-- what the row makes
pub certificate-read-requires : goal.certificate-read-requires
certificate-read-requires c =
    let told = c.args.told.now in
    let names = c.place.new.names.now in
    let k : Constraint = record { relation = c.c.inside.relation; form = c.c.inside.form } in
    let p = c.in_ok-places.ensures in
    let new = c.approach.new.dict in
    let j = joining told names k _ _ c.mark.ensures.now (p.stored told c.requires.stored) _ _ c.deref-2.ensures.value p.placed p.in_order _ c.constant.ensures in
    let a = subst (λ (y : Approached). OfJoining (quantities_of c.mark.new.self) c.deref-2.result.now c.constant.result (IsApproached new.roles new.restricted y)) c.in-Ok-Below.field-0-is
    c.in-Ok-Below.ensures.approached in
    (a told names k j).behind.row

pub below_certificate-requires-clause-read : goal.below_certificate-requires-clause-read
below_certificate-requires-clause-read c =
    let told = c.args.told.now in
    let names = c.place.new.names.now in
    let k : Constraint = record { relation = c.c.inside.relation; form = c.c.inside.form } in
    let p = c.in_ok-places.ensures in
    let new = c.approach.new.dict in
    let j = joining told names k _ _ c.mark.ensures.now (p.stored told c.requires.stored) _ _ c.deref-2.ensures.value p.placed p.in_order _ c.constant.ensures in
    let a = subst (λ (y : Approached). OfJoining (quantities_of c.mark.new.self) c.deref-2.result.now c.constant.result (IsApproached new.roles new.restricted y)) c.in-Ok-Below.field-0-is
    c.in-Ok-Below.ensures.approached in
    read_below told names c.args.c.now new.roles new.restricted c.in-Ok-Below.q c.requires.equation
    (subst (λ (z : Constraint). IsShortBelow told names z new.roles new.restricted c.in-Ok-Below.q) c.c.view_is (a told names k j)) _ c.in_ok-read-in-Ok-Below.ensures

pub opposite_row_certificate-read-requires : goal.opposite_row_certificate-read-requires
opposite_row_certificate-read-requires c =
    let told = c.args.told.now in
    let names = c.place.new.names.now in
    let k : Constraint = record { relation = c.c.inside.relation; form = c.c.inside.form } in
    let p = c.in_ok-places.ensures in
    let new = c.approach.new.dict in
    let j = joining told names k _ _ c.mark.ensures.now (p.stored told c.requires.stored) _ _ c.deref-2.ensures.value p.placed p.in_order _ c.constant.ensures in
    let a = subst (λ (y : Approached). OfJoining (quantities_of c.mark.new.self) c.deref-2.result.now c.constant.result (IsApproached new.roles new.restricted y)) c.in-Ok-Above.field-0-is
    c.in-Ok-Above.ensures.approached in
    (a told names k j).behind.row

pub above_certificate-requires-clause-read : goal.above_certificate-requires-clause-read
above_certificate-requires-clause-read c =
    let told = c.args.told.now in
    let names = c.place.new.names.now in
    let k : Constraint = record { relation = c.c.inside.relation; form = c.c.inside.form } in
    let p = c.in_ok-places.ensures in
    let new = c.approach.new.dict in
    let j = joining told names k _ _ c.mark.ensures.now (p.stored told c.requires.stored) _ _ c.deref-2.ensures.value p.placed p.in_order _ c.constant.ensures in
    let a = subst (λ (y : Approached). OfJoining (quantities_of c.mark.new.self) c.deref-2.result.now c.constant.result (IsApproached new.roles new.restricted y)) c.in-Ok-Above.field-0-is
    c.in-Ok-Above.ensures.approached in
    read_above told names c.args.c.now new.roles new.restricted c.in-Ok-Above.q c.requires.equation
    (subst (λ (z : Constraint). IsShortAbove told names z new.roles new.restricted c.in-Ok-Above.q) c.c.view_is (a told names k j)) _ c.in_ok-read-in-Ok-Above.ensures

-- what is there once the row is taken away again
pub below_certificate-requires-clause-stored : goal.below_certificate-requires-clause-stored
below_certificate-requires-clause-stored c =
    let told = c.args.told.now in
    let names = c.place.new.names.now in
    subst (λ (z : Quantities). IsStored told names z)
    (sym (undone c.place.new.dict.saved _ _ c.in_ok-start.start.number c.in_ok-start.ensures.mark c.approach.new.dict.saved
    (c.in-Ok-Below.ensures.saved ∙ c.in_ok-start.ensures.saved) c.undo.ensures.now)) (c.in_ok-places.ensures.stored told c.requires.stored)

pub below_certificate-requires-clause-knows : goal.below_certificate-requires-clause-knows
below_certificate-requires-clause-knows c =
    let names = c.place.new.names.now in
    subst (λ (z : Constraint). (x : ℕ) → Mentions x z.form.products → IsKnown names x) c.c.view_is
    (λ x m. placed_known names c.c.inside.form.products c.in_ok-places.places.items c.in_ok-places.ensures.placed x m)

pub below_certificate-requires-clause-below : goal.below_certificate-requires-clause-below
below_certificate-requires-clause-below c =
    let told = c.args.told.now in
    let names = c.place.new.names.now in
    let k : Constraint = record { relation = c.c.inside.relation; form = c.c.inside.form } in
    let p = c.in_ok-places.ensures in
    let new = c.approach.new.dict in
    let j = joining told names k _ _ c.mark.ensures.now (p.stored told c.requires.stored) _ _ c.deref-2.ensures.value p.placed p.in_order _ c.constant.ensures in
    let a = subst (λ (y : Approached). OfJoining (quantities_of c.mark.new.self) c.deref-2.result.now c.constant.result (IsApproached new.roles new.restricted y)) c.in-Ok-Below.field-0-is
    c.in-Ok-Below.ensures.approached in
    subst (λ (z : Constraint). StaysBelow told z.form) c.c.view_is (stays_below told names k new.roles new.restricted c.in-Ok-Below.q (a told names k j))

pub returns-in_err-cert-in-Ok-Below-clause-pivots : goal.returns-in_err-cert-in-Ok-Below-clause-pivots
returns-in_err-cert-in-Ok-Below-clause-pivots c = λ n e.
    c.in_err-cert-in-Ok-Below.ensures.pivots n
    (ap Err (spent c.from_residual-in_err-cert-in-Ok-Below.result c.in_err-cert-in-Ok-Below.field-0.0 n c.from_residual-in_err-cert-in-Ok-Below.ensures.1 e))

pub returns-in_err-cert-in-Ok-Above-clause-pivots : goal.returns-in_err-cert-in-Ok-Above-clause-pivots
returns-in_err-cert-in-Ok-Above-clause-pivots c = λ n e.
    c.in_err-cert-in-Ok-Above.ensures.pivots n
    (ap Err (spent c.from_residual-in_err-cert-in-Ok-Above.result c.in_err-cert-in-Ok-Above.field-0.0 n c.from_residual-in_err-cert-in-Ok-Above.ensures.1 e))

pub above_certificate-requires-clause-stored : goal.above_certificate-requires-clause-stored
above_certificate-requires-clause-stored c =
    let told = c.args.told.now in
    let names = c.place.new.names.now in
    subst (λ (z : Quantities). IsStored told names z)
    (sym (undone c.place.new.dict.saved _ _ c.in_ok-start.start.number c.in_ok-start.ensures.mark c.approach.new.dict.saved
    (c.in-Ok-Above.ensures.saved ∙ c.in_ok-start.ensures.saved) c.undo-in-Ok-Above.ensures.now)) (c.in_ok-places.ensures.stored told c.requires.stored)

pub above_certificate-requires-clause-knows : goal.above_certificate-requires-clause-knows
above_certificate-requires-clause-knows c =
    let names = c.place.new.names.now in
    subst (λ (z : Constraint). (x : ℕ) → Mentions x z.form.products → IsKnown names x) c.c.view_is
    (λ x m. placed_known names c.c.inside.form.products c.in_ok-places.places.items c.in_ok-places.ensures.placed x m)

pub above_certificate-requires-clause-above : goal.above_certificate-requires-clause-above
above_certificate-requires-clause-above c =
    let told = c.args.told.now in
    let names = c.place.new.names.now in
    let k : Constraint = record { relation = c.c.inside.relation; form = c.c.inside.form } in
    let p = c.in_ok-places.ensures in
    let new = c.approach.new.dict in
    let j = joining told names k _ _ c.mark.ensures.now (p.stored told c.requires.stored) _ _ c.deref-2.ensures.value p.placed p.in_order _ c.constant.ensures in
    let a = subst (λ (y : Approached). OfJoining (quantities_of c.mark.new.self) c.deref-2.result.now c.constant.result (IsApproached new.roles new.restricted y)) c.in-Ok-Above.field-0-is
    c.in-Ok-Above.ensures.approached in
    subst (λ (z : Constraint). StaysBelow told (negated_form z.form)) c.c.view_is (stays_above told names k new.roles new.restricted c.in-Ok-Above.q (a told names k j))

pub returns-clause-overflow : goal.returns-clause-overflow
returns-clause-overflow c = λ pair e.
    let told = c.args.told.now in
    let names = c.place.new.names.now in
    let k : Constraint = record { relation = c.c.inside.relation; form = c.c.inside.form } in
    let p = c.in_ok-places.ensures in
    let j = joining told names k _ _ c.mark.ensures.now (p.stored told c.requires.stored) _ _ c.deref-2.ensures.value p.placed p.in_order _ c.constant.ensures in
    let f = told_pair c.in-Err.fault c.from.result pair c.from.ensures (one_fault c.from.result (Overflow pair) e) in
    subst (λ (z : Constraint). MayRefuse told (Only z) NoQuestion pair) c.c.view_is (c.in-Err.ensures.overflow pair (ap Err f) told names k j)

pub returns-clause-pivots : goal.returns-clause-pivots
returns-clause-pivots c = λ n e.
    let told = c.args.told.now in
    let names = c.place.new.names.now in
    let k : Constraint = record { relation = c.c.inside.relation; form = c.c.inside.form } in
    let p = c.in_ok-places.ensures in
    let j = joining told names k _ _ c.mark.ensures.now (p.stored told c.requires.stored) _ _ c.deref-2.ensures.value p.placed p.in_order _ c.constant.ensures in
    let f = told_number c.in-Err.fault c.from.result n c.from.ensures (one_fault c.from.result (Pivots n) e) in
    let o = c.in-Err.ensures.pivots n (ap Err f) in
    (o.0, subst (λ (z : Constraint). MayTake told (Only z) NoQuestion n) c.c.view_is (o.1 told names k j))

pub enter_crossing-requires-clause-new : goal.enter_crossing-requires-clause-new
enter_crossing-requires-clause-new c =
    let told = c.args.told.now in
    let names = c.place.new.names.now in
    let k : Constraint = record { relation = c.c.inside.relation; form = c.c.inside.form } in
    let p = c.in_ok-places.ensures in
    new_if told c.args.names.now.now (quantities_of c.args.dict.now) c.requires.stored names p.grows (p.stored told c.requires.stored).once c.args.c.now c.in_ok-places.places.items
    (subst (λ (z : Constraint). IsPlaced names z.form.products c.in_ok-places.places.items) c.c.view_is p.placed)
    (subst (λ (z : Constraint). IsForm z.form) c.c.view_is p.in_order) c.len-known.result c.len-known.ensures c.new_place-new.result
    (subst (λ (s : List Entry). IfSome c.new_place-new.result (IsPlaceBehind c.len-known.result s)) c.deref.ensures.value c.new_place-new.ensures)
