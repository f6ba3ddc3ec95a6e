use Rattle.std.proofs.Common.{List, Bool, Err, ap, sym, subst}
use Rattle.spec_numbers.specs.Rational.{IsPositive}
use Rattle.cq_dict.specs.DictValue.{quantities_of}
use Rattle.cq_tableau.specs.Levelled.{IsLevelled}
use Rattle.cq_tableau.proofs.Passed.{searched, never_searched, search_passed, search_spent}
use Rattle.cq_tableau.proofs.Storing.{entries_below}
use Rattle.cq_store.specs.Equated.{IsRowBehind, Crosses, IsShortBelow, IsShortAbove}
use Rattle.cq_store.proofs.Approach.{row_feasible, moved_behind, crosses_there, level_refused, level_spent, short_above, short_below, joining_behind, joining_refused}
use Rattle.cq_store.proofs.Equations.{unflagged, free_crosses}
use Rattle.cq_store.proofs.equating.approach.Goals as goal

pub add_row-requires : goal.add_row-requires
add_row-requires c =
    let s = c.requires in
    entries_below s.told s.names (quantities_of c.args.dict.now) s.joins.stored s.constraint.form c.args.places.now s.joins.placed

pub free_column_of-requires-clause-row : goal.free_column_of-requires-clause-row
free_column_of-requires-clause-row c =
    let s = c.requires in
    let x = c.in_ok-q.ensures in
    (joining_behind s.told s.names s.constraint (quantities_of c.args.dict.now) c.args.places.now c.args.constant s.joins (quantities_of c.add_row.new.self)
    x.roles x.value x.table x.flags c.in_ok-q.q x.number).row

-- by a new variable's quantity
pub returns-in-Some-clause-approached : goal.returns-in-Some-clause-approached
returns-in-Some-clause-approached c = λ told names k j.
    let x = c.in_ok-q.ensures in
    let mid = c.add_row.new.self in
    let q = c.in_ok-q.q in
    let b = joining_behind told names k (quantities_of c.args.dict.now) c.args.places.now c.args.constant j (quantities_of mid) x.roles x.value x.table x.flags q x.number in
    free_crosses told names k mid.roles mid.restricted q b c.in-Some.column c.in-Some.ensures

pub level-requires-clause-row : goal.level-requires-clause-row
level-requires-clause-row c =
    let s = c.requires in
    let x = c.in_ok-q.ensures in
    (joining_behind s.told s.names s.constraint (quantities_of c.args.dict.now) c.args.places.now c.args.constant s.joins (quantities_of c.add_row.new.self)
    x.roles x.value x.table x.flags c.in_ok-q.q x.number).row

pub level-requires-clause-free : goal.level-requires-clause-free
level-requires-clause-free c =
    let s = c.requires in
    let x = c.in_ok-q.ensures in
    let mid = c.add_row.new.self in
    unflagged s.told s.names s.constraint mid.roles mid.restricted c.in_ok-q.q
    (joining_behind s.told s.names s.constraint (quantities_of c.args.dict.now) c.args.places.now c.args.constant s.joins (quantities_of mid)
    x.roles x.value x.table x.flags c.in_ok-q.q x.number)

pub level-requires-clause-feasible : goal.level-requires-clause-feasible
level-requires-clause-feasible c =
    let s = c.requires in
    let x = c.in_ok-q.ensures in
    let mid = c.add_row.new.self in
    row_feasible s.told s.names s.constraint mid.roles mid.restricted c.in_ok-q.q
    (joining_behind s.told s.names s.constraint (quantities_of c.args.dict.now) c.args.places.now c.args.constant s.joins (quantities_of mid)
    x.roles x.value x.table x.flags c.in_ok-q.q x.number)

pub returns-in-Level-clause-approached : goal.returns-in-Level-clause-approached
returns-in-Level-clause-approached c = λ told names k j.
    let x = c.in_ok-q.ensures in
    let mid = c.add_row.new.self in
    let new = c.level.new.dict.roles in
    let q = c.in_ok-q.q in
    let b = joining_behind told names k (quantities_of c.args.dict.now) c.args.places.now c.args.constant j (quantities_of mid) x.roles x.value x.table x.flags q x.number in
    let l = subst (IsLevelled q mid.roles mid.restricted new) c.in-Level.is c.in_ok-level.ensures.levelled in
    (subst (λ (g : List Bool). IsRowBehind told names k new g q) (sym c.in_ok-level.ensures.flags) (moved_behind told names k mid.roles mid.restricted q b new l.0), l.1)

pub returns-in-Crossing-clause-approached : goal.returns-in-Crossing-clause-approached
returns-in-Crossing-clause-approached c = λ told names k j.
    let x = c.in_ok-q.ensures in
    let mid = c.add_row.new.self in
    let new = c.level.new.dict.roles in
    let q = c.in_ok-q.q in
    let b = joining_behind told names k (quantities_of c.args.dict.now) c.args.places.now c.args.constant j (quantities_of mid) x.roles x.value x.table x.flags q x.number in
    let l = subst (IsLevelled q mid.roles mid.restricted new) c.in-Crossing.is c.in_ok-level.ensures.levelled in
    subst (λ (g : List Bool). Crosses told names k new g q c.in-Crossing.column) (sym c.in_ok-level.ensures.flags)
    (crosses_there told names k new mid.restricted q (moved_behind told names k mid.roles mid.restricted q b new l.0) c.in-Crossing.column l.1)

pub constant-requires : goal.constant-requires
constant-requires c =
    let mid = c.add_row.new.self in
    let l = subst (IsLevelled c.in_ok-q.q mid.roles mid.restricted c.level.new.dict.roles) c.in-Short.is c.in_ok-level.ensures.levelled in
    l.0.row

pub returns-then-is_positive-clause-approached : goal.returns-then-is_positive-clause-approached
returns-then-is_positive-clause-approached c = λ told names k j.
    let x = c.in_ok-q.ensures in
    let mid = c.add_row.new.self in
    let new = c.level.new.dict.roles in
    let q = c.in_ok-q.q in
    let b = joining_behind told names k (quantities_of c.args.dict.now) c.args.places.now c.args.constant j (quantities_of mid) x.roles x.value x.table x.flags q x.number in
    let l = subst (IsLevelled q mid.roles mid.restricted new) c.in-Short.is c.in_ok-level.ensures.levelled in
    let m = moved_behind told names k mid.roles mid.restricted q b new l.0 in
    subst (λ (g : List Bool). IsShortAbove told names k new g q) (sym c.in_ok-level.ensures.flags)
    (short_above told names k new mid.restricted q m l.1
    (subst IsPositive (c.constant.ensures m.row.0 m.row.1) (c.is_positive.ensures.positive.0 c.if-is_positive.true)))

pub returns-else-is_positive-clause-approached : goal.returns-else-is_positive-clause-approached
returns-else-is_positive-clause-approached c = λ told names k j.
    let x = c.in_ok-q.ensures in
    let mid = c.add_row.new.self in
    let new = c.level.new.dict.roles in
    let q = c.in_ok-q.q in
    let b = joining_behind told names k (quantities_of c.args.dict.now) c.args.places.now c.args.constant j (quantities_of mid) x.roles x.value x.table x.flags q x.number in
    let l = subst (IsLevelled q mid.roles mid.restricted new) c.in-Short.is c.in_ok-level.ensures.levelled in
    let m = moved_behind told names k mid.roles mid.restricted q b new l.0 in
    subst (λ (g : List Bool). IsShortBelow told names k new g q) (sym c.in_ok-level.ensures.flags)
    (short_below told names k new mid.restricted q m l.1
    (λ p. let t = c.is_positive.ensures.positive.1 (subst IsPositive (sym (c.constant.ensures m.row.0 m.row.1)) p) in let f = c.if-is_positive.false in cc))

pub returns-in_err-q-clause-overflow : goal.returns-in_err-q-clause-overflow
returns-in_err-q-clause-overflow c = λ pair e told names k j.
    let f = searched c.from_residual.result c.in_err-q.field-0.0 pair c.from_residual.ensures.1 e in
    joining_refused told names k (quantities_of c.args.dict.now) c.args.places.now c.args.constant j pair (c.in_err-q.ensures.overflow pair (ap Err f))

pub returns-in_err-q-clause-pivots : goal.returns-in_err-q-clause-pivots
returns-in_err-q-clause-pivots c = λ n e. absurd (never_searched c.from_residual.result c.in_err-q.field-0.0 n c.from_residual.ensures.1 e)

pub returns-in_err-level-clause-overflow : goal.returns-in_err-level-clause-overflow
returns-in_err-level-clause-overflow c = λ pair e told names k j.
    let x = c.in_ok-q.ensures in
    let mid = c.add_row.new.self in
    let q = c.in_ok-q.q in
    let b = joining_behind told names k (quantities_of c.args.dict.now) c.args.places.now c.args.constant j (quantities_of mid) x.roles x.value x.table x.flags q x.number in
    let f = search_passed c.from_residual-in_err-level.result c.in_err-level.field-0.0 pair c.from_residual-in_err-level.ensures.1 e in
    level_refused told names k mid.roles mid.restricted q b pair (c.in_err-level.ensures.overflow pair (ap Err f))

pub returns-in_err-level-clause-pivots : goal.returns-in_err-level-clause-pivots
returns-in_err-level-clause-pivots c = λ n e.
    let f = search_spent c.from_residual-in_err-level.result c.in_err-level.field-0.0 n c.from_residual-in_err-level.ensures.1 e in
    let o = c.in_err-level.ensures.pivots n (ap Err f) in (
      o.0,
      λ told names k j.
          let x = c.in_ok-q.ensures in
          let mid = c.add_row.new.self in
          let q = c.in_ok-q.q in
          let b = joining_behind told names k (quantities_of c.args.dict.now) c.args.places.now c.args.constant j (quantities_of mid) x.roles x.value x.table x.flags q x.number in
          level_spent told names k mid.roles mid.restricted q b n o.1,
    )
