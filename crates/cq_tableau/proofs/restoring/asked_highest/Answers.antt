use Rattle.std.proofs.Common.{◌<◌, List, Err, length, ap, sym, subst}
use Rattle.spec_numbers.specs.Rational.{ℚ}
use Rattle.cq_frac.specs.declared.row.Entry.{Entry}
use Rattle.cq_frac.specs.Rows.{Has}
use Rattle.cq_dict.specs.Dict.{AddsRow, DefinesLast, RefusesForm}
use Rattle.cq_dict.specs.DictValue.{quantities_of}
use Rattle.cq_dict.specs.Roles.{IsRow}
use Rattle.cq_tableau.specs.Restored.{HasGreatest, HasFormRow, AreHighest, RefusesRaised, SpendsRaised, making, raising}
use Rattle.cq_tableau.proofs.Passed.{searched, never_searched, search_passed, search_spent}
use Rattle.cq_tableau.proofs.Restores.{made_row, made_greatest}
use Rattle.cq_tableau.proofs.Storing.{placed_below}
use Rattle.cq_tableau.proofs.restoring.asked_highest.Goals as goal

pub add_row-requires : goal.add_row-requires
add_row-requires c =
    let g = c.requires.greatest in
    subst (λ (t : List Entry). (m : Entry) → Has m t → m.quantity < length c.args.dict.now.roles) (sym c.deref.ensures.value)
    (λ m h. subst (λ k. m.quantity < k) g.between.size (placed_below c.args.names.now.now c.args.form.now.products c.in_ok-entries.entries.items c.in_ok-entries.ensures.placed m h))

pub highest-requires-clause-row : goal.highest-requires-clause-row
highest-requires-clause-row c =
    let g = c.requires.greatest in
    let names = c.args.names.now.now in
    let f = c.args.form.now in
    let old = c.args.dict.now.roles in
    let new = c.add_row.new.self.roles in
    let h : HasFormRow names (quantities_of c.args.dict.now) f (quantities_of c.add_row.new.self) = record {
      entries = c.in_ok-entries.entries.items;
      placed = c.in_ok-entries.ensures.placed;
      row = subst (λ (k : ℚ). AddsRow old c.in_ok-entries.entries.items k new) c.constant.ensures
          (subst (λ (t : List Entry). AddsRow old t c.constant.result new) c.deref.ensures.value c.in_ok-q.ensures.roles);
      defines = subst (λ (k : ℚ). DefinesLast old c.in_ok-entries.entries.items k new) c.constant.ensures
          (subst (λ (t : List Entry). DefinesLast old t c.constant.result new) c.deref.ensures.value c.in_ok-q.ensures.value);
      table = c.in_ok-q.ensures.table;
      flags = c.in_ok-q.ensures.flags;
    } in
    subst (IsRow new) (sym c.in_ok-q.ensures.number) (made_row g.list names (quantities_of c.args.dict.now) g.between f (quantities_of c.add_row.new.self) h)

pub highest-requires-clause-greatest : goal.highest-requires-clause-greatest
highest-requires-clause-greatest c =
    let g = c.requires.greatest in
    let names = c.args.names.now.now in
    let f = c.args.form.now in
    let old = c.args.dict.now.roles in
    let new = c.add_row.new.self.roles in
    let h : HasFormRow names (quantities_of c.args.dict.now) f (quantities_of c.add_row.new.self) = record {
      entries = c.in_ok-entries.entries.items;
      placed = c.in_ok-entries.ensures.placed;
      row = subst (λ (k : ℚ). AddsRow old c.in_ok-entries.entries.items k new) c.constant.ensures
          (subst (λ (t : List Entry). AddsRow old t c.constant.result new) c.deref.ensures.value c.in_ok-q.ensures.roles);
      defines = subst (λ (k : ℚ). DefinesLast old c.in_ok-entries.entries.items k new) c.constant.ensures
          (subst (λ (t : List Entry). DefinesLast old t c.constant.result new) c.deref.ensures.value c.in_ok-q.ensures.value);
      table = c.in_ok-q.ensures.table;
      flags = c.in_ok-q.ensures.flags;
    } in
    subst (HasGreatest new c.add_row.new.self.restricted) (sym c.in_ok-q.ensures.number)
    (made_greatest g.list names (quantities_of c.args.dict.now) g.between f (quantities_of c.add_row.new.self) h g.value g.greatest)

pub returns-clause-entries : goal.returns-clause-entries
returns-clause-entries c =
    let g = c.requires.greatest in
    let names = c.args.names.now.now in
    let f = c.args.form.now in
    let old = c.args.dict.now.roles in
    let new = c.add_row.new.self.roles in
    let h : HasFormRow names (quantities_of c.args.dict.now) f (quantities_of c.add_row.new.self) = record {
      entries = c.in_ok-entries.entries.items;
      placed = c.in_ok-entries.ensures.placed;
      row = subst (λ (k : ℚ). AddsRow old c.in_ok-entries.entries.items k new) c.constant.ensures
          (subst (λ (t : List Entry). AddsRow old t c.constant.result new) c.deref.ensures.value c.in_ok-q.ensures.roles);
      defines = subst (λ (k : ℚ). DefinesLast old c.in_ok-entries.entries.items k new) c.constant.ensures
          (subst (λ (t : List Entry). DefinesLast old t c.constant.result new) c.deref.ensures.value c.in_ok-q.ensures.value);
      table = c.in_ok-q.ensures.table;
      flags = c.in_ok-q.ensures.flags;
    } in
    record {
      mid = quantities_of c.add_row.new.self;
      has_row = h;
      highest = subst (λ m. AreHighest names m new c.add_row.new.self.restricted c.in_ok-found.found.items) c.in_ok-q.ensures.number c.in_ok-found.ensures.entries;
    }

pub returns-in_err-q-clause-overflow : goal.returns-in_err-q-clause-overflow
returns-in_err-q-clause-overflow c = λ pair e.
    let f = searched c.from_residual-in_err-q.result c.in_err-q.field-0.0 pair c.from_residual-in_err-q.ensures.1 e in
    making c.in_ok-entries.entries.items c.in_ok-entries.ensures.placed c.in_ok-entries.ensures.in_order
    (subst (λ (v : ℚ). RefusesForm c.args.dict.now.roles c.in_ok-entries.entries.items v pair) c.constant.ensures
    (subst (λ (t : List Entry). RefusesForm c.args.dict.now.roles t c.constant.result pair) c.deref.ensures.value (c.in_err-q.ensures.overflow pair (ap Err f))))

pub returns-in_err-q-clause-pivots : goal.returns-in_err-q-clause-pivots
returns-in_err-q-clause-pivots c = λ n e. absurd (never_searched c.from_residual-in_err-q.result c.in_err-q.field-0.0 n c.from_residual-in_err-q.ensures.1 e)

pub returns-in_err-found-clause-overflow : goal.returns-in_err-found-clause-overflow
returns-in_err-found-clause-overflow c = λ pair e.
    let g = c.requires.greatest in
    let names = c.args.names.now.now in
    let f = c.args.form.now in
    let old = c.args.dict.now.roles in
    let new = c.add_row.new.self.roles in
    let h : HasFormRow names (quantities_of c.args.dict.now) f (quantities_of c.add_row.new.self) = record {
      entries = c.in_ok-entries.entries.items;
      placed = c.in_ok-entries.ensures.placed;
      row = subst (λ (k : ℚ). AddsRow old c.in_ok-entries.entries.items k new) c.constant.ensures
          (subst (λ (t : List Entry). AddsRow old t c.constant.result new) c.deref.ensures.value c.in_ok-q.ensures.roles);
      defines = subst (λ (k : ℚ). DefinesLast old c.in_ok-entries.entries.items k new) c.constant.ensures
          (subst (λ (t : List Entry). DefinesLast old t c.constant.result new) c.deref.ensures.value c.in_ok-q.ensures.value);
      table = c.in_ok-q.ensures.table;
      flags = c.in_ok-q.ensures.flags;
    } in
    let p = search_passed c.from_residual-in_err-found.result c.in_err-found.field-0.0 pair c.from_residual-in_err-found.ensures.1 e in
    raising (quantities_of c.add_row.new.self) h
    (subst (λ m. RefusesRaised m new c.add_row.new.self.restricted pair) c.in_ok-q.ensures.number (c.in_err-found.ensures.overflow pair (ap Err p)))

pub returns-in_err-found-clause-pivots : goal.returns-in_err-found-clause-pivots
returns-in_err-found-clause-pivots c = λ n e.
    let g = c.requires.greatest in
    let names = c.args.names.now.now in
    let f = c.args.form.now in
    let old = c.args.dict.now.roles in
    let new = c.add_row.new.self.roles in
    let h : HasFormRow names (quantities_of c.args.dict.now) f (quantities_of c.add_row.new.self) = record {
      entries = c.in_ok-entries.entries.items;
      placed = c.in_ok-entries.ensures.placed;
      row = subst (λ (k : ℚ). AddsRow old c.in_ok-entries.entries.items k new) c.constant.ensures
          (subst (λ (t : List Entry). AddsRow old t c.constant.result new) c.deref.ensures.value c.in_ok-q.ensures.roles);
      defines = subst (λ (k : ℚ). DefinesLast old c.in_ok-entries.entries.items k new) c.constant.ensures
          (subst (λ (t : List Entry). DefinesLast old t c.constant.result new) c.deref.ensures.value c.in_ok-q.ensures.value);
      table = c.in_ok-q.ensures.table;
      flags = c.in_ok-q.ensures.flags;
    } in
    let p = search_spent c.from_residual-in_err-found.result c.in_err-found.field-0.0 n c.from_residual-in_err-found.ensures.1 e in
    let o = c.in_err-found.ensures.pivots n (ap Err p) in (
      o.0,
      record {
        mid = quantities_of c.add_row.new.self;
        has_row = h;
        spends = subst (λ m. SpendsRaised m new c.add_row.new.self.restricted n) c.in_ok-q.ensures.number o.1;
      },
    )
