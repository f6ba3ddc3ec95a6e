use Rattle.std.proofs.Common.{◌<◌, List, Err, length, ap, sym, subst}
use Rattle.spec_numbers.specs.Rational.{ℚ}
use Rattle.cq_frac.specs.declared.row.Entry.{Entry}
use Rattle.cq_frac.specs.Rows.{Has}
use Rattle.cq_dict.specs.Dict.{AddsRow, DefinesLast, RefusesForm}
use Rattle.cq_dict.specs.DictValue.{quantities_of}
use Rattle.cq_tableau.proofs.Storing.{entries_below}
use Rattle.cq_store.proofs.Passed.{refused, never_spent}
use Rattle.cq_store.proofs.asking.ask.Goals as goal

pub add_row-requires : goal.add_row-requires
add_row-requires c =
    let told = c.requires.stored.0 in
    subst (λ (t : List Entry). (m : Entry) → Has m t → m.quantity < length c.place.new.dict.roles) (sym c.deref.ensures.value)
    (entries_below told c.place.new.names.now (quantities_of c.place.new.dict) (c.in_ok-entries.ensures.stored told c.requires.stored.1) c.args.form.now c.in_ok-entries.entries.items
    c.in_ok-entries.ensures.placed)

pub returns-clause-asked : goal.returns-clause-asked
returns-clause-asked c =
    let old = c.place.new.dict.roles in
    let new = c.add_row.new.self.roles in
    record {
      entries = c.in_ok-entries.entries.items;
      before = quantities_of c.place.new.dict;
      stays = c.in_ok-entries.ensures.stored;
      placed = c.in_ok-entries.ensures.placed;
      row = subst (λ (k : ℚ). AddsRow old c.in_ok-entries.entries.items k new) c.constant.ensures
          (subst (λ (t : List Entry). AddsRow old t c.constant.result new) c.deref.ensures.value c.in_ok-n.ensures.roles);
      defines = subst (λ (k : ℚ). DefinesLast old c.in_ok-entries.entries.items k new) c.constant.ensures
          (subst (λ (t : List Entry). DefinesLast old t c.constant.result new) c.deref.ensures.value c.in_ok-n.ensures.value);
      table = c.in_ok-n.ensures.table;
      flags = c.in_ok-n.ensures.flags;
      number = c.in_ok-n.ensures.number;
    }

pub returns-in_err-n-clause-overflow : goal.returns-in_err-n-clause-overflow
returns-in_err-n-clause-overflow c = λ pair e.
    let f = refused c.from_residual-in_err-n.result c.in_err-n.field-0.0 pair c.from_residual-in_err-n.ensures.1 e in
    record {
      entries = c.in_ok-entries.entries.items;
      new_names = c.place.new.names.now;
      before = quantities_of c.place.new.dict;
      stays = c.in_ok-entries.ensures.stored;
      placed = c.in_ok-entries.ensures.placed;
      ordered = c.in_ok-entries.ensures.in_order;
      refused = subst (λ (v : ℚ). RefusesForm c.place.new.dict.roles c.in_ok-entries.entries.items v pair) c.constant.ensures
          (subst (λ (t : List Entry). RefusesForm c.place.new.dict.roles t c.constant.result pair) c.deref.ensures.value (c.in_err-n.ensures.overflow pair (ap Err f)));
    }

pub returns-in_err-n-clause-pivots : goal.returns-in_err-n-clause-pivots
returns-in_err-n-clause-pivots c = λ n e. never_spent c.from_residual-in_err-n.result c.in_err-n.field-0.0 n c.from_residual-in_err-n.ensures.1 e
