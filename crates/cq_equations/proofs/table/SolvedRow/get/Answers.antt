-- Each entry is of a variable.
use Rattle.std.proofs.Common.{◌≡◌, ◌<◌, length, get_or, arith, ap, sym, ◌∙◌, subst, Some}
use Rattle.cq_frac.specs.declared.row.Entry.{Entry}
use Rattle.cq_equations.specs.declared.table.Name.TheVariants.{Variable}
use Rattle.cq_equations.specs.Contents.{IsNamed}
use Rattle.cq_equations.proofs.Places.{named_read, named_below, variable_at, product_at, length-products_of}
use Rattle.cq_equations.proofs.table.SolvedRow.get.Goals as goal

pub offset_bounds-entries-i : goal.offset_bounds-entries-i
offset_bounds-entries-i c =
    let b : c.args.i < length c.self.inside.entries.now = omega (arith, rw (← c.self.view_is) at c.requires, length-products_of c.self.inside.names.now c.self.inside.entries.now) in
    omega (arith, c.self.told, b)

pub bounds-self-inside-entry : goal.bounds-self-inside-entry
bounds-self-inside-entry c =
    let b : c.args.i < length c.self.inside.entries.now = omega (arith, rw (← c.self.view_is) at c.requires, length-products_of c.self.inside.names.now c.self.inside.entries.now) in
    let x = variable_at c.self.inside.names.now c.self.inside.entries.now c.args.i c.index-entries-i.result c.self.invariant b in
    subst (λ (m : Entry). m.quantity < length c.self.inside.names.now) (sym c.index-entries-i.is) (named_below c.self.inside.names.now (get_or c.self.inside.entries.now c.args.i c.index-entries-i.result).quantity x.0 x.1)

pub unreachable-requires : goal.unreachable-requires
unreachable-requires c =
    let b : c.args.i < length c.self.inside.entries.now = omega (arith, rw (← c.self.view_is) at c.requires, length-products_of c.self.inside.names.now c.self.inside.entries.now) in
    let x = variable_at c.self.inside.names.now c.self.inside.entries.now c.args.i c.index-entries-i.result c.self.invariant b in
    let e = named_read c.self.inside.names.now (get_or c.self.inside.entries.now c.args.i c.index-entries-i.result).quantity x.0 (Variable (record { 0 = 0 })) x.1 in
    let f = c.in-Member.is in cc

pub returns : goal.returns
returns c =
    let b : c.args.i < length c.self.inside.entries.now = omega (arith, rw (← c.self.view_is) at c.requires, length-products_of c.self.inside.names.now c.self.inside.entries.now) in
    let x = variable_at c.self.inside.names.now c.self.inside.entries.now c.args.i c.index-entries-i.result c.self.invariant b in
    let e = named_read c.self.inside.names.now (get_or c.self.inside.entries.now c.args.i c.index-entries-i.result).quantity x.0 (Variable (record { 0 = 0 })) x.1 in
    let f = c.in-Variable.is in
    let w : x.0 ≡ c.in-Variable.x = cc in
    rw (← c.self.view_is)
    (product_at c.self.inside.names.now c.self.inside.entries.now c.args.i c.index-entries-i.result c.in-Variable.x b (subst (IsNamed c.self.inside.names.now (get_or c.self.inside.entries.now c.args.i c.index-entries-i.result).quantity) w x.1)
    ∙ ap (λ (m : Entry). Some (record { variable = c.in-Variable.x.0; factor = m.factor })) (sym c.index-entries-i.is))
