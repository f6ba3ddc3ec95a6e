use Rattle.std.proofs.Common.{◌-◌, ◌<◌, length, refl, sym, ap, ◌∙◌, arith}
use Rattle.std.proofs.lemmas.Option.{slice_get_read}
use Rattle.cq_control.specs.Cells.{lists}
use Rattle.cq_control.specs.Items.{items_at}
use Rattle.cq_control.proofs.Lists.{nothing_to_do, first_item, length-lists}
use Rattle.cq_control.proofs.continuations.Continuations.first.Goals as goal

pub returns-then-of-eq0-clause-none : goal.returns-then-of-eq0-clause-none
returns-then-of-eq0-clause-none g c = rw (← c.self.view_is, ← c.of.view_is, c.if-of-eq0.true) (nothing_to_do c.self.inside.cells.now)

pub offset_bounds-cells-of-inside : goal.offset_bounds-cells-of-inside
offset_bounds-cells-of-inside g c =
    let within = rw (← c.self.view_is, ← c.of.view_is) at c.requires in
    omega (arith, within, length-lists c.self.inside.cells.now, ap length c.as_slice-cells.ensures, c.if-of-eq0.false)

pub bounds-cells-of-inside : goal.bounds-cells-of-inside
bounds-cells-of-inside g c =
    let within = rw (← c.self.view_is, ← c.of.view_is) at c.requires in
    omega (arith, within, length-lists c.self.inside.cells.now, ap length c.as_slice-cells.ensures, c.if-of-eq0.false)

pub returns-clause-some : goal.returns-clause-some
returns-clause-some g c =
    let cells = c.self.inside.cells.now in
    let within = rw (← c.self.view_is, ← c.of.view_is) at c.requires in
    let below : c.of.inside.number - 1 < length cells = omega (arith, within, length-lists cells, c.if-of-eq0.false) in
    let is = rw c.as_slice-cells.ensures at c.index-cells-of.is in
    let here = slice_get_read cells (length cells) (c.of.inside.number - 1) c.index-cells-of.result refl below is in
    let item = first_item cells c.self.invariant.now c.of.inside.number c.index-cells-of.result (omega (arith, c.if-of-eq0.false)) here in
    rw (← c.self.view_is) (sym (ap (items_at (lists cells)) c.of.view_is) ∙ item.0)

pub returns-clause-earlier : goal.returns-clause-earlier
returns-clause-earlier g c =
    let cells = c.self.inside.cells.now in
    let within = rw (← c.self.view_is, ← c.of.view_is) at c.requires in
    let below : c.of.inside.number - 1 < length cells = omega (arith, within, length-lists cells, c.if-of-eq0.false) in
    let is = rw c.as_slice-cells.ensures at c.index-cells-of.is in
    let here = slice_get_read cells (length cells) (c.of.inside.number - 1) c.index-cells-of.result refl below is in
    let item = first_item cells c.self.invariant.now c.of.inside.number c.index-cells-of.result (omega (arith, c.if-of-eq0.false)) here in
    omega (arith, item.1, c.of.view_is)
