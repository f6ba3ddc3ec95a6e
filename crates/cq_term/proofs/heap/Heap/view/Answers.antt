use Rattle.std.proofs.lemmas.Int.{to_z-of_z}
use mir.Val.{SFits}
use mir.Syntax.{w64}
use Rattle.std.proofs.Common.{rules, ◌<◌, ◌+◌, ◌∙◌, ap, sym, length, get_or, refl, arith}
use Rattle.std.proofs.lemmas.List.{get_or_read}
use Rattle.spec_numbers.specs.Rational.{0ℚ}
use Rattle.cq_term.specs.Layout.{contents, all_built, homes, bindings}
use Rattle.cq_term.specs.declared.lists.Cell.TheVariants as cell
use Rattle.cq_term.specs.declared.view.View.TheVariants as view
use Rattle.cq_term.proofs.Kept.{var_free, inside_free}
use Rattle.cq_term.proofs.Cells.{length-built, length-meant}
use Rattle.cq_term.proofs.Reading.{cell_at, shown, shown_compound}
use Rattle.cq_term.proofs.heap.Heap.view.Goals as goal

pub resolve-end-requires-clause-live : goal.resolve-end-requires-clause-live
resolve-end-requires-clause-live c = rw (← length-meant (contents c.self.inside.lists)) (rw (← c.self.view_is) at c.requires)

pub index-requires-in-Wide : goal.index-requires-in-Wide
index-requires-in-Wide c =
    let lt : c.resolve-end.result < length c.self.inside.lists.cells.items = rw (← length-built (contents c.self.inside.lists)) c.resolve-end.ensures.live in
    let e = rw c.index.ensures at c.index-2.ensures in
    let here = cell_at (contents c.self.inside.lists) c.resolve-end.result c.index-2.result.now (cell.Wide c.in-Wide.place) lt e c.in-Wide.is in
    rw c.self.inside.lists.wide.ok.0 (c.self.invariant.now.kept c.resolve-end.result (cell.Wide c.in-Wide.place) here)

pub returns-in-Var-clause-view : goal.returns-in-Var-clause-view
returns-in-Var-clause-view c =
    let lt : c.resolve-end.result < length c.self.inside.lists.cells.items = rw (← length-built (contents c.self.inside.lists)) c.resolve-end.ensures.live in
    let e = rw c.index.ensures at c.index-2.ensures in
    let here = cell_at (contents c.self.inside.lists) c.resolve-end.result c.index-2.result.now (cell.Var c.in-Var.variable) lt e c.in-Var.is in
    rw (← c.self.view_is) (sym (shown (contents c.self.inside.lists) c.self.invariant.now c.args.id c.resolve-end.result c.resolve-end.ensures (cell.Var c.in-Var.variable) here))

pub returns-in-Var-clause-unbound : goal.returns-in-Var-clause-unbound
returns-in-Var-clause-unbound c = rw (← c.self.view_is) (var_free (all_built (contents c.self.inside.lists)) (homes (contents c.self.inside.lists)) (bindings (contents c.self.inside.lists)) c.self.invariant.now.heap c.args.id)

pub returns-in-Var-clause-inside : goal.returns-in-Var-clause-inside
returns-in-Var-clause-inside c = rw (← c.self.view_is) (inside_free (all_built (contents c.self.inside.lists)) (homes (contents c.self.inside.lists)) (bindings (contents c.self.inside.lists)) c.self.invariant.now.heap c.args.id)

pub returns-in-Whole-clause-view : goal.returns-in-Whole-clause-view
returns-in-Whole-clause-view c =
    let lt : c.resolve-end.result < length c.self.inside.lists.cells.items = rw (← length-built (contents c.self.inside.lists)) c.resolve-end.ensures.live in
    let e = rw c.index.ensures at c.index-2.ensures in
    let here = cell_at (contents c.self.inside.lists) c.resolve-end.result c.index-2.result.now (cell.Whole c.in-Whole.number) lt e c.in-Whole.is in
    let fits : SFits w64 c.in-Whole.number = search rules in
    rw (← c.self.view_is, c.from.ensures, to_z-of_z w64 c.in-Whole.number fits) (sym (shown (contents c.self.inside.lists) c.self.invariant.now c.args.id c.resolve-end.result c.resolve-end.ensures (cell.Whole c.in-Whole.number) here))

pub returns-in-Whole-clause-unbound : goal.returns-in-Whole-clause-unbound
returns-in-Whole-clause-unbound c = rw (← c.self.view_is) (var_free (all_built (contents c.self.inside.lists)) (homes (contents c.self.inside.lists)) (bindings (contents c.self.inside.lists)) c.self.invariant.now.heap c.args.id)

pub returns-in-Whole-clause-inside : goal.returns-in-Whole-clause-inside
returns-in-Whole-clause-inside c = rw (← c.self.view_is) (inside_free (all_built (contents c.self.inside.lists)) (homes (contents c.self.inside.lists)) (bindings (contents c.self.inside.lists)) c.self.invariant.now.heap c.args.id)

pub returns-in-Wide-clause-view : goal.returns-in-Wide-clause-view
returns-in-Wide-clause-view c =
    let lt : c.resolve-end.result < length c.self.inside.lists.cells.items = rw (← length-built (contents c.self.inside.lists)) c.resolve-end.ensures.live in
    let e = rw c.index.ensures at c.index-2.ensures in
    let here = cell_at (contents c.self.inside.lists) c.resolve-end.result c.index-2.result.now (cell.Wide c.in-Wide.place) lt e c.in-Wide.is in
    rw (← c.self.view_is) (ap view.Number (get_or_read c.self.inside.lists.wide.items c.in-Wide.place c.index-in-Wide.result.now (c.self.invariant.now.kept c.resolve-end.result (cell.Wide c.in-Wide.place) here) c.index-in-Wide.ensures 0ℚ) ∙ sym (shown (contents c.self.inside.lists) c.self.invariant.now c.args.id c.resolve-end.result c.resolve-end.ensures (cell.Wide c.in-Wide.place) here))

pub returns-in-Wide-clause-unbound : goal.returns-in-Wide-clause-unbound
returns-in-Wide-clause-unbound c = rw (← c.self.view_is) (var_free (all_built (contents c.self.inside.lists)) (homes (contents c.self.inside.lists)) (bindings (contents c.self.inside.lists)) c.self.invariant.now.heap c.args.id)

pub returns-in-Wide-clause-inside : goal.returns-in-Wide-clause-inside
returns-in-Wide-clause-inside c = rw (← c.self.view_is) (inside_free (all_built (contents c.self.inside.lists)) (homes (contents c.self.inside.lists)) (bindings (contents c.self.inside.lists)) c.self.invariant.now.heap c.args.id)

pub returns-in-Name-clause-view : goal.returns-in-Name-clause-view
returns-in-Name-clause-view c =
    let lt : c.resolve-end.result < length c.self.inside.lists.cells.items = rw (← length-built (contents c.self.inside.lists)) c.resolve-end.ensures.live in
    let e = rw c.index.ensures at c.index-2.ensures in
    let here = cell_at (contents c.self.inside.lists) c.resolve-end.result c.index-2.result.now (cell.Name c.in-Name.name) lt e c.in-Name.is in
    rw (← c.self.view_is) (sym (shown (contents c.self.inside.lists) c.self.invariant.now c.args.id c.resolve-end.result c.resolve-end.ensures (cell.Name c.in-Name.name) here))

pub returns-in-Name-clause-unbound : goal.returns-in-Name-clause-unbound
returns-in-Name-clause-unbound c = rw (← c.self.view_is) (var_free (all_built (contents c.self.inside.lists)) (homes (contents c.self.inside.lists)) (bindings (contents c.self.inside.lists)) c.self.invariant.now.heap c.args.id)

pub returns-in-Name-clause-inside : goal.returns-in-Name-clause-inside
returns-in-Name-clause-inside c = rw (← c.self.view_is) (inside_free (all_built (contents c.self.inside.lists)) (homes (contents c.self.inside.lists)) (bindings (contents c.self.inside.lists)) c.self.invariant.now.heap c.args.id)

pub returns-in-Compound-clause-view : goal.returns-in-Compound-clause-view
returns-in-Compound-clause-view c =
    let lt : c.resolve-end.result < length c.self.inside.lists.cells.items = rw (← length-built (contents c.self.inside.lists)) c.resolve-end.ensures.live in
    let e = rw c.index.ensures at c.index-2.ensures in
    let here = cell_at (contents c.self.inside.lists) c.resolve-end.result c.index-2.result.now (cell.Compound c.in-Compound.ground c.in-Compound.count c.in-Compound.name c.in-Compound.start) lt e c.in-Compound.is in
    let fits = c.self.invariant.now.kept c.resolve-end.result (cell.Compound c.in-Compound.ground c.in-Compound.count c.in-Compound.name c.in-Compound.start) here in
    rw (← c.self.view_is, c.numbered.ensures) (sym (shown_compound (contents c.self.inside.lists) c.self.invariant.now c.args.id c.resolve-end.result c.resolve-end.ensures
    (cell.Compound c.in-Compound.ground c.in-Compound.count c.in-Compound.name c.in-Compound.start) here c.in-Compound.count c.in-Compound.name c.in-Compound.start refl fits))

pub returns-in-Compound-clause-unbound : goal.returns-in-Compound-clause-unbound
returns-in-Compound-clause-unbound c = rw (← c.self.view_is) (var_free (all_built (contents c.self.inside.lists)) (homes (contents c.self.inside.lists)) (bindings (contents c.self.inside.lists)) c.self.invariant.now.heap c.args.id)

pub returns-in-Compound-clause-inside : goal.returns-in-Compound-clause-inside
returns-in-Compound-clause-inside c = rw (← c.self.view_is) (inside_free (all_built (contents c.self.inside.lists)) (homes (contents c.self.inside.lists)) (bindings (contents c.self.inside.lists)) c.self.invariant.now.heap c.args.id)

pub index-count-requires : goal.index-count-requires
index-count-requires c =
    let lt : c.resolve-end.result < length c.self.inside.lists.cells.items = rw (← length-built (contents c.self.inside.lists)) c.resolve-end.ensures.live in
    let e = rw c.index.ensures at c.index-2.ensures in
    let here = cell_at (contents c.self.inside.lists) c.resolve-end.result c.index-2.result.now (cell.Long c.in-Long.ground c.in-Long.name c.in-Long.start) lt e c.in-Long.is in
    let fits = c.self.invariant.now.kept c.resolve-end.result (cell.Long c.in-Long.ground c.in-Long.name c.in-Long.start) here in
    rw c.self.inside.lists.args.ok.0 (omega (arith, fits))

pub returns-in-Long-clause-view : goal.returns-in-Long-clause-view
returns-in-Long-clause-view c =
    let lt : c.resolve-end.result < length c.self.inside.lists.cells.items = rw (← length-built (contents c.self.inside.lists)) c.resolve-end.ensures.live in
    let e = rw c.index.ensures at c.index-2.ensures in
    let here = cell_at (contents c.self.inside.lists) c.resolve-end.result c.index-2.result.now (cell.Long c.in-Long.ground c.in-Long.name c.in-Long.start) lt e c.in-Long.is in
    let fits = c.self.invariant.now.kept c.resolve-end.result (cell.Long c.in-Long.ground c.in-Long.name c.in-Long.start) here in
    let args = c.self.inside.lists.args.items in
    let is = get_or_read args c.in-Long.start c.index-count.result.now (omega (arith, fits)) c.index-count.ensures 0 in
    rw (← c.self.view_is, c.numbered-in-Long.ensures, c.index-in-Long.ensures, is) (sym (shown_compound (contents c.self.inside.lists) c.self.invariant.now c.args.id c.resolve-end.result c.resolve-end.ensures
    (cell.Long c.in-Long.ground c.in-Long.name c.in-Long.start) here (get_or args c.in-Long.start 0) c.in-Long.name (c.in-Long.start + 1) refl fits))

pub returns-in-Long-clause-unbound : goal.returns-in-Long-clause-unbound
returns-in-Long-clause-unbound c = rw (← c.self.view_is) (var_free (all_built (contents c.self.inside.lists)) (homes (contents c.self.inside.lists)) (bindings (contents c.self.inside.lists)) c.self.invariant.now.heap c.args.id)

pub returns-in-Long-clause-inside : goal.returns-in-Long-clause-inside
returns-in-Long-clause-inside c = rw (← c.self.view_is) (inside_free (all_built (contents c.self.inside.lists)) (homes (contents c.self.inside.lists)) (bindings (contents c.self.inside.lists)) c.self.invariant.now.heap c.args.id)
