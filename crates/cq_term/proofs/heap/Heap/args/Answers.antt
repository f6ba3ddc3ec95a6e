use Rattle.std.proofs.Common.{◌≡◌, ◌<◌, ◌+◌, length, refl, sym, arith, get_or}
use Rattle.std.proofs.lemmas.List.{get_or_read}
use Rattle.cq_term.specs.Layout.{contents, all_built, bindings}
use Rattle.cq_term.specs.declared.lists.Cell.TheVariants as cell
use Rattle.cq_term.proofs.Meanings.{length-meanings}
use Rattle.cq_term.proofs.Cells.{length-built, length-meant}
use Rattle.cq_term.proofs.Reading.{cell_at, not_compound, arguments_live, its_arguments}
use Rattle.cq_term.proofs.heap.Heap.args.Goals as goal

pub resolve-end-requires-clause-live : goal.resolve-end-requires-clause-live
resolve-end-requires-clause-live c = rw (← length-meant (contents c.self.inside.lists)) (rw (← c.self.view_is) at c.requires)

pub part-requires : goal.part-requires
part-requires c =
    let lt : c.resolve-end.result < length c.self.inside.lists.cells.items = rw (← length-built (contents c.self.inside.lists)) c.resolve-end.ensures.live in
    let e = rw c.index.ensures at c.index-2.ensures in
    let here = cell_at (contents c.self.inside.lists) c.resolve-end.result c.index-2.result.now (cell.Compound c.in-Compound.ground c.in-Compound.count c.in-Compound.name c.in-Compound.start) lt e c.in-Compound.is in
    let fits = c.self.invariant.now.kept c.resolve-end.result (cell.Compound c.in-Compound.ground c.in-Compound.count c.in-Compound.name c.in-Compound.start) here in
    fits

pub returns-in-Compound-clause-live : goal.returns-in-Compound-clause-live
returns-in-Compound-clause-live c =
    let lt : c.resolve-end.result < length c.self.inside.lists.cells.items = rw (← length-built (contents c.self.inside.lists)) c.resolve-end.ensures.live in
    let e = rw c.index.ensures at c.index-2.ensures in
    let here = cell_at (contents c.self.inside.lists) c.resolve-end.result c.index-2.result.now (cell.Compound c.in-Compound.ground c.in-Compound.count c.in-Compound.name c.in-Compound.start) lt e c.in-Compound.is in
    let fits = c.self.invariant.now.kept c.resolve-end.result (cell.Compound c.in-Compound.ground c.in-Compound.count c.in-Compound.name c.in-Compound.start) here in
    rw (c.part.ensures, ← c.self.view_is, length-meanings (all_built (contents c.self.inside.lists)) (bindings (contents c.self.inside.lists)))
    (arguments_live (contents c.self.inside.lists) c.self.invariant.now c.args.id c.resolve-end.result c.resolve-end.ensures
    (cell.Compound c.in-Compound.ground c.in-Compound.count c.in-Compound.name c.in-Compound.start) here c.in-Compound.count c.in-Compound.name c.in-Compound.start refl)

pub returns-in-Compound-clause-args : goal.returns-in-Compound-clause-args
returns-in-Compound-clause-args c =
    let lt : c.resolve-end.result < length c.self.inside.lists.cells.items = rw (← length-built (contents c.self.inside.lists)) c.resolve-end.ensures.live in
    let e = rw c.index.ensures at c.index-2.ensures in
    let here = cell_at (contents c.self.inside.lists) c.resolve-end.result c.index-2.result.now (cell.Compound c.in-Compound.ground c.in-Compound.count c.in-Compound.name c.in-Compound.start) lt e c.in-Compound.is in
    let fits = c.self.invariant.now.kept c.resolve-end.result (cell.Compound c.in-Compound.ground c.in-Compound.count c.in-Compound.name c.in-Compound.start) here in
    rw (c.part.ensures, ← c.self.view_is) (sym (its_arguments (contents c.self.inside.lists) c.self.invariant.now c.args.id c.resolve-end.result c.resolve-end.ensures
    (cell.Compound c.in-Compound.ground c.in-Compound.count c.in-Compound.name c.in-Compound.start) here c.in-Compound.count c.in-Compound.name c.in-Compound.start refl))

pub returns-in_default : goal.returns-in_default
returns-in_default c =
    let lt : c.resolve-end.result < length c.self.inside.lists.cells.items = rw (← length-built (contents c.self.inside.lists)) c.resolve-end.ensures.live in
    let e = rw c.index.ensures at c.index-2.ensures in
    let here = cell_at (contents c.self.inside.lists) c.resolve-end.result c.index-2.result.now c.index-2.result.now lt e refl in
    record {
      live = λ k d within. absurd (omega arith);
      args = rw (← c.self.view_is) (sym (not_compound (contents c.self.inside.lists) c.self.invariant.now c.args.id c.resolve-end.result c.resolve-end.ensures c.index-2.result.now here c.in_default.not-Compound c.in_default.not-Long));
    }

pub index-count-requires : goal.index-count-requires
index-count-requires c =
    let args = c.self.inside.lists.args.items in
    let lt : c.resolve-end.result < length c.self.inside.lists.cells.items = rw (← length-built (contents c.self.inside.lists)) c.resolve-end.ensures.live in
    let e = rw c.index.ensures at c.index-2.ensures in
    let here = cell_at (contents c.self.inside.lists) c.resolve-end.result c.index-2.result.now (cell.Long c.in-Long.ground c.in-Long.name c.in-Long.start) lt e c.in-Long.is in
    let fits = c.self.invariant.now.kept c.resolve-end.result (cell.Long c.in-Long.ground c.in-Long.name c.in-Long.start) here in
    rw c.self.inside.lists.args.ok.0 (omega (arith, fits))

pub overflow_add-start : goal.overflow_add-start
overflow_add-start c =
    let args = c.self.inside.lists.args.items in
    let lt : c.resolve-end.result < length c.self.inside.lists.cells.items = rw (← length-built (contents c.self.inside.lists)) c.resolve-end.ensures.live in
    let e = rw c.index.ensures at c.index-2.ensures in
    let here = cell_at (contents c.self.inside.lists) c.resolve-end.result c.index-2.result.now (cell.Long c.in-Long.ground c.in-Long.name c.in-Long.start) lt e c.in-Long.is in
    let fits = c.self.invariant.now.kept c.resolve-end.result (cell.Long c.in-Long.ground c.in-Long.name c.in-Long.start) here in
    omega (arith, fits, c.self.inside.lists.args.ok.0, c.self.inside.lists.args.ok.1, c.self.inside.lists.args.small)

pub part-requires-in-Long : goal.part-requires-in-Long
part-requires-in-Long c =
    let args = c.self.inside.lists.args.items in
    let lt : c.resolve-end.result < length c.self.inside.lists.cells.items = rw (← length-built (contents c.self.inside.lists)) c.resolve-end.ensures.live in
    let e = rw c.index.ensures at c.index-2.ensures in
    let here = cell_at (contents c.self.inside.lists) c.resolve-end.result c.index-2.result.now (cell.Long c.in-Long.ground c.in-Long.name c.in-Long.start) lt e c.in-Long.is in
    let fits = c.self.invariant.now.kept c.resolve-end.result (cell.Long c.in-Long.ground c.in-Long.name c.in-Long.start) here in
    let is : c.index-count.result.now ≡ get_or args c.in-Long.start 0 = get_or_read args c.in-Long.start c.index-count.result.now (omega (arith, fits)) c.index-count.ensures 0 in
    omega (arith, fits, is, c.index-in-Long.ensures)

pub returns-in-Long-clause-live : goal.returns-in-Long-clause-live
returns-in-Long-clause-live c =
    let args = c.self.inside.lists.args.items in
    let lt : c.resolve-end.result < length c.self.inside.lists.cells.items = rw (← length-built (contents c.self.inside.lists)) c.resolve-end.ensures.live in
    let e = rw c.index.ensures at c.index-2.ensures in
    let here = cell_at (contents c.self.inside.lists) c.resolve-end.result c.index-2.result.now (cell.Long c.in-Long.ground c.in-Long.name c.in-Long.start) lt e c.in-Long.is in
    let fits = c.self.invariant.now.kept c.resolve-end.result (cell.Long c.in-Long.ground c.in-Long.name c.in-Long.start) here in
    let is : c.index-count.result.now ≡ get_or args c.in-Long.start 0 = get_or_read args c.in-Long.start c.index-count.result.now (omega (arith, fits)) c.index-count.ensures 0 in
    rw (c.part-in-Long.ensures, c.index-in-Long.ensures, is, ← c.self.view_is, length-meanings (all_built (contents c.self.inside.lists)) (bindings (contents c.self.inside.lists)))
    (arguments_live (contents c.self.inside.lists) c.self.invariant.now c.args.id c.resolve-end.result c.resolve-end.ensures
    (cell.Long c.in-Long.ground c.in-Long.name c.in-Long.start) here (get_or args c.in-Long.start 0) c.in-Long.name (c.in-Long.start + 1) refl)

pub returns-in-Long-clause-args : goal.returns-in-Long-clause-args
returns-in-Long-clause-args c =
    let args = c.self.inside.lists.args.items in
    let lt : c.resolve-end.result < length c.self.inside.lists.cells.items = rw (← length-built (contents c.self.inside.lists)) c.resolve-end.ensures.live in
    let e = rw c.index.ensures at c.index-2.ensures in
    let here = cell_at (contents c.self.inside.lists) c.resolve-end.result c.index-2.result.now (cell.Long c.in-Long.ground c.in-Long.name c.in-Long.start) lt e c.in-Long.is in
    let fits = c.self.invariant.now.kept c.resolve-end.result (cell.Long c.in-Long.ground c.in-Long.name c.in-Long.start) here in
    let is : c.index-count.result.now ≡ get_or args c.in-Long.start 0 = get_or_read args c.in-Long.start c.index-count.result.now (omega (arith, fits)) c.index-count.ensures 0 in
    rw (c.part-in-Long.ensures, c.index-in-Long.ensures, is, ← c.self.view_is) (sym (its_arguments (contents c.self.inside.lists) c.self.invariant.now c.args.id c.resolve-end.result c.resolve-end.ensures
    (cell.Long c.in-Long.ground c.in-Long.name c.in-Long.start) here (get_or args c.in-Long.start 0) c.in-Long.name (c.in-Long.start + 1) refl))
