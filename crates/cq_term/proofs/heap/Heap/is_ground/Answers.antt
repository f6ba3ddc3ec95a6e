use Rattle.std.proofs.Common.{◌<◌, length, refl}
use Rattle.cq_term.specs.Layout.{contents}
use Rattle.cq_term.specs.declared.lists.Cell.TheVariants as cell
use Rattle.cq_term.proofs.Cells.{length-built, length-meant}
use Rattle.cq_term.proofs.Reading.{cell_at, ground_at, closed_kind}
use Rattle.cq_term.proofs.heap.Heap.is_ground.Goals as goal

pub resolve-end-requires-clause-live : goal.resolve-end-requires-clause-live
resolve-end-requires-clause-live c = rw (← length-meant (contents c.self.inside.lists)) (rw (← c.self.view_is) at c.requires)

pub returns-in-Whole : goal.returns-in-Whole
returns-in-Whole c =
    let lt : c.resolve-end.result < length c.self.inside.lists.cells.items = rw (← length-built (contents c.self.inside.lists)) c.resolve-end.ensures.live in
    let e = rw c.index.ensures at c.index-2.ensures in
    let here = cell_at (contents c.self.inside.lists) c.resolve-end.result c.index-2.result.now c.index-2.result.now lt e refl in
    rw (← c.self.view_is) (λ t. ground_at (contents c.self.inside.lists) c.self.invariant.now c.args.id c.resolve-end.result c.resolve-end.ensures c.index-2.result.now here (closed_kind c.index-2.result.now c.in-Whole.is))

pub returns-in-Compound : goal.returns-in-Compound
returns-in-Compound c =
    let lt : c.resolve-end.result < length c.self.inside.lists.cells.items = rw (← length-built (contents c.self.inside.lists)) c.resolve-end.ensures.live in
    let e = rw c.index.ensures at c.index-2.ensures in
    let here = cell_at (contents c.self.inside.lists) c.resolve-end.result c.index-2.result.now (cell.Compound c.in-Compound.ground c.in-Compound.count c.in-Compound.name c.in-Compound.start) lt e c.in-Compound.is in
    rw (← c.self.view_is) (ground_at (contents c.self.inside.lists) c.self.invariant.now c.args.id c.resolve-end.result c.resolve-end.ensures (cell.Compound c.in-Compound.ground c.in-Compound.count c.in-Compound.name c.in-Compound.start) here)
