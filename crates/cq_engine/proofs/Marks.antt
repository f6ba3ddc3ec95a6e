-- Another heap with the same marks.
use Rattle.std.proofs.Common.{◌≡◌, List, map, ap}
use Rattle.std.specs.List.{zip}
use Rattle.cq_store.specs.StoreValue.{kept}
use Rattle.cq_term.specs.HeapValue.{HeapValue, Terms}
use Rattle.cq_settle.specs.Contents.{contents_of}
use Rattle.cq_settle.specs.declared.world.World.{World}
use Rattle.spec_engine.specs.declared.machine.cell.Cell.{Cell}
use Rattle.cq_branch.specs.Worlds.{saved_values}

pub marks : (w : World) (heap : HeapValue) (lists : List (List (List Cell))) → heap.saved ≡ w.heap.saved
    → zip (map contents_of (zip heap.saved (zip w.attrs.saved (map (kept w.store.pivots) w.store.saved)))) lists ≡ saved_values w lists
marks w heap lists e = ap (λ (hs : List Terms). zip (map contents_of (zip hs (zip w.attrs.saved (map (kept w.store.pivots) w.store.saved)))) lists) e
