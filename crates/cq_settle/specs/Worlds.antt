-- A world as its callers see it: what it holds now and at its marks.
use Rattle.std.specs.Prelude.{ℕ, List, map, min}
use Rattle.std.specs.List.{zip}
use Rattle.cq_store.specs.StoreValue.{kept}
use Rattle.cq_settle.specs.Contents.{Contents, contents_of}
use Rattle.cq_settle.specs.declared.world.World.{World}

abbrev pub now_of : World → Contents
now_of w = record { heap = w.heap.now; attrs = w.attrs.now; told = w.store.told; pivots = w.store.pivots }

-- at the live marks, the oldest first
abbrev pub saved_of : World → List Contents
saved_of w = map contents_of (zip w.heap.saved (zip w.attrs.saved (map (kept w.store.pivots) w.store.saved)))

-- how many marks find their memory set aside
abbrev pub room_of : World → ℕ
room_of w = min w.heap.room (min w.attrs.room w.store.room)
