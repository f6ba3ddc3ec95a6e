-- Back to a mark of a world.
use Rattle.std.proofs.Common.{◌≡◌, ℕ, List, [], ◌∷◌, ◌++◌, map, length, Some, sym, ap, ap₂, ◌∙◌}
use Rattle.std.specs.Prelude.{slice_get}
use Rattle.std.specs.List.{zip}
use Rattle.std.proofs.lemmas.Option.{same_Some}
use Rattle.cq_store.specs.StoreValue.{kept}
use Rattle.cq_term.specs.HeapValue.{Terms}
use Rattle.cq_term.proofs.Kept.{get_last}
use Rattle.cq_settle.specs.Contents.{contents_of}
use Rattle.cq_settle.specs.Worlds.{now_of, saved_of}
use Rattle.cq_settle.specs.declared.world.World.{World}

module _ (old marked ran : World) (n : ℕ) (number : n ≡ length (saved_of old)) (saved : saved_of marked ≡ saved_of old ++ now_of old ∷ []) (runs : saved_of ran ≡ saved_of marked) where
  -- the world at the mark's end is the one that was marked
  pub went_back : (end : World) → slice_get (saved_of ran) n ≡ Some (now_of end) → now_of end ≡ now_of old
  went_back end e = same_Some (now_of end) (now_of old) (sym e ∙ ap₂ slice_get (runs ∙ saved) number ∙ get_last (saved_of old) (now_of old))

-- the marks of a world of which the heap changed, and its marks stayed
pub saved_still : (w : World) (saved : List Terms) → saved ≡ w.heap.saved → map contents_of (zip saved (zip w.attrs.saved (map (kept w.store.pivots) w.store.saved))) ≡ saved_of w
saved_still w saved e = ap (λ (hs : List Terms). map contents_of (zip hs (zip w.attrs.saved (map (kept w.store.pivots) w.store.saved)))) e
