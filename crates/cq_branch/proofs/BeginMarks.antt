-- Back to a mark of a world.
use Rattle.std.proofs.Common.{◌≡◌, ℕ, List, [], ◌∷◌, ◌++◌, map, length, Some, sym, ap₂, ◌∙◌}
use Rattle.std.specs.Prelude.{slice_get}
use Rattle.std.specs.List.{zip}
use Rattle.spec_linear.specs.Solution.{Constraint}
use Rattle.cq_attr.specs.Attributes.{Attributes}
use Rattle.cq_store.specs.StoreValue.{kept}
use Rattle.cq_settle.specs.Settled.{KeepsMarks}
use Rattle.cq_term.specs.HeapValue.{Terms}
use Rattle.cq_term.proofs.Kept.{get_last}
use Rattle.cq_settle.specs.Contents.{contents_of}
use Rattle.cq_settle.specs.Worlds.{now_of, saved_of}
use Rattle.cq_settle.specs.declared.world.World.{World}

same_saved : (v w : World) → KeepsMarks v w → saved_of w ≡ saved_of v
same_saved v w k =
    ap₂ (λ (n : ℕ) (p : List Terms × (List Attributes × List (List Constraint))). map contents_of (zip p.0 (zip p.1.0 (map (kept n) p.1.1))))
    k.pivots (λ i. (k.heap i, (k.attrs i, k.store i)))

module _ (old marked ran : World) (n : ℕ) (number : n ≡ length (saved_of old)) (saved : saved_of marked ≡ saved_of old ++ now_of old ∷ []) (runs : KeepsMarks marked ran) where
  saved_then : saved_of ran ≡ saved_of old ++ now_of old ∷ []
  saved_then = same_saved marked ran runs ∙ saved

  some_same : {A : Type 0} (x y : A) → Some x ≡ Some y → x ≡ y
  some_same x y e = cc

  -- the world at the mark's end is the one that was marked
  pub went_back : (end : World) → slice_get (saved_of ran) n ≡ Some (now_of end) → now_of end ≡ now_of old
  went_back end e = sym (some_same (now_of old) (now_of end) (sym (get_last (saved_of old) (now_of old)) ∙ ap₂ slice_get (sym saved_then) (sym number) ∙ e))
