-- The marks of a world during a settling.
use Rattle.std.proofs.Common.{◌≡◌, ◌<◌, ◌≤◌, ℕ, ◌+◌, ◌-◌, min, List, [], ◌∷◌, ◌++◌, map, length, take, Some, refl, sym, ap, ap₂, ◌∙◌, arith}
use Rattle.std.specs.Prelude.{slice_get}
use Rattle.std.specs.List.{zip}
use Rattle.std.proofs.lemmas.List.{take_at, length-append}
use Rattle.spec_linear.specs.Solution.{Constraint}
use Rattle.cq_attr.specs.Attributes.{Attributes}
use Rattle.cq_store.specs.StoreValue.{kept}
use Rattle.cq_term.specs.HeapValue.{Terms}
use Rattle.cq_term.proofs.Kept.{get_last}
use Rattle.cq_settle.specs.Contents.{Contents, contents_of}
use Rattle.cq_settle.specs.Worlds.{now_of, saved_of, room_of}
use Rattle.cq_settle.specs.declared.world.World.{World}
use Rattle.cq_settle.specs.Settled.{KeepsMarks}

abbrev all_of : ℕ → List Terms → List Attributes → List (List Constraint) → List Contents
all_of n hs as_ ts = map contents_of (zip hs (zip as_ (map (kept n) ts)))

heaps : (n : ℕ) (hs : List Terms) (bs : List Attributes) (ts : List (List Constraint)) → length bs ≡ length hs → length ts ≡ length hs → map (λ (c : Contents). c.heap) (all_of n hs bs ts) ≡ hs
heaps n [] bs ts e f = refl
heaps n (h ∷ hs) [] ts e f = absurd (omega (arith, e))
heaps n (h ∷ hs) (b ∷ bs) [] e f = absurd (omega (arith, f))
heaps n (h ∷ hs) (b ∷ bs) (t ∷ ts) e f = ap (λ (xs : List Terms). h ∷ xs) (heaps n hs bs ts (omega (arith, e)) (omega (arith, f)))

all_attrs : (n : ℕ) (hs : List Terms) (bs : List Attributes) (ts : List (List Constraint)) → length bs ≡ length hs → length ts ≡ length hs → map (λ (c : Contents). c.attrs) (all_of n hs bs ts) ≡ bs
all_attrs n [] [] ts e f = refl
all_attrs n [] (b ∷ bs) ts e f = absurd (omega (arith, e))
all_attrs n (h ∷ hs) [] ts e f = absurd (omega (arith, e))
all_attrs n (h ∷ hs) (b ∷ bs) [] e f = absurd (omega (arith, f))
all_attrs n (h ∷ hs) (b ∷ bs) (t ∷ ts) e f = ap (λ (xs : List Attributes). b ∷ xs) (all_attrs n hs bs ts (omega (arith, e)) (omega (arith, f)))

lists : (n : ℕ) (hs : List Terms) (bs : List Attributes) (ts : List (List Constraint)) → length bs ≡ length hs → length ts ≡ length hs → map (λ (c : Contents). c.told) (all_of n hs bs ts) ≡ ts
lists n [] bs [] e f = refl
lists n [] bs (t ∷ ts) e f = absurd (omega (arith, f))
lists n (h ∷ hs) [] ts e f = absurd (omega (arith, e))
lists n (h ∷ hs) (b ∷ bs) [] e f = absurd (omega (arith, f))
lists n (h ∷ hs) (b ∷ bs) (t ∷ ts) e f = ap (λ (xs : List (List Constraint)). t ∷ xs) (lists n hs bs ts (omega (arith, e)) (omega (arith, f)))

-- the marks of the parts are those of the world
pub parts_same : (v w : World) → saved_of w ≡ saved_of v → w.store.pivots ≡ v.store.pivots → room_of v ≤ room_of w → KeepsMarks v w
parts_same v w e f r = record {
  heap = sym (heaps w.store.pivots w.heap.saved w.attrs.saved w.store.saved w.attrs_together w.store_together)
      ∙ ap (map (λ (c : Contents). c.heap)) e ∙ heaps v.store.pivots v.heap.saved v.attrs.saved v.store.saved v.attrs_together v.store_together;
  attrs = sym (all_attrs w.store.pivots w.heap.saved w.attrs.saved w.store.saved w.attrs_together w.store_together)
      ∙ ap (map (λ (c : Contents). c.attrs)) e ∙ all_attrs v.store.pivots v.heap.saved v.attrs.saved v.store.saved v.attrs_together v.store_together;
  store = sym (lists w.store.pivots w.heap.saved w.attrs.saved w.store.saved w.attrs_together w.store_together)
      ∙ ap (map (λ (c : Contents). c.told)) e ∙ lists v.store.pivots v.heap.saved v.attrs.saved v.store.saved v.attrs_together v.store_together;
  pivots = f;
  room = r;
}

-- no part loses room
pub room_grows : (h i a b s t : ℕ) → h ≤ i → a ≤ b → s ≤ t → min h (min a s) ≤ min i (min b t)
room_grows h i a b s t k l m = omega (arith, k, l, m)

pub same_saved : (v w : World) → KeepsMarks v w → saved_of w ≡ saved_of v
same_saved v w k =
    ap₂ (λ (n : ℕ) (p : List Terms × (List Attributes × List (List Constraint))). all_of n p.0 p.1.0 p.1.1) k.pivots (λ i. (k.heap i, (k.attrs i, k.store i)))

pub marks_then : (u v w : World) → KeepsMarks u v → KeepsMarks v w → KeepsMarks u w
marks_then u v w j k = record { heap = k.heap ∙ j.heap; attrs = k.attrs ∙ j.attrs; store = k.store ∙ j.store; pivots = k.pivots ∙ j.pivots; room = omega (arith, j.room, k.room) }

pub marks_same : (w : World) → KeepsMarks w w
marks_same w = record { heap = refl; attrs = refl; store = refl; pivots = refl; room = omega arith }

-- the parts of the one world have the marks of those of the other
pub marks_more : (u v w : World) → KeepsMarks u v → w.heap.saved ≡ v.heap.saved → v.heap.room ≤ w.heap.room → w.attrs.saved ≡ v.attrs.saved → v.attrs.room ≤ w.attrs.room
    → w.store.saved ≡ v.store.saved → v.store.room ≤ w.store.room → w.store.pivots ≡ v.store.pivots → KeepsMarks u w
marks_more u v w k h i a b s t p =
    marks_then u v w k (record { heap = h; attrs = a; store = s; pivots = p; room = room_grows v.heap.room w.heap.room v.attrs.room w.attrs.room v.store.room w.store.room i b t })

-- from the world at a mark, over one that has its marks, back to the mark or on without it
module _ (old marked ran : World) (n : ℕ) (number : n ≡ length (saved_of old)) (saved : saved_of marked ≡ saved_of old ++ now_of old ∷ []) (now : now_of marked ≡ now_of old)
    (room : room_of old ≤ room_of marked + 1) (runs : KeepsMarks marked ran) where
  saved_then : saved_of ran ≡ saved_of old ++ now_of old ∷ []
  saved_then = same_saved marked ran runs ∙ saved

  pub mark_lives : n < length (saved_of ran)
  mark_lives = omega (arith, number, ap length saved_then ∙ length-append (saved_of old) (now_of old ∷ []))

  room_then : (end : World) → room_of ran + (length (saved_of ran) - n) ≤ room_of end → room_of old ≤ room_of end
  room_then end r = omega (arith, r, room, runs.room, mark_lives)

  taken : (end : World) → saved_of end ≡ take n (saved_of ran) → saved_of end ≡ saved_of old
  taken end e = e ∙ ap₂ take number saved_then ∙ take_at (saved_of old) (now_of old ∷ []) (length (saved_of old)) refl

  some_same : {A : Type 0} (x y : A) → Some x ≡ Some y → x ≡ y
  some_same x y e = cc

  pub went_back : (end : World) → slice_get (saved_of ran) n ≡ Some (now_of end) → now_of end ≡ now_of old
  went_back end e = sym (some_same (now_of old) (now_of end) (sym (get_last (saved_of old) (now_of old)) ∙ ap₂ slice_get (sym saved_then) (sym number) ∙ e))

  pub marks_back : (end : World) → slice_get (saved_of ran) n ≡ Some (now_of end) → saved_of end ≡ take n (saved_of ran) → room_of ran + (length (saved_of ran) - n) ≤ room_of end → KeepsMarks old end
  marks_back end e f r = parts_same old end (taken end f) (ap (λ (c : Contents). c.pivots) (went_back end e)) (room_then end r)

  pub marks_on : (end : World) → now_of end ≡ now_of ran → saved_of end ≡ take n (saved_of ran) → room_of ran + (length (saved_of ran) - n) ≤ room_of end → KeepsMarks old end
  marks_on end e f r = parts_same old end (taken end f) (ap (λ (c : Contents). c.pivots) e ∙ runs.pivots ∙ ap (λ (c : Contents). c.pivots) now) (room_then end r)
