-- A heap that grows keeps what the frames mean.
use Rattle.std.proofs.Common.{◌≡◌, ℕ, ◌<◌, ◌≤◌, List, [], ◌∷◌, ◌++◌, map, length, refl, sym, ap, subst, ◌∙◌, arith, append_assoc, length-append}
use Rattle.std.specs.Prelude.{All, reverse, Result, Ok, Err, OnOk, OnErr}
use Rattle.std.specs.declared.alloc.AllocError.{AllocError}
use Rattle.std.proofs.lemmas.List.{append-nil, reverse-append, map-append, get_or_append_left}
use Rattle.std.proofs.lemmas.List.Elements.{All-weaker, All-head, All-tail}
use Rattle.spec_terms.specs.Term as terms
use Rattle.spec_numbers.specs.Texts.{Text}
use Rattle.cq_term.specs.Texts.{text_of}
use Rattle.cq_term.specs.HeapValue.{HeapValue}
use Rattle.cq_term.specs.Meaning.{HeapTerm, at, blank}
use Rattle.cq_read.specs.declared.parse.frames.Frame.{Frame}
use Rattle.cq_read.specs.declared.parse.frames.Frame.TheVariants as frame
use Rattle.spec_numbers.specs.Prefixes.{IsPrefix}
use Rattle.cq_term.specs.Trees.{tree}
use Rattle.cq_read.specs.Views.{OnlyGrows, trees, frame_of, frames_of, IsLiveFrame, AreLive}

-- ---- the heap

pub prefix_both : (ts us vs : List HeapTerm) → IsPrefix ts us → IsPrefix us vs → IsPrefix ts vs
prefix_both ts us vs p q = (p.0 ++ q.0, q.1 ∙ ap (λ xs. xs ++ q.0) p.1 ∙ append_assoc ts p.0 q.0)

pub grows_both : (g h k : HeapValue) → OnlyGrows g h → OnlyGrows h k → OnlyGrows g k
grows_both g h k p q = record {
  terms = prefix_both g.now.terms h.now.terms k.now.terms p.terms q.terms;
  images = q.images ∙ p.images;
  saved = q.saved ∙ p.saved;
  room = omega (arith, p.room, q.room);
}

-- by a term at most
pub grows_by : (old new : HeapValue) (t : HeapTerm) (r : Result ℕ AllocError) → OnOk r (new.now.terms ≡ old.now.terms ++ t ∷ []) → OnOk r (new.now.images ≡ old.now.images) →
    new.saved ≡ old.saved → old.room ≤ new.room → OnErr r (new.now ≡ old.now) → OnlyGrows old new
grows_by old new t (Ok id) terms images saved room err = record { terms = (t ∷ [], terms); images = images; saved = saved; room = room }
grows_by old new t (Err e) terms images saved room err = record { terms = ([], ap (λ n. n.terms) err ∙ sym (append-nil old.now.terms)); images = ap (λ n. n.images) err; saved = saved; room = room }

-- ---- terms

pub prefix_length : (ts us : List HeapTerm) → IsPrefix ts us → length ts ≤ length us
prefix_length ts us p = omega (arith, ap length p.1, length-append ts p.0)

pub prefix_at : (ts us : List HeapTerm) (i : ℕ) → IsPrefix ts us → i < length ts → at us i ≡ at ts i
prefix_at ts us i p lt = ap (λ xs. at xs i) p.1 ∙ get_or_append_left ts p.0 blank i lt

pub prefix_all : (ts us : List HeapTerm) (ids : List ℕ) → IsPrefix ts us → All (λ i. i < length ts) ids → All (λ i. i < length us) ids
prefix_all ts us ids p all = All-weaker (λ i. i < length ts) (λ i. i < length us) (λ i h. omega (arith, h, prefix_length ts us p)) ids all

module _ (texts : List Text) (ts us : List HeapTerm) (p : IsPrefix ts us) where
  pub tree_kept : (id : ℕ) → id < length ts → tree texts us id ≡ tree texts ts id
  tree_kept id lt = ap (terms.named (text_of texts)) (prefix_at ts us id p lt)

  map_kept : (ids : List ℕ) → All (λ id. id < length ts) ids → map (tree texts us) ids ≡ map (tree texts ts) ids
  map_kept [] all = refl
  map_kept (id ∷ ids) all = λ i. tree_kept id (All-head (λ x. x < length ts) id ids all) i ∷ map_kept ids (All-tail (λ x. x < length ts) id ids all) i

  pub trees_kept : (ids : List ℕ) → All (λ id. id < length ts) ids → trees texts us ids ≡ trees texts ts ids
  trees_kept ids all = ap reverse (map_kept ids all)

  frame_kept : (f : Frame) → IsLiveFrame (length ts) f → frame_of texts us f ≡ frame_of texts ts f
  frame_kept (frame.RightOf f left op most) live = rw (tree_kept left live) refl
  frame_kept (frame.OperandOf f op most) live = refl
  frame_kept (frame.InGroup most) live = refl
  frame_kept (frame.InCurly most) live = refl
  frame_kept (frame.InArguments f before most) live = rw (trees_kept before.items live) refl
  frame_kept (frame.InElements before most) live = rw (trees_kept before.items live) refl
  frame_kept (frame.InTail before most) live = rw (trees_kept before.items live) refl

  map_frames_kept : (fs : List Frame) → AreLive (length ts) fs → map (frame_of texts us) fs ≡ map (frame_of texts ts) fs
  map_frames_kept [] live = refl
  map_frames_kept (f ∷ fs) live = λ i. frame_kept f (All-head (IsLiveFrame (length ts)) f fs live) i ∷ map_frames_kept fs (All-tail (IsLiveFrame (length ts)) f fs live) i

  pub frames_kept : (fs : List Frame) → AreLive (length ts) fs → frames_of texts us fs ≡ frames_of texts ts fs
  frames_kept fs live = ap reverse (map_frames_kept fs live)

frame_live : (n m : ℕ) → n ≤ m → (f : Frame) → IsLiveFrame n f → IsLiveFrame m f
frame_live n m le (frame.RightOf f left op most) live = omega (arith, live, le)
frame_live n m le (frame.OperandOf f op most) live = tt
frame_live n m le (frame.InGroup most) live = tt
frame_live n m le (frame.InCurly most) live = tt
frame_live n m le (frame.InArguments f before most) live = All-weaker (λ id. id < n) (λ id. id < m) (λ id h. omega (arith, h, le)) before.items live
frame_live n m le (frame.InElements before most) live = All-weaker (λ id. id < n) (λ id. id < m) (λ id h. omega (arith, h, le)) before.items live
frame_live n m le (frame.InTail before most) live = All-weaker (λ id. id < n) (λ id. id < m) (λ id h. omega (arith, h, le)) before.items live

pub frames_live : (ts us : List HeapTerm) (fs : List Frame) → IsPrefix ts us → AreLive (length ts) fs → AreLive (length us) fs
frames_live ts us fs p live = All-weaker (IsLiveFrame (length ts)) (IsLiveFrame (length us)) (frame_live (length ts) (length us) (prefix_length ts us p)) fs live

-- ---- lists

pub all_front : {X : Type 0} (P : X → Type 0) (xs ys : List X) → All P (xs ++ ys) → All P xs
all_front P xs ys all k d lt = subst P (get_or_append_left xs ys d k lt) (all k d (omega (arith, lt, length-append xs ys)))

-- ---- the last frame, and the last term

pub frames_push : (texts : List Text) (ts : List HeapTerm) (fs : List Frame) (f : Frame) → frames_of texts ts (fs ++ f ∷ []) ≡ frame_of texts ts f ∷ frames_of texts ts fs
frames_push texts ts fs f = ap reverse (map-append (frame_of texts ts) fs (f ∷ [])) ∙ reverse-append (map (frame_of texts ts) fs) (frame_of texts ts f ∷ [])

pub trees_push : (texts : List Text) (ts : List HeapTerm) (ids : List ℕ) (id : ℕ) → trees texts ts (ids ++ id ∷ []) ≡ tree texts ts id ∷ trees texts ts ids
trees_push texts ts ids id = ap reverse (map-append (tree texts ts) ids (id ∷ [])) ∙ reverse-append (map (tree texts ts) ids) (tree texts ts id ∷ [])
