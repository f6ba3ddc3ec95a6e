-- A heap that was marked.
use Rattle.std.proofs.Common.{◌≡◌, ℕ, ◌+◌, ◌-◌, ◌≤◌, List, [], ◌∷◌, ◌++◌, take, length, length-append, Some, slice_get, refl, sym, ap, subst, ◌∙◌, arith}
use Rattle.std.proofs.lemmas.List.{take_at}
use Rattle.spec_numbers.proofs.Places.{newest}
use Rattle.spec_numbers.specs.Prefixes.{IsPrefix}
use Rattle.spec_terms.specs.Term.{Var}
use Rattle.cq_term.specs.Meaning.{HeapTerm, at}
use Rattle.cq_term.specs.HeapValue.{HeapValue, Terms}
use Rattle.std.specs.Prelude.{Ok}
use Rattle.cq_read.specs.declared.reading.Read.{Read}
use Rattle.cq_read.specs.declared.reading.Read.TheVariants as read
use Rattle.cq_read.specs.Growth.{Grows, IsAsBefore}
use Rattle.cq_read.specs.Shown.{Leaves}

-- a heap that was marked, and what it became
pub record IsMarked (old marked : HeapValue) (m : ℕ) : Type 0 where
  pub saved : marked.saved ≡ old.saved ++ old.now ∷ []
  pub now : marked.now ≡ old.now
  pub room : old.room ≤ marked.room + 1
  pub mark : m ≡ length old.saved

module _ (old marked after new : HeapValue) (m : ℕ) (is : IsMarked old marked m) (saved : after.saved ≡ marked.saved) (room : marked.room ≤ after.room)
    (left : new.saved ≡ take m after.saved) (spare : after.room + (length after.saved - m) ≤ new.room) where
  saved_again : new.saved ≡ old.saved
  saved_again = left ∙ ap (λ n. take n after.saved) is.mark ∙ ap (take (length old.saved)) (saved ∙ is.saved) ∙ take_at old.saved (old.now ∷ []) (length old.saved) refl

  room_again : old.room ≤ new.room
  room_again = omega (arith, is.room, is.mark, room, spare, ap length (saved ∙ is.saved), length-append old.saved (old.now ∷ []))

  -- the mark is ended and the value kept
  grows_marked : Grows marked after → new.now ≡ after.now → Grows old new
  grows_marked g e = record {
    terms = subst (λ x. IsPrefix x new.now.terms) (ap (λ n. n.terms) is.now) (subst (λ x. IsPrefix marked.now.terms x) (sym (ap (λ n. n.terms) e)) g.terms);
    images = subst (λ x. IsPrefix x new.now.images) (ap (λ n. n.images) is.now) (subst (λ x. IsPrefix marked.now.images x) (sym (ap (λ n. n.images) e)) g.images);
    fresh = λ v le lt. subst (λ n. at n.images v ≡ Var v) (sym e) (g.fresh v (omega (arith, le, ap (λ n. length n.images) is.now)) (omega (arith, lt, ap (λ n. length n.images) e)));
    saved = saved_again;
    room = room_again;
  }

  -- what a reading leaves of the marked heap it leaves of the old one
  pub leaves_marked : (r : Read) → Leaves marked after (Ok r) → new.now ≡ after.now → Leaves old new (Ok r)
  leaves_marked (read.Clause term names next) g e = grows_marked g e
  leaves_marked read.End h e = record { now = e ∙ h.now ∙ is.now; saved = saved_again; room = room_again }
  leaves_marked (read.Syntax error resume) h e = record { now = e ∙ h.now ∙ is.now; saved = saved_again; room = room_again }

  -- the value of the mark is given back
  pub as_before : slice_get after.saved m ≡ Some new.now → IsAsBefore old new
  as_before e = record { now = newest old.saved old.now m is.mark after.saved (saved ∙ is.saved) new.now e; saved = saved_again; room = room_again }
