-- The parts of a world at its marks.
use Rattle.std.proofs.Common.{◌≡◌, ℕ, List, [], ◌∷◌, ◌++◌, length, map, Some, sym, ap, ◌∙◌, take, arith}
use Rattle.std.specs.Prelude.{slice_get}
use Rattle.std.specs.List.{zip, take-map}
use Rattle.std.specs.Option.{option_map}
use Rattle.std.proofs.lemmas.List.{map-append, length-map}
use Rattle.std.proofs.lemmas.Option.{slice_get-map}
use Rattle.std.proofs.lemmas.Slice.Zip.{length-zip}
use Rattle.cq_trail.proofs.Zip.{zip-push, zip-take, zip_at}
use Rattle.cq_term.specs.HeapValue.{Terms}
use Rattle.cq_attr.specs.Attributes.{Attributes}
use Rattle.cq_store.specs.StoreValue.{Kept}
use Rattle.cq_settle.specs.Contents.{Contents, contents_of}

-- what a world holds at the marks of its parts
abbrev pub at_marks : List Terms → List Attributes → List Kept → List Contents
at_marks hs rs ls = map contents_of (zip hs (zip rs ls))

module _ (hs : List Terms) (rs : List Attributes) (ls : List Kept) (r : length rs ≡ length hs) (l : length ls ≡ length hs) where
  inner_together : length hs ≡ length (zip rs ls)
  inner_together = omega (arith, length-zip rs ls, r, l)

  pub length-at_marks : length (at_marks hs rs ls) ≡ length hs
  length-at_marks = length-map (zip hs (zip rs ls)) contents_of ∙ omega (arith, length-zip hs (zip rs ls), inner_together)

  pub at_marks_push : (h : Terms) (a : Attributes) (t : Kept)
      → at_marks (hs ++ h ∷ []) (rs ++ a ∷ []) (ls ++ t ∷ []) ≡ at_marks hs rs ls ++ contents_of (h, (a, t)) ∷ []
  at_marks_push h a t =
      ap (λ ps. map contents_of (zip (hs ++ h ∷ []) ps)) (zip-push rs ls a t (omega (arith, r, l)))
      ∙ ap (map contents_of) (zip-push hs (zip rs ls) h (a, t) inner_together)
      ∙ map-append contents_of (zip hs (zip rs ls)) ((h, (a, t)) ∷ [])

pub at_marks-take : (m : ℕ) (hs : List Terms) (rs : List Attributes) (ls : List Kept)
    → at_marks (take m hs) (take m rs) (take m ls) ≡ take m (at_marks hs rs ls)
at_marks-take m hs rs ls =
    ap (λ ps. map contents_of (zip (take m hs) ps)) (zip-take m rs ls)
    ∙ ap (map contents_of) (zip-take m hs (zip rs ls))
    ∙ sym (take-map contents_of m (zip hs (zip rs ls)))

pub at_mark : (m : ℕ) (hs : List Terms) (rs : List Attributes) (ls : List Kept) (h : Terms) (a : Attributes) (t : Kept)
    → slice_get hs m ≡ Some h → slice_get rs m ≡ Some a → slice_get ls m ≡ Some t → slice_get (at_marks hs rs ls) m ≡ Some (contents_of (h, (a, t)))
at_mark m hs rs ls h a t p q r =
    slice_get-map contents_of (zip hs (zip rs ls)) m
    ∙ ap (option_map contents_of) (zip_at hs (zip rs ls) m h (a, t) p (zip_at rs ls m a t q r))
