-- Names stay known where known ones are put over terms.
use Rattle.std.proofs.Common.{◌≡◌, ℕ, ◌<◌, List, [], ◌∷◌, ◌++◌, map, length}
use Rattle.std.specs.Prelude.{All, Result, Ok, Err, OnOk, Some}
use Rattle.std.specs.declared.alloc.AllocError.{AllocError}
use Rattle.std.proofs.lemmas.List.Elements.{All-same, All-push, All-pop, All-map, All-weaker, All-get_or}
use Rattle.std.proofs.lemmas.Option.{slice_get_within}
use Rattle.spec_numbers.specs.Texts.{Text}
use Rattle.cq_term.specs.Texts.{text_of}
use Rattle.spec_terms.specs.Term.{with_arguments}
use Rattle.cq_term.specs.Meaning.{HeapTerm, at, blank}
use Rattle.cq_term.specs.Names.{HasNamesBelow}
use Rattle.cq_term.proofs.Known.{names_over}
use Rattle.cq_read.specs.declared.parse.frames.Frame.{Frame}
use Rattle.cq_term.specs.Trees.{KnowsTerms}
use Rattle.cq_read.specs.Known.{IsKnown, KnowsFrame, KnowsNames}

module _ (texts : List Text) where
  pub known_below : (f : ℕ) → IsKnown texts f → f < length texts
  known_below f known = slice_get_within texts f (text_of texts f) known

  -- by a term at most
  pub terms_by : (old new : List HeapTerm) (t : HeapTerm) (r : Result ℕ AllocError) → OnOk r (new ≡ old ++ t ∷ []) → HasNamesBelow (length texts) t → KnowsTerms texts old →
      OnOk r (KnowsTerms texts new)
  terms_by old new t (Ok id) longer has all = All-same (HasNamesBelow (length texts)) new (old ++ t ∷ []) longer (All-push (HasNamesBelow (length texts)) old t all has)
  terms_by old new t (Err e) longer has all = tt

  pub over_terms : (ts : List HeapTerm) (f : ℕ) (ids : List ℕ) → IsKnown texts f → All (λ i. i < length ts) ids → KnowsTerms texts ts →
      HasNamesBelow (length texts) (with_arguments f (map (at ts) ids))
  over_terms ts f ids known live all =
      names_over (length texts) f (map (at ts) ids) (known_below f known) (All-map (HasNamesBelow (length texts)) (at ts) ids
      (All-weaker (λ i. i < length ts) (λ i. HasNamesBelow (length texts) (at ts i)) (λ i lt. All-get_or (HasNamesBelow (length texts)) ts i blank lt all) ids live))

  pub names_push : (ts : List HeapTerm) (old new : List Frame) (f : Frame) → new ≡ old ++ f ∷ [] → KnowsFrame texts f → KnowsNames texts ts old → KnowsNames texts ts new
  names_push ts old new f longer known names = record {
    terms = names.terms;
    frames = All-same (KnowsFrame texts) new (old ++ f ∷ []) longer (All-push (KnowsFrame texts) old f names.frames known);
  }

  pub names_pop : (ts : List HeapTerm) (old rest : List Frame) (f : Frame) → old ≡ rest ++ f ∷ [] → KnowsNames texts ts old → KnowsNames texts ts rest × KnowsFrame texts f
  names_pop ts old rest f split names =
      let both = All-pop (KnowsFrame texts) old rest (Some f) split names.frames in
      (record { terms = names.terms; frames = both.0 }, both.1)
