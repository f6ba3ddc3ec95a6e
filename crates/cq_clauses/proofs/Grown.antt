-- Changes of the list of indexes.
use Rattle.std.proofs.Common.{◌≡◌, ℕ, true, List, [], ◌∷◌, ◌++◌, set, Option, Some, None, Result, Ok, Err, OnOk, sym, subst, ◌∙◌, ◌⊎◌, inl, inr, length-set}
use Rattle.std.specs.Prelude.{slice_get, is_ok}
use Rattle.std.proofs.lemmas.Option.{none-some, same_Some}
use Rattle.spec_numbers.proofs.Places.{get_push}
use Rattle.cq_clauses.specs.declared.index.Index.{Index}
use Rattle.cq_clauses.specs.declared.key.Key.{Key}
use Rattle.cq_clauses.specs.declared.list.End.{End}
use Rattle.cq_clauses.specs.Database.{added}
use Rattle.cq_clauses.specs.Indexes.{IsIndex, GrewOf, HasGrown}
use Rattle.cq_clauses.proofs.Writes.{got_here, got_either}

pub on_ok : {A E : Type 0} (r : Result A E) (P : Type 0) → is_ok r ≡ true → OnOk r P → P
on_ok (Ok x) P is h = h
on_ok (Err e) P is h = cc

module _ (xs : List (Option Index)) (q : ℕ) (before : Index) (stood : slice_get xs q ≡ Some (Some before)) (key : Option Key) (end : End) where
  pub grown_not : HasGrown q key end xs (set xs q None)
  grown_not = record {
    same_length = length-set xs q None;
    others = λ i index got apart. elim (got_either xs q None i (Some index) got) [ inl here ↦ absurd (apart here.0) | inr old ↦ old ];
    grown = λ index got. absurd (none-some index (same_Some None (Some index) (sym (got_here xs q (Some before) None stood) ∙ got)));
  }

  pub grown_one : (after : Index) → ((keys : List (Option Key)) → IsIndex before keys → IsIndex after (added end key keys)) → HasGrown q key end xs (set (set xs q None) q (Some after))
  grown_one after more = record {
    same_length = length-set (set xs q None) q (Some after) ∙ length-set xs q None;
    others = λ i index got apart. elim (got_either (set xs q None) q (Some after) i (Some index) got) [ inl here ↦ absurd (apart here.0) | inr old ↦ grown_not.others i index old apart ];
    grown = λ index got. elim (got_either (set xs q None) q (Some after) q (Some index) got) [
      | inl here ↦ subst (λ (x : Index). GrewOf key end x (slice_get xs q)) (same_Some after index here.1) (record { before = before; there = stood; grown = more })
      | inr old ↦ grown_not.grown index old
    ];
  }

pub put_written : (old xs : List (Option Index)) (procedure : ℕ) (index : Index) → ((q : ℕ) (i : Index) → slice_get xs q ≡ Some (Some i) → slice_get old q ≡ Some (Some i))
    → (q : ℕ) (i : Index) → slice_get (set xs procedure (Some index)) q ≡ Some (Some i) → (slice_get old q ≡ Some (Some i)) ⊎ ((q ≡ procedure) × (i ≡ index))
put_written old xs procedure index kept q i got = elim (got_either xs procedure (Some index) q (Some i) got) [
  | inl here ↦ inr (here.0, sym (same_Some index i here.1))
  | inr there ↦ inl (kept q i there)
]

pub put_further : (old xs after : List (Option Index)) → after ≡ xs ++ None ∷ [] → ((q : ℕ) (i : Index) → slice_get xs q ≡ Some (Some i) → slice_get old q ≡ Some (Some i))
    → (q : ℕ) (i : Index) → slice_get after q ≡ Some (Some i) → slice_get old q ≡ Some (Some i)
put_further old xs after pushed kept q i got = elim (get_push xs None q (Some i) (subst (λ (ys : List (Option Index)). slice_get ys q ≡ Some (Some i)) pushed got)) [
  | inl was ↦ kept q i was
  | inr last ↦ absurd (none-some i last.1)
]
