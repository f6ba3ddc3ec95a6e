-- A store between a mark and its end.
use Rattle.std.proofs.Common.{◌≡◌, ℕ, ◌+◌, ◌<◌, List, [], ◌∷◌, ◌++◌, map, length, take, arith, refl, ap, ap₂, sym, ◌∙◌}
use Rattle.std.specs.Prelude.{slice_get, Some}
use Rattle.std.proofs.lemmas.List.{length-append}
use Rattle.std.proofs.Math.Seq.{take-append_seam}
use Rattle.spec_numbers.proofs.Places.{newest}
use Rattle.spec_linear.specs.Solution.{Constraint}
use Rattle.cq_store.specs.StoreValue.{Kept, kept}

lists_back : (n : ℕ) (s : List (List Constraint)) → map (λ (k : Kept). k.told) (map (kept n) s) ≡ s
lists_back n [] = refl
lists_back n (l ∷ s) = ap (λ t. l ∷ t) (lists_back n s)

-- what the marks keep is settled by their lists
pub same_lists : (n m : ℕ) (s t : List (List Constraint)) → map (kept n) s ≡ map (kept m) t → s ≡ t
same_lists n m s t e = sym (lists_back n s) ∙ ap (map (λ (k : Kept). k.told)) e ∙ lists_back m t

-- at the mark, and later where the marks and the budget stay
pub marked : (budget at later : ℕ) (told : List Constraint) (saved s t : List (List Constraint)) → map (kept at) s ≡ map (kept budget) saved ++ kept budget told ∷ []
    → t ≡ s → later ≡ at → map (kept later) t ≡ map (kept budget) saved ++ kept budget told ∷ []
marked budget at later told saved s t all e f = ap₂ (λ n l. map (kept n) l) f e ∙ all

module _ (budget later : ℕ) (told : List Constraint) (saved now : List (List Constraint)) (n : ℕ) (at : n ≡ length (map (kept budget) saved))
    (all : map (kept later) now ≡ map (kept budget) saved ++ kept budget told ∷ []) where
  pub is_live : n < length (map (kept later) now)
  is_live =
      let e : length (map (kept later) now) ≡ length (map (kept budget) saved) + 1 = ap length all ∙ length-append (map (kept budget) saved) (kept budget told ∷ []) in
      omega (arith, e, at)

  pub given_back : (k : Kept) → slice_get (map (kept later) now) n ≡ Some k → k ≡ kept budget told
  given_back k e = newest (map (kept budget) saved) (kept budget told) n at (map (kept later) now) all k e

  pub marks_back : (m : ℕ) (left : List (List Constraint)) → map (kept m) left ≡ take n (map (kept later) now) → left ≡ saved
  marks_back m left e =
      same_lists m budget left saved
      (e ∙ ap (take n) all ∙ ap (λ i. take i (map (kept budget) saved ++ kept budget told ∷ [])) at ∙ take-append_seam (map (kept budget) saved) (kept budget told ∷ []))
