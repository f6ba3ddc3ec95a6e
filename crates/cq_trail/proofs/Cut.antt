-- A list that only grew, at its marks.
use Rattle.std.proofs.Common.{◌≡◌, ℕ, ◌≤◌, List, [], ◌∷◌, ◌++◌, length, Some, sym, ◌∙◌, take, arith, map, length-append}
use Rattle.std.specs.Prelude.{slice_get}
use Rattle.std.specs.List.{take-map}
use Rattle.std.proofs.lemmas.List.{take-append-le, take-take}
use Rattle.std.proofs.lemmas.Option.{slice_get_within, none-some}
use Rattle.cq_trail.specs.StackValue.{IsStack, cut_at}
use Rattle.spec_numbers.proofs.Places.{get_push, get_take, map_same}

module _ {T : Type 0} (xs : List T) (marks : List ℕ) (is : IsStack xs marks) where
  pub stack_push : (x : T) → IsStack (xs ++ x ∷ []) marks
  stack_push x = record { within = λ k n q. omega (arith, is.within k n q, length-append xs (x ∷ [])); sorted = is.sorted }

  pub cuts_push : (x : T) → map (cut_at (xs ++ x ∷ [])) marks ≡ map (cut_at xs) marks
  cuts_push x = map_same (cut_at (xs ++ x ∷ [])) (cut_at xs) marks (λ k n q. take-append-le n xs (x ∷ []) (is.within k n q))

  pub cuts_undo : (m n : ℕ) → slice_get marks m ≡ Some n → map (cut_at (take n xs)) (take m marks) ≡ take m (map (cut_at xs) marks)
  cuts_undo m n here =
      map_same (cut_at (take n xs)) (cut_at xs) (take m marks) (λ k i q.
      let g = get_take m k marks i q in take-take i n xs (is.sorted k m i n g.0 here (omega (arith, g.1))))
      ∙ sym (take-map (cut_at xs) m marks)
