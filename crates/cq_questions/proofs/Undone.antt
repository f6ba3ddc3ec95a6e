-- A heap that goes back to a mark, whatever was bound since.
use Rattle.std.proofs.Common.{◌≡◌, ◌≤◌, ℕ, ◌+◌, ◌-◌, [], ◌∷◌, ◌++◌, length, take, Some, sym, ap, ◌∙◌, arith, length-append}
use Rattle.std.specs.Prelude.{slice_get}
use Rattle.std.proofs.lemmas.List.{take_at}
use Rattle.std.proofs.lemmas.Option.{same_Some}
use Rattle.cq_term.specs.HeapValue.{HeapValue}
use Rattle.cq_term.proofs.Kept.{get_last}

module _ (old marked ran undone : HeapValue) (m : ℕ) (number : m ≡ length old.saved) (saved : marked.saved ≡ old.saved ++ old.now ∷ []) (runs : ran.saved ≡ marked.saved) where
  pub undone_now : slice_get ran.saved m ≡ Some undone.now → undone.now ≡ old.now
  undone_now back =
      same_Some undone.now old.now
      (sym back ∙ ap (λ l. slice_get l m) (runs ∙ saved) ∙ ap (slice_get (old.saved ++ old.now ∷ [])) number ∙ get_last old.saved old.now)

  pub undone_saved : undone.saved ≡ take m ran.saved → undone.saved ≡ old.saved
  undone_saved rest = rest ∙ ap (take m) (runs ∙ saved) ∙ take_at old.saved (old.now ∷ []) m (sym number)

  pub undone_room : old.room ≤ marked.room + 1 → marked.room ≤ ran.room → ran.room + (length ran.saved - m) ≤ undone.room → old.room ≤ undone.room
  undone_room a b c = omega (arith, a, b, c, number, ap length (runs ∙ saved), length-append old.saved (old.now ∷ []))
