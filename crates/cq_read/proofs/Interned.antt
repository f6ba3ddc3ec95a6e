-- Numbers keep their texts.
use Rattle.std.proofs.Common.{◌≡◌, List, sym, subst}
use Rattle.spec_numbers.specs.Texts.{Text}
use Rattle.cq_term.specs.Texts.{KeepsTexts, with_text}
use Rattle.cq_term.proofs.AtomsPlaces.{kept-with_text}

pub kept_by : (old new : List Text) (text : Text) → new ≡ with_text old text → KeepsTexts old new
kept_by old new text e = subst (KeepsTexts old) (sym e) (kept-with_text old text)
