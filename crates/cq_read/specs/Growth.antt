-- A heap that gets terms and variables.
use Rattle.std.specs.Prelude.{◌≡◌, ℕ, ◌<◌, ◌≤◌, List, length}
use Rattle.spec_terms.specs.Term.{Var}
use Rattle.spec_numbers.specs.Prefixes.{IsPrefix}
use Rattle.cq_term.specs.Meaning.{HeapTerm, at}
use Rattle.cq_term.specs.HeapValue.{HeapValue}

-- The heap got new terms and new variables, which are unbound, and no more: older terms and variables stand as they did, and
-- its marks with their room too.
pub record Grows (old new : HeapValue) : Type 0 where
  pub terms : IsPrefix old.now.terms new.now.terms
  pub images : IsPrefix old.now.images new.now.images
  pub fresh : (v : ℕ) → length old.now.images ≤ v → v < length new.now.images → at new.now.images v ≡ Var v
  pub saved : new.saved ≡ old.saved
  pub room : old.room ≤ new.room

-- the heap has the terms and variables that it had
pub record IsAsBefore (old new : HeapValue) : Type 0 where
  pub now : new.now ≡ old.now
  pub saved : new.saved ≡ old.saved
  pub room : old.room ≤ new.room
