-- What the calls that build terms add to the names and to a heap.
use Rattle.std.specs.Prelude.{◌≡◌, ◌≤◌, List}
use Rattle.spec_numbers.specs.Texts.{Text}
use Rattle.spec_numbers.specs.Prefixes.{IsPrefix}
use Rattle.cq_term.specs.HeapValue.{HeapValue}
use Rattle.cq_term.specs.Trees.{KnowsTerms}

-- names and terms were added, and no more: older ones and the variables stand as they did, the heap's marks with their room
-- too, and the names in its terms stay known
pub record Grows (texts : List Text) (old : HeapValue) (more : List Text) (new : HeapValue) : Type 0 where
  pub longer : IsPrefix texts more
  pub terms : IsPrefix old.now.terms new.now.terms
  pub images : new.now.images ≡ old.now.images
  pub names : KnowsTerms texts old.now.terms → KnowsTerms more new.now.terms
  pub saved : new.saved ≡ old.saved
  pub room : old.room ≤ new.room
