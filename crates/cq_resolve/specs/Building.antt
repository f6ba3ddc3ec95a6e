-- The variables of a pattern as variables of a heap.
use Rattle.std.specs.Prelude.{◌≡◌, ℕ, ◌+◌, ◌^◌, ◌<◌, ◌≤◌, ◌++◌, List, length, map, reverse}
use Rattle.spec_terms.specs.Term.{Subst, Var, apply}
use Rattle.cq_term.specs.HeapValue.{Terms as HeapTerms}
use Rattle.cq_term.specs.Meaning.{HeapTerm, at}
use Rattle.cq_term.specs.declared.view.View.{View}
use Rattle.cq_unify.specs.Copied.{unbound_from}
use Rattle.cq_resolve.specs.Pattern.{put}

-- each number moved by so much
abbrev pub moved_by : ℕ → Subst ℕ
moved_by n v = Var (n + v)

-- what the variables from the first one on stand for
abbrev pub image_from : List HeapTerm → ℕ → Subst ℕ
image_from images first v = at images (first + v)

-- there are so many variables from the first one on
pub record AreThere (images : List HeapTerm) (first count : ℕ) : Type 0 where
  pub there : first + count ≤ length images
  pub fits : first + count ≤ 2 ^ 64

-- the images, and some variables behind them, fewer than there were to be
pub record HasSomeNew (count : ℕ) (old new : List HeapTerm) : Type 0 where
  pub made : ℕ
  pub fewer : made < count
  pub images : new ≡ old ++ unbound_from (length old) made

-- the terms that were built are, the last one first, those of the head over those before, where the heap's variables
-- from the first one on take the places of the variables
abbrev pub BuildsOn : HeapTerms → HeapTerms → ℕ → View → List ℕ → List ℕ → Type 0
BuildsOn old new first h before after = (ts : List HeapTerm) → map (at old.terms) (reverse before) ≡ map (apply (image_from old.images first)) ts
    → map (at new.terms) (reverse after) ≡ map (apply (image_from old.images first)) (put h ts)
