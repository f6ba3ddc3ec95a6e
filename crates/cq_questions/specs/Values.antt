-- The values that a list of constraints fixes, in the places of a term's variables.
use Rattle.std.specs.Prelude.{◌≡◌, ℕ, ◌<◌, List, length, Option, None}
use Rattle.spec_numbers.specs.Rational.{ℚ}
use Rattle.spec_linear.specs.Solution.{Constraint, Fixes}
use Rattle.spec_numbers.specs.Texts.{Text}
use Rattle.spec_terms.specs.Term.{Occurs, apply}
use Rattle.cq_settle.specs.Underway.{valued}
use Rattle.cq_term.specs.HeapValue.{Terms}
use Rattle.cq_term.specs.Meaning.{at}
use Rattle.cq_term.specs.Trees.{tree}

-- what holds of the values that the list fixes
abbrev pub AtValues : List Constraint → ((ℕ → Option ℚ) → Type 0) → Type 0
AtValues l P = (fixed : ℕ → Option ℚ) → Fixes l fixed → P fixed

-- the values that the list fixes, of which this holds
pub record WithValues (l : List Constraint) (P : (ℕ → Option ℚ) → Type 0) : Type 0 where
  pub fixed : ℕ → Option ℚ
  pub fixes : Fixes l fixed
  pub holds : P fixed

-- Some variables that the list fixes were bound to their values: with all values in their places the term is the same as before.
pub record IsValued (l : List Constraint) (old new : Terms) (id : ℕ) : Type 0 where
  pub live : id < length new.terms
  pub images : length new.images ≡ length old.images
  pub same : (texts : List Text) → AtValues l (λ fixed. apply (valued fixed) (tree texts new.terms id)
      ≡ apply (valued fixed) (tree texts old.terms id))
  pub fewer : (v : ℕ) → Occurs v (at new.terms id) → Occurs v (at old.terms id)

-- the variable stands in the term only if the list doesn't fix it
abbrev pub IsFree : List Constraint → Terms → ℕ → ℕ → Type 0
IsFree l h id v = AtValues l (λ fixed. Occurs v (at h.terms id) → fixed v ≡ None)
