-- The variables of a list that are no targets, in the order in which they are solved for.
use Rattle.std.specs.Prelude.{◌↔◌, ℕ, ◌<◌, List, [], ◌∷◌, ⊤}
use Rattle.spec_linear.specs.Solution.{Constraint, Has, SomeMentions}

-- each is older than the one before it
abbrev pub AreDescending : List ℕ → Type 0
AreDescending [] = ⊤
AreDescending (x ∷ []) = ⊤
AreDescending (x ∷ y ∷ xs) = (y < x) × AreDescending (y ∷ xs)

-- each is younger than the one before it
abbrev pub AreAscending : List ℕ → Type 0
AreAscending [] = ⊤
AreAscending (x ∷ []) = ⊤
AreAscending (x ∷ y ∷ xs) = (x < y) × AreAscending (y ∷ xs)

-- the variables of the list that are no targets, the youngest first
pub record AreOthers (targets : List ℕ) (l : List Constraint) (front : List ℕ) : Type 0 where
  pub youngest_first : AreDescending front
  pub others : (x : ℕ) → Has x front ↔ (SomeMentions x l × (Has x targets → ⊥))
