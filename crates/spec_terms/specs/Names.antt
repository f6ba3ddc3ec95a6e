-- Terms whose names are replaced by others, as the numbers of a table by its texts.
use Rattle.std.specs.Prelude.{◌≡◌, ℕ, ◌<◌, List, [], ◌∷◌, ⊤}
use Rattle.spec_terms.specs.Term.{Term, Terms, Subst, Var, Number, Name, Compound, one, more, named}
use Rattle.spec_terms.specs.Unifier.{Equation}

-- each name that stands in the term has the property
abbrev mutual
  pub EachName : {A : Type 0} → (A → Type 0) → Term A → Type 0
  EachName P (Var v) = ⊤
  EachName P (Number q) = ⊤
  EachName P (Name a) = P a
  EachName P (Compound f ts) = P f × EachNameIn P ts

  pub EachNameIn : {A : Type 0} → (A → Type 0) → Terms A → Type 0
  EachNameIn P (one t) = EachName P t
  EachNameIn P (more t ts) = EachName P t × EachNameIn P ts

-- each name that stands in the pairs
abbrev pub EachNameInPairs : {A : Type 0} → (A → Type 0) → List (Equation A) → Type 0
EachNameInPairs P [] = ⊤
EachNameInPairs P (e ∷ es) = EachName P e.left × EachName P e.right × EachNameInPairs P es

-- the first n of numbered texts are different
abbrev pub AreDifferentBelow : {B : Type 0} → ℕ → (ℕ → B) → Type 0
AreDifferentBelow n f = (i j : ℕ) → i < n → j < n → f i ≡ f j → i ≡ j

-- the pairs with each name replaced
abbrev pub named_pairs : {A B : Type 0} → (A → B) → List (Equation A) → List (Equation B)
named_pairs f [] = []
named_pairs f (e ∷ es) = record { left = named f e.left; right = named f e.right } ∷ named_pairs f es

-- the substitution whose images have each name replaced
abbrev pub named_images : {A B : Type 0} → (A → B) → Subst A → Subst B
named_images f s v = named f (s v)
