-- The names of terms, of which each has a text.
use Rattle.std.specs.Prelude.{ℕ, ◌<◌, All, ⊤}
use Rattle.spec_terms.specs.Term.{Term, Terms, Subst, Occurs, Var, Number, Name, Compound, one, more}
use Rattle.cq_term.specs.HeapValue.{Terms as HeapTerms}

-- each name that stands in the term is among the first so many
abbrev mutual
  pub HasNamesBelow : ℕ → Term ℕ → Type 0
  HasNamesBelow n (Var v) = ⊤
  HasNamesBelow n (Number q) = ⊤
  HasNamesBelow n (Name a) = a < n
  HasNamesBelow n (Compound f ts) = (f < n) × HaveNamesBelow n ts

  pub HaveNamesBelow : ℕ → Terms ℕ → Type 0
  HaveNamesBelow n (one t) = HasNamesBelow n t
  HaveNamesBelow n (more t ts) = HasNamesBelow n t × HaveNamesBelow n ts

-- what takes the place of each variable of the term has such names
abbrev pub PutsNamesBelow : ℕ → Subst ℕ → Term ℕ → Type 0
PutsNamesBelow n s t = (v : ℕ) → Occurs v t → HasNamesBelow n (s v)

-- where each name of the heap's terms is among the first so many, it stays so
abbrev pub KeepsNames : ℕ → HeapTerms → HeapTerms → Type 0
KeepsNames n old new = All (HasNamesBelow n) old.terms → All (HasNamesBelow n) new.terms

-- variables have no names but those of terms
abbrev pub HasNamesOfTerms : HeapTerms → Type 0
HasNamesOfTerms h = (n : ℕ) → All (HasNamesBelow n) h.terms → All (HasNamesBelow n) h.images
