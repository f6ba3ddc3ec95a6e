-- The names and the variables of terms, with numbers and with texts in the places of names.
use Rattle.std.proofs.Common.{◌≡◌, ℕ, inl, inr}
use Rattle.spec_numbers.specs.Texts.{Text}
use Rattle.spec_terms.specs.Term.{Terms, Subst, Var, Number, Name, Compound, one, more, Occurs, OccursIn, apply, apply_all, named, named_all}
use Rattle.cq_term.specs.Meaning.{HeapTerm}
use Rattle.cq_term.specs.Names.{HasNamesBelow, HaveNamesBelow}

-- a variable of a term with texts is one of the heap's term
mutual
  pub occurs_named : (f : ℕ → Text) (v : ℕ) (t : HeapTerm) → Occurs v (named f t) → Occurs v t
  occurs_named f v (Var w) o = o
  occurs_named f v (Number q) o = o
  occurs_named f v (Name a) o = o
  occurs_named f v (Compound a ts) o = occurs_in_named f v ts o

  occurs_in_named : (f : ℕ → Text) (v : ℕ) (ts : Terms ℕ) → OccursIn v (named_all f ts) → OccursIn v ts
  occurs_in_named f v (one t) o = occurs_named f v t o
  occurs_in_named f v (more t ts) (inl o) = inl (occurs_named f v t o)
  occurs_in_named f v (more t ts) (inr o) = inr (occurs_in_named f v ts o)

-- a term that is a variable with texts is one with numbers
pub named_variable : (f : ℕ → Text) (t : HeapTerm) (v : ℕ) → named f t ≡ Var v → t ≡ Var v
named_variable f (Var w) v e = cc
named_variable f (Number q) v e = cc
named_variable f (Name a) v e = cc
named_variable f (Compound a ts) v e = cc

module _ (n : ℕ) where
  -- the image of a variable of the term has the names of the term's image alone
  mutual
    pub image_below : (s : Subst ℕ) (v : ℕ) (t : HeapTerm) → Occurs v t → HasNamesBelow n (apply s t) → HasNamesBelow n (s v)
    image_below s v (Var w) o h = rw o h
    image_below s v (Number q) o h = absurd o
    image_below s v (Name a) o h = absurd o
    image_below s v (Compound f ts) o h = image_in_below s v ts o h.1

    image_in_below : (s : Subst ℕ) (v : ℕ) (ts : Terms ℕ) → OccursIn v ts → HaveNamesBelow n (apply_all s ts) → HasNamesBelow n (s v)
    image_in_below s v (one t) o h = image_below s v t o h
    image_in_below s v (more t ts) (inl o) h = image_below s v t o h.0
    image_in_below s v (more t ts) (inr o) h = image_in_below s v ts o h.1
