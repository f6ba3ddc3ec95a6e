-- Parts of a pattern, and what their marks say.
use Rattle.std.specs.Prelude.{◌≡◌, ℕ, ◌+◌, ◌<◌, max, List, [], ◌∷◌, length, map, ⊤}
use Rattle.spec_numbers.specs.Rational.{int_ℚ}
use Rattle.spec_terms.specs.Term.{Terms, Var, Number, Name, Compound, one, more}
use Rattle.cq_term.specs.Meaning.{HeapTerm}
use Rattle.cq_term.specs.declared.view.View.{View}
use Rattle.cq_term.specs.declared.view.View.TheVariants as view
use Rattle.cq_resolve.specs.declared.stored.part.Part.{Part}
use Rattle.cq_resolve.specs.declared.stored.part.Part.TheVariants as part
use Rattle.cq_resolve.specs.Pattern.{heads, term_of}

-- what a part shows
abbrev pub shown : Part → View
shown (part.New v) = view.Var (record { 0 = v })
shown (part.Again v) = view.Var (record { 0 = v })
shown (part.Whole n) = view.Number (int_ℚ n)
shown (part.Wide q) = view.Number q.value
shown (part.Name a) = view.Name a
shown (part.Compound n size above f) = view.Compound f n

-- one more than the greatest number of a variable in a term; 0 where it has none
abbrev mutual
  pub top : HeapTerm → ℕ
  top (Var v) = v + 1
  top (Number q) = 0
  top (Name a) = 0
  top (Compound f ts) = top_in ts

  pub top_in : Terms ℕ → ℕ
  top_in (one t) = top t
  top_in (more t ts) = max (top t) (top_in ts)

-- the same of terms in a row, and how many heads these have
abbrev pub tops : List HeapTerm → ℕ
tops [] = 0
tops (t ∷ ts) = max (top t) (tops ts)

abbrev pub widths : List HeapTerm → ℕ
widths [] = 0
widths (t ∷ ts) = length (heads t) + widths ts

-- ---- variables that were met

-- how many were met, once that of a head is
abbrev pub met_by : View → ℕ → ℕ
met_by (view.Var v) met = max met (v.0 + 1)
met_by (view.Number q) met = met
met_by (view.Name a) met = met
met_by (view.Compound f n) met = met

abbrev pub IsMet : Part → ℕ → Type 0
IsMet (part.New v) met = v ≡ met
IsMet (part.Again v) met = v < met
IsMet (part.Whole n) met = ⊤
IsMet (part.Wide q) met = ⊤
IsMet (part.Name a) met = ⊤
IsMet (part.Compound n size above f) met = ⊤

-- a variable is marked by whether it stands further left, where so many were met before
abbrev pub AreMet : ℕ → List Part → Type 0
AreMet met [] = ⊤
AreMet met (p ∷ ps) = IsMet p met × AreMet (met_by (shown p) met) ps

-- how many were met, once those of these heads are
abbrev pub met_over : ℕ → List View → ℕ
met_over m [] = m
met_over m (h ∷ hs) = met_over (met_by h m) hs

-- the parts that were written are marked by the variables, and so many were met
pub record Written (met : ℕ) (parts : List Part) (now : ℕ) : Type 0 where
  pub are : AreMet met parts
  pub over : met_over met (map shown parts) ≡ now

-- ---- compounds

-- how many parts the term has that begins with a part, and one more than the greatest number of a variable in it
abbrev pub size_of : Part → ℕ
size_of (part.New v) = 1
size_of (part.Again v) = 1
size_of (part.Whole n) = 1
size_of (part.Wide q) = 1
size_of (part.Name a) = 1
size_of (part.Compound n size above f) = size

abbrev pub top_of : Part → ℕ
top_of (part.New v) = v + 1
top_of (part.Again v) = v + 1
top_of (part.Whole n) = 0
top_of (part.Wide q) = 0
top_of (part.Name a) = 0
top_of (part.Compound n size above f) = above

-- a part that begins no compound
abbrev pub IsLeaf : Part → Type 0
IsLeaf (part.New v) = ⊤
IsLeaf (part.Again v) = ⊤
IsLeaf (part.Whole n) = ⊤
IsLeaf (part.Wide q) = ⊤
IsLeaf (part.Name a) = ⊤
IsLeaf (part.Compound n size above f) = ⊥

-- the marks of a compound are those of the term that begins with it
abbrev pub IsSized : Part → HeapTerm → Type 0
IsSized (part.New v) t = ⊤
IsSized (part.Again v) t = ⊤
IsSized (part.Whole n) t = ⊤
IsSized (part.Wide q) t = ⊤
IsSized (part.Name a) t = ⊤
IsSized (part.Compound n size above f) t = (size ≡ length (heads t)) × (above ≡ top t)

abbrev pub AreSized : List Part → Type 0
AreSized [] = ⊤
AreSized (p ∷ ps) = IsSized p (term_of (map shown (p ∷ ps))) × AreSized ps

-- the marks are right
pub record AreMarked (ps : List Part) : Type 0 where
  pub met : AreMet 0 ps
  pub sized : AreSized ps
