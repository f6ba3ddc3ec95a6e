-- A term as the list of the heads of its parts, from left to right.
use Rattle.std.specs.Prelude.{◌≡◌, ℕ, ◌<◌, ◌≤◌, List, [], ◌∷◌, ◌++◌, take, drop, length, ⊤}
use Rattle.spec_terms.specs.Term.{Terms, Var, Number, Name, Compound, one, more, count, with_arguments}
use Rattle.cq_term.specs.Meaning.{HeapTerm, at}
use Rattle.cq_term.specs.declared.view.View.{View}
use Rattle.cq_term.specs.declared.view.View.TheVariants as view

abbrev mutual
  pub heads : HeapTerm → List View
  heads (Var v) = view.Var (record { 0 = v }) ∷ []
  heads (Number q) = view.Number q ∷ []
  heads (Name a) = view.Name a ∷ []
  heads (Compound f ts) = view.Compound f (count ts) ∷ heads_in ts

  pub heads_in : Terms ℕ → List View
  heads_in (one t) = heads t
  heads_in (more t ts) = heads t ++ heads_in ts

-- the term of a head over the first of the terms behind it
abbrev pub put : View → List HeapTerm → List HeapTerm
put (view.Var v) ts = Var v.0 ∷ ts
put (view.Number q) ts = Number q ∷ ts
put (view.Name a) ts = Name a ∷ ts
put (view.Compound f n) ts = with_arguments f (take n ts) ∷ drop n ts

abbrev pub arity_in : View → ℕ
arity_in (view.Var v) = 0
arity_in (view.Number q) = 0
arity_in (view.Name a) = 0
arity_in (view.Compound f n) = n

-- the terms that have these heads
abbrev pub read : List View → List HeapTerm
read [] = []
read (h ∷ hs) = put h (read hs)

-- the first of them
abbrev pub term_of : List View → HeapTerm
term_of hs = at (read hs) 0

-- a variable is among so many, and a compound has arguments among so many terms behind it
abbrev pub IsHead : ℕ → View → ℕ → Type 0
IsHead count (view.Var v) behind = v.0 < count
IsHead count (view.Number q) behind = ⊤
IsHead count (view.Name a) behind = ⊤
IsHead count (view.Compound f n) behind = (0 < n) × (n ≤ behind)

abbrev pub AreHeads : ℕ → List View → Type 0
AreHeads count [] = ⊤
AreHeads count (h ∷ hs) = IsHead count h (length (read hs)) × AreHeads count hs

-- a name that the head has is among the first so many
abbrev pub IsNamedBelow : ℕ → View → Type 0
IsNamedBelow n (view.Var v) = ⊤
IsNamedBelow n (view.Number q) = ⊤
IsNamedBelow n (view.Name a) = a < n
IsNamedBelow n (view.Compound f m) = f < n

-- the variables among the heads are below a number
abbrev pub IsBelow : ℕ → View → Type 0
IsBelow n (view.Var v) = v.0 < n
IsBelow n (view.Number q) = ⊤
IsBelow n (view.Name a) = ⊤
IsBelow n (view.Compound f m) = ⊤

abbrev pub HaveBelow : ℕ → List View → Type 0
HaveBelow n [] = ⊤
HaveBelow n (h ∷ hs) = IsBelow n h × HaveBelow n hs

-- they are the heads of one term over so many variables
pub record IsPattern (count : ℕ) (hs : List View) : Type 0 where
  pub fits : AreHeads count hs
  pub one : length (read hs) ≡ 1
