-- Pairs of terms of a heap, seen as equations.
use Rattle.std.specs.Prelude.{◌≡◌, ℕ, ◌<◌, List, [], ◌∷◌, ◌++◌, map, length, reverse, drop, All}
use Rattle.spec_terms.specs.Unifier.{Equation}
use Rattle.cq_term.specs.Meaning.{HeapTerm, at}
use Rattle.cq_term.specs.Shown.{view_of, arguments}
use Rattle.cq_term.specs.declared.view.View.TheVariants as view
use Rattle.cq_term.specs.declared.walk.pairs.Pair.{Pair}

-- both ids are of terms of the heap
abbrev pub IsLive : List HeapTerm → Pair → Type 0
IsLive ts p = (p.left < length ts) × (p.right < length ts)

-- the two terms
abbrev pub equation_of : List HeapTerm → Pair → Equation ℕ
equation_of ts p = record { left = at ts p.left; right = at ts p.right }

abbrev pub equations : List HeapTerm → List Pair → List (Equation ℕ)
equations ts ps = map (equation_of ts) ps

-- both are compounds of the same name with so many arguments
abbrev pub HaveSameFunctor : HeapTerm → HeapTerm → ℕ → Type 0
HaveSameFunctor t u n = (f : ℕ) × (view_of t ≡ view.Compound f n) × (view_of u ≡ view.Compound f n)

-- equations of terms with the same place
abbrev pub pairwise : List HeapTerm → List HeapTerm → List (Equation ℕ)
pairwise [] us = []
pairwise (t ∷ ts) [] = []
pairwise (t ∷ ts) (u ∷ us) = record { left = t; right = u } ∷ pairwise ts us

-- the list has got the pairs of arguments from the i-th on, the last one first
pub record PushesPairs (ts : List HeapTerm) (a b i : ℕ) (old new : List Pair) : Type 0 where
  pub pairs : List Pair
  pub pushed : new ≡ old ++ pairs
  pub live : All (IsLive ts) pairs
  pub equal : equations ts pairs ≡ reverse (drop i (pairwise (arguments (at ts a)) (arguments (at ts b))))
