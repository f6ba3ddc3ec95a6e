-- The pairs of terms that are left, in the order in which they are taken.
use Rattle.std.proofs.Common.{◌≡◌, ℕ, List, [], ◌∷◌, ◌++◌, reverse, ap, ◌∙◌}
use Rattle.std.specs.Prelude.{All, ◌↔◌}
use Rattle.std.proofs.lemmas.List.{reverse-append, reverse-reverse}
use Rattle.spec_terms.specs.Unifier.{Equation}
use Rattle.cq_term.specs.Meaning.{HeapTerm, at}
use Rattle.cq_term.specs.Shown.{arguments}
use Rattle.cq_term.specs.Pairs.{IsLive, equation_of, equations, pairwise, PushesPairs}
use Rattle.cq_term.specs.declared.walk.pairs.Pair.{Pair}
use Rattle.cq_term.proofs.SideBySide.{equations_pop, equations_push}

-- the pairs of terms that are left, the next one first
abbrev pub ahead : List HeapTerm → List Pair → List (Equation ℕ)
ahead ts ps = reverse (equations ts ps)

module _ (ts : List HeapTerm) (old work : List Pair) (p : Pair) (is : old ≡ work ++ p ∷ []) where
  pub ahead_pop : ahead ts old ≡ equation_of ts p ∷ ahead ts work
  ahead_pop = ap reverse (equations_pop ts old work p is) ∙ reverse-append (equations ts work) (equation_of ts p ∷ [])

  pub ahead_push : (new : List Pair) → PushesPairs ts p.left p.right 0 work new → ahead ts new ≡ pairwise (arguments (at ts p.left)) (arguments (at ts p.right)) ++ ahead ts work
  ahead_push new pushes =
      let added : List (Equation ℕ) = pairwise (arguments (at ts p.left)) (arguments (at ts p.right)) in
      ap reverse (equations_push ts old work p is new pushes) ∙ reverse-append (equations ts work) (reverse added) ∙ ap (λ es. es ++ ahead ts work) (reverse-reverse added)

-- a claim that the pairs which are left decide
pub record Remains (ts : List HeapTerm) (claim : Type 0) (Decides : List (Equation ℕ) → Type 0) (work : List Pair) : Type 0 where
  pub live : All (IsLive ts) work
  pub decides : claim ↔ Decides (ahead ts work)
