-- What it means that two terms of a heap were unified.
use Rattle.std.specs.Prelude.{◌≡◌, ◌≢◌, ◌↔◌, ℕ, List, [], ◌∷◌, map, Contains}
use Rattle.std.specs.List.{AllPairs}
use Rattle.spec_terms.specs.Term.{Subst, apply, identity, single, followed_by}
use Rattle.spec_terms.specs.Unifier.{Equation, IsUnifier}
use Rattle.cq_frac.specs.declared.VarId.{VarId}
use Rattle.cq_term.specs.Meaning.{HeapTerm, at}
use Rattle.cq_term.specs.HeapValue.{Terms}
use Rattle.cq_term.specs.Shown.{IsUnbound}

-- a variable, and the term that it became
pub record Binding : Type 0 where
  pub variable : VarId
  pub term : HeapTerm

-- bindings made in turn, the first of the list first
abbrev pub in_turn : List Binding → Subst ℕ
in_turn [] = identity
in_turn (b ∷ bs) = followed_by (single b.variable.0 b.term) (in_turn bs)

abbrev pub variables_of : List Binding → List VarId
variables_of bs = map (λ (b : Binding). b.variable) bs

-- two terms of a heap are to be equal
abbrev pub equation : Terms → ℕ → ℕ → List (Equation ℕ)
equation heap a b = record { left = at heap.terms a; right = at heap.terms b } ∷ []

-- the variable was unbound, and is no more
abbrev pub IsNewlyBound : Terms → Terms → VarId → Type 0
IsNewlyBound old new v = IsUnbound old.images v.0 × (IsUnbound new.images v.0 → ⊥)

-- all terms are read under the unifier of the two, which bindings of these variables make in turn
pub record Unified (old new : Terms) (a b : ℕ) (bound : List VarId) : Type 0 where
  pub bindings : List Binding
  pub unifier : IsUnifier (equation old a b) (in_turn bindings)
  pub terms : new.terms ≡ map (apply (in_turn bindings)) old.terms
  pub images : new.images ≡ map (apply (in_turn bindings)) old.images
  pub in_order : bound ≡ variables_of bindings
  pub newly : (v : VarId) → Contains bound v ↔ IsNewlyBound old new v
  pub once : AllPairs ◌≢◌ bound
