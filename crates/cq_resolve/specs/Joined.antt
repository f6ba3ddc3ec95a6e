-- One step of a match: a term of the goal and a part of the head are made equal.
use Rattle.std.specs.Prelude.{◌≡◌, ◌≢◌, ◌↔◌, ℕ, ◌<◌, List, [], ◌∷◌, ◌++◌, map, Contains}
use Rattle.std.specs.List.{AllPairs}
use Rattle.spec_terms.specs.Term.{Subst, Var, Occurs, apply}
use Rattle.spec_terms.specs.Unifier.{Equation, IsUnifier}
use Rattle.cq_frac.specs.declared.VarId.{VarId}
use Rattle.cq_term.specs.Meaning.{HeapTerm, at}
use Rattle.cq_term.specs.HeapValue.{Terms}
use Rattle.cq_term.specs.Shown.{IsUnbound}
use Rattle.cq_unify.specs.Unified.{Binding, in_turn, variables_of, IsNewlyBound}
use Rattle.spec_numbers.specs.Prefixes.{IsPrefix}

abbrev pub equal : HeapTerm → HeapTerm → List (Equation ℕ)
equal a b = record { left = a; right = b } ∷ []

-- all terms are read under the unifier of the two, which bindings of these variables make in turn
pub record Joined (old new : Terms) (a b : HeapTerm) (told : List VarId) : Type 0 where
  pub bindings : List Binding
  pub unifier : IsUnifier (equal a b) (in_turn bindings)
  pub terms : IsPrefix (map (apply (in_turn bindings)) old.terms) new.terms
  pub images : new.images ≡ map (apply (in_turn bindings)) old.images
  pub in_order : told ≡ variables_of bindings
  pub newly : (v : VarId) → Contains told v ↔ IsNewlyBound old new v
  pub once : AllPairs ◌≢◌ told

-- nothing makes the two equal
abbrev pub Clash : HeapTerm → HeapTerm → Type 0
Clash a b = (s : Subst ℕ) → apply s a ≡ apply s b → ⊥

-- the unbound variable stands not in the term, which is no younger variable
pub record CanMeet (heap : Terms) (v : VarId) (t : ℕ) : Type 0 where
  pub unbound : IsUnbound heap.images v.0
  pub apart : Occurs v.0 (at heap.terms t) → ⊥
  pub older : (w : ℕ) → at heap.terms t ≡ Var w → w < v.0

-- what was told before, and then what a step told that made the term of an id and the other term equal
abbrev pub Joins : Terms → Terms → ℕ → HeapTerm → List VarId → List VarId → Type 0
Joins old new a t before after = (more : List VarId) × (after ≡ before ++ more) × Joined old new (at old.terms a) t more
