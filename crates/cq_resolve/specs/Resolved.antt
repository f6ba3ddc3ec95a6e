-- What it means that a goal was resolved with a clause.
use Rattle.std.specs.Prelude.{◌≡◌, ◌≢◌, ◌↔◌, ℕ, ◌-◌, ◌<◌, List, [], ◌∷◌, ◌++◌, map, length, Contains}
use Rattle.std.specs.List.{AllPairs}
use Rattle.spec_terms.specs.Term.{apply}
use Rattle.spec_terms.specs.Unifier.{Equation, IsUnifier}
use Rattle.cq_frac.specs.declared.VarId.{VarId}
use Rattle.cq_term.specs.Meaning.{at}
use Rattle.cq_term.specs.HeapValue.{Terms}
use Rattle.cq_unify.specs.Unified.{Binding, in_turn, variables_of, IsNewlyBound}
use Rattle.spec_numbers.specs.Prefixes.{IsPrefix}
use Rattle.cq_unify.specs.Copied.{unbound_from}
use Rattle.cq_resolve.specs.Building.{moved_by}
use Rattle.cq_resolve.specs.StoredValue.{ClauseValue}

-- the goal and the head under the heap's next variables are to be equal
abbrev pub call : Terms → ClauseValue → ℕ → List (Equation ℕ)
call heap c goal = record { left = at heap.terms goal; right = apply (moved_by (length heap.images)) c.head } ∷ []

-- a heap with so many more variables
abbrev pub with_variables : Terms → ℕ → Terms
with_variables heap n = record heap { images = heap.images ++ unbound_from (length heap.images) n }

-- a heap with as many more variables as make so many in all
abbrev pub completed : ℕ → Terms → Terms
completed total heap = with_variables heap (total - length heap.images)

-- all terms are read under the unifier of the two, which bindings of these variables make in turn; the clause's variables
-- are there, and the term of its body
pub record Resolved (old new : Terms) (c : ClauseValue) (goal id : ℕ) (told : List VarId) : Type 0 where
  pub bindings : List Binding
  pub unifier : IsUnifier (call old c goal) (in_turn bindings)
  pub terms : IsPrefix (map (apply (in_turn bindings)) old.terms) new.terms
  pub images : new.images ≡ map (apply (in_turn bindings)) (with_variables old c.variables).images
  pub live : id < length new.terms
  pub body : at new.terms id ≡ apply (in_turn bindings) (apply (moved_by (length old.images)) c.body)
  pub in_order : told ≡ variables_of bindings
  pub newly : (v : VarId) → Contains told v ↔ IsNewlyBound (with_variables old c.variables) new v
  pub once : AllPairs ◌≢◌ told

-- what was told before, and then what the resolution told
abbrev pub Resolves : Terms → Terms → ClauseValue → ℕ → ℕ → List VarId → List VarId → Type 0
Resolves old new c goal id before after = (more : List VarId) × (after ≡ before ++ more) × Resolved old new c goal id more
