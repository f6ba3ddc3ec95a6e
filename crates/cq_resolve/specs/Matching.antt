-- A head on its way along a goal.
use Rattle.std.specs.Prelude.{◌≡◌, ◌≢◌, ◌↔◌, ℕ, ◌+◌, ◌<◌, ◌≤◌, ◌^◌, List, [], ◌∷◌, ◌++◌, map, reverse, drop, length, All, Contains}
use Rattle.std.specs.List.{AllPairs}
use Rattle.spec_terms.specs.Term.{Subst, Var, Occurs, apply, followed_by}
use Rattle.spec_terms.specs.Unifier.{Equation, Equates}
use Rattle.cq_frac.specs.declared.VarId.{VarId}
use Rattle.cq_term.specs.Meaning.{HeapTerm, at}
use Rattle.cq_term.specs.HeapValue.{Terms}
use Rattle.cq_term.specs.Shown.{IsUnbound}
use Rattle.cq_term.specs.declared.view.View.{View}
use Rattle.cq_unify.specs.Unified.{Binding, in_turn, variables_of, IsNewlyBound}
use Rattle.spec_numbers.specs.Prefixes.{IsPrefix}
use Rattle.cq_term.specs.Pairs.{pairwise}
use Rattle.cq_resolve.specs.Pattern.{read, AreHeads}
use Rattle.cq_resolve.specs.Resolved.{completed}
use Rattle.cq_resolve.specs.declared.matching.Walk.{Walk}

-- the number of the first of the clause's variables on the heap, how many there are, the heap as if these were made, the
-- goal and the head as terms that are to be equal, and what was told before
pub record Call : Type 0 where
  pub base : ℕ
  pub count : ℕ
  pub start : Terms
  pub goal : List (Equation ℕ)
  pub before : List VarId

-- what stays as it is while a head is matched
pub record Begun (c : Call) (head : List View) (first : ℕ) : Type 0 where
  pub fits : AreHeads c.count head
  pub few : c.count < 2 ^ 64
  pub begins : first ≡ c.base
  pub all : length c.start.images ≡ c.base + c.count
  pub new : (k : ℕ) → k < c.count → at c.start.images (c.base + k) ≡ Var (c.base + k)

-- what the variables of the pattern stand for under a substitution
abbrev pub image_of : ℕ → Subst ℕ → Subst ℕ
image_of base s k = s (base + k)

-- the variable stands in no image but its own, and in none of the terms
pub record IsFresh (s : Subst ℕ) (ts : List HeapTerm) (v : ℕ) : Type 0 where
  pub kept : s v ≡ Var v
  pub alone : (x : ℕ) → Occurs v (s x) → x ≡ v
  pub absent : All (λ t. Occurs v t → ⊥) ts

-- the substitution solves the goal once it solves the rest, and keeps the oldest variables
pub record Solving (goal : List (Equation ℕ)) (s : Subst ℕ) (rest : List (Equation ℕ)) : Type 0 where
  pub general : (r : Subst ℕ) → Equates r goal → ((v : ℕ) → apply r (s v) ≡ r v) × Equates r rest
  pub solved : (r : Subst ℕ) → Equates r rest → Equates (followed_by s r) goal
  pub oldest : (v w : ℕ) → s v ≡ Var w → w ≤ v

-- what the bindings made of the heap, and what was told of them
pub record Bound (c : Call) (now : Terms) (bindings : List Binding) (told : List VarId) : Type 0 where
  pub terms : IsPrefix (map (apply (in_turn bindings)) c.start.terms) now.terms
  pub images : now.images ≡ map (apply (in_turn bindings)) c.start.images
  pub in_order : told ≡ variables_of bindings
  pub newly : (v : VarId) → Contains told v ↔ IsNewlyBound c.start now v
  pub once : AllPairs ◌≢◌ told

-- the terms of the goal that are left, the last one first
abbrev pub lefts : Terms → List ℕ → List HeapTerm
lefts now goals = map (at now.terms) (reverse goals)

-- the head is matched up to a place, so many of its variables were met, and the terms of the goal that are left belong to
-- the terms of the head from the place on
pub record Matching (c : Call) (head : List View) (first : ℕ) (now : Terms) (after : List VarId) (place met : ℕ) (goals : List ℕ) : Type 0 where
  pub begun : Begun c head first
  pub bindings : List Binding
  pub told : List VarId
  pub listed : after ≡ c.before ++ told
  pub live : All (λ id. id < length now.terms) goals
  pub paired : length goals ≡ length (read (drop place head))
  pub bound : Bound c now bindings told
  pub solving : Solving c.goal (in_turn bindings) (pairwise (lefts now goals) (map (apply (image_of c.base (in_turn bindings))) (read (drop place head))))
  -- variables that weren't met, and those that were bound before
  pub unmet : (v : ℕ) → c.base + met ≤ v → IsFresh (in_turn bindings) (lefts now goals) v
  pub foreign : (v : ℕ) → v < c.base → (IsUnbound c.start.images v → ⊥) → IsFresh (in_turn bindings) (lefts now goals) v

-- the same on a heap on which only the variables that were met are made
pub record Walked (c : Call) (head : List View) (first : ℕ) (heap : Terms) (after : List VarId) (place met : ℕ) (goals : List ℕ) : Type 0 where
  pub matching : Matching c head first (completed (c.base + c.count) heap) after place met goals
  pub made : length heap.images ≡ c.base + met
  pub some : met ≤ c.count
  pub space : c.base + met ≤ 2 ^ 64

-- a walk stands so
abbrev pub IsAt : Call → List View → ℕ → Terms → List VarId → Walk → Type 0
IsAt c head first heap after walk = Walked c head first heap after walk.place walk.met walk.goals.items

-- and so with a term of the goal that was taken off it
abbrev pub IsNext : Call → List View → ℕ → Terms → List VarId → Walk → ℕ → Type 0
IsNext c head first heap after walk goal = Walked c head first heap after walk.place walk.met (walk.goals.items ++ goal ∷ [])
