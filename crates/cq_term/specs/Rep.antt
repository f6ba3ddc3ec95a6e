-- What a heap keeps true.
use Rattle.std.specs.Prelude.{◌≡◌, ℕ, ◌<◌, List, [], ◌∷◌, map, slice_get, length, MatchOption, None, Some, cond, ⊤, suc, ◌==◌}
use Rattle.std.specs.declared.option.Option.{Option}
use Rattle.spec_terms.specs.Term.{Var, Number, Name, Occurs, with_arguments}
use Rattle.cq_term.specs.Meaning.{Binding, HeapTerm, at, meanings}
use Rattle.cq_term.specs.HeapValue.{Terms}
use Rattle.cq_term.specs.Built.{Built}
use Rattle.cq_term.specs.Built as built

-- what a variable is bound to
abbrev pub target : List Binding → ℕ → Option ℕ
target [] v = None
target (b ∷ bs) v = cond (b.variable == v) (Some b.term) (target bs v)

-- the term of a cell, by the terms of the ids in it
abbrev pub Head : List HeapTerm → List Binding → Built → HeapTerm → Type 0
Head ts order (built.Var v) t = MatchOption (target order v) (t ≡ Var v) (λ u. t ≡ at ts u)
Head ts order (built.Number q) t = t ≡ Number q
Head ts order (built.Name a) t = t ≡ Name a
Head ts order (built.Compound f args) t = t ≡ with_arguments f (map (at ts) args)

abbrev pub AllBelow : ℕ → List ℕ → Type 0
AllBelow i [] = ⊤
AllBelow i (x ∷ xs) = (x < i) × AllBelow i xs

-- ids in a cell stand before it, variables are there, and a compound has an argument
abbrev pub Fits : ℕ → ℕ → Built → Type 0
Fits i vars (built.Var v) = v < vars
Fits i vars (built.Number q) = ⊤
Fits i vars (built.Name a) = ⊤
Fits i vars (built.Compound f args) = (0 < length args) × AllBelow i args

-- how many bindings were made from that of a variable on, or 0 where it has none
abbrev pub left_after : List Binding → ℕ → ℕ
left_after [] v = 0
left_after (b ∷ bs) v = cond (b.variable == v) (suc (length bs)) (left_after bs v)

-- the variable is there, isn't bound, and has a cell of its own
pub record IsFree (cells : List Built) (vars : List ℕ) (order : List Binding) (v : ℕ) : Type 0 where
  pub there : v < length vars
  pub unbound : target order v ≡ None
  pub own : (i : ℕ) → slice_get vars v ≡ Some i → slice_get cells i ≡ Some (built.Var v)

-- `vars` are the cells of the variables, and of one that was bound from the start the term
pub record IsHeap (cells : List Built) (vars : List ℕ) (order : List Binding) : Type 0 where
  pub fits : (i : ℕ) (c : Built) → slice_get cells i ≡ Some c → Fits i (length vars) c
  pub heads : (i : ℕ) (c : Built) → slice_get cells i ≡ Some c → Head (meanings cells order) order c (at (meanings cells order) i)
  -- a variable in a term is free
  pub free : (i v : ℕ) → Occurs v (at (meanings cells order) i) → IsFree cells vars order v
  pub homes : (v i : ℕ) → slice_get vars v ≡ Some i → i < length cells
  -- a variable has one cell at most
  pub single : (i v : ℕ) → slice_get cells i ≡ Some (built.Var v) → slice_get vars v ≡ Some i
  pub bindings : (k : ℕ) (b : Binding) → slice_get order k ≡ Some b → (b.term < length cells) × (b.variable < length vars)
  -- a variable that a bound one leads to was bound later
  pub chain : (v u w : ℕ) → target order v ≡ Some u → slice_get cells u ≡ Some (built.Var w) → left_after order w < left_after order v

-- the end of the bindings from an id: it means the same, and is no bound variable
pub record Resolved (cells : List Built) (order : List Binding) (id end : ℕ) : Type 0 where
  pub live : end < length cells
  pub same : at (meanings cells order) end ≡ at (meanings cells order) id
  pub last : (v : ℕ) → slice_get cells end ≡ Some (built.Var v) → target order v ≡ None

pub record Reaches (cells : List Built) (order : List Binding) (id end : ℕ) : Type 0 where
  pub live : end < length cells
  pub same : at (meanings cells order) end ≡ at (meanings cells order) id

abbrev pub terms_of_parts : List Built → List ℕ → List Binding → Terms
terms_of_parts cells vars order = record { terms = meanings cells order; images = map (at (meanings cells order)) vars }
