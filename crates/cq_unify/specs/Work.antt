-- The work of a unification that is left: pairs of ids, seen as equations.
use Rattle.std.specs.Prelude.{◌≡◌, ◌↔◌, ℕ, ◌<◌, List, length, map, All, slice_get, Some}
use Rattle.spec_terms.specs.Term.{Subst, Var, Occurs, apply, single}
use Rattle.spec_terms.specs.Unifier.{Equates, HasNoUnifier}
use Rattle.cq_frac.specs.declared.VarId.{VarId}
use Rattle.cq_term.specs.Meaning.{HeapTerm, at}
use Rattle.cq_term.specs.HeapValue.{Terms}
use Rattle.cq_term.specs.Shown.{view_of, arguments, IsUnbound}
use Rattle.cq_term.specs.declared.view.View.TheVariants as view
use Rattle.cq_term.specs.Pairs.{IsLive, equations, HaveSameFunctor}
use Rattle.cq_term.specs.declared.walk.pairs.Pair.{Pair}
use Rattle.cq_term.specs.Ground.{IsGround}
use Rattle.cq_unify.specs.declared.occurs.Met.{Met}
use Rattle.cq_unify.specs.declared.occurs.Met.TheVariants as met
use Rattle.cq_unify.specs.declared.pairs.Demand.{Demand}
use Rattle.cq_unify.specs.declared.pairs.Demand.TheVariants as demand
use Rattle.cq_unify.specs.declared.pairs.Step.{Step}
use Rattle.cq_unify.specs.declared.pairs.Step.TheVariants as step

-- the variable may be bound to the term, which is another one, and where it is a variable an older one
pub record CanBind (heap : Terms) (v : VarId) (t : ℕ) : Type 0 where
  pub unbound : IsUnbound heap.images v.0
  pub live : t < length heap.terms
  pub other : at heap.terms t ≡ Var v.0 → ⊥
  pub older : (w : ℕ) → at heap.terms t ≡ Var w → IsUnbound heap.images w × (w < v.0)

-- the variable, which does not stand in the term, became it, and all terms are read so
pub record IsBound (old new : Terms) (v : VarId) (t : ℕ) : Type 0 where
  pub apart : Occurs v.0 (at old.terms t) → ⊥
  pub terms : new.terms ≡ map (apply (single v.0 (at old.terms t))) old.terms
  pub images : new.images ≡ map (apply (single v.0 (at old.terms t))) old.images

-- an argument of the term is a compound
pub record HasInnerCompound (t : HeapTerm) : Type 0 where
  pub place : ℕ
  pub argument : HeapTerm
  pub stands : slice_get (arguments t) place ≡ Some argument
  pub name : ℕ
  pub arity : ℕ
  pub shown : view_of argument ≡ view.Compound name arity

-- what a walk over a term has met, which looked for a variable and went into these compounds
abbrev pub Meets : List HeapTerm → ℕ → ℕ → List ℕ → Met → Type 0
Meets ts v id walked met.Sought = Occurs v (at ts id)
Meets ts v id walked met.Another = Occurs v (at ts id) → ⊥
Meets ts v id walked met.Nothing = (Occurs v (at ts id) → ⊥) × All (λ i. i < length ts) walked × All (λ i. IsGround (at ts i)) walked

-- the substitution makes the two equal
abbrev pub Joins : Subst ℕ → Terms → ℕ → ℕ → Type 0
Joins s heap a b = apply s (at heap.terms a) ≡ apply s (at heap.terms b)

-- what it takes to make two terms equal
abbrev pub Demands : Terms → ℕ → ℕ → Demand → Type 0
Demands heap a b demand.Same = at heap.terms a ≡ at heap.terms b
Demands heap a b demand.Clash = (s : Subst ℕ) → Joins s heap a b → ⊥
Demands heap a b (demand.Bind v t) = CanBind heap v t × ((s : Subst ℕ) → Joins s heap a b ↔ (s v.0 ≡ apply s (at heap.terms t)))
Demands heap a b (demand.Arguments n) = HaveSameFunctor (at heap.terms a) (at heap.terms b) n

-- what is left of the old pairs
abbrev pub Narrowed : Terms → List Pair → List Pair → Step → Type 0
Narrowed heap old new step.Done = (s : Subst ℕ) → Equates s (equations heap.terms old)
Narrowed heap old new step.Clash = HasNoUnifier (equations heap.terms old)
Narrowed heap old new (step.Bind v t) = CanBind heap v t × All (IsLive heap.terms) new
    × ((s : Subst ℕ) → Equates s (equations heap.terms old) ↔ ((s v.0 ≡ apply s (at heap.terms t)) × Equates s (equations heap.terms new)))
