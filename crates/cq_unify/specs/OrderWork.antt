-- What the heads of two terms say of the terms.
use Rattle.std.specs.Prelude.{◌≡◌, ◌≢◌, ℕ, ⊤}
use Rattle.spec_terms.specs.Term.{Var, Number, Name, Compound}
use Rattle.cq_term.specs.Meaning.{HeapTerm}
use Rattle.cq_term.specs.Shown.{view_of}
use Rattle.cq_term.specs.Pairs.{HaveSameFunctor}
use Rattle.cq_unify.specs.declared.order.pairs.Heads.{Heads}
use Rattle.cq_unify.specs.declared.order.pairs.Heads.TheVariants as heads

-- a number or a name
abbrev pub IsConstant : HeapTerm → Type 0
IsConstant (Var v) = ⊥
IsConstant (Number q) = ⊤
IsConstant (Name a) = ⊤
IsConstant (Compound f ts) = ⊥

-- the terms show other heads, of which one at most is a variable
pub record AreUnlike (t u : HeapTerm) : Type 0 where
  pub other : view_of t ≢ view_of u
  pub apart : (v w : ℕ) → t ≡ Var v → u ≡ Var w → ⊥

-- what the heads of the two terms are to each other
abbrev pub Compared : HeapTerm → HeapTerm → Heads → Type 0
Compared t u heads.Same = IsConstant t × (t ≡ u)
Compared t u heads.Different = AreUnlike t u
Compared t u (heads.Variables v w) = (t ≡ Var v.0) × (u ≡ Var w.0)
Compared t u (heads.Arguments n) = HaveSameFunctor t u n
