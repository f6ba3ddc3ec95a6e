-- The two arguments of a compound that has two.
use Rattle.std.specs.Prelude.{◌≡◌, ℕ, ◌<◌, List, Bool, true, false, length}
use Rattle.spec_terms.specs.Term.{Compound, one, more}
use Rattle.cq_term.specs.Meaning.{HeapTerm, at}
use Rattle.cq_built.specs.declared.sides.Sides.{Sides}

-- a compound of two arguments
abbrev pub is_binary : HeapTerm → Bool
is_binary (Compound f (more a (one b))) = true
is_binary t = false

-- the term has this name and these arguments
pub record HasSides (ts : List HeapTerm) (id : ℕ) (s : Sides) : Type 0 where
  pub left : s.left < length ts
  pub right : s.right < length ts
  pub term : at ts id ≡ Compound s.name (more (at ts s.left) (one (at ts s.right)))
