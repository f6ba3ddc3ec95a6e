-- Compounds of one argument, of three and of several on a heap.
use Rattle.std.specs.Prelude.{◌≡◌, ℕ, ◌<◌, Bool, true, false, List, length}
use Rattle.spec_terms.specs.Term.{Terms, Compound, one, more, count}
use Rattle.cq_term.specs.Meaning.{HeapTerm, at}
use Rattle.cq_lint.specs.declared.shapes.Many.{Many}
use Rattle.cq_lint.specs.declared.shapes.Only.{Only}
use Rattle.cq_lint.specs.declared.shapes.Three.{Three}

-- the term is a compound of one argument
abbrev pub is_unary : HeapTerm → Bool
is_unary (Compound f (one t)) = true
is_unary t = false

-- the term is a compound of three arguments
abbrev pub is_ternary : HeapTerm → Bool
is_ternary (Compound f (more t (more u (one v)))) = true
is_ternary t = false

-- the term is a compound of two arguments or more
abbrev pub is_many : HeapTerm → Bool
is_many (Compound f (more t us)) = true
is_many t = false

-- the term has this name and this argument
pub record HasOnly (ts : List HeapTerm) (id : ℕ) (o : Only) : Type 0 where
  pub live : o.argument < length ts
  pub term : at ts id ≡ Compound o.name (one (at ts o.argument))

-- the term has this name and these arguments
pub record HasThree (ts : List HeapTerm) (id : ℕ) (w : Three) : Type 0 where
  pub first : w.first < length ts
  pub second : w.second < length ts
  pub third : w.third < length ts
  pub term : at ts id ≡ Compound w.name (more (at ts w.first) (more (at ts w.second) (one (at ts w.third))))

-- the term has this name, this first argument and so many behind it
pub record HasMany (ts : List HeapTerm) (id : ℕ) (m : Many) : Type 0 where
  pub live : m.first < length ts
  pub others : Terms ℕ
  pub term : at ts id ≡ Compound m.name (more (at ts m.first) others)
  pub counted : count others ≡ m.more
