-- Worlds at the beginning, and what may be told to a world.
use Rattle.std.specs.Prelude.{◌≡◌, ℕ, ◌<◌, List, [], length}
use Rattle.spec_numbers.specs.Texts.{Text}
use Rattle.spec_terms.specs.Term.{Var, Occurs}
use Rattle.cq_attr.specs.Attributes.{Attributes}
use Rattle.cq_term.specs.HeapValue.{Terms}
use Rattle.cq_term.specs.Meaning.{at}
use Rattle.cq_term.specs.Shown.{IsUnbound}
use Rattle.cq_term.specs.Trees.{KnowsTerms}
use Rattle.cq_settle.specs.Contents.{Contents}

-- nothing was told or bound, and nothing waits; each name has a text
pub record KnowsNothing (texts : List Text) (c : Contents) : Type 0 where
  pub told : c.told ≡ []
  pub numeric : c.attrs.numeric ≡ []
  pub waiting : c.attrs.waiting ≡ []
  pub unbound : (v : ℕ) → v < length c.heap.images → at c.heap.images v ≡ Var v
  pub names : KnowsTerms texts c.heap.terms

-- the term is there, and is read through the bindings
pub record MayBeTold (h : Terms) (id : ℕ) : Type 0 where
  pub live : id < length h.terms
  pub inside : (v : ℕ) → Occurs v (at h.terms id) → IsUnbound h.images v

-- the same with these terms
abbrev pub with_terms : Contents → Terms → Contents
with_terms c h = record c { heap = h }

-- the same with these attributes
abbrev pub with_attributes : Contents → Attributes → Contents
with_attributes c a = record c { attrs = a }
