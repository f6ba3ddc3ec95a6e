-- What a world holds.
use Rattle.std.specs.Prelude.{ℕ, List, []}
use Rattle.spec_linear.specs.Solution.{Constraint}
use Rattle.cq_term.specs.HeapValue.{Terms}
use Rattle.cq_attr.specs.Attributes.{Attributes}
use Rattle.cq_attr.specs.Attributes as attributes
use Rattle.cq_store.specs.StoreValue.{Kept}

-- terms and bindings, what is known of variables beside, the linear constraints in the order of telling, and how many exchanges
-- a call may make
pub record Contents : Type 0 where
  pub heap : Terms
  pub attrs : Attributes
  pub told : List Constraint
  pub pivots : ℕ

-- no terms, nothing that waits, no constraints
abbrev pub nothing : ℕ → Contents
nothing n = record { heap = record { terms = []; images = [] }; attrs = attributes.nothing; told = []; pivots = n }

-- the three parts as one
abbrev pub contents_of : Terms × (Attributes × Kept) → Contents
contents_of p = record { heap = p.0; attrs = p.1.0; told = p.1.1.told; pivots = p.1.1.pivots }
