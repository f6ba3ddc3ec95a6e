-- What the cells of a heap mean: the terms as they were built, and then under each binding in the order in which
-- they were made.
use Rattle.std.specs.Prelude.{ℕ, List, [], ◌∷◌, ◌++◌, map, slice_index_or}
use Rattle.spec_terms.specs.Term.{Term, Var, Number, Name, with_arguments, apply, single}
use Rattle.cq_term.specs.Built.{Built}
use Rattle.cq_term.specs.Built as built

-- a term whose names are the numbers of atoms
abbrev pub HeapTerm : Type 0
HeapTerm = Term ℕ

-- a variable and the term that it was bound to
pub record Binding : Type 0 where
  pub variable : ℕ
  pub term : ℕ

-- stands past the end of a list
abbrev pub blank : HeapTerm
blank = Name 0

-- the term of an id, or the image of a variable
abbrev pub at : List HeapTerm → ℕ → HeapTerm
at ts i = slice_index_or ts i blank

-- a cell over the terms before it
abbrev pub raw_cell : List HeapTerm → Built → HeapTerm
raw_cell ts (built.Var v) = Var v
raw_cell ts (built.Number q) = Number q
raw_cell ts (built.Name a) = Name a
raw_cell ts (built.Compound f args) = with_arguments f (map (at ts) args)

unfoldable pub raws_from : List HeapTerm → List Built → List HeapTerm
raws_from ts [] = ts
raws_from ts (c ∷ cs) = raws_from (ts ++ raw_cell ts c ∷ []) cs

-- the terms after one binding
abbrev pub bind_one : Binding → List HeapTerm → List HeapTerm
bind_one b ts = map (apply (single b.variable (at ts b.term))) ts

unfoldable pub after : List Binding → List HeapTerm → List HeapTerm
after [] ts = ts
after (b ∷ bs) ts = after bs (bind_one b ts)

-- what the ids mean
unfoldable pub meanings : List Built → List Binding → List HeapTerm
meanings cells order = after order (raws_from [] cells)
