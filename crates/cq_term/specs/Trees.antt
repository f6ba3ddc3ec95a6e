-- The terms of a heap as the definitions see them: with texts in the places of names.
use Rattle.std.specs.Prelude.{ℕ, List, map, All, length}
use Rattle.spec_numbers.specs.Texts.{Text}
use Rattle.spec_terms.specs.Term.{Term, named}
use Rattle.cq_term.specs.Texts.{text_of}
use Rattle.cq_term.specs.Meaning.{HeapTerm, at}
use Rattle.cq_term.specs.Names.{HasNamesBelow}

-- the tree of a term
abbrev pub tree : List Text → List HeapTerm → ℕ → Term Text
tree texts ts id = named (text_of texts) (at ts id)

-- the trees of several terms
abbrev pub trees : List Text → List HeapTerm → List ℕ → List (Term Text)
trees texts ts ids = map (tree texts ts) ids

-- each name in the terms has a text
abbrev pub KnowsTerms : List Text → List HeapTerm → Type 0
KnowsTerms texts ts = All (HasNamesBelow (length texts)) ts
