-- Terms that choices keep apart from the heap.
use Rattle.std.specs.Prelude.{◌≡◌, ℕ, List, map}
use Rattle.spec_numbers.specs.Texts.{Text}
use Rattle.spec_terms.specs.Term.{named}
use Rattle.spec_terms.specs.Variables.{variables, counted_from}
use Rattle.spec_syntax.specs.Trees.{Tree}
use Rattle.cq_term.specs.Texts.{text_of}
use Rattle.cq_resolve.specs.StoredValue.{StoredValue}
use Rattle.cq_term.specs.Names.{HasNamesBelow}

-- its names are among the first so many, and its variables are numbered by first occurrence
pub record IsCountedTerm (names : ℕ) (s : StoredValue) : Type 0 where
  pub below : HasNamesBelow names s.term
  pub numbered : variables s.term ≡ counted_from 0 s.variables

-- as the definitions have it: names are texts
abbrev pub stored_tree : List Text → StoredValue → Tree
stored_tree texts s = named (text_of texts) s.term

abbrev pub stored_trees : List Text → List StoredValue → List Tree
stored_trees texts copies = map (stored_tree texts) copies
