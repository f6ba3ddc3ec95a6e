-- The parts of a term while they are looked for, one after another.
use Rattle.std.specs.Prelude.{◌≡◌, ℕ, ◌+◌, ◌<◌, List, [], ◌∷◌, ◌++◌, length, All}
use Rattle.spec_numbers.specs.Texts.{Text}
use Rattle.spec_terms.specs.Term.{size}
use Rattle.spec_syntax.specs.Trees.{Tree}
use Rattle.cq_term.specs.Meaning.{HeapTerm, at}
use Rattle.cq_term.specs.Trees.{tree, trees}

abbrev pub AreLive : List HeapTerm → List ℕ → Type 0
AreLive ts ids = All (λ id. id < length ts) ids

-- the parts of terms that wait, the last one first
abbrev pub waiting_parts : (Tree → List Tree) → List Text → List HeapTerm → List ℕ → List Tree
waiting_parts parts texts ts [] = []
waiting_parts parts texts ts (id ∷ ids) = waiting_parts parts texts ts ids ++ parts (tree texts ts id)

abbrev pub waiting_size : List HeapTerm → List ℕ → ℕ
waiting_size ts [] = 0
waiting_size ts (id ∷ ids) = size (at ts id) + waiting_size ts ids

-- in place of a term its parts were found, or others wait
pub record TakesApart (parts : Tree → List Tree) (texts : List Text) (ts : List HeapTerm) (found waiting : List ℕ) (id : ℕ) (found' waiting' : List ℕ) : Type 0 where
  pub same : trees texts ts found' ++ waiting_parts parts texts ts waiting' ≡ trees texts ts found ++ (parts (tree texts ts id) ++ waiting_parts parts texts ts waiting)
  pub found_live : AreLive ts found → AreLive ts found'
  pub waiting_live : AreLive ts waiting → AreLive ts waiting'
  pub less : waiting_size ts waiting' < waiting_size ts waiting + size (at ts id)

-- the parts that were found and those of the terms that wait are the parts of the whole
pub record IsTakenApart (parts : Tree → List Tree) (texts : List Text) (ts : List HeapTerm) (whole : List Tree) (found waiting : List ℕ) : Type 0 where
  pub found_live : AreLive ts found
  pub waiting_live : AreLive ts waiting
  pub same : trees texts ts found ++ waiting_parts parts texts ts waiting ≡ whole
