-- What predicates offer over variables that are new on a heap.
use Rattle.std.specs.Prelude.{◌≡◌, ◌≤◌, ℕ, List, [], ◌∷◌, ◌++◌, map, length, All}
use Rattle.spec_numbers.specs.Texts.{Text}
use Rattle.spec_numbers.specs.Prefixes.{IsPrefix}
use Rattle.spec_terms.specs.Unifier.{Equation}
use Rattle.spec_terms.specs.Variables.{variables, renamed_from}
use Rattle.spec_syntax.specs.Trees.{Tree}
use Rattle.spec_builtins.specs.Alternatives.{Solutions, Offers, ◌≐◌}
use Rattle.cq_term.specs.HeapValue.{HeapValue, Terms}
use Rattle.cq_term.specs.Meaning.{HeapTerm}
use Rattle.cq_term.specs.Trees.{tree, KnowsTerms}
use Rattle.cq_unify.specs.Copied.{unbound_from}
use Rattle.cq_term.specs.Pairs.{IsLive}
use Rattle.cq_term.specs.declared.walk.pairs.Pair.{Pair}
use Rattle.cq_built.specs.Offered.{equation_of}
use Rattle.cq_built.specs.declared.alternatives.Alternative.{Alternative}

-- the only alternative has these pairs, over so many variables as were put behind the older ones of the heap
pub record OffersOver (texts : List Text) (old new : Terms) (s : Solutions) (pairs : List Pair) : Type 0 where
  pub count : ℕ
  pub offered : s ≡ Offers (record { new = count; equations = map (equation_of texts new.terms) pairs } ∷ [])
  pub images : new.images ≡ old.images ++ unbound_from (length old.images) count

-- the only alternative is this one, over such variables
abbrev pub OffersWay : List Text → Terms → Terms → Solutions → Alternative → Type 0
OffersWay texts old new s a = OffersOver texts old new s a.pairs.items

-- what an alternative asks to be unified
abbrev pub equations_of : List Text → List HeapTerm → Alternative → List (Equation Text)
equations_of texts ts a = map (equation_of texts ts) a.pairs.items

-- the terms of an alternative are on the heap
abbrev pub AreLive : List HeapTerm → Alternative → Type 0
AreLive ts a = All (IsLive ts) a.pairs.items

-- terms and variables were added, and no more: older ones stand as they did, the heap's marks with their room too, and the
-- names in its terms stay known
pub record GrowsWithVariables (texts : List Text) (old new : HeapValue) : Type 0 where
  pub terms : IsPrefix old.now.terms new.now.terms
  pub images : IsPrefix old.now.images new.now.images
  pub names : KnowsTerms texts old.now.terms → KnowsTerms texts new.now.terms
  pub saved : new.saved ≡ old.saved
  pub room : old.room ≤ new.room

-- what copy_term gives: the second term is the first under new variables, numbered by first occurrence
abbrev pub copied_row : ℕ → Tree → Tree → Solutions
copied_row fresh original copy = Offers (record { new = length (variables original); equations = (copy ≐ renamed_from fresh original) ∷ [] } ∷ [])

abbrev pub copied_of : List Text → Terms → ℕ → ℕ → Solutions
copied_of texts h original copy = copied_row (length h.images) (tree texts h.terms original) (tree texts h.terms copy)
