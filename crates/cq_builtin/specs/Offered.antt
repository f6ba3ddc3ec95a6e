-- One pair of terms of a heap, or none, as what a predicate offers.
use Rattle.std.specs.Prelude.{List, [], ◌∷◌, Option, Some, None, ⊤}
use Rattle.spec_numbers.specs.Texts.{Text}
use Rattle.spec_builtins.specs.Alternatives.{Solutions, Offers, one_way}
use Rattle.cq_term.specs.Meaning.{HeapTerm}
use Rattle.cq_term.specs.Pairs.{IsLive}
use Rattle.cq_term.specs.declared.walk.pairs.Pair.{Pair}
use Rattle.cq_built.specs.Offered.{equation_of}

-- one pair, or none
abbrev pub offered_pair : List Text → List HeapTerm → Option Pair → Solutions
offered_pair texts ts None = Offers []
offered_pair texts ts (Some p) = one_way (equation_of texts ts p ∷ [])

abbrev pub IsLiveOrNone : List HeapTerm → Option Pair → Type 0
IsLiveOrNone ts None = ⊤
IsLiveOrNone ts (Some p) = IsLive ts p
