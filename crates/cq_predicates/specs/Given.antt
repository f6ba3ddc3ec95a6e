-- What a call gives, as alternatives that are made one at a time.
use Rattle.std.specs.Prelude.{◌≡◌, ◌≤◌, ℕ, List, [], ◌∷◌, ◌++◌, true, false, map, length, Option, Some, None, ⊤}
use Rattle.spec_numbers.specs.Texts.{Text}
use Rattle.spec_numbers.specs.Prefixes.{IsPrefix}
use Rattle.spec_terms.specs.Unifier.{Equation}
use Rattle.spec_builtins.specs.Alternatives.{Offers}
use Rattle.spec_builtins.specs.Alternatives as definition
use Rattle.cq_term.specs.HeapValue.{HeapValue, Terms}
use Rattle.cq_term.specs.Meaning.{HeapTerm}
use Rattle.cq_term.specs.Trees.{KnowsTerms}
use Rattle.cq_unify.specs.Copied.{unbound_from}
use Rattle.cq_built.specs.Offered.{equation_of}
use Rattle.cq_built.specs.declared.alternatives.Alternative.{Alternative}
use Rattle.cq_builtin.specs.Offered.{IsLiveOrNone}
use Rattle.cq_builtin.specs.Over.{equations_of, AreLive}
use Rattle.cq_predicates.specs.Ways.{offered}
use Rattle.cq_predicates.specs.Ways as text
use Rattle.cq_predicates.specs.declared.solutions.Ways.{Ways}
use Rattle.cq_predicates.specs.declared.solutions.Ways.TheVariants as way
use Rattle.cq_predicates.specs.declared.solutions.Solutions.{Solutions}

-- ---- alternatives that are still to come

-- the equations of one alternative at most
abbrev pub at_most_one : List Text → List HeapTerm → Option Alternative → List (List (Equation Text))
at_most_one texts ts None = []
at_most_one texts ts (Some a) = equations_of texts ts a ∷ []

abbrev pub some_ways : List Text → List HeapTerm → Ways → List (List (Equation Text))
some_ways texts ts (way.Test false) = []
some_ways texts ts (way.Test true) = [] ∷ []
some_ways texts ts (way.Pair None) = []
some_ways texts ts (way.Pair (Some p)) = (equation_of texts ts p ∷ []) ∷ []
some_ways texts ts (way.Pairs o) = at_most_one texts ts o
some_ways texts ts (way.Texts w) = map (λ a. a.equations) (offered texts ts w)

-- the equations of each, in order, as the terms of a heap read: first of the one that was given back
abbrev pub ways_left : List Text → List HeapTerm → Solutions → List (List (Equation Text))
ways_left texts ts s = at_most_one texts ts s.given_back ++ some_ways texts ts s.ways

abbrev pub has_ways : List HeapTerm → Ways → Type 0
has_ways ts (way.Test b) = ⊤
has_ways ts (way.Pair o) = IsLiveOrNone ts o
has_ways ts (way.Pairs None) = ⊤
has_ways ts (way.Pairs (Some a)) = AreLive ts a
has_ways ts (way.Texts w) = text.CanGoOn ts w

-- the terms that stand in them are on the heap
abbrev pub CanGoOn : List HeapTerm → Solutions → Type 0
CanGoOn ts s = text.CanBeTried ts s.given_back × has_ways ts s.ways

-- none was given back
abbrev pub HasNoneBack : Solutions → Type 0
HasNoneBack s = s.given_back ≡ None

-- ---- what a call gives

-- so many new variables, and equations
abbrev pub over : ℕ → List (Equation Text) → definition.Alternative
over count es = record { new = count; equations = es }

-- those that are still to come, over so many new variables
abbrev pub offers : ℕ → List Text → List HeapTerm → Solutions → definition.Solutions
offers count texts ts s = Offers (map (over count) (ways_left texts ts s))

-- The alternatives that a predicate offers are still to come, all of them over the variables that were put behind the
-- older ones of the heap.
pub record Gives (texts : List Text) (old new : Terms) (s : definition.Solutions) (given : Solutions) : Type 0 where
  pub count : ℕ
  pub offered : s ≡ offers count texts new.terms given
  pub images : new.images ≡ old.images ++ unbound_from (length old.images) count

-- ---- what comes next

-- an alternative, if there is one, and then these; with none there are none
abbrev pub then_these : List Text → List HeapTerm → Option Alternative → List (List (Equation Text)) → List (List (Equation Text))
then_these texts ts None ws = []
then_these texts ts (Some a) ws = equations_of texts ts a ∷ ws

-- the alternatives that were still to come are the next one and those that are still to come
abbrev pub TakesWay : List Text → List HeapTerm → Ways → List Text → List HeapTerm → Ways → Option Alternative → Type 0
TakesWay texts ts old more us new next = some_ways texts ts old ≡ then_these more us next (some_ways more us new)

abbrev pub TakesNext : List Text → List HeapTerm → Solutions → List Text → List HeapTerm → Solutions → Option Alternative → Type 0
TakesNext texts ts old more us new next = ways_left texts ts old ≡ then_these more us next (ways_left more us new)

-- ---- what is added

-- names, terms and variables were added, and no more: older ones stand as they did, the heap's marks with their room too,
-- and the names in its terms stay known
pub record Adds (texts : List Text) (old : HeapValue) (more : List Text) (new : HeapValue) : Type 0 where
  pub longer : IsPrefix texts more
  pub terms : IsPrefix old.now.terms new.now.terms
  pub images : IsPrefix old.now.images new.now.images
  pub names : KnowsTerms texts old.now.terms → KnowsTerms more new.now.terms
  pub saved : new.saved ≡ old.saved
  pub room : old.room ≤ new.room
