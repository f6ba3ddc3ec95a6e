-- What predicates on texts offer, as alternatives that are made one at a time.
use Rattle.std.specs.Prelude.{◌≡◌, ℕ, ◌<◌, List, [], ◌∷◌, ◌++◌, map, length, chars, All, Option, Some, None, ⊤}
use Rattle.spec_numbers.specs.Texts.{Text}
use Rattle.spec_syntax.specs.Trees.{Tree, natural}
use Rattle.spec_builtins.specs.Alternatives.{◌≐◌, without_new}
use Rattle.spec_builtins.specs.Alternatives as definition
use Rattle.spec_builtins.specs.Texts.{split_at, part_at, name_of}
use Rattle.cq_term.specs.Texts.{text_of}
use Rattle.cq_term.specs.Meaning.{HeapTerm}
use Rattle.cq_term.specs.Trees.{tree}
use Rattle.cq_term.specs.Pairs.{IsLive}
use Rattle.cq_built.specs.Offered.{alternative_of}
use Rattle.cq_built.specs.declared.alternatives.Alternative.{Alternative}
use Rattle.cq_predicates.specs.declared.text.sought.Place.{Place}
use Rattle.cq_predicates.specs.declared.text.ways.SplitArgs.{SplitArgs}
use Rattle.cq_predicates.specs.declared.text.ways.PartArgs.{PartArgs}
use Rattle.cq_predicates.specs.declared.text.ways.SplitWays.{SplitWays}
use Rattle.cq_predicates.specs.declared.text.ways.PartWays.{PartWays}
use Rattle.cq_predicates.specs.declared.text.ways.Ways.{Ways}
use Rattle.cq_predicates.specs.declared.text.ways.Ways.TheVariants as way
use Rattle.cq_predicates.specs.declared.text.ways.TextAlternatives.{TextAlternatives}
use Rattle.cq_predicates.specs.Places.{parts_left, splits_left}

-- the terms of the pairs are on the heap
abbrev pub AreThere : List HeapTerm → Alternative → Type 0
AreThere ts a = All (IsLive ts) a.pairs.items

-- one alternative, of one pair
abbrev pub one_pair : Tree → Tree → List definition.Alternative
one_pair t u = without_new ((t ≐ u) ∷ []) ∷ []

-- the argument is how many characters the name has
abbrev pub length_way : List Text → List HeapTerm → ℕ → ℕ → List definition.Alternative
length_way texts ts len name = one_pair (tree texts ts len) (natural (length (chars (text_of texts name))))

-- the argument is the name of two names' characters together
abbrev pub joined_way : List Text → List HeapTerm → ℕ → ℕ → ℕ → List definition.Alternative
joined_way texts ts whole first last = one_pair (tree texts ts whole) (name_of (chars (text_of texts first) ++ chars (text_of texts last)))

-- ---- splits

pub record HasSplitArgs (ts : List HeapTerm) (a : SplitArgs) : Type 0 where
  pub first : a.first < length ts
  pub last : a.last < length ts

-- the alternative of the split behind so many characters
abbrev pub split_way : List Text → List HeapTerm → SplitArgs → List ℕ → ℕ → definition.Alternative
split_way texts ts a cs n = without_new (split_at (tree texts ts a.first) (tree texts ts a.last) cs n)

abbrev pub split_ways : List Text → List HeapTerm → SplitWays → List definition.Alternative
split_ways texts ts w = map (split_way texts ts w.args w.splits.characters.items) (splits_left w.splits w.next)

-- ---- parts

pub record HasPartArgs (ts : List HeapTerm) (a : PartArgs) : Type 0 where
  pub before : a.before < length ts
  pub len : a.len < length ts
  pub after : a.after < length ts
  pub part : a.part < length ts

-- the alternative of the part at a place
abbrev pub part_way : List Text → List HeapTerm → PartArgs → List ℕ → Place → definition.Alternative
part_way texts ts a cs p =
    without_new (part_at (tree texts ts a.before) (tree texts ts a.len) (tree texts ts a.after) (tree texts ts a.part) cs p.before p.len)

abbrev pub part_ways : List Text → List HeapTerm → PartWays → List definition.Alternative
part_ways texts ts w = map (part_way texts ts w.args w.parts.characters.items) (parts_left w.parts w.next)

-- ---- all of them

abbrev pub some_ways : List Text → List HeapTerm → Ways → List definition.Alternative
some_ways texts ts (way.One None) = []
some_ways texts ts (way.One (Some a)) = alternative_of texts ts 0 a ∷ []
some_ways texts ts (way.Splits w) = split_ways texts ts w
some_ways texts ts (way.Parts w) = part_ways texts ts w

-- the alternatives that are still to come
abbrev pub offered : List Text → List HeapTerm → TextAlternatives → List definition.Alternative
offered texts ts w = some_ways texts ts w.ways

-- the terms that stand in the ways are on the heap
abbrev pub HasWays : List HeapTerm → Ways → Type 0
HasWays ts (way.One None) = ⊤
HasWays ts (way.One (Some a)) = AreThere ts a
HasWays ts (way.Splits w) = HasSplitArgs ts w.args
HasWays ts (way.Parts w) = HasPartArgs ts w.args

abbrev pub CanGoOn : List HeapTerm → TextAlternatives → Type 0
CanGoOn ts w = HasWays ts w.ways

-- an alternative, if there is one, and then these; with none there are none
abbrev pub then_these : List Text → List HeapTerm → Option Alternative → List definition.Alternative → List definition.Alternative
then_these texts ts None ws = []
then_these texts ts (Some a) ws = alternative_of texts ts 0 a ∷ ws

-- the ways that were still to come are the next one and those that are still to come
abbrev pub TakesNext : {W : Type 0} → (List Text → List HeapTerm → W → List definition.Alternative) → List Text → List HeapTerm → W → List Text → List HeapTerm → W → Option Alternative → Type 0
TakesNext ways texts ts old more us new next = ways texts ts old ≡ then_these more us next (ways more us new)

-- whatever the names are, the one way is this pair
abbrev pub IsOnlyPair : List HeapTerm → ℕ → ℕ → TextAlternatives → Type 0
IsOnlyPair ts left right ways = (texts : List Text) → offered texts ts ways ≡ one_pair (tree texts ts left) (tree texts ts right)

-- the alternative, if there is one, can be tried
abbrev pub CanBeTried : List HeapTerm → Option Alternative → Type 0
CanBeTried ts None = ⊤
CanBeTried ts (Some a) = AreThere ts a
