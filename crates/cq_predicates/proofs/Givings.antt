-- What is given without new variables.
use Rattle.std.proofs.Common.{◌≡◌, ℕ, zero, suc, ◌<◌, List, [], ◌∷◌, map, length, get_or, Option, Some, None, refl, sym, ap, ◌∙◌, append-nil, arith}
use Rattle.spec_numbers.specs.Texts.{Text}
use Rattle.spec_terms.specs.Unifier.{Equation}
use Rattle.spec_builtins.specs.Alternatives as definition
use Rattle.spec_builtins.specs.Alternatives.{without_new}
use Rattle.spec_syntax.specs.Trees.{Tree}
use Rattle.spec_search.specs.Rows.{nth}
use Rattle.cq_term.specs.HeapValue.{Terms}
use Rattle.cq_term.specs.Meaning.{HeapTerm}
use Rattle.cq_builtin.specs.Offered.{offered_pair}
use Rattle.cq_term.specs.declared.walk.pairs.Pair.{Pair}
use Rattle.cq_predicates.specs.Ways.{offered, split_way, part_way}
use Rattle.cq_predicates.specs.Ways as text
use Rattle.cq_predicates.specs.Places.{splits_left, parts_left}
use Rattle.cq_predicates.specs.declared.text.ways.Ways.{Ways}
use Rattle.cq_predicates.specs.declared.text.ways.Ways.TheVariants as text_way
use Rattle.cq_predicates.specs.declared.text.ways.TextAlternatives.{TextAlternatives}
use Rattle.cq_predicates.specs.Given.{Gives, offers, over}
use Rattle.cq_predicates.specs.declared.solutions.Ways.TheVariants as way
use Rattle.cq_predicates.specs.declared.solutions.Solutions.{Solutions}

-- ---- what is given

pub gives_none_new : (texts : List Text) (old new : Terms) (s : definition.Solutions) (given : Solutions) → s ≡ offers 0 texts new.terms given
    → new.images ≡ old.images → Gives texts old new s given
gives_none_new texts old new s given e images = record { count = 0; offered = e; images = images ∙ sym (append-nil old.images) }

abbrev equations_in : List definition.Alternative → List (List (Equation Text))
equations_in ways = map (λ (a : definition.Alternative). a.equations) ways

alone : {A : Type 0} (g : A → List (Equation Text)) (xs : List A)
    → map (λ x. without_new (g x)) xs ≡ map (over 0) (equations_in (map (λ x. without_new (g x)) xs))
alone g [] = refl
alone g (x ∷ xs) = ap (λ ways. without_new (g x) ∷ ways) (alone g xs)

-- ways of predicates on texts have no new variables
pub offered_alone : (texts : List Text) (ts : List HeapTerm) (w : TextAlternatives)
    → offered texts ts w ≡ map (over 0) (equations_in (offered texts ts w))
offered_alone texts ts w = by w.ways
  where
    by : (v : Ways) → text.some_ways texts ts v ≡ map (over 0) (equations_in (text.some_ways texts ts v))
    by (text_way.One None) = refl
    by (text_way.One (Some a)) = refl
    by (text_way.Splits v) = alone (λ n. (split_way texts ts v.args v.splits.characters.items n).equations) (splits_left v.splits v.next)
    by (text_way.Parts v) = alone (λ p. (part_way texts ts v.args v.parts.characters.items p).equations) (parts_left v.parts v.next)

-- ---- arguments

-- the tree of an argument
pub nth_is : (f : ℕ → Tree) (xs : List ℕ) (k r : ℕ) → k < length xs → r ≡ get_or xs k r → nth (map f xs) k ≡ f r
nth_is f [] k r h e = absurd (omega (arith, h))
nth_is f (x ∷ xs) zero r h e = ap f (sym e)
nth_is f (x ∷ xs) (suc k) r h e = nth_is f xs k r (omega (arith, h)) e

-- a pair or none as what is offered
pub paired : (texts : List Text) (ts : List HeapTerm) (o : Option Pair) → offered_pair texts ts o ≡ offers 0 texts ts (record { given_back = None; ways = way.Pair o })
paired texts ts None = refl
paired texts ts (Some p) = refl
