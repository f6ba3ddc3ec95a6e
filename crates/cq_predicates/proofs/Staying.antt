-- Alternatives that are still to come stay the same while names, terms and variables are added.
use Rattle.std.proofs.Common.{◌≡◌, ℕ, ◌<◌, List, [], ◌∷◌, ◌++◌, map, length, All, true, false, Option, Some, None, refl, ap, ap₂}
use Rattle.std.proofs.lemmas.List.Elements.{All-head, All-tail, All-weaker}
use Rattle.spec_numbers.specs.Texts.{Text}
use Rattle.spec_numbers.proofs.Prefixes.{prefix_within}
use Rattle.spec_builtins.specs.Alternatives as definition
use Rattle.spec_builtins.specs.Alternatives.{◌≐◌}
use Rattle.cq_term.specs.HeapValue.{HeapValue}
use Rattle.cq_term.specs.Trees.{KnowsTerms}
use Rattle.cq_term.specs.Pairs.{IsLive}
use Rattle.cq_term.specs.declared.walk.pairs.Pair.{Pair}
use Rattle.cq_built.specs.Growing.{Grows}
use Rattle.cq_built.specs.Offered.{equation_of}
use Rattle.cq_built.specs.declared.alternatives.Alternative.{Alternative}
use Rattle.cq_built.proofs.Trees.{tree_kept}
use Rattle.cq_predicates.specs.Ways.{offered}
use Rattle.cq_predicates.specs.Ways as text
use Rattle.cq_predicates.specs.Places.{splits_left, parts_left}
use Rattle.cq_predicates.specs.declared.text.ways.Ways.{Ways}
use Rattle.cq_predicates.specs.declared.text.ways.Ways.TheVariants as text_way
use Rattle.cq_predicates.specs.declared.text.ways.TextAlternatives.{TextAlternatives}
use Rattle.cq_predicates.proofs.Kept.{split_kept, part_kept, map_kept}
use Rattle.cq_predicates.specs.Given.{Adds, CanGoOn, at_most_one, has_ways, some_ways, ways_left}
use Rattle.cq_predicates.specs.declared.solutions.Ways.TheVariants as way
use Rattle.cq_predicates.specs.declared.solutions.Ways as ways
use Rattle.cq_predicates.specs.declared.solutions.Solutions.{Solutions}

module _ (texts more : List Text) (old new : HeapValue) (adds : Adds texts old more new) (known : KnowsTerms texts old.now.terms) where
  -- without the variables, only names and terms grow
  grown : Grows texts (record old { now = record old.now { images = [] } }) more (record new { now = record new.now { images = [] } })
  grown = record {
    longer = adds.longer;
    terms = adds.terms;
    images = refl;
    names = adds.names;
    saved = adds.saved;
    room = adds.room;
  }

  -- ---- pairs

  pair_kept : (p : Pair) → IsLive old.now.terms p → equation_of more new.now.terms p ≡ equation_of texts old.now.terms p
  pair_kept p live =
      let left = tree_kept texts more old.now.terms new.now.terms adds.longer adds.terms known p.left live.0 in
      let right = tree_kept texts more old.now.terms new.now.terms adds.longer adds.terms known p.right live.1 in
      λ i. left i ≐ right i

  pairs_kept : (ps : List Pair) → All (IsLive old.now.terms) ps → map (equation_of more new.now.terms) ps ≡ map (equation_of texts old.now.terms) ps
  pairs_kept [] all = refl
  pairs_kept (p ∷ ps) all =
      λ i. pair_kept p (All-head (IsLive old.now.terms) p ps all) i ∷ pairs_kept ps (All-tail (IsLive old.now.terms) p ps all) i

  pair_live : (p : Pair) → IsLive old.now.terms p → IsLive new.now.terms p
  pair_live p live =
      (prefix_within old.now.terms new.now.terms p.left adds.terms live.0, prefix_within old.now.terms new.now.terms p.right adds.terms live.1)

  pairs_live : (ps : List Pair) → All (IsLive old.now.terms) ps → All (IsLive new.now.terms) ps
  pairs_live ps all = All-weaker (IsLive old.now.terms) (IsLive new.now.terms) pair_live ps all

  -- ---- ways of predicates on texts

  offered_kept : (w : TextAlternatives) → text.CanGoOn old.now.terms w → offered more new.now.terms w ≡ offered texts old.now.terms w
  offered_kept w live = by w.ways live
    where
      by : (v : Ways) → text.HasWays old.now.terms v → text.some_ways more new.now.terms v ≡ text.some_ways texts old.now.terms v
      by (text_way.One None) h = refl
      by (text_way.One (Some a)) h = ap (λ es. record { new = 0; equations = es } ∷ []) (pairs_kept a.pairs.items h)
      by (text_way.Splits v) h =
          map_kept (text.split_way texts old.now.terms v.args v.splits.characters.items) (text.split_way more new.now.terms v.args v.splits.characters.items)
          (split_kept texts more _ _ grown known v.args h v.splits.characters.items) (splits_left v.splits v.next)
      by (text_way.Parts v) h =
          map_kept (text.part_way texts old.now.terms v.args v.parts.characters.items) (text.part_way more new.now.terms v.args v.parts.characters.items)
          (part_kept texts more _ _ grown known v.args h v.parts.characters.items) (parts_left v.parts v.next)

  texts_live : (w : TextAlternatives) → text.CanGoOn old.now.terms w → text.CanGoOn new.now.terms w
  texts_live w live = by w.ways live
    where
      within : (id : ℕ) → id < length old.now.terms → id < length new.now.terms
      within id h = prefix_within old.now.terms new.now.terms id adds.terms h

      by : (v : Ways) → text.HasWays old.now.terms v → text.HasWays new.now.terms v
      by (text_way.One None) h = tt
      by (text_way.One (Some a)) h = pairs_live a.pairs.items h
      by (text_way.Splits v) h = record { first = within v.args.first h.first; last = within v.args.last h.last }
      by (text_way.Parts v) h = record {
        before = within v.args.before h.before;
        len = within v.args.len h.len;
        after = within v.args.after h.after;
        part = within v.args.part h.part;
      }

  -- ---- all ways

  some_kept : (w : ways.Ways) → has_ways old.now.terms w → some_ways more new.now.terms w ≡ some_ways texts old.now.terms w
  some_kept (way.Test true) h = refl
  some_kept (way.Test false) h = refl
  some_kept (way.Pair None) h = refl
  some_kept (way.Pair (Some p)) h = ap (λ e. (e ∷ []) ∷ []) (pair_kept p h)
  some_kept (way.Pairs None) h = refl
  some_kept (way.Pairs (Some a)) h = ap (λ es. es ∷ []) (pairs_kept a.pairs.items h)
  some_kept (way.Texts w) h = ap (map (λ (a : definition.Alternative). a.equations)) (offered_kept w h)

  some_live : (w : ways.Ways) → has_ways old.now.terms w → has_ways new.now.terms w
  some_live (way.Test b) h = tt
  some_live (way.Pair None) h = tt
  some_live (way.Pair (Some p)) h = pair_live p h
  some_live (way.Pairs None) h = tt
  some_live (way.Pairs (Some a)) h = pairs_live a.pairs.items h
  some_live (way.Texts w) h = texts_live w h

  -- the one that was given back
  back_kept : (o : Option Alternative) → text.CanBeTried old.now.terms o → at_most_one more new.now.terms o ≡ at_most_one texts old.now.terms o
  back_kept None h = refl
  back_kept (Some a) h = ap (λ es. es ∷ []) (pairs_kept a.pairs.items h)

  back_live : (o : Option Alternative) → text.CanBeTried old.now.terms o → text.CanBeTried new.now.terms o
  back_live None h = tt
  back_live (Some a) h = pairs_live a.pairs.items h

  pub ways_kept : (s : Solutions) → CanGoOn old.now.terms s → ways_left more new.now.terms s ≡ ways_left texts old.now.terms s
  ways_kept s live = ap₂ (λ xs ys. xs ++ ys) (back_kept s.given_back live.0) (some_kept s.ways live.1)

  pub ways_live : (s : Solutions) → CanGoOn old.now.terms s → CanGoOn new.now.terms s
  ways_live s live = (back_live s.given_back live.0, some_live s.ways live.1)
