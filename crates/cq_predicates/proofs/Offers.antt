-- What is offered of the parts and the splits of a text is what the definitions list.
use Rattle.std.proofs.Common.{◌≡◌, ℕ, zero, suc, ◌+◌, ◌-◌, ◌<◌, ◌≤◌, ◌^◌, arith, List, [], ◌∷◌, ◌++◌, map, length, take, drop, All, filter, flat_map, Bool, true, false, ◌&&◌, cond, refl, sym, ap, ◌∙◌}
use Rattle.std.specs.List.{list_all}
use Rattle.std.proofs.lemmas.List.{map-append}
use Rattle.std.proofs.lemmas.List.Elements.{All-head, All-tail}
use mathlib.Core.List.{map-map}
use Rattle.spec_numbers.specs.Texts.{Text}
use Rattle.spec_terms.specs.Unifier.{Equation}
use Rattle.spec_terms.specs.Variables.{counted_from}
use Rattle.spec_syntax.specs.Trees.{Tree}
use Rattle.spec_builtins.specs.Alternatives.{◌≐◌, without_new}
use Rattle.spec_builtins.specs.Texts.{name_of, may_match, part_at, parts_at}
use Rattle.spec_builtins.proofs.Ranges.{all_counted, all_joined}
use Rattle.cq_predicates.specs.declared.text.sought.Place.{Place}
use Rattle.cq_predicates.specs.declared.text.sought.Sought.{Sought}
use Rattle.cq_predicates.specs.Places.{place, fits, places_from, all_places}
use Rattle.cq_predicates.specs.Arguments.{IsAsked, IsAskedText}
use Rattle.cq_predicates.proofs.TextRows.{all_from_start}

pub and_true : (b : Bool) → (b && true) ≡ b
and_true true = refl
and_true false = refl

-- a test of what is made of things keeps what is made of those that pass another
pub kept_of : {A B : Type 0} (p : B → Bool) (q : A → Bool) (f : A → B) (xs : List A) → All (λ x. p (f x) ≡ q x) xs → filter p (map f xs) ≡ map f (filter q xs)
kept_of p q f [] all = refl
kept_of p q f (x ∷ xs) all = step (p (f x)) (q x) (All-head (λ y. p (f y) ≡ q y) x xs all) (kept_of p q f xs (All-tail (λ y. p (f y) ≡ q y) x xs all))
  where
    step : (a b : Bool) → a ≡ b → filter p (map f xs) ≡ map f (filter q xs) → cond a (f x ∷ filter p (map f xs)) (filter p (map f xs)) ≡ map f (cond b (x ∷ filter q xs) (filter q xs))
    step true true e h = ap (λ ys. f x ∷ ys) h
    step false false e h = h
    step true false e h = cc
    step false true e h = cc

module _ (b l r s : Tree) (cs : List ℕ) where
  abbrev pub made : Place → List (Equation Text)
  made p = part_at b l r s cs p.before p.len

  rows_made : (m k : ℕ) → map made (flat_map (λ before. map (place before) (counted_from 0 (length cs - before + 1))) (counted_from m k))
      ≡ flat_map (λ before. map (part_at b l r s cs before) (counted_from 0 (length cs - before + 1))) (counted_from m k)
  rows_made m zero = refl
  rows_made m (suc k) =
      map-append made (map (place m) (counted_from 0 (length cs - m + 1))) (flat_map (λ before. map (place before) (counted_from 0 (length cs - before + 1))) (counted_from (suc m) k))
      ∙ (λ i. map-map made (place m) (counted_from 0 (length cs - m + 1)) i ++ rows_made (suc m) k i)

  pub parts_made : parts_at b l r s cs ≡ map made (all_places cs)
  parts_made = sym (rows_made 0 (length cs + 1))

  pub all_within : All (λ p. p.before + p.len ≤ length cs) (all_places cs)
  all_within =
      all_joined (λ (p : Place). p.before + p.len ≤ length cs) (λ before. map (place before) (counted_from 0 (length cs - before + 1))) 0 (length cs + 1) (λ before low high.
      all_counted (λ (p : Place). p.before + p.len ≤ length cs) (place before) 0 (length cs - before + 1) (λ len zero most. omega arith))

  module _ (w : Sought) (few : length cs < 2 ^ 64) (asked_b : IsAsked b w.before) (asked_l : IsAsked l w.len) (asked_r : IsAsked r w.after) (asked_s : IsAskedText s w.part) where
    tested : (p : Place) → p.before + p.len ≤ length cs → list_all may_match (made p) ≡ fits w cs p
    tested p h =
        let part = take p.len (drop p.before cs) in
        let before = asked_b.same p.before (omega (arith, h, few)) in
        let len = asked_l.same p.len (omega (arith, h, few)) in
        let after = asked_r.same (length cs - p.before - p.len) (omega (arith, few)) in
        λ i. before i && (len i && (after i && (and_true (may_match (s ≐ name_of part)) ∙ asked_s.same part) i))

    pub offered_parts : map without_new (filter (λ es. list_all may_match es) (parts_at b l r s cs)) ≡ map (λ p. without_new (made p)) (filter (fits w cs) (places_from cs 0 0))
    offered_parts =
        ap (λ ess. map without_new (filter (λ es. list_all may_match es) ess)) parts_made
        ∙ ap (map without_new) (kept_of (λ es. list_all may_match es) (fits w cs) made (all_places cs) (λ i d lt. tested _ (all_within i d lt)))
        ∙ map-map without_new made (filter (fits w cs) (all_places cs))
        ∙ ap (λ ps. map (λ p. without_new (made p)) (filter (fits w cs) ps)) (sym (all_from_start cs))
