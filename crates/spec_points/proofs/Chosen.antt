-- On each solvable list some value of a variable is chosen: the first that works of those that are tried.
use Rattle.std.proofs.Common.{◌≡◌, ◌⊎◌, inl, inr, ℕ, zero, suc, ◌≤◌, ◌<◌, List, [], ◌∷◌, ◌++◌, refl, sym, ap, subst, ◌∙◌, arith}
use Rattle.spec_numbers.specs.Rational.{ℚ, neg_ℚ, ◌≤ℚ◌, ◌<ℚ◌}
use Rattle.spec_numbers.proofs.Ring.{var, minus}
use Rattle.spec_numbers.proofs.RationalLemmas.{ring}
use Rattle.spec_numbers.proofs.Order.{neg_lt, neg_le, lt_or_le, le_trans, le_antisym}
use Rattle.spec_linear.specs.Form.{value_at, variable_form, negated_form}
use Rattle.spec_linear.specs.Solution.{Constraint, Point, number, Solves, Solvable, Unsolvable, Satisfies, equal_to}
use Rattle.spec_linear.specs.Extremes.{Exceeds, IsSupremum, IsInfimum, IsUnbounded}
use Rattle.spec_linear.proofs.Values.{value_at-negated_form, value_at-variable_form}
use Rattle.spec_linear.proofs.Points.{solves_same}
use Rattle.spec_linear.proofs.Lists.{solves_append, equal_to-holds}
use Rattle.spec_projection.proofs.DecidedLemmas.{nat_dec}
use Rattle.spec_projection.proofs.Decision.{decided}
use Rattle.spec_projection.proofs.Extent.{extent, extent_below}
use Rattle.spec_points.specs.Bounds.{Bounds, Between, OnlyAbove, OnlyBelow, Anywhere, HasBounds, between, only_above, only_below, anywhere, tried, whole}
use Rattle.spec_points.specs.Points.{with_value, IsTried, IsChosen}
use Rattle.spec_points.specs.Between.{Inside}
use Rattle.spec_points.proofs.Search.{some_works}
use Rattle.spec_points.proofs.Steps.{AreApart, between_low, between_high, between_apart, between_none, above_low, above_apart, below_high, below_apart, anywhere_apart}

twice : (q : ℚ) → neg_ℚ (neg_ℚ q) ≡ q
twice q = ring (q ∷ []) (minus (minus (var 0))) (var 0) refl

module _ (l : List Constraint) (x : ℕ) where
  negative_value : (a : ℕ → ℚ) → value_at a (negated_form (variable_form x)) ≡ neg_ℚ (a x)
  negative_value a = value_at-negated_form a (variable_form x) ∙ ap neg_ℚ (value_at-variable_form a x)

  -- ---- two solutions around a value

  -- a solution below, where the negative exceeds the negative of the value
  low_less : (p : Point) (q : ℚ) → neg_ℚ q <ℚ value_at (number p) (negated_form (variable_form x)) → number p x <ℚ q
  low_less p q h =
      let k : neg_ℚ q <ℚ neg_ℚ (number p x) = subst (λ (z : ℚ). neg_ℚ q <ℚ z) (negative_value (number p)) h in
      let m : neg_ℚ (neg_ℚ (number p x)) <ℚ neg_ℚ (neg_ℚ q) = neg_lt k in
      subst (λ (z : ℚ). z <ℚ q) (twice (number p x)) (subst (λ (z : ℚ). neg_ℚ (neg_ℚ (number p x)) <ℚ z) (twice q) m)

  around : (q : ℚ) → Exceeds l (negated_form (variable_form x)) (neg_ℚ q) → Exceeds l (variable_form x) q → Inside l x q
  around q i s = record {
    low = number i.0;
    high = number s.0;
    low_solves = (solves_same i.0 l).0 i.1;
    high_solves = (solves_same s.0 l).0 s.1;
    less = low_less i.0 q i.2;
    more = subst (λ (z : ℚ). q <ℚ z) (value_at-variable_form (number s.0) x) s.2;
  }

  above_least : (a q : ℚ) → IsInfimum l (variable_form x) a → a <ℚ q → Exceeds l (negated_form (variable_form x)) (neg_ℚ q)
  above_least a q i h = i.least (neg_ℚ q) (neg_lt h)

  -- ---- one of the tried values works

  at_end : (q : ℚ) → Solvable (equal_to x q ∷ l) → Solvable (with_value l x q)
  at_end q s = (s.0, (solves_append s.0 l (equal_to x q ∷ [])).1 (s.1.1, (s.1.0, tt)))

  abbrev SomeWorks : (ℕ → ℚ) → Type 0
  SomeWorks value = (k : ℕ) × Solvable (with_value l x (value k))

  by_search : (value : ℕ → ℚ) → ((k : ℕ) → Inside l x (value k)) → ((j k : ℕ) → j < k → AreApart (value j) (value k)) → SomeWorks value
  by_search value inside apart = let r = some_works l x value inside apart in (r.0, at_end (value r.0) r.1)

  -- two bounds that are one number: each solution has it
  fixed_works : (a b : ℚ) → IsInfimum l (variable_form x) a → IsSupremum l (variable_form x) b → b ≤ℚ a → SomeWorks (tried (Between a b))
  fixed_works a b i s h =
      let p : Point = i.solvable.0 in
      let solves : Solves p l = i.solvable.1 in
      let low : neg_ℚ (number p x) ≤ℚ neg_ℚ a = subst (λ (z : ℚ). z ≤ℚ neg_ℚ a) (negative_value (number p)) (i.bound p solves) in
      let above : a ≤ℚ number p x =
      subst (λ (z : ℚ). z ≤ℚ number p x) (twice a) (subst (λ (z : ℚ). neg_ℚ (neg_ℚ a) ≤ℚ z) (twice (number p x)) (neg_le low)) in
      let below : number p x ≤ℚ b = subst (λ (z : ℚ). z ≤ℚ b) (value_at-variable_form (number p) x) (s.bound p solves) in
      let same : a ≡ b = le_antisym (le_trans above below) h in
      let value : number p x ≡ tried (Between a b) 0 = sym (le_antisym above (le_trans below h)) ∙ sym (between_none a b same 0) in
      (0, (p, (solves_append p l (equal_to x (tried (Between a b) 0) ∷ [])).1 (solves, ((equal_to-holds p x (tried (Between a b) 0)).1 value, tt))))

  between_works : (a b : ℚ) → IsInfimum l (variable_form x) a → IsSupremum l (variable_form x) b → SomeWorks (tried (Between a b))
  between_works a b i s = elim (lt_or_le a b) [
    | inl h ↦ by_search (tried (Between a b)) (λ k. around (tried (Between a b) k) (above_least a (tried (Between a b) k) i (between_low a b h k)) (s.least (tried (Between a b) k) (between_high a b h k))) (between_apart a b h)
    | inr h ↦ fixed_works a b i s h
  ]

  works_within : (b : Bounds) → HasBounds l x b → SomeWorks (tried b)
  works_within b (between {a = p} {b = q} i s) = between_works p q i s
  works_within b (only_above {a = p} i u) =
      by_search (tried (OnlyAbove p)) (λ k. around (tried (OnlyAbove p) k) (above_least p (tried (OnlyAbove p) k) i (above_low p k)) (u.more (tried (OnlyAbove p) k))) (above_apart p)
  works_within b (only_below {b = q} u s) =
      by_search (tried (OnlyBelow q)) (λ k. around (tried (OnlyBelow q) k) (u.more (neg_ℚ (tried (OnlyBelow q) k))) (s.least (tried (OnlyBelow q) k) (below_high q k))) (below_apart q)
  works_within b (anywhere u w) =
      by_search (tried Anywhere) (λ k. around (tried Anywhere k) (u.more (neg_ℚ (tried Anywhere k))) (w.more (tried Anywhere k))) anywhere_apart

  -- ---- bounds

  record Bounded : Type 0 where
    bounds : Bounds
    has : HasBounds l x bounds

  bounded : Solvable l → Bounded
  bounded solvable = by (extent_below l (variable_form x) solvable) (extent l (variable_form x) solvable)
    where
      by : ((q : ℚ) × IsInfimum l (variable_form x) q) ⊎ IsUnbounded l (negated_form (variable_form x))
          → ((q : ℚ) × IsSupremum l (variable_form x) q) ⊎ IsUnbounded l (variable_form x) → Bounded
      by (inl i) (inl s) = record { bounds = Between i.0 s.0; has = between i.1 s.1 }
      by (inl i) (inr w) = record { bounds = OnlyAbove i.0; has = only_above i.1 w }
      by (inr u) (inl s) = record { bounds = OnlyBelow s.0; has = only_below u s.1 }
      by (inr u) (inr w) = record { bounds = Anywhere; has = anywhere u w }

  -- ---- the first place

  record First (b : Bounds) : Type 0 where
    place : ℕ
    works : Solvable (with_value l x (tried b place))
    earlier : (i : ℕ) → i < place → Unsolvable (with_value l x (tried b i))

  first_below : (b : Bounds) (n : ℕ) → First b ⊎ ((i : ℕ) → i < n → Unsolvable (with_value l x (tried b i)))
  first_below b zero = inr (λ i h. absurd (omega (arith, h)))
  first_below b (suc n) = by (first_below b n) (decided (with_value l x (tried b n)))
    where
      by : First b ⊎ ((i : ℕ) → i < n → Unsolvable (with_value l x (tried b i))) → Solvable (with_value l x (tried b n)) ⊎ Unsolvable (with_value l x (tried b n))
          → First b ⊎ ((i : ℕ) → i < suc n → Unsolvable (with_value l x (tried b i)))
      by (inl f) d = inl f
      by (inr none) (inl s) = inl (record { place = n; works = s; earlier = none })
      by (inr none) (inr u) = inr (λ i h. elim (nat_dec i n) [
        | inl e ↦ subst (λ (k : ℕ). Unsolvable (with_value l x (tried b k))) (sym e) u
        | inr d ↦ none i (omega (arith, h, d))
      ])

  first : (b : Bounds) → SomeWorks (tried b) → First b
  first b s = elim (first_below b s.0) [
    | inl f ↦ f
    | inr none ↦ record { place = s.0; works = s.1; earlier = none }
  ]

  pub some_chosen : Solvable l → (q : ℚ) × IsChosen l x q
  some_chosen solvable =
      let b = bounded solvable in
      let f = first b.bounds (works_within b.bounds b.has) in (
        tried b.bounds f.place,
        record { bounds = b.bounds; place = f.place; tries = record { has_bounds = b.has; earlier = f.earlier }; value = refl; works = f.works },
      )
