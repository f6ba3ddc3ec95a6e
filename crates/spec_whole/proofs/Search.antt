-- A search by bounds loses no whole solution that is better than its best leaf.
use Rattle.std.proofs.Common.{◌≡◌, ◌⊎◌, inl, inr, ℕ, List, [], ◌∷◌, ◌++◌, map, Option, Some, None, refl, sym, subst}
use Rattle.std.specs.Prelude.{⊤}
use Rattle.std.specs.List.{AllByRecursion}
use Rattle.spec_numbers.specs.Rational.{ℚ, neg_ℚ, ◌<ℚ◌, ◌≤ℚ◌}
use Rattle.spec_numbers.proofs.Order.{lt_to_le, le_trans, neg_le, neg_lt}
use Rattle.spec_numbers.proofs.RationalLemmas.{ring}
use Rattle.spec_numbers.proofs.Ring.{var, minus}
use Rattle.spec_linear.specs.Form.{Linear, value_at, negated_form}
use Rattle.spec_linear.specs.Solution.{Constraint, Point, number, Solves, Has}
use Rattle.spec_linear.proofs.Values.{value_at-negated_form}
use Rattle.spec_linear.proofs.Lists.{solves_append}
use Rattle.spec_linear.specs.Extremes.{IsInfimum}
use Rattle.spec_whole.specs.Whole.{IsWhole, IsWholeOn, IsWholeInfimum, HasNoWhole, Splits, Standing, IsBelow, IsOpened, AreWhole, Looks, empty, no_better, leaf, broken, splits, Searches, here, on, begun, HasSearched}
use Rattle.spec_whole.proofs.Cover.{SomeHolds, covers}

-- ---- the infimum, in its own words

double : (q : ℚ) → neg_ℚ (neg_ℚ q) ≡ q
double q = ring (q ∷ []) (minus (minus (var 0))) (var 0) refl

not_below : (l : List Constraint) (f : Linear) (q : ℚ) → IsInfimum l f q → (p : Point) → Solves p l → q ≤ℚ value_at (number p) f
not_below l f q h p s =
    subst (λ t. t ≤ℚ value_at (number p) f) (double q)
    (subst (λ t. neg_ℚ (neg_ℚ q) ≤ℚ t) (double (value_at (number p) f))
    (neg_le (subst (λ t. t ≤ℚ neg_ℚ q) (value_at-negated_form (number p) f) (h.bound p s))))

record Under (l : List Constraint) (f : Linear) (r : ℚ) : Type 0 where
  point : Point
  solves : Solves point l
  less : value_at (number point) f <ℚ r

some_under : (l : List Constraint) (f : Linear) (q r : ℚ) → IsInfimum l f q → q <ℚ r → Under l f r
some_under l f q r h b = go (h.least (neg_ℚ r) (neg_lt b))
  where
    go : (p : Point) × Solves p l × (neg_ℚ r <ℚ value_at (number p) (negated_form f)) → Under l f r
    go e = record {
      point = e.0;
      solves = e.1;
      less =
          subst (λ t. value_at (number e.0) f <ℚ t) (double r)
          (subst (λ t. t <ℚ neg_ℚ (neg_ℚ r)) (double (value_at (number e.0) f))
          (neg_lt (subst (λ t. neg_ℚ r <ℚ t) (value_at-negated_form (number e.0) f) e.2)));
    }

-- ---- what a search keeps

module _ (l : List Constraint) (xs : List ℕ) (f : Linear) where
  abbrev Reaches : ℚ → Type 0
  Reaches b = (r : ℚ) → b <ℚ r → (p : Point) × Solves p l × IsWholeOn xs p × (value_at (number p) f <ℚ r)

  abbrev IsReached : Option ℚ → Type 0
  IsReached None = ⊤
  IsReached (Some b) = Reaches b

  -- the best leaf is as good
  abbrev IsCovered : Option ℚ → Point → Type 0
  IsCovered None p = ⊥
  IsCovered (Some b) p = b ≤ℚ value_at (number p) f

  -- the point solves one of the nodes
  abbrev SomeSolves : Point → List (List Constraint) → Type 0
  SomeSolves p [] = ⊥
  SomeSolves p (m ∷ ms) = Solves p m ⊎ SomeSolves p ms

  abbrev IsBelowAll : List Constraint → Type 0
  IsBelowAll m = (p : Point) → Solves p m → Solves p l

  record Keeps (best : Option ℚ) (nodes : List (List Constraint)) : Type 0 where
    each : (p : Point) → Solves p l → IsWholeOn xs p → IsCovered best p ⊎ SomeSolves p nodes
    reached : IsReached best
    within : AllByRecursion IsBelowAll nodes

  -- ---- steps

  in_children : (p : Point) (m : List Constraint) (cs : List Constraint) (ms : List (List Constraint)) → Solves p m → SomeHolds p cs
      → SomeSolves p (map (λ c. m ++ c ∷ []) cs ++ ms)
  in_children p m [] ms s h = absurd h
  in_children p m (c ∷ cs) ms s (inl h) = inl ((solves_append p m (c ∷ [])).1 (s, (h, tt)))
  in_children p m (c ∷ cs) ms s (inr h) = inr (in_children p m cs ms s h)

  in_others : (p : Point) (ns ms : List (List Constraint)) → SomeSolves p ms → SomeSolves p (ns ++ ms)
  in_others p [] ms h = h
  in_others p (n ∷ ns) ms h = inr (in_others p ns ms h)

  children_within : (m : List Constraint) (cs : List Constraint) (ms : List (List Constraint)) → IsBelowAll m → AllByRecursion IsBelowAll ms
      → AllByRecursion IsBelowAll (map (λ c. m ++ c ∷ []) cs ++ ms)
  children_within m [] ms h k = k
  children_within m (c ∷ cs) ms h k = ((λ p s. h p ((solves_append p m (c ∷ [])).0 s).0), children_within m cs ms h k)

  whole_at : (p : Point) (ys : List ℕ) (x : ℕ) → Has x ys → IsWholeOn ys p → IsWhole (number p x)
  whole_at p [] x h w = absurd h
  whole_at p (y ∷ ys) x (inl e) w = subst (λ z. IsWhole (number p z)) (sym e) w.0
  whole_at p (y ∷ ys) x (inr h) w = whole_at p ys x h w.1

  all_whole : (m : List Constraint) (ys : List ℕ) → AreWhole m ys → (p : Point) → Solves p m → IsWholeOn ys p
  all_whole m [] h p s = tt
  all_whole m (y ∷ ys) h p s = (subst IsWhole (sym (h.0.1.always p s)) h.0.2, all_whole m ys h.1 p s)

  has_middle : (ys : List ℕ) (x : ℕ) (zs : List ℕ) → Has x (ys ++ x ∷ zs)
  has_middle [] x zs = inl refl
  has_middle (y ∷ ys) x zs = inr (has_middle ys x zs)

  better : (best : Option ℚ) (q : ℚ) (p : Point) → IsBelow best q → IsCovered best p → q ≤ℚ value_at (number p) f
  better None q p b h = absurd h
  better (Some c) q p b h = le_trans (lt_to_le b) h

  without : (best : Option ℚ) (m : List Constraint) (ms : List (List Constraint)) → Keeps best (m ∷ ms)
      → ((p : Point) → Solves p l → IsWholeOn xs p → Solves p m → IsCovered best p) → Keeps best ms
  without best m ms k h = record {
    each = λ p s w. go p s w (k.each p s w);
    reached = k.reached;
    within = k.within.1;
  }
    where
      go : (p : Point) → Solves p l → IsWholeOn xs p → IsCovered best p ⊎ SomeSolves p (m ∷ ms) → IsCovered best p ⊎ SomeSolves p ms
      go p s w (inl c) = inl c
      go p s w (inr (inl d)) = inl (h p s w d)
      go p s w (inr (inr d)) = inr d

  with_leaf : (best : Option ℚ) (m : List Constraint) (ms : List (List Constraint)) (q : ℚ) → Keeps best (m ∷ ms) → IsOpened m f best q → AreWhole m xs
      → Keeps (Some q) ms
  with_leaf best m ms q k o a = record {
    each = λ p s w. go p (k.each p s w);
    reached = λ r b. under r (some_under m f q r o.infimum b);
    within = k.within.1;
  }
    where
      go : (p : Point) → IsCovered best p ⊎ SomeSolves p (m ∷ ms) → (q ≤ℚ value_at (number p) f) ⊎ SomeSolves p ms
      go p (inl c) = inl (better best q p o.below c)
      go p (inr (inl d)) = inl (not_below m f q o.infimum p d)
      go p (inr (inr d)) = inr d

      under : (r : ℚ) → Under m f r → (p : Point) × Solves p l × IsWholeOn xs p × (value_at (number p) f <ℚ r)
      under r u = (u.point, k.within.0 u.point u.solves, all_whole m xs a u.point u.solves, u.less)

  with_children : (best : Option ℚ) (m : List Constraint) (ms : List (List Constraint)) (x : ℕ) (v : ℚ) (cs : List Constraint) → Keeps best (m ∷ ms)
      → Has x xs → Splits x v cs → Keeps best (map (λ c. m ++ c ∷ []) cs ++ ms)
  with_children best m ms x v cs k i t = record {
    each = λ p s w. go p w (k.each p s w);
    reached = k.reached;
    within = children_within m cs ms k.within.0 k.within.1;
  }
    where
      go : (p : Point) → IsWholeOn xs p → IsCovered best p ⊎ SomeSolves p (m ∷ ms) → IsCovered best p ⊎ SomeSolves p (map (λ c. m ++ c ∷ []) cs ++ ms)
      go p w (inl c) = inl c
      go p w (inr (inl d)) = inr (in_children p m cs ms d (covers p x v cs t (whole_at p xs x i w)))
      go p w (inr (inr d)) = inr (in_others p (map (λ c. m ++ c ∷ []) cs) ms d)

  next_of : (s : Standing) (m : List Constraint) (ms : List (List Constraint)) → s.nodes ≡ m ∷ ms → Keeps s.best s.nodes → Keeps s.best (m ∷ ms)
  next_of s m ms e k = subst (λ ns. Keeps s.best ns) e k

  looked : (s t : Standing) → Looks xs f s t → Keeps s.best s.nodes → Keeps t.best t.nodes
  looked s t (empty {l = m} {ls = ms} e u) k = without s.best m ms (next_of s m ms e k) (λ p h w d. absurd (u p d))
  looked s t (no_better {l = m} {ls = ms} {b = b} {q = q} e v i c h) k =
      without s.best m ms (next_of s m ms e k) (λ p j w d. subst (λ o. IsCovered o p) (sym c) (le_trans h (not_below m f q i p d)))
  looked s t (leaf {l = m} {ls = ms} {q = q} e o a) k = with_leaf s.best m ms q (next_of s m ms e k) o a
  looked s t (broken {l = m} {ls = ms} e o b) k =
      without s.best m ms (next_of s m ms e k) (λ p j w d. absurd (b.4 (subst IsWhole (b.3.always p d) (whole_at p xs b.0 b.2 w))))
  looked s t (splits {l = m} {ls = ms} {x = x} {a = a} {bounds = cs} e o g c d) k =
      with_children s.best m ms x (a x) cs (next_of s m ms e k) (subst (λ ys. Has x ys) (sym g.among) (has_middle g.before x g.after)) d

  searched : (r s : Standing) → Searches xs f r s → Keeps r.best r.nodes → Keeps s.best s.nodes
  searched r s here k = k
  searched r s (on {s = t} i j) k = looked t s j (searched r t i k)

  at_start : Keeps None (l ∷ [])
  at_start = record { each = λ p s w. inr (inl s); reached = tt; within = ((λ p s. s), tt) }

  pub found : (q : ℚ) → HasSearched l xs f (Some q) → IsWholeInfimum l xs f q
  found q h = go (searched (begun l) _ h.1 at_start)
    where
      go : Keeps (Some q) [] → IsWholeInfimum l xs f q
      go k = record { bound = λ p s w. by_cases p (k.each p s w); greatest = k.reached }
        where
          by_cases : (p : Point) → (q ≤ℚ value_at (number p) f) ⊎ ⊥ → q ≤ℚ value_at (number p) f
          by_cases p (inl c) = c
          by_cases p (inr d) = absurd d

  pub nothing : HasSearched l xs f None → HasNoWhole l xs
  nothing h p s w = go (searched (begun l) _ h.1 at_start)
    where
      by_cases : ⊥ ⊎ ⊥ → ⊥
      by_cases (inl c) = c
      by_cases (inr d) = d

      go : Keeps None [] → ⊥
      go k = by_cases (k.each p s w)
