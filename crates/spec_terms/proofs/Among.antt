-- The variables that stand in pairs of terms, and how much the pairs weigh.
use Rattle.std.proofs.Common.{◌≡◌, ◌⊎◌, inl, inr, ℕ, suc, ◌+◌, ◌<◌, ◌≤◌, length, List, [], ◌∷◌, ◌++◌, cond, arith, ap, sym, subst, ◌∙◌}
use Rattle.std.specs.Prelude.{◌==◌}
use Rattle.std.proofs.lemmas.Bool.{cases_eq, eq-eqb, ne_eqb}
use Rattle.spec_terms.specs.Term.{Term, Terms, Var, Number, Name, Compound, one, more, apply, single, Occurs, OccursIn}
use Rattle.spec_terms.specs.Unifier.{Equation, read_under}
use Rattle.spec_terms.proofs.Substitution.{occurs_from, single_same, single_other}

-- ---- numbers in a list

abbrev pub Among : ℕ → List ℕ → Type 0
Among x [] = ⊥
Among x (y ∷ s) = (x ≡ y) ⊎ Among x s

pub among_left : (x : ℕ) (s t : List ℕ) → Among x s → Among x (s ++ t)
among_left x [] t h = absurd h
among_left x (y ∷ s) t (inl e) = inl e
among_left x (y ∷ s) t (inr h) = inr (among_left x s t h)

pub among_right : (x : ℕ) (s t : List ℕ) → Among x t → Among x (s ++ t)
among_right x [] t h = h
among_right x (y ∷ s) t h = inr (among_right x s t h)

-- the list without v
abbrev pub removed : ℕ → List ℕ → List ℕ
removed v [] = []
removed v (w ∷ ws) = cond (v == w) (removed v ws) (w ∷ removed v ws)

removed-same : (v w : ℕ) (ws : List ℕ) → v ≡ w → removed v (w ∷ ws) ≡ removed v ws
removed-same v w ws e = ap (λ b. cond b (removed v ws) (w ∷ removed v ws)) (eq-eqb v w e)

removed-other : (v w : ℕ) (ws : List ℕ) → (v ≡ w → ⊥) → removed v (w ∷ ws) ≡ w ∷ removed v ws
removed-other v w ws n = ap (λ b. cond b (removed v ws) (w ∷ removed v ws)) (ne_eqb v w n)

pub removed_among : (v x : ℕ) (ws : List ℕ) → Among x ws → (x ≡ v → ⊥) → Among x (removed v ws)
removed_among v x [] h n = absurd h
removed_among v x (w ∷ ws) h n = go (cases_eq v w) h (λ k. removed_among v x ws k n)
  where
    go : (v ≡ w) ⊎ (v ≡ w → ⊥) → Among x (w ∷ ws) → (Among x ws → Among x (removed v ws)) → Among x (removed v (w ∷ ws))
    go (inl e) (inl k) rest = absurd (n (k ∙ sym e))
    go (inl e) (inr k) rest = subst (Among x) (sym (removed-same v w ws e)) (rest k)
    go (inr m) (inl k) rest = subst (Among x) (sym (removed-other v w ws m)) (inl k)
    go (inr m) (inr k) rest = subst (Among x) (sym (removed-other v w ws m)) (inr (rest k))

removed_no_longer : (v : ℕ) (ws : List ℕ) → length (removed v ws) ≤ length ws
removed_no_longer v [] = omega arith
removed_no_longer v (w ∷ ws) = go (cases_eq v w) (removed_no_longer v ws)
  where
    go : (v ≡ w) ⊎ (v ≡ w → ⊥) → length (removed v ws) ≤ length ws → length (removed v (w ∷ ws)) ≤ length (w ∷ ws)
    go (inl e) h = subst (λ s. length s ≤ suc (length ws)) (sym (removed-same v w ws e)) (omega (arith, h))
    go (inr m) h = subst (λ s. length s ≤ suc (length ws)) (sym (removed-other v w ws m)) (omega (arith, h))

pub removed_shorter : (v : ℕ) (ws : List ℕ) → Among v ws → length (removed v ws) < length ws
removed_shorter v [] h = absurd h
removed_shorter v (w ∷ ws) h = go (cases_eq v w) h (removed_no_longer v ws) (removed_shorter v ws)
  where
    go : (v ≡ w) ⊎ (v ≡ w → ⊥) → Among v (w ∷ ws) → length (removed v ws) ≤ length ws → (Among v ws → length (removed v ws) < length ws)
        → length (removed v (w ∷ ws)) < length (w ∷ ws)
    go (inl e) k at_most rest = subst (λ s. length s < suc (length ws)) (sym (removed-same v w ws e)) (omega (arith, at_most))
    go (inr m) (inl k) at_most rest = absurd (m k)
    go (inr m) (inr k) at_most rest =
        let shorter : length (removed v ws) < length ws = rest k in
        subst (λ s. length s < suc (length ws)) (sym (removed-other v w ws m)) (omega (arith, shorter))

module _ {A : Type 0} where
  abbrev pub pair : Term A → Term A → Equation A
  pair t u = record { left = t; right = u }

  -- ---- where a variable stands

  abbrev pub OccursInPairs : ℕ → List (Equation A) → Type 0
  OccursInPairs v [] = ⊥
  OccursInPairs v (e ∷ es) = Occurs v e.left ⊎ (Occurs v e.right ⊎ OccursInPairs v es)

  -- each variable that stands in the pairs is among these
  abbrev pub Within : List ℕ → List (Equation A) → Type 0
  Within vs es = (v : ℕ) → OccursInPairs v es → Among v vs

  mutual
    pub occurs_or_not : (v : ℕ) (t : Term A) → Occurs v t ⊎ (Occurs v t → ⊥)
    occurs_or_not v (Var w) = cases_eq v w
    occurs_or_not v (Number q) = inr (λ h. h)
    occurs_or_not v (Name a) = inr (λ h. h)
    occurs_or_not v (Compound f ts) = occurs_in_or_not v ts

    occurs_in_or_not : (v : ℕ) (ts : Terms A) → OccursIn v ts ⊎ (OccursIn v ts → ⊥)
    occurs_in_or_not v (one t) = occurs_or_not v t
    occurs_in_or_not v (more t ts) = either (occurs_or_not v t) (occurs_in_or_not v ts)
      where
        either : Occurs v t ⊎ (Occurs v t → ⊥) → OccursIn v ts ⊎ (OccursIn v ts → ⊥) → OccursIn v (more t ts) ⊎ (OccursIn v (more t ts) → ⊥)
        either (inl h) k = inl (inl h)
        either (inr n) (inl k) = inl (inr k)
        either (inr n) (inr m) = inr (λ h. elim h [ inl i ↦ n i | inr i ↦ m i ])

  abbrev mutual
    pub listed : Term A → List ℕ
    listed (Var v) = v ∷ []
    listed (Number q) = []
    listed (Name a) = []
    listed (Compound f ts) = listed_in ts

    pub listed_in : Terms A → List ℕ
    listed_in (one t) = listed t
    listed_in (more t ts) = listed t ++ listed_in ts

  mutual
    is_listed : (v : ℕ) (t : Term A) → Occurs v t → Among v (listed t)
    is_listed v (Var w) h = inl h
    is_listed v (Number q) h = absurd h
    is_listed v (Name a) h = absurd h
    is_listed v (Compound f ts) h = is_listed_in v ts h

    is_listed_in : (v : ℕ) (ts : Terms A) → OccursIn v ts → Among v (listed_in ts)
    is_listed_in v (one t) h = is_listed v t h
    is_listed_in v (more t ts) h = elim h [
      | inl i ↦ among_left v (listed t) (listed_in ts) (is_listed v t i)
      | inr i ↦ among_right v (listed t) (listed_in ts) (is_listed_in v ts i)
    ]

  -- all variables of the pairs
  abbrev pub all_listed : List (Equation A) → List ℕ
  all_listed [] = []
  all_listed (e ∷ es) = listed e.left ++ (listed e.right ++ all_listed es)

  pub all_within : (es : List (Equation A)) → Within (all_listed es) es
  all_within [] v h = absurd h
  all_within (e ∷ es) v (inl h) = among_left v (listed e.left) (listed e.right ++ all_listed es) (is_listed v e.left h)
  all_within (e ∷ es) v (inr (inl h)) =
      among_right v (listed e.left) (listed e.right ++ all_listed es) (among_left v (listed e.right) (all_listed es) (is_listed v e.right h))
  all_within (e ∷ es) v (inr (inr h)) =
      among_right v (listed e.left) (listed e.right ++ all_listed es) (among_right v (listed e.right) (all_listed es) (all_within es v h))

  -- ---- once a variable is bound

  term_within : (v : ℕ) (u : Term A) (vs : List ℕ) → (Occurs v u → ⊥) → ((y : ℕ) → Occurs y u → Among y vs)
      → (t : Term A) → ((y : ℕ) → Occurs y t → Among y vs) → (x : ℕ) → Occurs x (apply (single v u) t) → Among x (removed v vs)
  term_within v u vs absent of_image t of_term x h = by (occurs_from (single v u) x t h)
    where
      by : (y : ℕ) × Occurs y t × Occurs x (single v u y) → Among x (removed v vs)
      by p = go (cases_eq v p.0)
        where
          go : (v ≡ p.0) ⊎ (v ≡ p.0 → ⊥) → Among x (removed v vs)
          go (inl e) =
              let i : Occurs x u = subst (λ (s : Term A). Occurs x s) (ap (single v u) (sym e) ∙ single_same v u) p.2 in
              removed_among v x vs (of_image x i) (λ d. absent (subst (λ (y : ℕ). Occurs y u) d i))
          go (inr n) =
              let i : x ≡ p.0 = subst (λ (s : Term A). Occurs x s) (single_other v p.0 u n) p.2 in
              removed_among v x vs (subst (λ y. Among y vs) (sym i) (of_term p.0 p.1)) (λ d. n (sym d ∙ i))

  pub bound_within : (v : ℕ) (u : Term A) (vs : List ℕ) → (Occurs v u → ⊥) → ((y : ℕ) → Occurs y u → Among y vs)
      → (es : List (Equation A)) → Within vs es → Within (removed v vs) (read_under (single v u) es)
  bound_within v u vs absent of_image [] w x h = absurd h
  bound_within v u vs absent of_image (e ∷ es) w x (inl h) = term_within v u vs absent of_image e.left (λ y i. w y (inl i)) x h
  bound_within v u vs absent of_image (e ∷ es) w x (inr (inl h)) = term_within v u vs absent of_image e.right (λ y i. w y (inr (inl i))) x h
  bound_within v u vs absent of_image (e ∷ es) w x (inr (inr h)) = bound_within v u vs absent of_image es (λ y i. w y (inr (inr i))) x h

  -- ---- weights

  abbrev mutual
    pub weight : Term A → ℕ
    weight (Var v) = 1
    weight (Number q) = 1
    weight (Name a) = 1
    weight (Compound f ts) = suc (total_weight ts)

    pub total_weight : Terms A → ℕ
    total_weight (one t) = suc (weight t)
    total_weight (more t ts) = suc (weight t + total_weight ts)

  mutual
    pub weight_positive : (t : Term A) → 0 < weight t
    weight_positive (Var v) = omega arith
    weight_positive (Number q) = omega arith
    weight_positive (Name a) = omega arith
    weight_positive (Compound f ts) = omega arith

  -- of the left sides
  abbrev pub left_weight : List (Equation A) → ℕ
  left_weight [] = 0
  left_weight (e ∷ es) = weight e.left + left_weight es
