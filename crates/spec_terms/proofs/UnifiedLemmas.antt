-- Any pairs of terms have a unifier that keeps the oldest variables, or none (Robinson 1965).
use Rattle.std.proofs.Common.{◌≡◌, ◌⊎◌, inl, inr, ℕ, suc, zero, ◌+◌, ◌<◌, ◌≤◌, length, List, [], ◌∷◌, arith, refl, ap, ap₂, sym, subst}
use Rattle.std.proofs.lemmas.Bool.{cases_eq}
use Rattle.std.specs.declared.cmp.Ordering.{Ordering}
use Rattle.std.specs.declared.cmp.Ordering.TheVariants.{Less, Equal, Greater}
use Rattle.std.specs.Ordering.{MatchOrdering}
use Rattle.spec_numbers.specs.Rational.{ℚ, ◌<ℚ◌}
use Rattle.spec_numbers.specs.Order.{cmp_ℚ}
use Rattle.spec_numbers.proofs.Order.{cmp_ℚ-matches, lt_irrefl}
use Rattle.spec_numbers.specs.Texts.{Text}
use Rattle.spec_terms.specs.Term.{Term, Terms, Var, Number, Name, Compound, one, more, Subst, apply, apply_all, single, Occurs}
use Rattle.spec_terms.specs.Unifier.{Equation, read_under}
use Rattle.spec_terms.proofs.Substitution.{occurs_clash}
use Rattle.spec_terms.proofs.Among.{removed, removed_shorter, pair, Within, occurs_or_not, all_listed, all_within, bound_within, weight, weight_positive, left_weight}
use Rattle.spec_terms.proofs.Bindings.{IsUnified, no_pairs, as_well, turned, bound}

-- ---- the same numbers, the same texts

same_or_not : (p q : ℚ) → (p ≡ q) ⊎ (p ≡ q → ⊥)
same_or_not p q = go (cmp_ℚ p q) (cmp_ℚ-matches p q)
  where
    go : (o : Ordering) → MatchOrdering o (p <ℚ q) (p ≡ q) (q <ℚ p) → (p ≡ q) ⊎ (p ≡ q → ⊥)
    go Less m = inr (λ e. lt_irrefl (subst (λ r. r <ℚ q) e m))
    go Equal m = inl m
    go Greater m = inr (λ e. lt_irrefl (subst (λ r. q <ℚ r) e m))

pub same_text_or_not : (s t : Text) → (s ≡ t) ⊎ (s ≡ t → ⊥)
same_text_or_not [] [] = inl refl
same_text_or_not [] (y ∷ t) = inr (λ e. cc)
same_text_or_not (x ∷ s) [] = inr (λ e. cc)
same_text_or_not (x ∷ s) (y ∷ t) = go (cases_eq x y) (same_text_or_not s t)
  where
    go : (x ≡ y) ⊎ (x ≡ y → ⊥) → (s ≡ t) ⊎ (s ≡ t → ⊥) → (x ∷ s ≡ y ∷ t) ⊎ (x ∷ s ≡ y ∷ t → ⊥)
    go (inl e) (inl d) = inl (ap₂ (λ u v. u ∷ v) e d)
    go (inl e) (inr n) = inr (λ h. n (let k : s ≡ t = cc in k))
    go (inr n) d = inr (λ h. n (let k : x ≡ y = cc in k))

module _ {A : Type 0} (same : (a b : A) → (a ≡ b) ⊎ (a ≡ b → ⊥)) where
  -- ---- one pair in front of others, where what is lighter is unified, and what has fewer variables

  module _ (vs : List ℕ) (es : List (Equation A)) (fewer : (ws : List ℕ) (ds : List (Equation A)) → length ws < length vs → Within ws ds → IsUnified ds) where
    -- a variable is bound to a term in which it doesn't stand
    binds : (v : ℕ) (u : Term A) → (Occurs v u → ⊥) → ((w : ℕ) → u ≡ Var w → w ≤ v) → Within vs (pair (Var v) u ∷ es) → IsUnified (pair (Var v) u ∷ es)
    binds v u absent older w =
        bound v u es absent older
        (fewer (removed v vs) (read_under (single v u) es) (removed_shorter v vs (w v (inl refl)))
        (bound_within v u vs absent (λ y i. w y (inr (inl i))) es (λ y i. w y (inr (inr i)))))

    swapped : (t u : Term A) → Within vs (pair t u ∷ es) → Within vs (pair u t ∷ es)
    swapped t u w y (inl h) = w y (inr (inl h))
    swapped t u w y (inr (inl h)) = w y (inl h)
    swapped t u w y (inr (inr h)) = w y (inr (inr h))

    -- a variable and another term than a variable
    variable_and : (v : ℕ) (u : Term A) → ((w : ℕ) → u ≡ Var w → ⊥) → Within vs (pair (Var v) u ∷ es) → IsUnified (pair (Var v) u ∷ es)
    variable_and v u other w = go (occurs_or_not v u)
      where
        go : Occurs v u ⊎ (Occurs v u → ⊥) → IsUnified (pair (Var v) u ∷ es)
        go (inl o) = inr (λ s h. occurs_clash s v u o (other v) h.0)
        go (inr n) = binds v u n (λ x e. absurd (other x e)) w

    -- the younger of two variables is bound
    two_variables : (v x : ℕ) → IsUnified es → Within vs (pair (Var v) (Var x) ∷ es) → IsUnified (pair (Var v) (Var x) ∷ es)
    two_variables v x rest w = go (cases_eq v x) (cases_lt x v)
      where
        cases_lt : (m n : ℕ) → (m < n) ⊎ (n ≤ m)
        cases_lt m zero = inr (omega arith)
        cases_lt zero (suc n) = inl (omega arith)
        cases_lt (suc m) (suc n) = elim (cases_lt m n) [ inl h ↦ inl (omega (arith, h)) | inr h ↦ inr (omega (arith, h)) ]

        go : (v ≡ x) ⊎ (v ≡ x → ⊥) → (x < v) ⊎ (v ≤ x) → IsUnified (pair (Var v) (Var x) ∷ es)
        go (inl e) d = as_well (pair (Var v) (Var x) ∷ es) es (λ s h. h.1) (λ s h. (ap s e, h)) rest
        go (inr n) (inl h) = binds v (Var x) n (λ y e. (let d : x ≡ y = cc in omega (arith, d, h))) w
        go (inr n) (inr h) =
            turned (Var v) (Var x) es
            (binds x (Var v) (λ e. n (sym e)) (λ y e. (let d : v ≡ y = cc in omega (arith, d, h))) (swapped (Var v) (Var x) w))

    -- ---- two terms that are no variables

    clashes : (t u : Term A) → ((s : Subst A) → apply s t ≡ apply s u → ⊥) → IsUnified (pair t u ∷ es)
    clashes t u n = inr (λ s h. n s h.0)

    abbrev Lighter : Term A → Type 0
    Lighter t = (ds : List (Equation A)) → left_weight ds < weight t + left_weight es → Within vs ds → IsUnified ds

    numbers : (p q : ℚ) → IsUnified es → IsUnified (pair (Number p) (Number q) ∷ es)
    numbers p q rest = go (same_or_not p q)
      where
        go : (p ≡ q) ⊎ (p ≡ q → ⊥) → IsUnified (pair (Number p) (Number q) ∷ es)
        go (inl e) = as_well (pair (Number p) (Number q) ∷ es) es (λ s h. h.1) (λ s h. (ap (λ r. Number r) e, h)) rest
        go (inr n) = clashes (Number p) (Number q) (λ s h. n (let k : p ≡ q = cc in k))

    names : (a b : A) → IsUnified es → IsUnified (pair (Name a) (Name b) ∷ es)
    names a b rest = go (same a b)
      where
        go : (a ≡ b) ⊎ (a ≡ b → ⊥) → IsUnified (pair (Name a) (Name b) ∷ es)
        go (inl e) = as_well (pair (Name a) (Name b) ∷ es) es (λ s h. h.1) (λ s h. (ap (λ c. Name c) e, h)) rest
        go (inr n) = clashes (Name a) (Name b) (λ s h. n (let k : a ≡ b = cc in k))

    -- the last arguments
    last_pair : (f g : A) (t u : Term A) → Lighter (Compound f (one t)) → Within vs (pair (Compound f (one t)) (Compound g (one u)) ∷ es)
        → IsUnified (pair (Compound f (one t)) (Compound g (one u)) ∷ es)
    last_pair f g t u lighter w = go (same f g)
      where
        split : (s : Subst A) → apply s (Compound f (one t)) ≡ apply s (Compound g (one u)) → apply s t ≡ apply s u
        split s h = cc

        joined : (s : Subst A) → f ≡ g → apply s t ≡ apply s u → apply s (Compound f (one t)) ≡ apply s (Compound g (one u))
        joined s e h = cc

        go : (f ≡ g) ⊎ (f ≡ g → ⊥) → IsUnified (pair (Compound f (one t)) (Compound g (one u)) ∷ es)
        go (inl e) =
            as_well (pair (Compound f (one t)) (Compound g (one u)) ∷ es) (pair t u ∷ es) (λ s h. (split s h.0, h.1)) (λ s h. (joined s e h.0, h.1))
            (lighter (pair t u ∷ es) (omega arith) w)
        go (inr n) = clashes (Compound f (one t)) (Compound g (one u)) (λ s h. n (let k : f ≡ g = cc in k))

    -- the first arguments, and the rest under the same names
    abbrev parted : A → A → Term A → Term A → Terms A → Terms A → List (Equation A)
    parted f g t u ts us = pair t u ∷ pair (Compound f ts) (Compound g us) ∷ es

    first_pair : (f g : A) (t u : Term A) (ts us : Terms A) → Lighter (Compound f (more t ts)) → Within vs (pair (Compound f (more t ts)) (Compound g (more u us)) ∷ es)
        → IsUnified (pair (Compound f (more t ts)) (Compound g (more u us)) ∷ es)
    first_pair f g t u ts us lighter w =
        as_well (pair (Compound f (more t ts)) (Compound g (more u us)) ∷ es) (parted f g t u ts us) (λ s h. (split s h.0, (rest s h.0, h.1))) (λ s h. (joined s h.0 h.1.0, h.1.1))
        (lighter (parted f g t u ts us) (omega arith) within)
      where
        split : (s : Subst A) → apply s (Compound f (more t ts)) ≡ apply s (Compound g (more u us)) → apply s t ≡ apply s u
        split s h = cc

        rest : (s : Subst A) → apply s (Compound f (more t ts)) ≡ apply s (Compound g (more u us)) → apply s (Compound f ts) ≡ apply s (Compound g us)
        rest s h =
            let e : f ≡ g = cc in
            let d : apply_all s ts ≡ apply_all s us = cc in
            cc

        joined : (s : Subst A) → apply s t ≡ apply s u → apply s (Compound f ts) ≡ apply s (Compound g us) → apply s (Compound f (more t ts)) ≡ apply s (Compound g (more u us))
        joined s h k =
            let e : f ≡ g = cc in
            let d : apply_all s ts ≡ apply_all s us = cc in
            cc

        within : Within vs (parted f g t u ts us)
        within y (inl h) = w y (inl (inl h))
        within y (inr (inl h)) = w y (inr (inl (inl h)))
        within y (inr (inr (inl h))) = w y (inl (inr h))
        within y (inr (inr (inr (inl h)))) = w y (inr (inl (inr h)))
        within y (inr (inr (inr (inr h)))) = w y (inr (inr h))

    compounds : (f g : A) (ts us : Terms A) → Lighter (Compound f ts) → Within vs (pair (Compound f ts) (Compound g us) ∷ es)
        → IsUnified (pair (Compound f ts) (Compound g us) ∷ es)
    compounds f g (one t) (one u) lighter w = last_pair f g t u lighter w
    compounds f g (one t) (more u us) lighter w = clashes (Compound f (one t)) (Compound g (more u us)) (λ s h. cc)
    compounds f g (more t ts) (one u) lighter w = clashes (Compound f (more t ts)) (Compound g (one u)) (λ s h. cc)
    compounds f g (more t ts) (more u us) lighter w = first_pair f g t u ts us lighter w

    -- ---- any two terms

    rest_of : (t u : Term A) → Lighter t → Within vs (pair t u ∷ es) → IsUnified es
    rest_of t u lighter w = lighter es (let p : 0 < weight t = weight_positive t in omega (arith, p)) (λ y i. w y (inr (inr i)))

    pub front_pair : (t u : Term A) → Lighter t → Within vs (pair t u ∷ es) → IsUnified (pair t u ∷ es)
    front_pair (Var v) (Var x) l w = two_variables v x (rest_of (Var v) (Var x) l w) w
    front_pair (Var v) (Number q) l w = variable_and v (Number q) (λ x e. cc) w
    front_pair (Var v) (Name a) l w = variable_and v (Name a) (λ x e. cc) w
    front_pair (Var v) (Compound f ts) l w = variable_and v (Compound f ts) (λ x e. cc) w
    front_pair (Number p) (Var v) l w = turned (Number p) (Var v) es (variable_and v (Number p) (λ x e. cc) (swapped (Number p) (Var v) w))
    front_pair (Number p) (Number q) l w = numbers p q (rest_of (Number p) (Number q) l w)
    front_pair (Number p) (Name a) l w = clashes (Number p) (Name a) (λ s h. cc)
    front_pair (Number p) (Compound f ts) l w = clashes (Number p) (Compound f ts) (λ s h. cc)
    front_pair (Name a) (Var v) l w = turned (Name a) (Var v) es (variable_and v (Name a) (λ x e. cc) (swapped (Name a) (Var v) w))
    front_pair (Name a) (Number q) l w = clashes (Name a) (Number q) (λ s h. cc)
    front_pair (Name a) (Name b) l w = names a b (rest_of (Name a) (Name b) l w)
    front_pair (Name a) (Compound f ts) l w = clashes (Name a) (Compound f ts) (λ s h. cc)
    front_pair (Compound f ts) (Var v) l w = turned (Compound f ts) (Var v) es (variable_and v (Compound f ts) (λ x e. cc) (swapped (Compound f ts) (Var v) w))
    front_pair (Compound f ts) (Number q) l w = clashes (Compound f ts) (Number q) (λ s h. cc)
    front_pair (Compound f ts) (Name a) l w = clashes (Compound f ts) (Name a) (λ s h. cc)
    front_pair (Compound f ts) (Compound g us) l w = compounds f g ts us l w

  -- ---- by the weight of the left sides, and by how many variables there are

  by_weight : (vs : List ℕ) → ((ws : List ℕ) (ds : List (Equation A)) → length ws < length vs → Within ws ds → IsUnified ds)
      → (k : ℕ) (es : List (Equation A)) → left_weight es < k → Within vs es → IsUnified es
  by_weight vs fewer zero es h w = absurd (omega (arith, h))
  by_weight vs fewer (suc k) [] h w = no_pairs
  by_weight vs fewer (suc k) (e ∷ es) h w = front_pair vs es fewer e.left e.right (λ ds i j. by_weight vs fewer k ds (omega (arith, h, i)) j) w

  by_variables : (n : ℕ) (vs : List ℕ) (es : List (Equation A)) → length vs < n → Within vs es → IsUnified es
  by_variables zero vs es h w = absurd (omega (arith, h))
  by_variables (suc n) vs es h w =
      by_weight vs (λ ws ds i j. by_variables n ws ds (omega (arith, h, i)) j) (suc (left_weight es)) es (omega arith) w

  pub unified_or_not : (es : List (Equation A)) → IsUnified es
  unified_or_not es = by_variables (suc (length (all_listed es))) (all_listed es) es (omega arith) (all_within es)

pub texts_unified : (es : List (Equation Text)) → IsUnified es
texts_unified = unified_or_not same_text_or_not
