-- Rows have one point.
use Rattle.std.proofs.Common.{◌≡◌, inl, inr, ℕ, ◌<◌, List, [], ◌∷◌, ◌++◌, refl, sym, ap, ap₂, subst, ◌∙◌, arith}
use Rattle.spec_numbers.specs.Rational.{ℚ, neg_ℚ, ◌+ℚ◌}
use Rattle.spec_numbers.specs.Sums.{Monomial, Mentions, negated_products}
use Rattle.spec_numbers.proofs.Ring.{var, minus}
use Rattle.spec_numbers.proofs.RationalLemmas.{ring}
use Rattle.spec_numbers.proofs.Sums.{sum_at-agrees}
use Rattle.spec_linear.specs.Form.{value_at, variable_form, negated_form}
use Rattle.spec_linear.specs.Solution.{Constraint, Has, Equivalent, Solvable, Satisfies, equal_to}
use Rattle.spec_linear.specs.Extremes.{IsSupremum, IsInfimum, IsUnbounded}
use Rattle.spec_linear.specs.Echelon.{Solved, difference, equation, equations, solved_variables, MentionsNone}
use Rattle.spec_linear.proofs.Denominators.{has_left, extends}
use Rattle.spec_linear.proofs.Far.{member_satisfied}
use Rattle.spec_linear.proofs.Filled.{equation-says}
use Rattle.spec_linear.proofs.Lists.{alike_sym, alike_solvable}
use Rattle.spec_linear.proofs.Reached.{one_supremum, never_both, supremum_alike, unbounded_alike}
use Rattle.spec_projection.specs.Targets.{AgreeOn}
use Rattle.spec_projection.proofs.Members.{has_mapped, has_image, alike_front}
use Rattle.spec_projection.proofs.Mentions.{some_mentions}
use Rattle.spec_projection.proofs.SameOn.{extends_by_values, alike_same_on}
use Rattle.spec_projection.proofs.Standing.{has_or_not}
use Rattle.spec_points.specs.Bounds.{Bounds, Between, OnlyAbove, OnlyBelow, Anywhere, HasBounds, between, only_above, only_below, anywhere, tried}
use Rattle.spec_points.specs.Points.{with_value, IsChosen, AreChosen, unsolved, IsPoint}
use Rattle.spec_points.specs.Conditions.{AreSolvedRows}
use Rattle.spec_points.proofs.Holding.{holds, is_unsolved, member_none}
use Rattle.spec_points.proofs.Exists.{one_of_all}

negative_same : (q r : ℚ) → neg_ℚ q ≡ neg_ℚ r → q ≡ r
negative_same q r e = ring (q ∷ []) (var 0) (minus (minus (var 0))) refl ∙ ap neg_ℚ e ∙ ring (r ∷ []) (minus (minus (var 0))) (var 0) refl

-- ---- bounds

module _ (l m : List Constraint) (h : Equivalent l m) (x : ℕ) where
  one_least : (a b : ℚ) → IsInfimum l (variable_form x) a → IsInfimum m (variable_form x) b → a ≡ b
  one_least a b i j = negative_same a b (one_supremum m (negated_form (variable_form x)) (neg_ℚ a) (neg_ℚ b) (supremum_alike l m (negated_form (variable_form x)) (neg_ℚ a) h i) j)

  one_greatest : (a b : ℚ) → IsSupremum l (variable_form x) a → IsSupremum m (variable_form x) b → a ≡ b
  one_greatest a b i j = one_supremum m (variable_form x) a b (supremum_alike l m (variable_form x) a h i) j

  no_least : (a : ℚ) → IsInfimum l (variable_form x) a → IsUnbounded m (negated_form (variable_form x)) → ⊥
  no_least a i u = never_both m (negated_form (variable_form x)) (neg_ℚ a) (supremum_alike l m (negated_form (variable_form x)) (neg_ℚ a) h i) u

  no_greatest : (a : ℚ) → IsSupremum l (variable_form x) a → IsUnbounded m (variable_form x) → ⊥
  no_greatest a i u = never_both m (variable_form x) a (supremum_alike l m (variable_form x) a h i) u

  least_no : (a : ℚ) → IsUnbounded l (negated_form (variable_form x)) → IsInfimum m (variable_form x) a → ⊥
  least_no a u i = never_both m (negated_form (variable_form x)) (neg_ℚ a) i (unbounded_alike l m (negated_form (variable_form x)) h u)

  greatest_no : (a : ℚ) → IsUnbounded l (variable_form x) → IsSupremum m (variable_form x) a → ⊥
  greatest_no a u i = never_both m (variable_form x) a i (unbounded_alike l m (variable_form x) h u)

  one_bounds : (b c : Bounds) → HasBounds l x b → HasBounds m x c → b ≡ c
  one_bounds b c (between {a = i} {b = j} p q) (between {a = k} {b = n} r s) = ap₂ (λ (y z : ℚ). Between y z) (one_least i k p r) (one_greatest j n q s)
  one_bounds b c (between {b = j} p q) (only_above r s) = absurd (no_greatest j q s)
  one_bounds b c (between {a = i} p q) (only_below r s) = absurd (no_least i p r)
  one_bounds b c (between {a = i} p q) (anywhere r s) = absurd (no_least i p r)
  one_bounds b c (only_above p q) (between {b = n} r s) = absurd (greatest_no n q s)
  one_bounds b c (only_above {a = i} p q) (only_above {a = k} r s) = ap (λ (y : ℚ). OnlyAbove y) (one_least i k p r)
  one_bounds b c (only_above {a = i} p q) (only_below r s) = absurd (no_least i p r)
  one_bounds b c (only_above {a = i} p q) (anywhere r s) = absurd (no_least i p r)
  one_bounds b c (only_below p q) (between {a = k} r s) = absurd (least_no k p r)
  one_bounds b c (only_below p q) (only_above {a = k} r s) = absurd (least_no k p r)
  one_bounds b c (only_below {b = j} p q) (only_below {b = n} r s) = ap (λ (y : ℚ). OnlyBelow y) (one_greatest j n q s)
  one_bounds b c (only_below {b = j} p q) (anywhere r s) = absurd (no_greatest j q s)
  one_bounds b c (anywhere p q) (between {a = k} r s) = absurd (least_no k p r)
  one_bounds b c (anywhere p q) (only_above {a = k} r s) = absurd (least_no k p r)
  one_bounds b c (anywhere p q) (only_below {b = n} r s) = absurd (greatest_no n q s)
  one_bounds b c (anywhere p q) (anywhere r s) = refl

-- ---- values

-- with a value that works on one list no later one is tried on the other
none_later : (l m : List Constraint) → Equivalent l m → (x : ℕ) (q r : ℚ) (c : IsChosen l x q) (d : IsChosen m x r) → c.bounds ≡ d.bounds → c.place < d.place → ⊥
none_later l m h x q r c d b i =
    let e : q ≡ tried d.bounds c.place = c.value ∙ ap (λ (z : Bounds). tried z c.place) b in
    let s : Solvable (with_value m x q) = alike_solvable (with_value l x q) (with_value m x q) (alike_front l m (equal_to x q ∷ []) h) c.works in
    let t : Solvable (with_value m x (tried d.bounds c.place)) = subst (λ (z : ℚ). Solvable (with_value m x z)) e s in
    d.tries.earlier c.place i t.0 t.1

one_value : (l m : List Constraint) → Equivalent l m → (x : ℕ) (q r : ℚ) → IsChosen l x q → IsChosen m x r → q ≡ r
one_value l m h x q r c d =
    let b : c.bounds ≡ d.bounds = one_bounds l m h x c.bounds d.bounds c.tries.has_bounds d.tries.has_bounds in
    let after : c.place < d.place → ⊥ = none_later l m h x q r c d b in
    let before : d.place < c.place → ⊥ = none_later m l (alike_sym l m h) x r q d c (sym b) in
    let same : c.place ≡ d.place = omega (arith, after, before) in
    c.value ∙ ap₂ (λ (z : Bounds) (k : ℕ). tried z k) b same ∙ sym d.value

one_of_each : (xs : List ℕ) (l m : List Constraint) (v w : ℕ → ℚ) → Equivalent l m → AreChosen l xs v → AreChosen m xs w → (x : ℕ) → Has x xs → v x ≡ w x
one_of_each [] l m v w h c d x i = absurd i
one_of_each (y ∷ xs) l m v w h c d x i =
    let e : v y ≡ w y = one_value l m h y (v y) (w y) c.0 d.0 in
    let next : Equivalent (with_value l y (v y)) (with_value m y (w y)) =
    subst (λ (z : ℚ). Equivalent (with_value l y (v y)) (with_value m y z)) e (alike_front l m (equal_to y (v y) ∷ []) h) in
    elim i [
      | inl j ↦ ap v j ∙ e ∙ ap w (sym j)
      | inr k ↦ one_of_each xs (with_value l y (v y)) (with_value m y (w y)) v w next c.1 d.1 x k
    ]

pub unique : (es fs : List Solved) (others more : List Constraint) (order : List ℕ) (v w : ℕ → ℚ) → Equivalent (equations es ++ others) (equations fs ++ more)
    → unsolved es order ≡ unsolved fs order → IsPoint es others order v → IsPoint fs more order w
    → (x : ℕ) → Has x (unsolved es order) → v x ≡ w x
unique es fs others more order v w h e p q x i =
    one_of_each (unsolved es order) (equations es ++ others) (equations fs ++ more) v w h p.chosen
    (subst (λ (xs : List ℕ). AreChosen (equations fs ++ more) xs w) (sym e) q.chosen) x i

-- ---- the variables that are solved for

mentions_negated : (x : ℕ) (s : List Monomial) → Mentions x s → Mentions x (negated_products s)
mentions_negated x [] h = h
mentions_negated x (m ∷ s) (inl e) = inl e
mentions_negated x (m ∷ s) (inr h) = inr (mentions_negated x s h)

module _ (order : List ℕ) (es fs : List Solved) (others more : List Constraint) (v w : ℕ → ℚ) (rows : AreSolvedRows order es others)
    (again : AreSolvedRows order fs more) (alike : Equivalent (equations es ++ others) (equations fs ++ more))
    (same : unsolved es order ≡ unsolved fs order) (p : IsPoint es others order v) (q : IsPoint fs more order w) where
  -- the second point's values satisfy the first rows
  moved : (b : ℕ → ℚ) × AgreeOn order w b × Satisfies b (equations es ++ others)
  moved =
      (extends_by_values order w (equations es ++ others)).0
      ((alike_same_on order (equations es ++ others) (equations fs ++ more) alike w).1
      (extends order w (equations fs ++ more) (holds order fs more w again q)))

  at_unsolved : (x : ℕ) → Has x order → (Has x (solved_variables es) → ⊥) → v x ≡ w x
  at_unsolved x h n = unique es fs others more order v w alike same p q x (is_unsolved es order x h n)

  mentioned : (e : Solved) → Has e es → (x : ℕ) → Mentions x (difference e).products → Has x order
  mentioned e h x m = rows.over x (some_mentions x (equations es ++ others) (equation e) (has_left (equation e) (equations es) others (has_image equation e es h)) m)

  form_alike : (e : Solved) → Has e es → value_at v e.form ≡ value_at moved.0 e.form
  form_alike e h =
      ap (λ (s : ℚ). e.form.constant +ℚ s)
      (sum_at-agrees v moved.0 e.form.products (λ x m.
      at_unsolved x (mentioned e h x (inr (mentions_negated x e.form.products m)))
      (λ k. member_none es x e.form.products (one_of_all (λ d. MentionsNone es d.form.products) es rows.reduced.reduced e h) k m)
      ∙ sym (moved.1 x (mentioned e h x (inr (mentions_negated x e.form.products m))))))

  at_equation : (e : Solved) → Has e es → v e.variable ≡ w e.variable
  at_equation e h =
      one_of_all (λ d. v d.variable ≡ value_at v d.form) es p.solved e h ∙ form_alike e h
      ∙ sym (equation-says moved.0 e (member_satisfied moved.0 (equations es ++ others) (equation e) (has_left (equation e) (equations es) others (has_image equation e es h)) moved.2))
      ∙ moved.1 e.variable (mentioned e h e.variable (inl refl))

  pub all_alike : (x : ℕ) → Has x order → v x ≡ w x
  all_alike x h = elim (has_or_not x (solved_variables es)) [
    | inl k ↦ (let e = has_mapped (λ (z : Solved). z.variable) x es k in
        subst (λ (y : ℕ). v y ≡ w y) (sym e.is) (at_equation e.from e.member))
    | inr n ↦ at_unsolved x h n
  ]
