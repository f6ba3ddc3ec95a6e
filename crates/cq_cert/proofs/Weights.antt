-- When adding up a run's multiples is refused, and what it gives.
use Rattle.std.proofs.Common.{◌≡◌, inl, inr, ℕ, zero, suc, ◌-◌, ◌<◌, ◌≤◌, arith, List, [], ◌∷◌, length, get_or, Bool, true, false, not, ◌&&◌, ◌||◌, nat_eq, nat_le, nat_lt, Some, refl, sym, ap, ap₂, subst, ◌∙◌}
use Rattle.std.specs.Prelude.{slice_get, nat_abs, ◌+ℤ◌}
use Rattle.std.specs.List.{list_any}
use Rattle.spec_numbers.specs.Rational.{ℚ, 0ℚ, denominator, ◌*ℚ◌}
use Rattle.spec_numbers.specs.Sums.{Monomial}
use Rattle.spec_numbers.proofs.Tests.{le_true, le_false, true_le, nat_eq-same, nat_eq-self, both_are, neither, or_left, or_right}
use Rattle.spec_linear.specs.Form.{Linear, sum_form, scaled_form, constant_form}
use Rattle.spec_linear.specs.Solution.{Constraint, Has}
use Rattle.spec_linear.specs.Certificate.{member, form_or_zero}
use Rattle.cq_frac.specs.declared.Operation.{Operation}
use Rattle.cq_frac.specs.declared.Operation.TheVariants.{Sum, Product}
use Rattle.cq_frac.specs.Fits.{limit, Fits, Exceeds, SumAccepted, SumRefused, left_term, right_term, common_den}
use Rattle.cq_frac.specs.Refused.{Refuses, Accepts}
use Rattle.cq_form.specs.Steps.{ScalePair, coefficient, constant, SumPair, coefficients, constants, CommonPair, MultiplePair}
use Rattle.cq_form.specs.Steps as steps
use Rattle.spec_log.specs.Log.{Run}
use Rattle.spec_log.specs.Verdicts.{within, exceeds, sum_exceeds, multiple_exceeds, meets_exceeding, join_exceeds, multiple, added, sum_of, is_wide_behind, is_wide, are_members}

-- ---- tests of numbers

within_true : (n : ℕ) → n < limit → within n ≡ true
within_true n h = le_true (suc n) limit h

within_false : (n : ℕ) → limit ≤ n → within n ≡ false
within_false n h = le_false (suc n) limit (omega (arith, h))

and_true : (a b : Bool) → a ≡ true → b ≡ true → (a && b) ≡ true
and_true a b e d = ap₂ (λ x y. x && y) e d

and_left : (a b : Bool) → a ≡ false → (a && b) ≡ false
and_left a b e = ap (λ x. x && b) e

and_right : (a b : Bool) → b ≡ false → (a && b) ≡ false
and_right true b e = e
and_right false b e = refl

exceeds_true : (q : ℚ) → Exceeds q → exceeds q ≡ true
exceeds_true q (inl h) = ap not (and_left (within (nat_abs q.numerator)) (within (denominator q)) (within_false (nat_abs q.numerator) h))
exceeds_true q (inr h) = ap not (and_right (within (nat_abs q.numerator)) (within (denominator q)) (within_false (denominator q) h))

exceeds_false : (q : ℚ) → Fits q → exceeds q ≡ false
exceeds_false q h = ap not (and_true (within (nat_abs q.numerator)) (within (denominator q)) (within_true (nat_abs q.numerator) h.num_fits) (within_true (denominator q) h.den_fits))

module _ (p q : ℚ) where
  left : Bool
  left = within (nat_abs (left_term p q))

  right : Bool
  right = within (nat_abs (right_term p q))

  sum : Bool
  sum = within (nat_abs (left_term p q +ℤ right_term p q))

  bottom : Bool
  bottom = within (common_den p q)

  sum_true : SumRefused p q → sum_exceeds p q ≡ true
  unfolding left right sum bottom
  sum_true (inl h) = ap not (and_left (left && right && sum) bottom (and_left (left && right) sum (and_left left right (within_false (nat_abs (left_term p q)) h))))
  sum_true (inr (inl h)) = ap not (and_left (left && right && sum) bottom (and_left (left && right) sum (and_right left right (within_false (nat_abs (right_term p q)) h))))
  sum_true (inr (inr (inl h))) = ap not (and_left (left && right && sum) bottom (and_right (left && right) sum (within_false (nat_abs (left_term p q +ℤ right_term p q)) h)))
  sum_true (inr (inr (inr h))) = ap not (and_right (left && right && sum) bottom (within_false (common_den p q) h))

  sum_false : SumAccepted p q → sum_exceeds p q ≡ false
  unfolding left right sum bottom
  sum_false h =
      ap not (and_true (left && right && sum) bottom
      (and_true (left && right) sum (and_true left right (within_true (nat_abs (left_term p q)) h.left_fits) (within_true (nat_abs (right_term p q)) h.right_fits))
      (within_true (nat_abs (left_term p q +ℤ right_term p q)) h.sum_fits)) (within_true (common_den p q) h.den_fits))

-- ---- some member of a list passes, or none

any_true : (t : Monomial → Bool) (s : List Monomial) (m : Monomial) → Has m s → t m ≡ true → list_any t s ≡ true
any_true t [] m h e = absurd h
any_true t (n ∷ s) m (inl i) e = or_left (t n) (list_any t s) (ap t (sym i) ∙ e)
any_true t (n ∷ s) m (inr h) e = or_right (t n) (list_any t s) (any_true t s m h e)

any_false : (t : Monomial → Bool) (s : List Monomial) → ((m : Monomial) → Has m s → t m ≡ false) → list_any t s ≡ false
any_false t [] h = refl
any_false t (n ∷ s) h = neither (t n) (list_any t s) (h n (inl refl)) (any_false t s (λ m i. h m (inr i)))

-- ---- multiples

pub scale_refused : (k : ℚ) (f : Linear) (o : Operation) (p q : ℚ) → ScalePair k f o p q → Refuses o p q → multiple_exceeds k f ≡ true
scale_refused k f o p q (coefficient r (steps.MultiplePair.of_variable x h)) never =
    or_right (exceeds (k *ℚ f.constant)) (list_any (λ (m : Monomial). exceeds (k *ℚ m.factor)) f.products)
    (any_true (λ m. exceeds (k *ℚ m.factor)) f.products (record { variable = x; factor = r }) h (exceeds_true (k *ℚ r) never))
scale_refused k f o p q constant never =
    or_left (exceeds (k *ℚ f.constant)) (list_any (λ (m : Monomial). exceeds (k *ℚ m.factor)) f.products) (exceeds_true (k *ℚ f.constant) never)

pub scale_accepted : (k : ℚ) (f : Linear) → ((o : Operation) (p q : ℚ) → ScalePair k f o p q → Accepts o p q) → multiple_exceeds k f ≡ false
scale_accepted k f h =
    neither (exceeds (k *ℚ f.constant)) (list_any (λ (m : Monomial). exceeds (k *ℚ m.factor)) f.products)
    (exceeds_false (k *ℚ f.constant) (h Product k f.constant constant))
    (any_false (λ m. exceeds (k *ℚ m.factor)) f.products
    (λ m i. exceeds_false (k *ℚ m.factor) (h Product k m.factor (coefficient m.factor (steps.MultiplePair.of_variable m.variable i)))))

-- ---- sums

pub join_refused : (f g : Linear) (o : Operation) (p q : ℚ) → SumPair f g o p q → Refuses o p q → join_exceeds f g ≡ true
join_refused f g o p q (coefficients r s (steps.CommonPair.of_variable x h i)) never =
    or_right (sum_exceeds f.constant g.constant) (list_any (λ (m : Monomial). list_any (meets_exceeding m) g.products) f.products)
    (any_true (λ m. list_any (meets_exceeding m) g.products) f.products (record { variable = x; factor = r }) h
    (any_true (meets_exceeding (record { variable = x; factor = r })) g.products (record { variable = x; factor = s }) i
    (and_true (nat_eq x x) (sum_exceeds r s) (nat_eq-self x) (sum_true r s never))))
join_refused f g o p q constants never =
    or_left (sum_exceeds f.constant g.constant) (list_any (λ (m : Monomial). list_any (meets_exceeding m) g.products) f.products) (sum_true f.constant g.constant never)

pub join_accepted : (f g : Linear) → ((o : Operation) (p q : ℚ) → SumPair f g o p q → Accepts o p q) → join_exceeds f g ≡ false
join_accepted f g h =
    neither (sum_exceeds f.constant g.constant) (list_any (λ (m : Monomial). list_any (meets_exceeding m) g.products) f.products)
    (sum_false f.constant g.constant (h Sum f.constant g.constant constants))
    (any_false (λ m. list_any (meets_exceeding m) g.products) f.products (λ m i. any_false (meets_exceeding m) g.products (λ n j. by m n i j)))
  where
    by : (m n : Monomial) → Has m f.products → Has n g.products → meets_exceeding m n ≡ false
    by m n i j = go (nat_eq m.variable n.variable) refl
      where
        go : (x : Bool) → nat_eq m.variable n.variable ≡ x → (x && sum_exceeds m.factor n.factor) ≡ false
        go false e = refl
        go true e =
            let same : n.variable ≡ m.variable = sym (nat_eq-same m.variable n.variable e) in
            let k : Has (record { variable = m.variable; factor = n.factor }) g.products = subst (λ x. Has (record { variable = x; factor = n.factor }) g.products) same j in
            sum_false m.factor n.factor (h Sum m.factor n.factor (coefficients m.factor n.factor (steps.CommonPair.of_variable m.variable i k)))

-- ---- runs

found : (l : List Constraint) (k : ℕ) (c : Constraint) → k < length l → c ≡ get_or l k c → slice_get l k ≡ Some c
found [] k c h e = absurd (omega (arith, h))
found (d ∷ l) zero c h e = ap (λ x. Some x) (sym e)
found (d ∷ l) (suc k) c h e = found l k c (omega (arith, h)) e

-- the member with a number, from 1
pub member_is : (l : List Constraint) (n : ℕ) (c : Constraint) → 0 < n → n ≤ length l → c ≡ get_or l (n - 1) c → member l n ≡ Some c
member_is l zero c h k e = absurd (omega (arith, h))
member_is l (suc n) c h k e = let s : suc n - 1 ≡ n = omega arith in found l n c (omega (arith, k)) (e ∙ ap (λ i. get_or l i c) s)

-- what was added up of a run
pub record Weighs (l : List Constraint) (run rest : Run) (total : Linear) : Type 0 where
  pub wide : is_wide l run ≡ is_wide_behind l total rest
  pub sum : sum_of l run ≡ added l total rest
  pub members : are_members (length l) rest ≡ true

pub nothing_yet : (l : List Constraint) (run : Run) → are_members (length l) run ≡ true → Weighs l run run (constant_form 0ℚ)
nothing_yet l run h = record { wide = refl; sum = refl; members = h }

pub head_member : (l : List Constraint) (run tail : Run) (e : ℕ × ℚ) (total : Linear) → Weighs l run (e ∷ tail) total → (0 < e.0) × (e.0 ≤ length l)
head_member l run tail e total w =
    let k = both_are (nat_lt 0 e.0 && nat_le e.0 (length l)) (are_members (length l) tail) w.members in
    let m = both_are (nat_lt 0 e.0) (nat_le e.0 (length l)) k.0 in
    (true_le 1 e.0 m.0, true_le e.0 (length l) m.1)

multiple_is : (l : List Constraint) (e : ℕ × ℚ) (c : Constraint) → member l e.0 ≡ Some c → form_or_zero (member l e.0) ≡ c.form
multiple_is l e c h = ap form_or_zero h

pub next_multiple : (l : List Constraint) (run tail : Run) (e : ℕ × ℚ) (total more : Linear) (c : Constraint) → Weighs l run (e ∷ tail) total
    → c ≡ get_or l (e.0 - 1) c → more ≡ sum_form total (scaled_form e.1 c.form)
    → (multiple_exceeds e.1 c.form || join_exceeds total (scaled_form e.1 c.form)) ≡ false → Weighs l run tail more
next_multiple l run tail e total more c w at is none =
    let k = head_member l run tail e total w in
    let form : form_or_zero (member l e.0) ≡ c.form = multiple_is l e c (member_is l e.0 c k.0 k.1 at) in
    let same : sum_form total (multiple l e) ≡ more = ap (λ f. sum_form total (scaled_form e.1 f)) form ∙ sym is in
    record {
      wide = w.wide
          ∙ ap (λ x. x || is_wide_behind l (sum_form total (multiple l e)) tail)
          (ap (λ f. multiple_exceeds e.1 f || join_exceeds total (scaled_form e.1 f)) form ∙ none)
          ∙ ap (λ f. is_wide_behind l f tail) same;
      sum = w.sum ∙ ap (λ f. added l f tail) same;
      members = (both_are (nat_lt 0 e.0 && nat_le e.0 (length l)) (are_members (length l) tail) w.members).1;
    }

pub wide_there : (l : List Constraint) (run tail : Run) (e : ℕ × ℚ) (total : Linear) (c : Constraint) → Weighs l run (e ∷ tail) total
    → c ≡ get_or l (e.0 - 1) c → (multiple_exceeds e.1 c.form || join_exceeds total (scaled_form e.1 c.form)) ≡ true → is_wide l run ≡ true
wide_there l run tail e total c w at some =
    let k = head_member l run tail e total w in
    let form : form_or_zero (member l e.0) ≡ c.form = multiple_is l e c (member_is l e.0 c k.0 k.1 at) in
    w.wide
    ∙ or_left (multiple_exceeds e.1 (form_or_zero (member l e.0)) || join_exceeds total (multiple l e)) (is_wide_behind l (sum_form total (multiple l e)) tail)
    (ap (λ f. multiple_exceeds e.1 f || join_exceeds total (scaled_form e.1 f)) form ∙ some)

-- ---- as the loop finds the next entry

module _ (l : List Constraint) (run rest tail : Run) (e : ℕ × ℚ) (total : Linear) (w : Weighs l run rest total) (split : rest ≡ e ∷ tail) where
  here : Weighs l run (e ∷ tail) total
  here = subst (λ r. Weighs l run r total) split w

  pub entry_there : (0 < e.0) × (e.0 ≤ length l)
  entry_there = head_member l run tail e total here

  pub weighed_next : (more : Linear) (c : Constraint) → c ≡ get_or l (e.0 - 1) c → more ≡ sum_form total (scaled_form e.1 c.form)
      → (multiple_exceeds e.1 c.form || join_exceeds total (scaled_form e.1 c.form)) ≡ false → Weighs l run tail more
  weighed_next more c at is none = next_multiple l run tail e total more c here at is none

  pub weighed_wide : (c : Constraint) → c ≡ get_or l (e.0 - 1) c → (multiple_exceeds e.1 c.form || join_exceeds total (scaled_form e.1 c.form)) ≡ true → is_wide l run ≡ true
  weighed_wide c at some = wide_there l run tail e total c here at some
