-- Products in the order of distinct variables compared along that order.
use Rattle.std.proofs.Common.{◌≡◌, ◌≢◌, ◌⊎◌, inl, inr, ℕ, zero, suc, ◌+◌, ◌<◌, ◌≤◌, List, [], ◌∷◌, length, drop, get_or, arith, Bool, true, false, pos, refl, ap, ap₂, sym, subst, ◌∙◌}
use Rattle.std.specs.Prelude.{nat_eq}
use Rattle.std.proofs.lemmas.List.{drop_more, drop_all}
use Rattle.std.specs.List.{AllByRecursion}
use Rattle.spec_numbers.specs.Rational.{ℚ, 0ℚ, ◌+ℚ◌, ◌<ℚ◌}
use Rattle.spec_numbers.specs.Sums.{Monomial, Mentions, factor_of, when}
use Rattle.spec_numbers.proofs.Ring.{var, int, ◌⊕◌}
use Rattle.spec_numbers.proofs.RationalLemmas.{ring}
use Rattle.spec_linear.specs.Solution.{Has}
use Rattle.spec_linear.proofs.Ordered.{product_same, factor_of-rest}
use Rattle.spec_numbers.proofs.Tests.{nat_eq-same, nat_eq-self}
use Rattle.spec_linear.specs.Echelon.{AreDistinct, InOrder, variables}
use Rattle.spec_linear.proofs.Orders.{in_order-has, mentions-has}
use Rattle.spec_projection.proofs.Mentions.{unmentioned_factor}
use Rattle.spec_answers.specs.Forms.{Before}
use Rattle.cq_frac.specs.declared.VarId.{VarId}
use Rattle.cq_equations.specs.Told.{numbers_of}
use Rattle.cq_elimination.specs.Lines.{monomials_of}
use Rattle.cq_elimination.specs.Arranging.{IsPlaced, first_factor}

-- all but the first
abbrev pub behind_first : {A : Type 0} → List A → List A
behind_first [] = []
behind_first (x ∷ s) = s

pub apart : (b : Bool) → b ≡ true → b ≡ false → ⊥
apart b t f = let d : true ≡ false = sym t ∙ f in cc

-- ---- the factor of the first variable of the order
module _ (x : ℕ) (rest : List ℕ) (distinct : AreDistinct (x ∷ rest)) where
  -- products of the rest of the order lack the first variable
  pub lacks : (s : List Monomial) → InOrder rest (variables s) → Mentions x s → ⊥
  lacks s o m = distinct.0 (in_order-has rest (variables s) o x (mentions-has x s m))

  nowhere : (s : List Monomial) → InOrder rest (variables s) → factor_of x s ≡ 0ℚ
  nowhere s o = unmentioned_factor x s (lacks s o)

  other_first : (m : Monomial) (s : List Monomial) → x ≢ m.variable → first_factor x (m ∷ s) ≡ 0ℚ
  other_first m s n = go (nat_eq x m.variable) refl
    where
      go : (b : Bool) → nat_eq x m.variable ≡ b → when b m.factor ≡ 0ℚ
      go true e = absurd (n (nat_eq-same x m.variable e))
      go false e = refl

  own_first : (m : Monomial) (s : List Monomial) → x ≡ m.variable → first_factor x (m ∷ s) ≡ m.factor
  own_first m s e = ap (λ b. when b m.factor) (ap (nat_eq x) (sym e) ∙ nat_eq-self x)

  pub first_is : (s : List Monomial) → InOrder (x ∷ rest) (variables s) → first_factor x s ≡ factor_of x s
  first_is [] o = refl
  first_is (m ∷ s) (inl o) = ring (first_factor x (m ∷ s) ∷ []) (var 0) (var 0 ⊕ int (pos 0)) refl ∙ ap (λ w. first_factor x (m ∷ s) +ℚ w) (sym (nowhere s o.1))
  first_is (m ∷ s) (inr o) = other_first m s (λ e. lacks (m ∷ s) o (inl e)) ∙ sym (nowhere (m ∷ s) o)

  -- where it is zero, the products are of the rest
  pub zero_behind : (s : List Monomial) → IsPlaced (x ∷ rest) s → first_factor x s ≡ 0ℚ → IsPlaced rest s
  zero_behind s p z = record { ordered = go s p.ordered p.nonzero z; nonzero = p.nonzero }
    where
      go : (s : List Monomial) → InOrder (x ∷ rest) (variables s) → AllByRecursion (λ m. m.factor ≢ 0ℚ) s → first_factor x s ≡ 0ℚ → InOrder rest (variables s)
      go [] o n z = tt
      go (m ∷ s) (inl o) n z = absurd (n.0 (sym (own_first m s (sym o.0)) ∙ z))
      go (m ∷ s) (inr o) n z = o

  -- and else all but the first are
  pub record Leads (s : List Monomial) : Type 0 where
    pub head : Monomial
    pub is : s ≡ head ∷ behind_first s
    pub own : head.variable ≡ x
    pub factor : first_factor x s ≡ head.factor
    pub placed : IsPlaced rest (behind_first s)

  pub leads : (s : List Monomial) → IsPlaced (x ∷ rest) s → first_factor x s ≢ 0ℚ → Leads s
  leads s p n = go s p.ordered p.nonzero n
    where
      go : (s : List Monomial) → InOrder (x ∷ rest) (variables s) → AllByRecursion (λ m. m.factor ≢ 0ℚ) s → first_factor x s ≢ 0ℚ → Leads s
      go [] o h n = absurd (n refl)
      go (m ∷ s) (inl o) h n = record { head = m; is = refl; own = o.0; factor = own_first m s (sym o.0); placed = record { ordered = o.1; nonzero = h.1 } }
      go (m ∷ s) (inr o) h n = absurd (n (other_first m s (λ e. lacks (m ∷ s) o (inl e))))

  -- a product of the first variable on each side leaves the comparison along the rest as it is
  pub before_behind : (order : List ℕ) (m n : Monomial) (s t : List Monomial) → (Has x order → ⊥) → m.variable ≡ x → n.variable ≡ x
      → Before order s t ⊥ → Before order (m ∷ s) (n ∷ t) ⊥
  before_behind [] m n s t d e f h = h
  before_behind (y ∷ order) m n s t d e f h = go h (λ k. before_behind order m n s t (λ w. d (inr w)) e f k)
    where
      own : factor_of y (m ∷ s) ≡ factor_of y s
      own = factor_of-rest y m s (λ w. d (inl (sym (w ∙ e))))

      other : factor_of y (n ∷ t) ≡ factor_of y t
      other = factor_of-rest y n t (λ w. d (inl (sym (w ∙ f))))

      go : (factor_of y t <ℚ factor_of y s) ⊎ ((factor_of y s ≡ factor_of y t) × Before order s t ⊥) → (Before order s t ⊥ → Before order (m ∷ s) (n ∷ t) ⊥)
          → Before (y ∷ order) (m ∷ s) (n ∷ t) ⊥
      go (inl l) rest = inl (subst (λ w. w <ℚ factor_of y (m ∷ s)) (sym other) (subst (λ w. factor_of y t <ℚ w) (sym own) l))
      go (inr r) rest = inr (own ∙ r.0 ∙ sym other, rest r.1)

-- ---- two rows of products, of which those of variables that have passed are the same
pub record Compares (order : List ℕ) (s t : List Monomial) (left : List ℕ) (u v : List Monomial) : Type 0 where
  pub distinct : AreDistinct left
  pub placed : IsPlaced left u
  pub other_placed : IsPlaced left v
  pub before : Before left u v ⊥ → Before order s t ⊥
  pub behind : Before left v u ⊥ → Before order t s ⊥
  pub same : u ≡ v → s ≡ t

no_products : (s : List Monomial) → InOrder [] (variables s) → s ≡ []
no_products [] o = refl
no_products (m ∷ s) o = absurd o

pub compares_end : (order : List ℕ) (s t u v : List Monomial) → Compares order s t [] u v → s ≡ t
compares_end order s t u v c = c.same (no_products u c.placed.ordered ∙ sym (no_products v c.other_placed.ordered))

module _ (order : List ℕ) (s t : List Monomial) (x : ℕ) (rest : List ℕ) (u v : List Monomial) (c : Compares order s t (x ∷ rest) u v) where
  pub greater_first : first_factor x v <ℚ first_factor x u → Before order s t ⊥
  greater_first h =
      c.before (inl (subst (λ w. w <ℚ factor_of x u) (first_is x rest c.distinct v c.other_placed.ordered)
      (subst (λ w. first_factor x v <ℚ w) (first_is x rest c.distinct u c.placed.ordered) h)))

  pub lesser_behind : first_factor x u <ℚ first_factor x v → Before order t s ⊥
  lesser_behind h =
      c.behind (inl (subst (λ w. w <ℚ factor_of x v) (first_is x rest c.distinct u c.placed.ordered)
      (subst (λ w. first_factor x u <ℚ w) (first_is x rest c.distinct v c.other_placed.ordered) h)))

  one_factor : first_factor x u ≡ first_factor x v → factor_of x u ≡ factor_of x v
  one_factor e = sym (first_is x rest c.distinct u c.placed.ordered) ∙ e ∙ first_is x rest c.distinct v c.other_placed.ordered

  pub both_zero : first_factor x u ≡ first_factor x v → first_factor x u ≡ 0ℚ → Compares order s t rest u v
  both_zero e z = record {
    distinct = c.distinct.1;
    placed = zero_behind x rest c.distinct u c.placed z;
    other_placed = zero_behind x rest c.distinct v c.other_placed (sym e ∙ z);
    before = λ h. c.before (inr (one_factor e, h));
    behind = λ h. c.behind (inr (sym (one_factor e), h));
    same = c.same;
  }

  pub both_lead : first_factor x u ≡ first_factor x v → first_factor x u ≢ 0ℚ → Compares order s t rest (behind_first u) (behind_first v)
  both_lead e n =
      let a = leads x rest c.distinct u c.placed n in
      let b = leads x rest c.distinct v c.other_placed (λ z. n (e ∙ z)) in
      let heads : a.head ≡ b.head = product_same a.head b.head (a.own ∙ sym b.own) (sym a.factor ∙ e ∙ b.factor) in
      record {
        distinct = c.distinct.1;
        placed = a.placed;
        other_placed = b.placed;
        before = λ h. c.before (inr (
          one_factor e,
          subst (λ w. Before rest w v ⊥) (sym a.is) (subst (λ w. Before rest (a.head ∷ behind_first u) w ⊥) (sym b.is)
              (before_behind x rest c.distinct rest a.head b.head (behind_first u) (behind_first v) c.distinct.0 a.own b.own h)),
        ));
        behind = λ h. c.behind (inr (
          sym (one_factor e),
          subst (λ w. Before rest w u ⊥) (sym b.is) (subst (λ w. Before rest (b.head ∷ behind_first v) w ⊥) (sym a.is)
              (before_behind x rest c.distinct rest b.head a.head (behind_first v) (behind_first u) c.distinct.0 b.own a.own h)),
        ));
        same = λ w. c.same (a.is ∙ ap₂ (λ (p : Monomial) r. p ∷ r) heads w ∙ sym b.is);
      }

-- what stands behind the next item
behind_next : (s : List (VarId × ℚ)) (i : ℕ) → behind_first (monomials_of (drop i s)) ≡ monomials_of (drop (suc i) s)
behind_next [] zero = refl
behind_next [] (suc i) = refl
behind_next (p ∷ s) zero = refl
behind_next (p ∷ s) (suc i) = behind_next s i

behind_mapped : (s : List (VarId × ℚ)) (i : ℕ) → behind_first (monomials_of (drop i s)) ≡ monomials_of (drop (i + 1) s)
behind_mapped s i = let one : suc i ≡ i + 1 = omega arith in behind_next s i ∙ ap (λ n. monomials_of (drop n s)) one

-- ---- one step along the order
module _ (vars : List VarId) (s t : List (VarId × ℚ)) (k i : ℕ) (x : VarId) (within : k < length vars) (at : x ≡ get_or vars k x)
    (c : Compares (numbers_of vars) (monomials_of s) (monomials_of t) (numbers_of (drop k vars)) (monomials_of (drop i s)) (monomials_of (drop i t))) where
  abbrev rest : List ℕ
  rest = numbers_of (drop (k + 1) vars)

  here : Compares (numbers_of vars) (monomials_of s) (monomials_of t) (x.0 ∷ rest) (monomials_of (drop i s)) (monomials_of (drop i t))
  here =
      subst (λ left. Compares (numbers_of vars) (monomials_of s) (monomials_of t) (numbers_of left) (monomials_of (drop i s)) (monomials_of (drop i t)))
      (drop_more vars k x within ∙ ap (λ (y : VarId). y ∷ drop (k + 1) vars) (sym at)) c

  module _ (a b : ℚ) (own : a ≡ first_factor x.0 (monomials_of (drop i s))) (other : b ≡ first_factor x.0 (monomials_of (drop i t))) where
    pub comes_first : b <ℚ a → Before (numbers_of vars) (monomials_of s) (monomials_of t) ⊥
    comes_first h =
        greater_first (numbers_of vars) (monomials_of s) (monomials_of t) x.0 rest (monomials_of (drop i s)) (monomials_of (drop i t)) here
        (subst (λ w. w <ℚ first_factor x.0 (monomials_of (drop i s))) other (subst (λ w. b <ℚ w) own h))

    pub comes_behind : a <ℚ b → Before (numbers_of vars) (monomials_of t) (monomials_of s) ⊥
    comes_behind h =
        lesser_behind (numbers_of vars) (monomials_of s) (monomials_of t) x.0 rest (monomials_of (drop i s)) (monomials_of (drop i t)) here
        (subst (λ w. w <ℚ first_factor x.0 (monomials_of (drop i t))) own (subst (λ w. a <ℚ w) other h))

    pub both_without : a ≡ b → a ≡ 0ℚ
        → Compares (numbers_of vars) (monomials_of s) (monomials_of t) rest (monomials_of (drop i s)) (monomials_of (drop i t))
    both_without e z =
        both_zero (numbers_of vars) (monomials_of s) (monomials_of t) x.0 rest (monomials_of (drop i s)) (monomials_of (drop i t)) here (sym own ∙ e ∙ other) (sym own ∙ z)

    pub both_with : a ≡ b → a ≢ 0ℚ
        → Compares (numbers_of vars) (monomials_of s) (monomials_of t) rest (monomials_of (drop (i + 1) s)) (monomials_of (drop (i + 1) t))
    both_with e n =
        subst (λ u. Compares (numbers_of vars) (monomials_of s) (monomials_of t) rest u (monomials_of (drop (i + 1) t))) (behind_mapped s i)
        (subst (λ v. Compares (numbers_of vars) (monomials_of s) (monomials_of t) rest (behind_first (monomials_of (drop i s))) v) (behind_mapped t i)
        (both_lead (numbers_of vars) (monomials_of s) (monomials_of t) x.0 rest (monomials_of (drop i s)) (monomials_of (drop i t)) here (sym own ∙ e ∙ other)
        (λ z. n (own ∙ z))))

-- all of the order has passed
pub all_same : (vars : List VarId) (s t : List (VarId × ℚ)) (k i : ℕ) → length vars ≤ k
    → Compares (numbers_of vars) (monomials_of s) (monomials_of t) (numbers_of (drop k vars)) (monomials_of (drop i s)) (monomials_of (drop i t)) → monomials_of s ≡ monomials_of t
all_same vars s t k i h c =
    compares_end (numbers_of vars) (monomials_of s) (monomials_of t) (monomials_of (drop i s)) (monomials_of (drop i t))
    (subst (λ left. Compares (numbers_of vars) (monomials_of s) (monomials_of t) (numbers_of left) (monomials_of (drop i s)) (monomials_of (drop i t))) (drop_all k vars h) c)
