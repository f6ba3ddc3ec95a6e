-- A told constraint holds where its term is true, a false term is true nowhere, and what has no variable to wait for doesn't wait.
use Rattle.std.proofs.Common.{◌≡◌, ◌↔◌, ◌⊎◌, ◌<◌, ℕ, zero, suc, pos, arith, List, [], ◌∷◌, length, get_or, Contains, filter, is_none, Bool, true, false, cond, Option, None, Some, refl, sym, ap, ◌∙◌, subst, inl, inr, ◌||◌, ◌&&◌}
use Rattle.std.specs.Prelude.{codes, bytes_eq}
use Rattle.spec_numbers.specs.Rational.{ℚ, 0ℚ, ◌-ℚ◌, ◌+ℚ◌, ◌/ℚ◌, IsPositive, IsNotNegative}
use Rattle.spec_numbers.proofs.Ring.{var, int, ◌⊕◌, minus}
use Rattle.spec_numbers.proofs.RationalLemmas.{ring}
use Rattle.spec_linear.specs.Form.{Linear, value_at, is_zero, is_constant, constant_form, difference_form}
use Rattle.spec_linear.specs.Solution.{Constraint, Point, number, Solves, HoldsAt}
use Rattle.spec_linear.proofs.Values.{value_at-difference_form, is_zero-true, is_zero-of}
use Rattle.spec_linear.proofs.Points.{holds_same}
use Rattle.spec_numbers.specs.Texts.{Text}
use Rattle.spec_numbers.proofs.Tests.{both_are, one_is}
use Rattle.spec_terms.specs.Term.{Var, Number, Name, Compound, one, more}
use Rattle.spec_terms.specs.Variables.{variables}
use Rattle.spec_terms.proofs.Listed.{occurs_listed}
use Rattle.spec_syntax.specs.Trees.{Tree, binary}
use Rattle.spec_branch.specs.Expressions.{UnaryName, unary_name, BinaryName, Over, binary_name, number_of, form_of, has_zero_divisor, is_zero_form}
use Rattle.spec_branch.specs.Relations.{Is, False, lin, related, related_forms, relation_name, RelationName, Equals, Differs, Greater, GreaterOrEqual, Lesser, LesserOrEqual, waits_for, IsLin}
use Rattle.spec_branch.specs.Values.{unary_at, binary_at, value_of, Stand, SidesStand, IsTrueAt, Agrees}
use Rattle.spec_branch.proofs.Kept.{value_of_number}
use Rattle.spec_branch.proofs.AtPoints.{agrees}
use Rattle.spec_branch.proofs.Stable.{is_over, no_zero}
use Rattle.spec_branch.proofs.FormValues.{form_value, fixed_worth, AllFixed}

-- ---- relations

same_gap : (p q : ℚ) → p ≡ q → p -ℚ q ≡ 0ℚ
same_gap p q e = ap (λ (x : ℚ). x -ℚ q) e ∙ ring (q ∷ []) (var 0 ⊕ minus (var 0)) (int (pos 0)) refl

gap_same : (p q : ℚ) → p -ℚ q ≡ 0ℚ → p ≡ q
gap_same p q e =
    ring (p ∷ q ∷ []) (var 0) ((var 0 ⊕ minus (var 1)) ⊕ var 1) refl
    ∙ ap (λ (x : ℚ). x +ℚ q) e
    ∙ ring (q ∷ []) (int (pos 0) ⊕ var 0) (var 0) refl

-- the value of a constraint's form stands to zero as the sides' values to one another
stand_meets : (r : RelationName) (f g : Linear) (a : ℕ → ℚ)
    → Stand r (value_at a f) (value_at a g) ↔ HoldsAt a (related r f g)
stand_meets r f g a = go r
  where
    left : value_at a (difference_form f g) ≡ value_at a f -ℚ value_at a g
    left = value_at-difference_form a f g

    right : value_at a (difference_form g f) ≡ value_at a g -ℚ value_at a f
    right = value_at-difference_form a g f

    go : (r : RelationName) → Stand r (value_at a f) (value_at a g) ↔ HoldsAt a (related r f g)
    go Equals = (
      λ e. left ∙ same_gap (value_at a f) (value_at a g) e,
      λ e. gap_same (value_at a f) (value_at a g) (sym left ∙ e),
    )
    go Differs = (
      λ n e. n (gap_same (value_at a f) (value_at a g) (sym left ∙ e)),
      λ n e. n (left ∙ same_gap (value_at a f) (value_at a g) e),
    )
    go Greater = (λ h. subst IsPositive (sym left) h.gap, λ h. record { gap = subst IsPositive left h })
    go GreaterOrEqual = (λ h. subst IsNotNegative (sym left) h.gap, λ h. record { gap = subst IsNotNegative left h })
    go Lesser = (λ h. subst IsPositive (sym right) h.gap, λ h. record { gap = subst IsPositive right h })
    go LesserOrEqual = (λ h. subst IsNotNegative (sym right) h.gap, λ h. record { gap = subst IsNotNegative right h })

-- ---- what has a zero divisor has no value

unary_none : (n : Option UnaryName) (v : Option ℚ) → v ≡ None → unary_at n v ≡ None
unary_none None v e = refl
unary_none (Some n) v e = ap (unary_at (Some n)) e

binary_none : (n : Option BinaryName) (v w : Option ℚ) → (v ≡ None) ⊎ (w ≡ None) → binary_at n v w ≡ None
binary_none None v w h = refl
binary_none (Some n) None w h = refl
binary_none (Some n) (Some p) None h = refl
binary_none (Some n) (Some p) (Some q) h = elim h [ inl e ↦ cc | inr e ↦ cc ]

over_zero : (v w : Option ℚ) → w ≡ Some 0ℚ → binary_at (Some Over) v w ≡ None
over_zero None w e = refl
over_zero (Some p) w e = ap (binary_at (Some Over) (Some p)) e ∙ ap (λ (b : Bool). cond b None (Some (p /ℚ 0ℚ))) (is_zero-of 0ℚ refl)

zero_is : (o : Option Linear) → is_zero_form o ≡ true → (f : Linear) × (o ≡ Some f) × (number_of f ≡ Some 0ℚ)
zero_is None e = cc
zero_is (Some f) e =
    let h = both_are (is_constant f) (is_zero f.constant) e in
    (f, refl, ap (λ (b : Bool). cond b (Some f.constant) None) h.0 ∙ ap (λ (q : ℚ). Some q) (is_zero-true f.constant h.1))

module _ (fixed : ℕ → Option ℚ) (a : ℕ → ℚ) (h : Agrees fixed a) where
  zero_value : (t : Tree) → is_zero_form (form_of fixed t) ≡ true → value_of a t ≡ Some 0ℚ
  zero_value t e =
      let z : (f : Linear) × (form_of fixed t ≡ Some f) × (number_of f ≡ Some 0ℚ) = zero_is (form_of fixed t) e in
      form_value a fixed h t z.0 z.1 ∙ ap (λ (q : ℚ). Some q) (value_of_number a z.0 0ℚ z.2)

  pub no_value : (t : Tree) → has_zero_divisor fixed t ≡ true → value_of a t ≡ None
  no_value (Var x) e = cc
  no_value (Number q) e = cc
  no_value (Name n) e = cc
  no_value (Compound f (one t)) e = unary_none (unary_name f) (value_of a t) (no_value t e)
  no_value (Compound f (more t (one u))) e =
      elim (one_is (has_zero_divisor fixed t || has_zero_divisor fixed u) (bytes_eq f (codes "/") && is_zero_form (form_of fixed u)) e) [
        | inl d ↦ elim (one_is (has_zero_divisor fixed t) (has_zero_divisor fixed u) d) [
          | inl k ↦ binary_none (binary_name f) (value_of a t) (value_of a u) (inl (no_value t k))
          | inr k ↦ binary_none (binary_name f) (value_of a t) (value_of a u) (inr (no_value u k))
        ]
        | inr d ↦ by_divisor (both_are (bytes_eq f (codes "/")) (is_zero_form (form_of fixed u)) d)
      ]
    where
      by_divisor : (bytes_eq f (codes "/") ≡ true) × (is_zero_form (form_of fixed u) ≡ true)
          → binary_at (binary_name f) (value_of a t) (value_of a u) ≡ None
      by_divisor k = ap (λ (n : Option BinaryName). binary_at n (value_of a t) (value_of a u)) (is_over f k.0) ∙ over_zero (value_of a t) (value_of a u) (zero_value u k.1)
  no_value (Compound f (more t (more u us))) e = cc

  no_stand : (m : Option RelationName) (v w : Option ℚ) → (v ≡ None) ⊎ (w ≡ None) → SidesStand m v w → ⊥
  no_stand None v w k s = s
  no_stand (Some r) None w k s = s
  no_stand (Some r) (Some p) None k s = s
  no_stand (Some r) (Some p) (Some q) k s = elim k [ inl e ↦ cc | inr e ↦ cc ]

  -- ---- told constraints

  stands_same : (m : Option RelationName) (t u : Tree) (o p : Option Linear) (c : Constraint) → form_of fixed t ≡ o
      → form_of fixed u ≡ p → related_forms m o p ≡ Is c
      → HoldsAt a c ↔ SidesStand m (value_of a t) (value_of a u)
  stands_same None t u o p c d e k = cc
  stands_same (Some r) t u None p c d e k = cc
  stands_same (Some r) t u (Some f) None c d e k = cc
  stands_same (Some r) t u (Some f) (Some g) c d e k =
      let s : related r f g ≡ c = cc in
      subst (λ (x : Constraint). HoldsAt a x ↔ SidesStand (Some r) (value_of a t) (value_of a u)) s (
      subst (λ (v : Option ℚ). HoldsAt a (related r f g) ↔ SidesStand (Some r) v (value_of a u)) (sym (form_value a fixed h t f d)) (
      subst (λ (v : Option ℚ). HoldsAt a (related r f g) ↔ SidesStand (Some r) (Some (value_at a f)) v) (sym (form_value a fixed h u g e)) (
        (stand_meets r f g a).1,
        (stand_meets r f g a).0,
      )))

  pub linear_holds : (t : Tree) (c : Constraint) → lin fixed t ≡ Is c → HoldsAt a c ↔ IsTrueAt a t
  linear_holds (Var x) c e = cc
  linear_holds (Number q) c e = cc
  linear_holds (Name n) c e = cc
  linear_holds (Compound f (one t)) c e = cc
  linear_holds (Compound r (more t (one u))) c e = go (has_zero_divisor fixed t || has_zero_divisor fixed u) e
    where
      go : (b : Bool) → cond b False (related_forms (relation_name r) (form_of fixed t) (form_of fixed u)) ≡ Is c
          → HoldsAt a c ↔ SidesStand (relation_name r) (value_of a t) (value_of a u)
      go true k = cc
      go false k = stands_same (relation_name r) t u (form_of fixed t) (form_of fixed u) c refl refl k
  linear_holds (Compound f (more t (more u us))) c e = cc

  not_false : (m : Option RelationName) (o p : Option Linear) → related_forms m o p ≡ False → ⊥
  not_false None o p e = cc
  not_false (Some r) None p e = cc
  not_false (Some r) (Some f) None e = cc
  not_false (Some r) (Some f) (Some g) e = cc

  pub false_nowhere : (t : Tree) → lin fixed t ≡ False → IsTrueAt a t → ⊥
  false_nowhere (Var x) e s = s
  false_nowhere (Number q) e s = s
  false_nowhere (Name n) e s = s
  false_nowhere (Compound f (one t)) e s = s
  false_nowhere (Compound r (more t (one u))) e s =
      go (has_zero_divisor fixed t || has_zero_divisor fixed u) refl e
    where
      go : (b : Bool) → (has_zero_divisor fixed t || has_zero_divisor fixed u) ≡ b
          → cond b False (related_forms (relation_name r) (form_of fixed t) (form_of fixed u)) ≡ False → ⊥
      go false d k = not_false (relation_name r) (form_of fixed t) (form_of fixed u) k
      go true d k = no_stand (relation_name r) (value_of a t) (value_of a u) (
          elim (one_is (has_zero_divisor fixed t) (has_zero_divisor fixed u) d) [
            | inl z ↦ inl (no_value t z)
            | inr z ↦ inr (no_value u z)
          ]) s
  false_nowhere (Compound f (more t (more u us))) e s = s

  -- ---- nothing waits for no variable

  filtered_out : (xs : List ℕ) (k x : ℕ) → filter (λ (y : ℕ). is_none (fixed y)) xs ≡ [] → k < length xs
      → get_or xs k x ≡ x → is_none (fixed x) ≡ false
  filtered_out [] k x e l g = absurd (omega arith)
  filtered_out (y ∷ ys) k x e l g = go (is_none (fixed y)) refl e k l g (λ j d m n. filtered_out ys j x d m n)
    where
      go : (b : Bool) → is_none (fixed y) ≡ b
          → cond b (y ∷ filter (λ (z : ℕ). is_none (fixed z)) ys) (filter (λ (z : ℕ). is_none (fixed z)) ys) ≡ []
          → (k : ℕ) → k < length (y ∷ ys) → get_or (y ∷ ys) k x ≡ x
          → ((j : ℕ) → filter (λ (z : ℕ). is_none (fixed z)) ys ≡ [] → j < length ys → get_or ys j x ≡ x → is_none (fixed x) ≡ false)
          → is_none (fixed x) ≡ false
      go true d e k l g next = cc
      go false d e zero l g next = ap (λ (z : ℕ). is_none (fixed z)) (sym g) ∙ d
      go false d e (suc k) l g next = next k e (omega arith) g

  some_of : (o : Option ℚ) → is_none o ≡ false → (q : ℚ) × (o ≡ Some q)
  some_of None e = cc
  some_of (Some q) e = (q, refl)

  all_fixed : (t : Tree) → waits_for fixed t ≡ [] → AllFixed fixed a h t
  all_fixed t e x o =
      let c : Contains (variables t) x = occurs_listed t x o in
      some_of (fixed x) (filtered_out (variables t) c.0 x e c.1 c.2)

  pub expression_worth : (t : Tree) (q : ℚ) → waits_for fixed t ≡ [] → value_of a t ≡ Some q
      → form_of fixed t ≡ Some (constant_form q)
  expression_worth t q e v = fixed_worth fixed a h t (all_fixed t e) q v

  pub relation_worth : (r : Text) (n : RelationName) (t u : Tree) (p q : ℚ) → relation_name r ≡ Some n
      → waits_for fixed (binary r t u) ≡ [] → value_of a t ≡ Some p → value_of a u ≡ Some q
      → lin fixed (binary r t u) ≡ Is (related n (constant_form p) (constant_form q))
  relation_worth r n t u p q m e v w =
      let all : AllFixed fixed a h (binary r t u) = all_fixed (binary r t u) e in
      let f : form_of fixed t ≡ Some (constant_form p) = fixed_worth fixed a h t (λ x o. all x (inl o)) p v in
      let g : form_of fixed u ≡ Some (constant_form q) = fixed_worth fixed a h u (λ x o. all x (inr o)) q w in
      let z : (has_zero_divisor fixed t || has_zero_divisor fixed u) ≡ false = λ i. no_zero fixed t (constant_form p) f i || no_zero fixed u (constant_form q) g i in
      ap (λ (b : Bool). cond b False (related_forms (relation_name r) (form_of fixed t) (form_of fixed u))) z ∙ (λ i. related_forms (m i) (f i) (g i))

-- ---- over a list

-- a constraint that joins a list adds that its term is true
pub joins_as_truth : (l : List Constraint) (t : Tree) (c : Constraint) → IsLin l t (Is c) → (p : Point)
    → Solves p (c ∷ l) ↔ (IsTrueAt (number p) t × Solves p l)
joins_as_truth l t c is p = (
  λ s. ((same s.1).0 ((holds_same p c).0 s.0), s.1),
  λ s. ((holds_same p c).1 ((same s.1).1 s.0), s.1),
)
  where
    same : Solves p l → HoldsAt (number p) c ↔ IsTrueAt (number p) t
    same s = linear_holds is.fixed (number p) (agrees l is.fixed is.fixes p s) t c is.is

pub false_over : (l : List Constraint) (t : Tree) → IsLin l t False → (p : Point) → Solves p l
    → IsTrueAt (number p) t → ⊥
false_over l t is p s = false_nowhere is.fixed (number p) (agrees l is.fixed is.fixes p s) t is.is
