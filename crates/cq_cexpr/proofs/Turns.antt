-- Forms joined to a first one in turn, and slots that have their factors.
use Rattle.std.proofs.Common.{◌≡◌, ℕ, zero, suc, ◌+◌, ◌<◌, List, [], ◌∷◌, ◌++◌, length, take, get_or, Option, Some, inl, inr, pos, arith, refl, ap, ap₂, sym, subst, ◌∙◌}
use Rattle.spec_numbers.specs.Rational.{ℚ, 0ℚ, ◌+ℚ◌}
use Rattle.spec_numbers.specs.Sums as sums
use Rattle.spec_numbers.specs.Sums.{Monomial, unit, factor_of, negated_products}
use Rattle.spec_numbers.proofs.Ring.{var, int, ◌⊕◌}
use Rattle.spec_numbers.proofs.RationalLemmas.{ring}
use Rattle.spec_numbers.proofs.Sums.{factor_of-is, sum_at-negated_products}
use Rattle.spec_linear.specs.Form.{Linear, IsForm, without_zeros}
use Rattle.spec_linear.specs.Solution.{Has}
use Rattle.spec_linear.proofs.Values.{sum_at-sum_products, sum_at-without_zeros}
use Rattle.spec_linear.proofs.Ordered.{products_same, form_same}
use Rattle.spec_simplex.specs.Overflow.{Operands, on, coefficients, constants}
use Rattle.spec_numbers.proofs.Places.{take-next}
use Rattle.spec_branch.specs.Expressions.{BinaryName, binary_of}
use Rattle.spec_transcript.specs.Operands.{binary_operands}
use Rattle.cq_frac.specs.Refused.{Tells}
use Rattle.cq_frac.specs.declared.Pair.{Pair}
use Rattle.cq_frac.specs.declared.row.Entry.{Entry}
use Rattle.cq_frac.specs.declared.row.Joining.{Joining}
use Rattle.cq_frac.specs.declared.row.Joining.TheVariants.{Plus, Less}
use Rattle.cq_frac.specs.Rows.{sum_at, joined, operation_of}
use Rattle.cq_form.specs.Entries.{products_of, form_of}
use Rattle.cq_form.specs.Steps.{joined_products, joined_form}
use Rattle.cq_form.proofs.Forms.{joined_in_order, joined_form_is}
use Rattle.cq_cexpr.specs.Names.{name_of}
use Rattle.cq_cexpr.specs.Overflows.{Within, ComesFrom}
use Rattle.cq_cexpr.specs.Slots.{IsRisingFrom, IsMet}
use Rattle.cq_cexpr.specs.Sums.{all_joined, joining_operands, whole_of, due_in}
use Rattle.cq_cexpr.specs.declared.sums.Sum.{Sum}
use Rattle.cq_cexpr.proofs.Overflowing.{is_joining, comes_within}
use Rattle.cq_cexpr.proofs.Places.{kept_in_order, sum_of}

-- ---- one more

pub all_joined-end : (f : Linear) (s : List (Joining × Linear)) (t : Joining × Linear) → all_joined f (s ++ t ∷ []) ≡ joined_form t.0 (all_joined f s) t.1
all_joined-end f [] t = refl
all_joined-end f (u ∷ s) t = all_joined-end (joined_form u.0 f u.1) s t

pub joining_operands-end : (f : Linear) (s : List (Joining × Linear)) (t : Joining × Linear)
    → joining_operands f (s ++ t ∷ []) ≡ joining_operands f s ++ on (operation_of t.0) (all_joined f s) t.1 ∷ []
joining_operands-end f [] t = refl
joining_operands-end f (u ∷ s) t = ap (λ o. on (operation_of u.0) f u.1 ∷ o) (joining_operands-end (joined_form u.0 f u.1) s t)

-- the operation on those so far is one of all
pub joins_at : (f : Linear) (s : List (Joining × Linear)) (i : ℕ) (t : Joining × Linear) → i < length s → t ≡ get_or s i t
    → Within (on (operation_of t.0) (all_joined f (take i s)) t.1 ∷ []) (joining_operands f s)
joins_at f s i t l e o (inr h) = absurd h
joins_at f s i t l e o (inl h) = subst (λ p. Has p (joining_operands f s)) (sym h) (go f s i l e)
  where
    go : (f : Linear) (s : List (Joining × Linear)) (i : ℕ) → i < length s → t ≡ get_or s i t
        → Has (on (operation_of t.0) (all_joined f (take i s)) t.1) (joining_operands f s)
    go f [] i l e = absurd (omega arith)
    go f (u ∷ s) zero l e = inl (ap (λ (w : Joining × Linear). on (operation_of w.0) f w.1) e)
    go f (u ∷ s) (suc i) l e = inr (go (joined_form u.0 f u.1) s i (omega arith) e)

-- ---- slots with the factors of a form

pub record IsHeld (f : Linear) (c : ℚ) (s : List Entry) : Type 0 where
  pub rising : IsRisingFrom 0 s
  pub in_order : IsForm f
  pub constant : c ≡ f.constant
  pub value : (v : ℕ → ℚ) → sum_at v s ≡ sums.sum_at v f.products

sum_at-joined : (how : Joining) (v : ℕ → ℚ) (s t : List Monomial) → sums.sum_at v (joined_products how s t) ≡ joined how (sums.sum_at v s) (sums.sum_at v t)
sum_at-joined Plus v s t = sum_at-sum_products v s t
sum_at-joined Less v s t = sum_at-sum_products v s (negated_products t) ∙ ap (λ q. sums.sum_at v s +ℚ q) (sum_at-negated_products v t)

-- with the entries of the first form
pub first_value : (v : ℕ → ℚ) (s r t : List Entry) (f : Linear) → sum_at v r ≡ joined Plus (sum_at v s) (sum_at v t) → sum_at v s ≡ 0ℚ → products_of t ≡ f.products
    → sum_at v r ≡ sums.sum_at v f.products
first_value v s r t f e z p =
    e ∙ ap (λ q. q +ℚ sum_at v t) z ∙ ring (sum_at v t ∷ []) (int (pos 0) ⊕ var 0) (var 0) refl ∙ sym (sum_of v t) ∙ ap (sums.sum_at v) p

-- with the entries of one form more
pub held_more : (how : Joining) (f g : Linear) (c d : ℚ) (s r t : List Entry) → IsHeld f c s → IsForm g → products_of t ≡ g.products → d ≡ joined how c g.constant
    → IsRisingFrom 0 r → ((v : ℕ → ℚ) → sum_at v r ≡ joined how (sum_at v s) (sum_at v t)) → IsHeld (joined_form how f g) d r
held_more how f g c d s r t h o p k i e =
    let w : Linear = record { products = joined_products how f.products g.products; constant = joined how f.constant g.constant } in
    subst (λ u. IsHeld u d r) (joined_form_is how f g w refl refl)
    (record {
      rising = i;
      in_order = joined_in_order how f.products g.products h.in_order o;
      constant = k ∙ ap (λ q. joined how q g.constant) h.constant;
      value = λ v. e v ∙ ap₂ (joined how) (h.value v) (sym (sum_of v t) ∙ ap (sums.sum_at v) p) ∙ sym (sum_at-joined how v f.products g.products);
    })

-- what is left of the slots is the form
module _ (f : Linear) (c : ℚ) (s t : List Entry) (h : IsHeld f c s) (e : products_of t ≡ without_zeros (products_of s)) where
  pub left_in_order : IsForm (form_of c t)
  left_in_order = subst (λ p. IsForm (record { products = p; constant = c })) (sym e) (kept_in_order 0 s h.rising)

  pub left_is : form_of c t ≡ f
  left_is =
      form_same (form_of c t) f
      (products_same 0 (products_of t) f.products left_in_order h.in_order
      (λ x. factor_of-is x (products_of t) ∙ ap (sums.sum_at (unit x)) e ∙ sum_at-without_zeros (unit x) (products_of s) ∙ sum_of (unit x) s ∙ h.value (unit x)
      ∙ sym (factor_of-is x f.products)))
      h.constant

-- ---- overflows

constants_come : (how : Joining) (f g : Linear) (pair : Pair) → Tells (operation_of how) f.constant g.constant pair → ComesFrom (on (operation_of how) f g ∷ []) pair
constants_come how f g pair t =
    subst (ComesFrom (on (operation_of how) f g ∷ [])) (sym t.is_pair)
    (λ m i. record { made = constants (on (operation_of how) f g) (i (on (operation_of how) f g) (inl refl)) (is_joining how); refused = t.refused })

coefficients_come : (how : Joining) (f g : Linear) (x : ℕ) (pair : Pair) → Tells (operation_of how) (factor_of x f.products) (factor_of x g.products) pair
    → ComesFrom (on (operation_of how) f g ∷ []) pair
coefficients_come how f g x pair t =
    subst (ComesFrom (on (operation_of how) f g ∷ [])) (sym t.is_pair)
    (λ m i. record { made = coefficients (on (operation_of how) f g) (i (on (operation_of how) f g) (inl refl)) (is_joining how) x; refused = t.refused })

module _ (f : Linear) (all : List (Joining × Linear)) (i : ℕ) (next : Joining × Linear) (c : ℚ) (s : List Entry) (l : i < length all) (e : next ≡ get_or all i next)
    (h : IsHeld (all_joined f (take i all)) c s) where
  pub constant_due : (pair : Pair) → Tells (operation_of next.0) c next.1.constant pair → ComesFrom (joining_operands f all) pair
  constant_due pair t =
      comes_within (on (operation_of next.0) (all_joined f (take i all)) next.1 ∷ []) (joining_operands f all) pair (joins_at f all i next l e)
      (constants_come next.0 (all_joined f (take i all)) next.1 pair (subst (λ q. Tells (operation_of next.0) q next.1.constant pair) h.constant t))

  pub coefficient_due : (t : List Entry) → products_of t ≡ next.1.products → (pair : Pair) → IsMet next.0 s t pair → ComesFrom (joining_operands f all) pair
  coefficient_due t p pair m =
      let left : sum_at (unit m.x) s ≡ factor_of m.x (all_joined f (take i all)).products = h.value (unit m.x) ∙ sym (factor_of-is m.x (all_joined f (take i all)).products) in
      let right : sum_at (unit m.x) t ≡ factor_of m.x next.1.products = sym (sum_of (unit m.x) t) ∙ ap (sums.sum_at (unit m.x)) p ∙ sym (factor_of-is m.x next.1.products) in
      comes_within (on (operation_of next.0) (all_joined f (take i all)) next.1 ∷ []) (joining_operands f all) pair (joins_at f all i next l e)
      (coefficients_come next.0 (all_joined f (take i all)) next.1 m.x pair
      (subst (λ q. Tells (operation_of next.0) q (factor_of m.x next.1.products) pair) left
      (subst (λ q. Tells (operation_of next.0) (sum_at (unit m.x) s) q pair) right m.meets.1)))

  pub held_next : (d : ℚ) (r t : List Entry) → IsForm next.1 → products_of t ≡ next.1.products → d ≡ joined next.0 c next.1.constant
      → IsRisingFrom 0 r → ((v : ℕ → ℚ) → sum_at v r ≡ joined next.0 (sum_at v s) (sum_at v t)) → IsHeld (all_joined f (take (i + 1) all)) d r
  held_next d r t o p k u w =
      subst (λ g. IsHeld g d r) (sym (ap (all_joined f) (take-next all i next l e) ∙ all_joined-end f (take i all) next))
      (held_more next.0 (all_joined f (take i all)) next.1 c d s r t h o p k u w)

-- ---- one form more waits
module _ (how : Joining) (left made : Sum) (right : Linear) (f : made.first ≡ left.first) (m : made.more.items ≡ left.more.items ++ (how, right) ∷ []) where
  pub one_more_is : Some (all_joined made.first made.more.items) ≡ binary_of (Some (name_of how)) (Some (all_joined left.first left.more.items)) (Some right)
  one_more_is = ap₂ (λ g s. Some (all_joined g s)) f m ∙ ap Some (all_joined-end left.first left.more.items (how, right)) ∙ go how
    where
      go : (how : Joining) → Some (joined_form how (all_joined left.first left.more.items) right) ≡ binary_of (Some (name_of how)) (Some (all_joined left.first left.more.items)) (Some right)
      go Plus = refl
      go Less = refl

  pub one_more_due : Within (joining_operands made.first made.more.items)
      (joining_operands left.first left.more.items ++ binary_operands (Some (name_of how)) (Some (all_joined left.first left.more.items)) (Some right))
  one_more_due o h = subst (Has o) (ap₂ joining_operands f m ∙ joining_operands-end left.first left.more.items (how, right) ∙ go how) h
    where
      go : (how : Joining) → joining_operands left.first left.more.items ++ on (operation_of how) (all_joined left.first left.more.items) right ∷ []
          ≡ joining_operands left.first left.more.items ++ binary_operands (Some (name_of how)) (Some (all_joined left.first left.more.items)) (Some right)
      go Plus = refl
      go Less = refl

-- the operations that are due on the left, and that of a name with two arguments
abbrev pub all_due : Option BinaryName → Option Sum → Option Linear → List Operands
all_due n left right = due_in left ++ binary_operands n (whole_of left) right
