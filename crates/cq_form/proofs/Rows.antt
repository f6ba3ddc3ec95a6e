-- Rows as sums of products: their order, their values, and the pairs that operations on them meet.
use Rattle.std.proofs.Common.{◌≡◌, ℕ, suc, ◌+◌, List, [], ◌∷◌, Bool, true, false, nat_eq, Option, Some, None, inl, inr, pos, arith, refl, ap, ap₂, sym, subst, ◌∙◌}
use Rattle.std.specs.Prelude.{◌==◌, cond, not, MatchOption}
use Rattle.spec_numbers.specs.Rational.{ℚ, 0ℚ, neg_ℚ, ◌+ℚ◌, ◌*ℚ◌}
use Rattle.spec_numbers.specs.Sums.{Monomial, Mentions, scaled_products, negated_products, sum_at, unit}
use Rattle.spec_numbers.proofs.Ring.{var, int, ◌⊕◌}
use Rattle.spec_numbers.proofs.RationalLemmas.{ring}
use Rattle.spec_numbers.proofs.Sums.{factor_of-is, sum_at-scaled_products, sum_at-negated_products}
use Rattle.spec_linear.specs.Form.{IsSumFrom, without, without_zeros}
use Rattle.spec_linear.specs.Solution.{Has}
use Rattle.spec_linear.proofs.Values.{sum_at-sum_products, sum_at-without_zeros}
use Rattle.spec_linear.proofs.Ordered.{products_same}
use Rattle.cq_frac.specs.declared.Operation.TheVariants.{Product as Times}
use Rattle.cq_frac.specs.declared.Pair.{Pair}
use Rattle.cq_frac.specs.Refused.{Accepts, Refuses, Tells}
use Rattle.cq_frac.proofs.Refusals.{accepted}
use Rattle.cq_frac.specs.declared.row.Entry.{Entry}
use Rattle.cq_frac.specs.declared.row.Joining.{Joining}
use Rattle.cq_frac.specs.declared.row.Joining.TheVariants.{Plus, Less}
use Rattle.cq_frac.specs.Rows as row
use Rattle.cq_frac.specs.Rows.{IsRowFrom, everywhere, joined, operation_of, choose, IsJoinedPair, IsProductPair, NoJoinedPair, NoProductPair, Lacks}
use Rattle.cq_form.specs.Entries.{product_of, products_of}
use Rattle.cq_form.proofs.Forms.{joined_in_order, multiple_in_order}
use Rattle.cq_form.specs.Steps.{joined_products, HasCoefficient, CommonPair, MultiplePair, of_variable}

-- ---- order

pub row_of : (low : ℕ) (s : List Entry) → IsSumFrom low (products_of s) → IsRowFrom everywhere low s
row_of low [] o = tt
row_of low (m ∷ s) o = (o.0, refl, o.1, subst (λ n. IsRowFrom everywhere n s) (next m.quantity) (row_of (suc m.quantity) s o.2))
  where
    next : (n : ℕ) → suc n ≡ n + 1
    next n = omega arith

pub in_order : (low : ℕ) (s : List Entry) → IsRowFrom everywhere low s → IsSumFrom low (products_of s)
in_order low [] r = tt
in_order low (m ∷ s) r = (r.0, r.2, subst (λ n. IsSumFrom n (products_of s)) (next m.quantity) (in_order (m.quantity + 1) s r.3))
  where
    next : (n : ℕ) → n + 1 ≡ suc n
    next n = omega arith

-- ---- values

sum_of : (v : ℕ → ℚ) (s : List Entry) → sum_at v (products_of s) ≡ row.sum_at v s
sum_of v [] = refl
sum_of v (m ∷ s) = ap (λ w. m.factor *ℚ v m.quantity +ℚ w) (sum_of v s)

-- a row that is in order has the products that its values tell
same_products : (s : List Entry) (t : List Monomial) → IsRowFrom everywhere 0 s → IsSumFrom 0 t → ((v : ℕ → ℚ) → row.sum_at v s ≡ sum_at v t) → products_of s ≡ t
same_products s t r o h =
    products_same 0 (products_of s) t (in_order 0 s r) o
    (λ x. factor_of-is x (products_of s) ∙ sum_of (unit x) s ∙ h (unit x) ∙ sym (factor_of-is x t))

sum_of_joined : (how : Joining) (v : ℕ → ℚ) (a b : List Entry) → joined how (row.sum_at v a) (row.sum_at v b) ≡ sum_at v (joined_products how (products_of a) (products_of b))
sum_of_joined Plus v a b = sym (sum_at-sum_products v (products_of a) (products_of b) ∙ ap₂ (λ p q. p +ℚ q) (sum_of v a) (sum_of v b))
sum_of_joined Less v a b =
    sym (sum_at-sum_products v (products_of a) (negated_products (products_of b))
    ∙ ap₂ (λ p q. p +ℚ q) (sum_of v a) (sum_at-negated_products v (products_of b) ∙ ap neg_ℚ (sum_of v b)))

pub joined_is : (how : Joining) (a b r : List Entry) → IsSumFrom 0 (products_of a) → IsSumFrom 0 (products_of b) → IsRowFrom everywhere 0 r
    → ((v : ℕ → ℚ) → row.sum_at v r ≡ joined how (row.sum_at v a) (row.sum_at v b)) → products_of r ≡ joined_products how (products_of a) (products_of b)
joined_is how a b r o u h k =
    same_products r (joined_products how (products_of a) (products_of b)) h (joined_in_order how (products_of a) (products_of b) o u) (λ v. k v ∙ sum_of_joined how v a b)

pub multiple_is : (k : ℚ) (s r : List Entry) → IsSumFrom 0 (products_of s) → IsRowFrom everywhere 0 r → ((v : ℕ → ℚ) → row.sum_at v r ≡ 0ℚ +ℚ k *ℚ row.sum_at v s)
    → products_of r ≡ without_zeros (scaled_products k (products_of s))
multiple_is k s r o h e =
    same_products r (without_zeros (scaled_products k (products_of s))) h (multiple_in_order k (products_of s) o)
    (λ v. e v ∙ ring ((k *ℚ row.sum_at v s) ∷ []) (int (pos 0) ⊕ var 0) (var 0) refl ∙ ap (λ w. k *ℚ w) (sym (sum_of v s))
    ∙ sym (sum_at-without_zeros v (scaled_products k (products_of s)) ∙ sum_at-scaled_products v k (products_of s)))

-- ---- the entries of other variables

pub others_are : (x : ℕ) (s : List Entry) → products_of (row.others x s) ≡ without x (products_of s)
others_are x [] = refl
others_are x (m ∷ s) = go (nat_eq m.quantity x) (x == m.quantity) (turned m.quantity) (others_are x s)
  where
    turned : (y : ℕ) → nat_eq y x ≡ (x == y)
    turned y = grind arith

    go : (b c : Bool) → b ≡ c → products_of (row.others x s) ≡ without x (products_of s)
        → products_of (choose b (row.others x s) (m ∷ row.others x s)) ≡ cond (not c) (product_of m ∷ without x (products_of s)) (without x (products_of s))
    go true true e h = h
    go true false e h = absurd (cc)
    go false true e h = absurd (cc)
    go false false e h = ap (λ t. product_of m ∷ t) h

-- ---- what stands in a list

pub has_product : (m : Entry) (s : List Entry) → row.Has m s → Has (product_of m) (products_of s)
has_product m [] h = absurd h
has_product m (n ∷ s) (inl e) = inl (ap product_of e)
has_product m (n ∷ s) (inr h) = inr (has_product m s h)

has_entry : (p : Monomial) (s : List Entry) → Has p (products_of s) → (m : Entry) × row.Has m s × (p ≡ product_of m)
has_entry p [] h = absurd h
has_entry p (n ∷ s) (inl e) = (n, inl refl, e)
has_entry p (n ∷ s) (inr h) = let r = has_entry p s h in (r.0, inr r.1, r.2)

pub not_mentioned : (x : ℕ) (s : List Entry) → Lacks x s → Mentions x (products_of s) → ⊥
not_mentioned x [] n h = h
not_mentioned x (m ∷ s) n (inl e) = n m (inl refl) (sym e)
not_mentioned x (m ∷ s) n (inr h) = not_mentioned x s (λ k w. n k (inr w)) h

-- what follows from both answers of a search
pub both_answers : {A : Type 0} {N M : Type 0} {P Q : A → Type 0} (o : Option A) → (N → M) → ((x : A) → P x → Q x) → MatchOption o N P → MatchOption o M Q
both_answers (Some x) f g h = g x h
both_answers None f g h = f h

-- ---- pairs

pub common_told : (how : Joining) (a b : List Entry) (pair : Pair) → IsJoinedPair a how b pair
    → CommonPair (products_of a) (products_of b) pair.left pair.right × Tells (operation_of how) pair.left pair.right pair
common_told how a b pair j =
    let l : j.left.factor ≡ pair.left = sym (ap (λ (x : Pair). x.left) j.tells.is_pair) in
    let r : j.right.factor ≡ pair.right = sym (ap (λ (x : Pair). x.right) j.tells.is_pair) in
    let right : HasCoefficient j.left.quantity j.right.factor (products_of b) = subst (λ x. HasCoefficient x j.right.factor (products_of b)) (sym j.same) (has_product j.right b j.in_right) in
    let common : CommonPair (products_of a) (products_of b) j.left.factor j.right.factor = of_variable j.left.quantity (has_product j.left a j.in_left) right in
    let told : CommonPair (products_of a) (products_of b) j.left.factor j.right.factor × Tells (operation_of how) j.left.factor j.right.factor pair = (common, j.tells) in
    subst (λ x. CommonPair (products_of a) (products_of b) x pair.right × Tells (operation_of how) x pair.right pair) l
    (subst (λ x. CommonPair (products_of a) (products_of b) j.left.factor x × Tells (operation_of how) j.left.factor x pair) r told)

pub common_accepted : (how : Joining) (a b : List Entry) → NoJoinedPair a how b → (p q : ℚ) → CommonPair (products_of a) (products_of b) p q → Accepts (operation_of how) p q
common_accepted how a b n p q (of_variable x h k) =
    let m = has_entry (record { variable = x; factor = p }) a h in
    let o = has_entry (record { variable = x; factor = q }) b k in
    let f : p ≡ m.0.factor = ap (λ (t : Monomial). t.factor) m.2 in
    let g : q ≡ o.0.factor = ap (λ (t : Monomial). t.factor) o.2 in
    let same : m.0.quantity ≡ o.0.quantity = sym (ap (λ (t : Monomial). t.variable) m.2) ∙ ap (λ (t : Monomial). t.variable) o.2 in
    accepted (operation_of how) p q (λ r. n m.0 o.0 m.1 o.1 same (subst (λ y. Refuses (operation_of how) y o.0.factor) f (subst (λ y. Refuses (operation_of how) p y) g r)))

pub multiple_told : (k : ℚ) (s : List Entry) (pair : Pair) → IsProductPair k s pair → MultiplePair (products_of s) pair.right × Tells Times k pair.right pair
multiple_told k s pair j =
    let told : MultiplePair (products_of s) j.entry.factor × Tells Times k j.entry.factor pair = (of_variable j.entry.quantity (has_product j.entry s j.in_row), j.tells) in
    subst (λ x. MultiplePair (products_of s) x × Tells Times k x pair) (sym (ap (λ (x : Pair). x.right) j.tells.is_pair)) told

pub multiple_accepted : (k : ℚ) (s : List Entry) → NoProductPair k s → (q : ℚ) → MultiplePair (products_of s) q → Accepts Times k q
multiple_accepted k s n q (of_variable x h) =
    let m = has_entry (record { variable = x; factor = q }) s h in
    let f : q ≡ m.0.factor = ap (λ (t : Monomial). t.factor) m.2 in
    accepted Times k q (λ r. n m.0 m.1 (subst (λ y. Refuses Times k y) f r))
