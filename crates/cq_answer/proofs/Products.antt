-- The text of a sum, product by product.
use Rattle.std.proofs.Common.{◌≡◌, ◌≢◌, ℕ, suc, ℤ, ◌<ℤ◌, ◌-◌, ◌+◌, ◌<◌, List, [], ◌∷◌, ◌++◌, Bool, true, false, cond, codes, length, take, drop, ◌≤◌, get_or, map, refl, sym, ap, subst, ◌∙◌, arith, eqb-true, ◌==◌, ◌&&◌}
use Rattle.std.specs.Ordering.{int_eq, int_cmp, is_eq, MatchOrdering}
use Rattle.std.proofs.Common.{Ordering, Less, Equal, Greater}
use Rattle.std.proofs.lemmas.Cmp.{int_ranked}
use Rattle.std.proofs.lemmas.List.{take_all, take_more, map-append}
use Rattle.spec_numbers.specs.Gcd.{gcd}
use Rattle.spec_numbers.specs.Rational.{ℚ, 0ℚ, 1ℚ, neg_ℚ, int_ℚ, ratio}
use Rattle.spec_numbers.specs.Sums.{Monomial}
use Rattle.spec_numbers.proofs.RationalLemmas.{ℚ_same}
use Rattle.spec_linear.specs.Form.{is_zero}
use Rattle.spec_linear.proofs.Values.{is_zero-of, is_zero-true}
use Rattle.spec_numbers.specs.Texts.{Text}
use Rattle.spec_text.specs.Numbers.{number_text}
use Rattle.spec_answers.specs.RowText.{same_number, joined, product_text, sum_onto, linear_text}
use Rattle.cq_frac.specs.declared.VarId.{VarId}
use Rattle.cq_equations.specs.Rows.{monomial_of}
use Rattle.cq_answer.specs.Texts.{coefficient_text}

-- ---- the coefficient

both : (a b : Bool) → a && b ≡ true → (a ≡ true) × (b ≡ true)
both true true e = (refl, refl)
both true false e = (refl, e)
both false b e = let n : false ≡ true = e in (n, cc)

int_same : (x y : ℤ) → int_eq x y ≡ true → x ≡ y
int_same x y e = go (int_cmp x y) (int_ranked x y (int_cmp x y) refl) e
  where
    go : (o : Ordering) → MatchOrdering o (x <ℤ y) (x ≡ y) (y <ℤ x) → is_eq o ≡ true → x ≡ y
    go Less m k = let n : false ≡ true = k in cc
    go Equal m k = m
    go Greater m k = let n : false ≡ true = k in cc

same_true : (p q : ℚ) → same_number p q ≡ true → p ≡ q
same_true p q e = let h = both (int_eq p.numerator q.numerator) (p.below == q.below) e in ℚ_same p q (int_same p.numerator q.numerator h.0) (eqb-true p.below q.below h.1)

same_false : (p q : ℚ) → p ≢ q → same_number p q ≡ false
same_false p q ne = go (same_number p q) refl
  where
    go : (b : Bool) → same_number p q ≡ b → same_number p q ≡ false
    go true e = absurd (ne (same_true p q e))
    go false e = e

-- the text of a coefficient by two tests
abbrev tested : ℚ → Bool → Bool → Text
tested q one minus = cond one [] (cond minus (codes "-") (number_text q ++ codes "*"))

pub coefficient_other : (q : ℚ) → q ≢ 1ℚ → q ≢ neg_ℚ 1ℚ → coefficient_text q ≡ number_text q ++ codes "*"
coefficient_other q one minus =
    ap (λ b. tested q b (same_number q (neg_ℚ 1ℚ))) (same_false q 1ℚ one) ∙ ap (λ b. tested q false b) (same_false q (neg_ℚ 1ℚ) minus)

pub minus_one : {p q : ℚ} → p ≡ neg_ℚ q → q ≡ 1ℚ → p ≡ neg_ℚ 1ℚ
minus_one e f = e ∙ ap neg_ℚ f

-- ---- products and sums

pub rest_is : (ps : List (VarId × ℚ)) → take (length ps - 1) (drop 1 ps) ≡ drop 1 ps
rest_is [] = refl
rest_is (p ∷ ps) = take_all (suc (length ps) - 1) ps (omega arith)

module _ (name : ℕ → Text) where
  pub product_is : (m : Monomial) → product_text name m ≡ coefficient_text m.factor ++ name m.variable
  product_is m = go (same_number m.factor 1ℚ) (same_number m.factor (neg_ℚ 1ℚ))
    where
      go : (one minus : Bool) → cond one (name m.variable) (cond minus (codes "-" ++ name m.variable) (number_text m.factor ++ codes "*" ++ name m.variable)) ≡ tested m.factor one minus ++ name m.variable
      go true minus = refl
      go false true = refl
      go false false = refl

  sum_push : (sum : Text) (ms : List Monomial) (m : Monomial) → sum_onto name sum (ms ++ m ∷ []) ≡ joined (sum_onto name sum ms) (product_text name m)
  sum_push sum [] m = refl
  sum_push sum (n ∷ ms) m = sum_push (joined sum (product_text name n)) ms m

  -- the next product
  pub sum_more : (sum : Text) (ps : List (VarId × ℚ)) (i : ℕ) (p : VarId × ℚ) (text piece new : Text) → i < length ps → p ≡ get_or ps i p → text ≡ sum_onto name sum (map monomial_of (take i ps)) →
      piece ≡ product_text name (monomial_of p) → new ≡ joined text piece → new ≡ sum_onto name sum (map monomial_of (take (i + 1) ps))
  sum_more sum ps i p text piece new l e t q n =
      n ∙ ap (λ s. joined s piece) t ∙ ap (joined (sum_onto name sum (map monomial_of (take i ps)))) q
      ∙ sym (sum_push sum (map monomial_of (take i ps)) (monomial_of p)) ∙ ap (sum_onto name sum) (sym (map-append monomial_of (take i ps) (p ∷ [])))
      ∙ ap (λ s. sum_onto name sum (map monomial_of s)) (sym (take_more ps i p l ∙ ap (λ r. take i ps ++ r ∷ []) (sym e)))

  -- the constant is left away
  without_constant : (m : Monomial) (ms : List Monomial) (q : ℚ) → q ≡ 0ℚ → sum_onto name (product_text name m) ms ≡ linear_text name (m ∷ ms) q
  without_constant m ms q z =
      let sum = sum_onto name (product_text name m) ms in
      ap (λ b. cond b sum (joined sum (number_text q))) (sym (is_zero-of q z))

  -- or it follows
  with_constant : (m : Monomial) (ms : List Monomial) (q : ℚ) → q ≢ 0ℚ → joined (sum_onto name (product_text name m) ms) (number_text q) ≡ linear_text name (m ∷ ms) q
  with_constant m ms q z = go (is_zero q) refl
    where
      go : (b : Bool) → is_zero q ≡ b → joined (sum_onto name (product_text name m) ms) (number_text q) ≡ cond b (sum_onto name (product_text name m) ms) (joined (sum_onto name (product_text name m) ms) (number_text q))
      go true e = absurd (z (is_zero-true q e))
      go false e = refl

  -- the first product and those behind it
  first_and_rest : (ps : List (VarId × ℚ)) (first : VarId × ℚ) → 1 ≤ length ps → first ≡ get_or ps 0 first → ps ≡ first ∷ drop 1 ps
  first_and_rest [] first l e = absurd (omega arith)
  first_and_rest (p ∷ ps) first l e = ap (λ r. r ∷ ps) (sym e)

  module _ (ps : List (VarId × ℚ)) (first : VarId × ℚ) (q : ℚ) (text : Text) (l : 1 ≤ length ps) (e : first ≡ get_or ps 0 first)
      (t : text ≡ sum_onto name (product_text name (monomial_of first)) (map monomial_of (drop 1 ps))) where
    pub products_alone : q ≡ 0ℚ → text ≡ linear_text name (map monomial_of ps) q
    products_alone z = t ∙ without_constant (monomial_of first) (map monomial_of (drop 1 ps)) q z ∙ ap (λ xs. linear_text name (map monomial_of xs) q) (sym (first_and_rest ps first l e))

    pub products_and_constant : q ≢ 0ℚ → joined text (number_text q) ≡ linear_text name (map monomial_of ps) q
    products_and_constant z =
        ap (λ s. joined s (number_text q)) t ∙ with_constant (monomial_of first) (map monomial_of (drop 1 ps)) q z ∙ ap (λ xs. linear_text name (map monomial_of xs) q) (sym (first_and_rest ps first l e))
