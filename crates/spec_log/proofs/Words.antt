-- What is read of words is written as these words, and fits.
use Rattle.std.proofs.Common.{◌≡◌, inr, ℕ, zero, suc, ◌<◌, ◌≤◌, arith, List, [], ◌∷◌, ◌++◌, length, map, max, Bool, true, false, cond, not, ◌&&◌, nat_eq, nat_le, nat_lt, Option, Some, None, codes, append-nil, refl, sym, ap, ap₂, subst, ◌∙◌}
use Rattle.std.specs.Prelude.{bytes_eq, ◌==◌, ℤ, pos, neg_ℤ, nat_abs}
use Rattle.std.specs.List.{AllByRecursion, slice_split, join_with_byte}
use Rattle.std.specs.Fmt.{decimal, signed_decimal}
use Rattle.std.specs.Str.Parse.{digits_value}
use Rattle.std.proofs.lemmas.List.Splits.{join_with_byte-slice_split}
use Rattle.std.proofs.lemmas.Slice.Eq.{bytes_eq-Decides}
use Rattle.spec_numbers.specs.Texts.{Text}
use Rattle.spec_numbers.specs.Gcd.{gcd}
use Rattle.spec_numbers.specs.Rational.{ℚ, 0ℚ, ratio, denominator, neg_ℚ}
use Rattle.spec_numbers.specs.Sums.{Monomial}
use Rattle.spec_numbers.proofs.Tests.{both_are, true_le, nat_eq-same}
use Rattle.spec_numbers.proofs.RationalLemmas.{ratio_back}
use Rattle.spec_linear.specs.declared.Relation.{Relation}
use Rattle.spec_linear.specs.declared.Relation.TheVariants.{Eq, Gt, Ge, Ne}
use Rattle.spec_linear.specs.Form.{is_zero}
use Rattle.spec_linear.specs.Solution.{Constraint}
use Rattle.cq_frac.specs.Fits.{Fits, limit}
use Rattle.cq_frac.specs.Text.{number_text, denominator_text}
use Rattle.cq_frac.proofs.Halves.{gcd-one}
use Rattle.cq_frac.proofs.View.{nat_abs-neg}
use Rattle.spec_log.specs.Log.{Run, PairFits, MemberFits, pair_word, product_pair, relation_word, member_words, run_words, list_words, done_words, head_words}
use Rattle.spec_log.specs.Verdicts.{whole_in, within, whole_number, is_lowest, lowest_in, parts_in, unsigned_in, negated_in, fraction_in, both, pair_of, pair_in, in_front, pairs_in, relation_in, products_of, constraint_of, are_counted, member_by, member_in, are_members, run_by, run_in, counted_in, is_head}

one_fits : 1 < limit
one_fits = omega arith

pub bytes_are : (a b : Text) → bytes_eq a b ≡ true → a ≡ b
bytes_are a b e = go (bytes_eq a b) (bytes_eq-Decides a b).0 e
  where
    go : (x : Bool) → (x ≡ true → a ≡ b) → x ≡ true → a ≡ b
    go x h d = h d

-- ---- several tests

pub three_are : (a b c : Bool) → (a && b && c) ≡ true → (a ≡ true) × (b ≡ true) × (c ≡ true)
three_are a b c e =
    let k = both_are (a && b) c e in
    let m = both_are a b k.0 in
    (m.0, m.1, k.1)

pub four_are : (a b c d : Bool) → (a && b && c && d) ≡ true → (a ≡ true) × (b ≡ true) × (c ≡ true) × (d ≡ true)
four_are a b c d e =
    let k = both_are (a && b && c) d e in
    let m = three_are a b c k.0 in
    (m.0, m.1, m.2, k.1)

-- ---- numbers

-- the number is written so, and fits
pub record IsWhole (w : Text) (n : ℕ) : Type 0 where
  pub text : decimal n ≡ w
  pub fits : n < limit

pub record IsFraction (w : Text) (q : ℚ) : Type 0 where
  pub text : number_text q ≡ w
  pub fits : Fits q

less_is : (m n : ℕ) → nat_lt m n ≡ true → m < n
less_is m n e = true_le (suc m) n e

pub whole_is : (w : Text) (n : ℕ) → whole_in w ≡ Some n → IsWhole w n
whole_is w n e = go (bytes_eq (decimal m) w && within m) refl e
  where
    m : ℕ
    m = digits_value 10 w

    go : (x : Bool) → (bytes_eq (decimal m) w && within m) ≡ x → cond x (Some m) None ≡ Some n → IsWhole w n
    go true h d =
        let k : m ≡ n = cc in
        let t = both_are (bytes_eq (decimal m) w) (within m) h in
        subst (IsWhole w) k (record { text = bytes_are (decimal m) w t.0; fits = less_is m limit t.1 })
    go false h d = cc

-- ---- fractions

-- the number has these parts
record HasParts (q : ℚ) (z : ℤ) (k : ℕ) : Type 0 where
  numerator : q.numerator ≡ z
  below : q.below ≡ k

abbrev parts_text : ℤ → ℕ → Text
parts_text z k = signed_decimal z ++ denominator_text k

text_by_parts : (q : ℚ) (z : ℤ) (k : ℕ) → HasParts q z k → number_text q ≡ parts_text z k
text_by_parts q z k h = ap₂ (λ (y : ℤ) (j : ℕ). signed_decimal y ++ denominator_text j) h.numerator h.below

fits_by_parts : (q : ℚ) (z : ℤ) (k : ℕ) → HasParts q z k → nat_abs z < limit → suc k < limit → Fits q
fits_by_parts q z k h m n = record { num_fits = subst (λ y. nat_abs y < limit) (sym h.numerator) m; den_fits = subst (λ j. suc j < limit) (sym h.below) n }

whole_parts : (a : ℕ) → HasParts (ratio (pos a) 1) (pos a) 0
whole_parts a = let e = ratio_back (record { numerator = pos a; below = 0; lowest = sym (gcd-one a 1 (inr refl)) }) in
    record { numerator = ap (λ (q : ℚ). q.numerator) e; below = ap (λ (q : ℚ). q.below) e }

-- a ratio of a whole number has no sign
ratio_above : (a b : ℕ) → (ratio (pos a) b).numerator ≡ pos (nat_abs (ratio (pos a) b).numerator)
unfolding ratio
ratio_above a b = refl

lowest_parts : (a b : ℕ) → 1 < b → is_lowest a b ≡ true → (k : ℕ) × (suc (suc k) ≡ b) × HasParts (ratio (pos a) b) (pos a) (suc k)
lowest_parts a zero h e = absurd (omega (arith, h))
lowest_parts a (suc zero) h e = absurd (omega (arith, h))
lowest_parts a (suc (suc k)) h e =
    let q : ℚ = ratio (pos a) (suc (suc k)) in
    let t = both_are (nat_eq (nat_abs q.numerator) a) (nat_eq (denominator q) (suc (suc k))) e in (
      k,
      refl,
      record {
        numerator = ratio_above a (suc (suc k)) ∙ ap pos (nat_eq-same (nat_abs q.numerator) a t.0);
        below = let m = nat_eq-same (denominator q) (suc (suc k)) t.1 in cc;
      },
    )

join_one : (u : Text) (w : Text) → slice_split (λ b. b == 114) w ≡ u ∷ [] → u ≡ w
join_one u w e = ap (join_with_byte 114) (sym e) ∙ join_with_byte-slice_split 114 w

join_two : (u v : Text) (w : Text) → slice_split (λ b. b == 114) w ≡ u ∷ v ∷ [] → u ++ 114 ∷ v ≡ w
join_two u v w e = ap (join_with_byte 114) (sym e) ∙ join_with_byte-slice_split 114 w

-- what a text without a sign is: the text, and the parts
record IsUnsigned (w : Text) (q : ℚ) : Type 0 where
  top : ℕ
  below : ℕ
  parts : HasParts q (pos top) below
  text : parts_text (pos top) below ≡ w
  top_fits : top < limit
  below_fits : suc below < limit

one_part : (u w : Text) (q : ℚ) → u ≡ w → whole_number (whole_in u) ≡ Some q → IsUnsigned w q
one_part u w q j e = go (whole_in u) refl e
  where
    go : (x : Option ℕ) → whole_in u ≡ x → whole_number x ≡ Some q → IsUnsigned w q
    go None i d = cc
    go (Some a) i d =
        let k : ratio (pos a) 1 ≡ q = cc in
        let t = whole_is u a i in
        subst (IsUnsigned w) k (record {
          top = a;
          below = 0;
          parts = whole_parts a;
          text = append-nil (decimal a) ∙ t.text ∙ j;
          top_fits = t.fits;
          below_fits = one_fits;
        })

two_parts : (u v w : Text) (q : ℚ) → u ++ 114 ∷ v ≡ w → lowest_in (whole_in u) (whole_in v) ≡ Some q → IsUnsigned w q
two_parts u v w q j e = go (whole_in u) (whole_in v) refl refl e
  where
    by_test : (a b : ℕ) → IsWhole u a → IsWhole v b → (x : Bool) → (nat_lt 1 b && is_lowest a b) ≡ x → cond x (Some (ratio (pos a) b)) None ≡ Some q → IsUnsigned w q
    by_test a b s t true h d =
        let k : ratio (pos a) b ≡ q = cc in
        let m = both_are (nat_lt 1 b) (is_lowest a b) h in
        let p = lowest_parts a b (less_is 1 b m.0) m.1 in
        subst (IsUnsigned w) k (record {
          top = a;
          below = suc p.0;
          parts = p.2;
          text = ap₂ (λ x y. x ++ 114 ∷ y) s.text (ap decimal p.1 ∙ t.text) ∙ j;
          top_fits = s.fits;
          below_fits = let z = p.1 in let f = t.fits in subst (λ y. y < limit) (sym z) f;
        })
    by_test a b s t false h d = cc

    go : (x y : Option ℕ) → whole_in u ≡ x → whole_in v ≡ y → lowest_in x y ≡ Some q → IsUnsigned w q
    go (Some a) (Some b) i k d = by_test a b (whole_is u a i) (whole_is v b k) (nat_lt 1 b && is_lowest a b) refl d
    go (Some a) None i k d = cc
    go None y i k d = cc

unsigned_is : (w : Text) (q : ℚ) → unsigned_in w ≡ Some q → IsUnsigned w q
unsigned_is w q e = go (slice_split (λ b. b == 114) w) refl e
  where
    go : (ws : List Text) → slice_split (λ b. b == 114) w ≡ ws → parts_in ws ≡ Some q → IsUnsigned w q
    go [] i d = cc
    go (u ∷ []) i d = one_part u w q (join_one u w i) d
    go (u ∷ v ∷ []) i d = two_parts u v w q (join_two u v w i) d
    go (u ∷ v ∷ x ∷ ws) i d = cc

unsigned_fraction : (w : Text) (q : ℚ) → IsUnsigned w q → IsFraction w q
unsigned_fraction w q u = record {
  text = text_by_parts q (pos u.top) u.below u.parts ∙ u.text;
  fits = fits_by_parts q (pos u.top) u.below u.parts u.top_fits u.below_fits;
}

-- the other sign
negative_parts : (q : ℚ) → HasParts (neg_ℚ q) (neg_ℤ q.numerator) q.below
unfolding neg_ℚ
negative_parts q =
    let e = ratio_back (record { numerator = neg_ℤ q.numerator; below = q.below; lowest = subst (λ n. gcd n (suc q.below) ≡ 1) (sym (nat_abs-neg q.numerator)) q.lowest }) in
    record { numerator = ap (λ (r : ℚ). r.numerator) e; below = ap (λ (r : ℚ). r.below) e }

negative_text : (n k : ℕ) → parts_text (neg_ℤ (pos (suc n))) k ≡ 45 ∷ parts_text (pos (suc n)) k
negative_text n k = refl

not_zero_top : (q : ℚ) (k : ℕ) → HasParts q (pos 0) k → is_zero q ≡ false → ⊥
not_zero_top q k p z = let e : is_zero q ≡ true = ap (λ y. nat_eq (nat_abs y) 0) p.numerator in cc

with_sign : (bs : Text) (p : ℚ) (n k : ℕ) → HasParts p (pos (suc n)) k → parts_text (pos (suc n)) k ≡ bs → suc n < limit → suc k < limit
    → IsFraction (45 ∷ bs) (neg_ℚ p)
with_sign bs p n k h t f g = record {
  text = text_by_parts (neg_ℚ p) (neg_ℤ (pos (suc n))) k parts ∙ negative_text n k ∙ ap (λ s. 45 ∷ s) t;
  fits = fits_by_parts (neg_ℚ p) (neg_ℤ (pos (suc n))) k parts f g;
}
  where
    parts : HasParts (neg_ℚ p) (neg_ℤ (pos (suc n))) k
    parts = let m = negative_parts p in record { numerator = m.numerator ∙ ap neg_ℤ h.numerator; below = m.below ∙ h.below }

negated_is : (bs : Text) (q : ℚ) → negated_in (unsigned_in bs) ≡ Some q → IsFraction (45 ∷ bs) q
negated_is bs q e = go (unsigned_in bs) refl e
  where
    by_top : (p : ℚ) (n k : ℕ) → HasParts p (pos n) k → parts_text (pos n) k ≡ bs → n < limit → suc k < limit → is_zero p ≡ false → IsFraction (45 ∷ bs) (neg_ℚ p)
    by_top p zero k h t f g z = absurd (not_zero_top p k h z)
    by_top p (suc n) k h t f g z = with_sign bs p n k h t f g

    by_test : (p : ℚ) → IsUnsigned bs p → (x : Bool) → is_zero p ≡ x → cond x None (Some (neg_ℚ p)) ≡ Some q → IsFraction (45 ∷ bs) q
    by_test p u true h d = cc
    by_test p u false h d = let k : neg_ℚ p ≡ q = cc in subst (IsFraction (45 ∷ bs)) k (by_top p u.top u.below u.parts u.text u.top_fits u.below_fits h)

    go : (x : Option ℚ) → unsigned_in bs ≡ x → negated_in x ≡ Some q → IsFraction (45 ∷ bs) q
    go None i d = cc
    go (Some p) i d = by_test p (unsigned_is bs p i) (is_zero p) refl d

pub fraction_is : (w : Text) (q : ℚ) → fraction_in w ≡ Some q → IsFraction w q
fraction_is [] q e = cc
fraction_is (b ∷ bs) q e = go (b == 45) refl e
  where
    go : (x : Bool) → (b == 45) ≡ x → cond x (negated_in (unsigned_in bs)) (unsigned_in (b ∷ bs)) ≡ Some q → IsFraction (b ∷ bs) q
    go true h d = let s : b ≡ 45 = nat_eq-same b 45 h in subst (λ c. IsFraction (c ∷ bs) q) (sym s) (negated_is bs q d)
    go false h d = unsigned_fraction (b ∷ bs) q (unsigned_is (b ∷ bs) q d)

-- ---- pairs

both_is : {A B : Type 0} (x : Option A) (y : Option B) (p : A × B) → both x y ≡ Some p → (x ≡ Some p.0) × (y ≡ Some p.1)
both_is (Some a) (Some b) p e = let k : (a, b) ≡ p = cc in (ap (λ c. Some c.0) k, ap (λ c. Some c.1) k)
both_is (Some a) None p e = cc
both_is None y p e = cc

-- the pair is written so, and fits
pub record IsPair (w : Text) (p : ℕ × ℚ) : Type 0 where
  pub text : pair_word p ≡ w
  pub fits : PairFits p

pair_of-is : (ws : List Text) (p : ℕ × ℚ) → pair_of ws ≡ Some p → IsPair (join_with_byte 58 ws) p
pair_of-is [] p e = cc
pair_of-is (v ∷ []) p e = cc
pair_of-is (v ∷ q ∷ []) p e =
    let k = both_is (whole_in v) (fraction_in q) p e in
    let m = whole_is v p.0 k.0 in
    let f = fraction_is q p.1 k.1 in
    record { text = ap₂ (λ a b. join_with_byte 58 (a ∷ b ∷ [])) m.text f.text; fits = (m.fits, f.fits) }
pair_of-is (v ∷ q ∷ r ∷ ws) p e = cc

pub pair_is : (w : Text) (p : ℕ × ℚ) → pair_in w ≡ Some p → IsPair w p
pair_is w p e = subst (λ v. IsPair v p) (join_with_byte-slice_split 58 w) (pair_of-is (slice_split (λ b. b == 58) w) p e)

in_front-is : {A : Type 0} (x : Option A) (y : Option (List A)) (s : List A) → in_front x y ≡ Some s
    → (a : A) × (r : List A) × (x ≡ Some a) × (y ≡ Some r) × (s ≡ a ∷ r)
in_front-is (Some a) (Some r) s e = (a, r, refl, refl, let k : a ∷ r ≡ s = cc in sym k)
in_front-is (Some a) None s e = cc
in_front-is None y s e = cc

-- the pairs are written so, and fit
pub record ArePairs (ws : List Text) (ps : List (ℕ × ℚ)) : Type 0 where
  pub words : map pair_word ps ≡ ws
  pub fit : AllByRecursion PairFits ps

pub pairs_are : (ws : List Text) (ps : List (ℕ × ℚ)) → pairs_in ws ≡ Some ps → ArePairs ws ps
pairs_are [] ps e = let k : [] ≡ ps = cc in subst (ArePairs []) k (record { words = refl; fit = tt })
pairs_are (w ∷ ws) ps e =
    let k = in_front-is (pair_in w) (pairs_in ws) ps e in
    let p = pair_is w k.0 k.2 in
    let s = pairs_are ws k.1 k.3 in
    subst (ArePairs (w ∷ ws)) (sym k.4) (record { words = ap₂ (λ a s. a ∷ s) p.text s.words; fit = (p.fits, s.fit) })

-- ---- members

pub relation_is : (w : Text) (r : Relation) → relation_in w ≡ Some r → relation_word r ≡ w
relation_is w r e = go (bytes_eq (codes "eq") w) (bytes_eq (codes "gt") w) (bytes_eq (codes "ge") w) (bytes_eq (codes "ne") w) refl refl refl refl e
  where
    go : (a b c d : Bool) → bytes_eq (codes "eq") w ≡ a → bytes_eq (codes "gt") w ≡ b → bytes_eq (codes "ge") w ≡ c → bytes_eq (codes "ne") w ≡ d
        → cond a (Some Eq) (cond b (Some Gt) (cond c (Some Ge) (cond d (Some Ne) None))) ≡ Some r → relation_word r ≡ w
    go true b c d i j k l h = let m : Eq ≡ r = cc in ap relation_word (sym m) ∙ bytes_are (codes "eq") w i
    go false true c d i j k l h = let m : Gt ≡ r = cc in ap relation_word (sym m) ∙ bytes_are (codes "gt") w j
    go false false true d i j k l h = let m : Ge ≡ r = cc in ap relation_word (sym m) ∙ bytes_are (codes "ge") w k
    go false false false true i j k l h = let m : Ne ≡ r = cc in ap relation_word (sym m) ∙ bytes_are (codes "ne") w l
    go false false false false i j k l h = cc

pub products_are : (ps : List (ℕ × ℚ)) → map (λ m. pair_word (product_pair m)) (products_of ps) ≡ map pair_word ps
products_are [] = refl
products_are (p ∷ ps) = ap (λ s. pair_word p ∷ s) (products_are ps)

products_fit : (ps : List (ℕ × ℚ)) → AllByRecursion PairFits ps → AllByRecursion (λ m. PairFits (product_pair m)) (products_of ps)
products_fit [] h = tt
products_fit (p ∷ ps) h = (h.0, products_fit ps h.1)

-- what a member line says
pub record Reads (seen : ℕ) (ws : List Text) (c : Constraint) : Type 0 where
  pub words : member_words c ≡ ws
  pub fits : MemberFits c
  pub pairs : List (ℕ × ℚ)
  pub products : c.form.products ≡ products_of pairs
  pub counted : are_counted seen 0 pairs ≡ true

pub member_is : (seen : ℕ) (ws : List Text) (c : Constraint) → member_in seen ws ≡ Some c → Reads seen ws c
member_is seen [] c e = cc
member_is seen (w ∷ []) c e = cc
member_is seen (w ∷ v ∷ ws) c e = go (relation_in w) (fraction_in v) (pairs_in ws) refl refl refl e
  where
    by_test : (r : Relation) (q : ℚ) (ps : List (ℕ × ℚ)) → relation_in w ≡ Some r → fraction_in v ≡ Some q → pairs_in ws ≡ Some ps
        → (x : Bool) → are_counted seen 0 ps ≡ x → cond x (Some (constraint_of r q ps)) None ≡ Some c → Reads seen (w ∷ v ∷ ws) c
    by_test r q ps i j k true h d =
        let m : constraint_of r q ps ≡ c = cc in
        let f = fraction_is v q j in
        let p = pairs_are ws ps k in
        subst (λ b. Reads seen (w ∷ v ∷ ws) b) m
        (record {
          words = ap₂ (λ a s. a ∷ s) (relation_is w r i) (ap₂ (λ a s. a ∷ s) f.text (products_are ps ∙ p.words));
          fits = (f.fits, products_fit ps p.fit);
          pairs = ps;
          products = refl;
          counted = h;
        })
    by_test r q ps i j k false h d = cc

    go : (x : Option Relation) (y : Option ℚ) (z : Option (List (ℕ × ℚ))) → relation_in w ≡ x → fraction_in v ≡ y → pairs_in ws ≡ z
        → member_by seen x y z ≡ Some c → Reads seen (w ∷ v ∷ ws) c
    go (Some r) (Some q) (Some ps) i j k d = by_test r q ps i j k (are_counted seen 0 ps) refl d
    go (Some r) (Some q) None i j k d = cc
    go (Some r) None z i j k d = cc
    go None y z i j k d = cc

-- ---- runs, counts, the head

-- what a run's line says
pub record RunReads (ws : List Text) (r : Run) : Type 0 where
  pub words : run_words r ≡ ws
  pub fit : AllByRecursion PairFits r

pub run_is : (n : ℕ) (ws : List Text) (r : Run) → run_in n ws ≡ Some r → RunReads ws r
run_is n [] r e = cc
run_is n (w ∷ ws) r e = go (bytes_eq (codes "run") w) refl e
  where
    by_test : (p : ℕ × ℚ) (s : Run) → pairs_in ws ≡ Some (p ∷ s) → (x : Bool) → cond x (Some (p ∷ s)) None ≡ Some r → ArePairs ws r
    by_test p s h true k = let m : p ∷ s ≡ r = cc in subst (ArePairs ws) m (pairs_are ws (p ∷ s) h)
    by_test p s h false k = cc

    by_pairs : (x : Option Run) → pairs_in ws ≡ x → run_by n x ≡ Some r → ArePairs ws r
    by_pairs None h d = cc
    by_pairs (Some []) h d = cc
    by_pairs (Some (p ∷ s)) h d = by_test p s h (are_members n (p ∷ s)) d

    with_word : codes "run" ≡ w → ArePairs ws r → RunReads (w ∷ ws) r
    with_word h p = record { words = ap₂ (λ a s. a ∷ s) h p.words; fit = p.fit }

    go : (x : Bool) → bytes_eq (codes "run") w ≡ x → cond x (run_by n (pairs_in ws)) None ≡ Some r → RunReads (w ∷ ws) r
    go true h d = with_word (bytes_are (codes "run") w h) (by_pairs (pairs_in ws) refl d)
    go false h d = cc

-- what a line of a word and a number says
pub record CountReads (word : Text) (ws : List Text) (n : ℕ) : Type 0 where
  pub words : word ∷ decimal n ∷ [] ≡ ws
  pub fits : n < limit

pub counted_is : (word : Text) (ws : List Text) (n : ℕ) → counted_in word ws ≡ Some n → CountReads word ws n
counted_is word [] n e = cc
counted_is word (w ∷ []) n e = cc
counted_is word (w ∷ v ∷ []) n e = go (bytes_eq word w) refl e
  where
    go : (x : Bool) → bytes_eq word w ≡ x → cond x (whole_in v) None ≡ Some n → CountReads word (w ∷ v ∷ []) n
    go true h d = let k = whole_is v n d in record { words = ap₂ (λ a b. a ∷ b ∷ []) (bytes_are word w h) k.text; fits = k.fits }
    go false h d = cc
counted_is word (w ∷ v ∷ u ∷ ws) n e = cc

pub head_is : (ws : List Text) → is_head ws ≡ true → head_words ≡ ws
head_is [] e = cc
head_is (a ∷ []) e = cc
head_is (a ∷ b ∷ []) e = cc
head_is (a ∷ b ∷ c ∷ []) e =
    let k = three_are (bytes_eq (codes "clpq") a) (bytes_eq (codes "proof") b) (bytes_eq (codes "1") c) e in
    ap₂ (λ x s. x ∷ s) (bytes_are (codes "clpq") a k.0) (ap₂ (λ y z. y ∷ z ∷ []) (bytes_are (codes "proof") b k.1) (bytes_are (codes "1") c k.2))
head_is (a ∷ b ∷ c ∷ d ∷ ws) e = cc
