-- The standard order is a total order.
use Rattle.std.proofs.Common.{◌≡◌, ℕ, [], ◌∷◌, refl, ap, sym, ◌∙◌}
use Rattle.std.specs.Cmp.{IsTotalOrder}
use Rattle.std.specs.Cmp.Lexicographic.{slice_cmp}
use Rattle.std.specs.declared.cmp.Ordering.{Ordering}
use Rattle.std.specs.declared.cmp.Ordering.TheVariants.{Less, Equal, Greater}
use Rattle.std.specs.Ordering.{nat_cmp, ordering_reverse, ordering_then}
use Rattle.std.proofs.lemmas.Cmp.{ranked, nat_cmp_total, lists_total, tied_itself, alike_right}
use Rattle.spec_numbers.proofs.Order.{cmp_ℚ-total, cmp_ℚ-equal}
use Rattle.spec_terms.specs.Term.{Term, Terms, Var, Number, Name, Compound, one, more, count}
use Rattle.spec_numbers.specs.Texts.{Text}
use Rattle.spec_terms.specs.Order.{compare_texts, compare_terms, compare_all}

-- ---- two comparisons, one after the other
pub first_equal : (o p : Ordering) → ordering_then o p ≡ Equal → o ≡ Equal
first_equal Less p e = e
first_equal Equal p e = refl
first_equal Greater p e = e

pub second_equal : (o p : Ordering) → ordering_then o p ≡ Equal → p ≡ Equal
second_equal Less p e = cc
second_equal Equal p e = e
second_equal Greater p e = cc

reverse-then : (o p : Ordering) → ordering_reverse (ordering_then o p) ≡ ordering_then (ordering_reverse o) (ordering_reverse p)
reverse-then Less p = refl
reverse-then Equal p = refl
reverse-then Greater p = refl

-- the first comparisons, of x with y, of y with z and of x with z, and then the second ones
then_chain : (xy yz xz xy' yz' xz' : Ordering) → (xy ≡ Less → yz ≡ Less → xz ≡ Less) → (xy ≡ Equal → xz ≡ yz) → (yz ≡ Equal → xz ≡ xy) → (xy' ≡ Less → yz' ≡ Less → xz' ≡ Less) →
    ordering_then xy xy' ≡ Less → ordering_then yz yz' ≡ Less → ordering_then xz xz' ≡ Less
then_chain Less Less xz xy' yz' xz' chain left right rest h k = ap (λ o. ordering_then o xz') (chain refl refl)
then_chain Less Equal xz xy' yz' xz' chain left right rest h k = ap (λ o. ordering_then o xz') (right refl)
then_chain Less Greater xz xy' yz' xz' chain left right rest h k = cc
then_chain Equal Less xz xy' yz' xz' chain left right rest h k = ap (λ o. ordering_then o xz') (left refl)
then_chain Equal Equal xz xy' yz' xz' chain left right rest h k = ap (λ o. ordering_then o xz') (left refl) ∙ rest h k
then_chain Equal Greater xz xy' yz' xz' chain left right rest h k = cc
then_chain Greater yz xz xy' yz' xz' chain left right rest h k = cc

-- ---- the same place, the same term
pub nat_cmp-equal : (m n : ℕ) → nat_cmp m n ≡ Equal → m ≡ n
nat_cmp-equal m n e = ranked m n Equal (sym e)

texts_equal : (a b : Text) → compare_texts a b ≡ Equal → a ≡ b
texts_equal [] [] e = refl
texts_equal [] (n ∷ b) e = cc
texts_equal (m ∷ a) [] e = cc
texts_equal (m ∷ a) (n ∷ b) e =
    let h : m ≡ n = nat_cmp-equal m n (first_equal (nat_cmp m n) (slice_cmp nat_cmp a b) e) in
    let k : a ≡ b = texts_equal a b (second_equal (nat_cmp m n) (slice_cmp nat_cmp a b) e) in
    λ i. h i ∷ k i

mutual
  pub compare_terms-equal : (t u : Term Text) → compare_terms t u ≡ Equal → t ≡ u
  compare_terms-equal (Var v) (Var w) e = ap (λ x. Var x) (nat_cmp-equal v w e)
  compare_terms-equal (Number p) (Number q) e = ap (λ x. Number x) (cmp_ℚ-equal p q e)
  compare_terms-equal (Name a) (Name b) e = ap (λ x. Name x) (texts_equal a b e)
  compare_terms-equal (Compound f ts) (Compound g us) e =
      let rest = second_equal (nat_cmp (count ts) (count us)) (ordering_then (compare_texts f g) (compare_all ts us)) e in
      let name : f ≡ g = texts_equal f g (first_equal (compare_texts f g) (compare_all ts us) rest) in
      let all : ts ≡ us = compare_all-equal ts us (second_equal (compare_texts f g) (compare_all ts us) rest) in
      λ i. Compound (name i) (all i)
  compare_terms-equal t u e = cc

  compare_all-equal : (ts us : Terms Text) → compare_all ts us ≡ Equal → ts ≡ us
  compare_all-equal (one t) (one u) e = ap (λ x. one x) (compare_terms-equal t u e)
  compare_all-equal (more t ts) (more u us) e =
      let first : t ≡ u = compare_terms-equal t u (first_equal (compare_terms t u) (compare_all ts us) e) in
      let rest : ts ≡ us = compare_all-equal ts us (second_equal (compare_terms t u) (compare_all ts us) e) in
      λ i. more (first i) (rest i)
  compare_all-equal ts us e = cc

-- ---- the other way round
texts_total : IsTotalOrder compare_texts
texts_total = lists_total nat_cmp_total

mutual
  pub compare_terms-turned : (t u : Term Text) → compare_terms t u ≡ ordering_reverse (compare_terms u t)
  compare_terms-turned (Var v) (Var w) = nat_cmp_total.antisymm v w
  compare_terms-turned (Number p) (Number q) = cmp_ℚ-total.antisymm p q
  compare_terms-turned (Name a) (Name b) = texts_total.antisymm a b
  compare_terms-turned (Compound f ts) (Compound g us) =
      (λ i. ordering_then (nat_cmp_total.antisymm (count ts) (count us) i) (ordering_then (texts_total.antisymm f g i) (compare_all-turned ts us i)))
      ∙ ap (ordering_then (ordering_reverse (nat_cmp (count us) (count ts)))) (sym (reverse-then (compare_texts g f) (compare_all us ts)))
      ∙ sym (reverse-then (nat_cmp (count us) (count ts)) (ordering_then (compare_texts g f) (compare_all us ts)))
  compare_terms-turned t u = refl

  compare_all-turned : (ts us : Terms Text) → compare_all ts us ≡ ordering_reverse (compare_all us ts)
  compare_all-turned (one t) (one u) = compare_terms-turned t u
  compare_all-turned (more t ts) (more u us) =
      (λ i. ordering_then (compare_terms-turned t u i) (compare_all-turned ts us i)) ∙ sym (reverse-then (compare_terms u t) (compare_all us ts))
  compare_all-turned ts us = refl

-- ---- what is below what is below
mutual
  compare_terms-chain : (t u w : Term Text) → compare_terms t u ≡ Less → compare_terms u w ≡ Less → compare_terms t w ≡ Less
  compare_terms-chain (Var x) (Var y) (Var z) h k = nat_cmp_total.trans x y z h k
  compare_terms-chain (Number x) (Number y) (Number z) h k = cmp_ℚ-total.trans x y z h k
  compare_terms-chain (Name x) (Name y) (Name z) h k = texts_total.trans x y z h k
  compare_terms-chain (Compound x xs) (Compound y ys) (Compound z zs) h k =
      then_chain (nat_cmp (count xs) (count ys)) (nat_cmp (count ys) (count zs)) (nat_cmp (count xs) (count zs))
      (ordering_then (compare_texts x y) (compare_all xs ys)) (ordering_then (compare_texts y z) (compare_all ys zs)) (ordering_then (compare_texts x z) (compare_all xs zs))
      (nat_cmp_total.trans (count xs) (count ys) (count zs)) (nat_cmp_total.congr (count xs) (count ys) (count zs)) (λ e. sym (alike_right nat_cmp_total (count ys) (count zs) (count xs) e))
      (then_chain (compare_texts x y) (compare_texts y z) (compare_texts x z) (compare_all xs ys) (compare_all ys zs) (compare_all xs zs)
      (texts_total.trans x y z) (texts_total.congr x y z) (λ e. sym (alike_right texts_total y z x e)) (compare_all-chain xs ys zs))
      h k
  compare_terms-chain (Var x) u (Number z) h k = refl
  compare_terms-chain (Var x) u (Name z) h k = refl
  compare_terms-chain (Var x) u (Compound z zs) h k = refl
  compare_terms-chain (Number x) u (Name z) h k = refl
  compare_terms-chain (Number x) u (Compound z zs) h k = refl
  compare_terms-chain (Name x) u (Compound z zs) h k = refl
  compare_terms-chain t (Var y) w h k = cc
  compare_terms-chain t (Number y) w h k = cc
  compare_terms-chain t (Name y) w h k = cc
  compare_terms-chain t (Compound y ys) w h k = cc

  compare_all-chain : (ts us ws : Terms Text) → compare_all ts us ≡ Less → compare_all us ws ≡ Less → compare_all ts ws ≡ Less
  compare_all-chain (one t) (one u) (one w) h k = compare_terms-chain t u w h k
  compare_all-chain (more t ts) (more u us) (more w ws) h k =
      then_chain (compare_terms t u) (compare_terms u w) (compare_terms t w) (compare_all ts us) (compare_all us ws) (compare_all ts ws)
      (compare_terms-chain t u w) (λ e. ap (λ x. compare_terms x w) (compare_terms-equal t u e)) (λ e. sym (ap (compare_terms t) (compare_terms-equal u w e)))
      (compare_all-chain ts us ws) h k
  compare_all-chain (one t) us (more w ws) h k = refl
  compare_all-chain (more t ts) (one u) ws h k = cc
  compare_all-chain ts (more u us) (one w) h k = cc

pub compare_terms-total : IsTotalOrder compare_terms
compare_terms-total = record {
  antisymm = compare_terms-turned;
  trans = compare_terms-chain;
  congr = λ t u w e. ap (λ x. compare_terms x w) (compare_terms-equal t u e);
}

pub compare_terms-itself : (t u : Term Text) → t ≡ u → compare_terms t u ≡ Equal
compare_terms-itself t u e = ap (compare_terms t) (sym e) ∙ tied_itself compare_terms-total t
