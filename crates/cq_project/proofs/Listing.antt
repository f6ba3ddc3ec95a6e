-- Variables by age, and those that are not among others.
use mathlib.Core.List.{reverse-cons}
use Rattle.std.proofs.Common.{◌≡◌, ◌↔◌, reverse, inl, inr, ℕ, zero, suc, ◌+◌, ◌<◌, List, [], ◌∷◌, ◌++◌, length, take, get_or, Bool, true, false, cond, not, nat_eq, ◌||◌, arith, refl, ap, sym, subst, ◌∙◌}
use Rattle.std.specs.Prelude.{Contains, filter, IsPermutation}
use Rattle.std.specs.List.{dedup}
use Rattle.std.proofs.lemmas.List.{take_more, map-append}
use Rattle.std.proofs.lemmas.List.Kept.{Contains-dedup_nat, Contains-from_dedup}
use Rattle.std.proofs.lemmas.List.Sorted.{Contains-permutation, IsPermutation-sym}
use Rattle.spec_linear.specs.Form.{variables}
use Rattle.spec_linear.proofs.Orders.{mentions-has}
use Rattle.spec_projection.proofs.Eliminating.{sublist_mentions}
use Rattle.spec_projection.proofs.Rows.{mention_either}
use Rattle.cq_frac.specs.declared.VarId.{VarId}
use Rattle.cq_equations.specs.Told.{numbers_of}
use Rattle.cq_equations.proofs.Telling.{variables-mention}
use Rattle.std.specs.List.Sorted.{IsStrictlyIncreasing}
use Rattle.spec_numbers.proofs.Tests.{nat_eq-same, nat_eq-other}
use Rattle.spec_linear.specs.Solution.{Constraint, Has, SomeMentions, MentionsOnly}
use Rattle.spec_linear.proofs.Denominators.{has_left, has_right}
use Rattle.spec_linear.specs.Echelon.{AreDistinct}
use Rattle.spec_projection.specs.Others.{AreAscending, AreDescending, AreOthers}
use Rattle.spec_projection.proofs.Members.{has_either, has_filtered, has_passed}
use Rattle.spec_projection.proofs.Standing.{has_or_not}
use Rattle.cq_project.specs.Variables.{is_among, others_than, AreUnwanted}

-- ---- members

pub contains_of_has : (xs : List ℕ) (x : ℕ) → Has x xs → Contains xs x
contains_of_has [] x h = absurd h
contains_of_has (y ∷ xs) x (inl e) = (0, omega arith, sym e)
contains_of_has (y ∷ xs) x (inr h) = let c = contains_of_has xs x h in (suc c.0, omega (arith, c.1), c.2)

pub has_of_contains : (xs : List ℕ) (x : ℕ) → Contains xs x → Has x xs
has_of_contains [] x c = absurd (omega (arith, c.1))
has_of_contains (y ∷ xs) x c = by_place c.0 c.1 c.2 (has_of_contains xs x)
  where
    by_place : (k : ℕ) → k < length (y ∷ xs) → get_or (y ∷ xs) k x ≡ x → (Contains xs x → Has x xs) → Has x (y ∷ xs)
    by_place zero l e r = inl (sym e)
    by_place (suc k) l e r = inr (r (k, omega (arith, l), e))

pub among_has : (xs : List ℕ) (x : ℕ) → is_among xs x ≡ true → Has x xs
among_has [] x e = let d : false ≡ true = e in cc
among_has (y ∷ xs) x e = by (nat_eq x y) refl (among_has xs x) e
  where
    by : (b : Bool) → nat_eq x y ≡ b → (is_among xs x ≡ true → Has x xs) → (b || is_among xs x) ≡ true → Has x (y ∷ xs)
    by true s r t = inl (nat_eq-same x y s)
    by false s r t = inr (r t)

pub none_among : (xs : List ℕ) (x : ℕ) → is_among xs x ≡ false → Has x xs → ⊥
none_among [] x e h = h
none_among (y ∷ xs) x e h = by (nat_eq x y) refl (none_among xs x) e h
  where
    by : (b : Bool) → nat_eq x y ≡ b → (is_among xs x ≡ false → Has x xs → ⊥) → (b || is_among xs x) ≡ false → Has x (y ∷ xs) → ⊥
    by true s r t h = let d : true ≡ false = t in cc
    by false s r t (inl i) = nat_eq-other x y s i
    by false s r t (inr m) = r t m

pub has_among : (xs : List ℕ) (x : ℕ) → Has x xs → is_among xs x ≡ true
has_among xs x h = by (is_among xs x) refl
  where
    by : (b : Bool) → is_among xs x ≡ b → is_among xs x ≡ true
    by true e = e
    by false e = absurd (none_among xs x e h)

pub not_among : (xs : List ℕ) (x : ℕ) → (Has x xs → ⊥) → not (is_among xs x) ≡ true
not_among xs x n = by (is_among xs x) refl
  where
    by : (b : Bool) → is_among xs x ≡ b → not b ≡ true
    by true e = absurd (n (among_has xs x e))
    by false e = refl

pub apart_from : (xs : List ℕ) (x : ℕ) → not (is_among xs x) ≡ true → Has x xs → ⊥
apart_from xs x e h = let d : not true ≡ true = ap not (sym (has_among xs x h)) ∙ e in let f : false ≡ true = d in cc

pub others_has : (taken xs : List ℕ) (x : ℕ) → Has x (others_than taken xs) ↔ (Has x xs × (Has x taken → ⊥))
others_has taken xs x = (
  (λ h. let k = has_filtered (λ y. not (is_among taken y)) x xs h in (k.0, apart_from taken x k.1)),
  (λ h. has_passed (λ y. not (is_among taken y)) x xs h.0 (not_among taken x h.1)),
)

-- ---- by age

pub ascending : (xs : List ℕ) → IsStrictlyIncreasing xs → AreAscending xs
ascending [] h = tt
ascending (x ∷ []) h = tt
ascending (x ∷ y ∷ xs) h = (
  h 0 (omega arith),
  ascending (y ∷ xs) (λ k within. let e : suc k + 1 ≡ suc (k + 1) = omega arith in subst (λ n. get_or (y ∷ xs) k 0 < get_or (x ∷ y ∷ xs) n 0) e (h (suc k) (omega arith))),
)

ascending_rest : (x : ℕ) (xs : List ℕ) → AreAscending (x ∷ xs) → AreAscending xs
ascending_rest x [] a = tt
ascending_rest x (y ∷ xs) a = a.1

above : (x : ℕ) (xs : List ℕ) → AreAscending (x ∷ xs) → (y : ℕ) → Has y xs → x < y
above x [] a y h = absurd h
above x (z ∷ xs) a y (inl e) = subst (λ w. x < w) (sym e) a.0
above x (z ∷ xs) a y (inr h) = let more : z < y = above z xs a.1 y h in let first : x < z = a.0 in omega arith

ascending_more : (x : ℕ) (xs : List ℕ) → AreAscending xs → ((y : ℕ) → Has y xs → x < y) → AreAscending (x ∷ xs)
ascending_more x [] a h = tt
ascending_more x (y ∷ xs) a h = (h y (inl refl), a)

pub ascending_filter : (test : ℕ → Bool) (xs : List ℕ) → AreAscending xs → AreAscending (filter test xs)
ascending_filter test [] a = tt
ascending_filter test (x ∷ xs) a = by (test x) (ascending_filter test xs (ascending_rest x xs a))
  where
    by : (b : Bool) → AreAscending (filter test xs) → AreAscending (cond b (x ∷ filter test xs) (filter test xs))
    by true r = ascending_more x (filter test xs) r (λ y h. above x xs a y (has_filtered test y xs h).0)
    by false r = r

pub ascending_distinct : (xs : List ℕ) → AreAscending xs → AreDistinct xs
ascending_distinct [] a = tt
ascending_distinct (x ∷ xs) a = ((λ h. let more : x < x = above x xs a x h in omega arith), ascending_distinct xs (ascending_rest x xs a))

descending_more : (ys : List ℕ) (x : ℕ) → AreDescending ys → ((y : ℕ) → Has y ys → x < y) → AreDescending (ys ++ x ∷ [])
descending_more [] x d h = tt
descending_more (a ∷ []) x d h = (h a (inl refl), tt)
descending_more (a ∷ b ∷ ys) x d h = (d.0, descending_more (b ∷ ys) x d.1 (λ y k. h y (inr k)))

below : (x : ℕ) (xs : List ℕ) → AreDescending (x ∷ xs) → (y : ℕ) → Has y xs → y < x
below x [] d y h = absurd h
below x (z ∷ xs) d y (inl e) = subst (λ w. w < x) (sym e) d.0
below x (z ∷ xs) d y (inr h) = let more : y < z = below z xs d.1 y h in let first : z < x = d.0 in omega arith

descending_rest : (x : ℕ) (xs : List ℕ) → AreDescending (x ∷ xs) → AreDescending xs
descending_rest x [] d = tt
descending_rest x (y ∷ xs) d = d.1

descending_distinct : (xs : List ℕ) → AreDescending xs → AreDistinct xs
descending_distinct [] d = tt
descending_distinct (x ∷ xs) d = ((λ h. let less : x < x = below x xs d x h in omega arith), descending_distinct xs (descending_rest x xs d))

pub distinct_both : (xs ys : List ℕ) → AreDistinct xs → AreDistinct ys → ((x : ℕ) → Has x xs → Has x ys → ⊥) → AreDistinct (xs ++ ys)
distinct_both [] ys d e n = e
distinct_both (x ∷ xs) ys d e n = (
  (λ h. elim (has_either x xs ys h) [ inl k ↦ d.0 k | inr k ↦ n x (inl refl) k ]),
  distinct_both xs ys d.1 e (λ y h k. n y (inr h) k),
)

-- ---- the order of the others and the targets

module _ (targets front : List ℕ) (l : List Constraint) (o : AreOthers targets l front) where
  pub order_distinct : AreDistinct targets → AreDistinct (front ++ targets)
  order_distinct d = distinct_both front targets (descending_distinct front o.youngest_first) d (λ x h. ((o.others x).0 h).1)

  pub order_all : MentionsOnly (front ++ targets) l
  order_all x m = elim (has_or_not x targets) [ inl h ↦ has_right x front targets h | inr n ↦ has_left x front targets ((o.others x).1 (m, n)) ]

-- ---- reversed

pub has_reversed : (xs : List ℕ) (x : ℕ) → Has x (reverse xs) ↔ Has x xs
has_reversed [] x = ((λ h. h), (λ h. h))
has_reversed (y ∷ xs) x = (
  (λ h. elim (has_either x (reverse xs) (y ∷ []) (subst (Has x) (reverse-cons y xs) h)) [
    | inl i ↦ inr ((has_reversed xs x).0 i)
    | inr i ↦ elim i [ inl e ↦ inl e | inr n ↦ absurd n ]
  ]),
  (λ h. subst (Has x) (sym (reverse-cons y xs)) (elim h [
    | inl e ↦ has_right x (reverse xs) (y ∷ []) (inl e)
    | inr i ↦ has_left x (reverse xs) (y ∷ []) ((has_reversed xs x).1 i)
  ])),
)

pub descending : (xs : List ℕ) → AreAscending xs → AreDescending (reverse xs)
descending [] a = tt
descending (x ∷ xs) a =
    subst AreDescending (sym (reverse-cons x xs))
    (descending_more (reverse xs) x (descending xs (ascending_rest x xs a)) (λ y h. above x xs a y ((has_reversed xs y).0 h)))

numbers_reversed : (vs : List VarId) → numbers_of (reverse vs) ≡ reverse (numbers_of vs)
numbers_reversed [] = refl
numbers_reversed (v ∷ vs) =
    ap numbers_of (reverse-cons v vs) ∙ map-append (λ (x : VarId). x.0) (reverse vs) (v ∷ []) ∙ ap (λ w. w ++ v.0 ∷ []) (numbers_reversed vs) ∙ sym (reverse-cons v.0 (numbers_of vs))

-- ---- the variables of rows

pub mentioned_more : (rows : List Constraint) (i : ℕ) (row : Constraint) (old new : List ℕ) → i < length rows → row ≡ get_or rows i row
    → new ≡ old ++ variables row.form.products → ((x : ℕ) → Has x old ↔ SomeMentions x (take i rows)) → (x : ℕ)
    → Has x new ↔ SomeMentions x (take (i + 1) rows)
mentioned_more rows i row old new within at e known x =
    let one : take (i + 1) rows ≡ take i rows ++ row ∷ [] = take_more rows i row within ∙ ap (λ d. take i rows ++ d ∷ []) (sym at) in (
      (λ h. subst (SomeMentions x) (sym one) (elim (has_either x old (variables row.form.products) (subst (Has x) e h)) [
        | inl k ↦ sublist_mentions (take i rows) (take i rows ++ row ∷ []) (λ c. has_left c (take i rows) (row ∷ [])) x ((known x).0 k)
        | inr k ↦ sublist_mentions (row ∷ []) (take i rows ++ row ∷ []) (λ c. has_right c (take i rows) (row ∷ [])) x (inl (variables-mention x row.form.products k))
      ])),
      (λ m. subst (Has x) (sym e) (elim (mention_either x (take i rows) (row ∷ []) (subst (SomeMentions x) one m)) [
        | inl k ↦ has_left x old (variables row.form.products) ((known x).1 k)
        | inr k ↦ elim k [ inl j ↦ has_right x old (variables row.form.products) (mentions-has x row.form.products j) | inr n ↦ absurd n ]
      ])),
    )

pub deduped : (given sorted : List ℕ) → IsPermutation given sorted → (x : ℕ) → Has x (dedup nat_eq sorted) ↔ Has x given
deduped given sorted p x = (
  (λ h. has_of_contains given x
      (Contains-permutation sorted given x (IsPermutation-sym given sorted p) (Contains-from_dedup nat_eq sorted x (contains_of_has (dedup nat_eq sorted) x h)))),
  (λ h. has_of_contains (dedup nat_eq sorted) x (Contains-dedup_nat sorted x (Contains-permutation given sorted x p (contains_of_has given x h)))),
)

pub unwanted_are : (targets xs : List ℕ) (rows : List Constraint) → AreAscending xs → ((x : ℕ) → Has x xs ↔ SomeMentions x rows)
    → AreUnwanted targets rows (others_than targets xs)
unwanted_are targets xs rows a m = record {
  oldest_first = ascending_filter (λ x. not (is_among targets x)) xs a;
  those = λ x.
      let o = others_has targets xs x in (
        (λ h. let k = o.0 h in ((m x).0 k.0, k.1)),
        (λ h. o.1 ((m x).1 h.0, h.1)),
      );
}

pub others_are : (targets : List ℕ) (l : List Constraint) (vs : List VarId) → AreUnwanted targets l (numbers_of vs) → AreOthers targets l (numbers_of (reverse vs))
others_are targets l vs u =
    subst (AreOthers targets l) (sym (numbers_reversed vs))
    (record {
      youngest_first = descending (numbers_of vs) u.oldest_first;
      others = λ x.
          let r = has_reversed (numbers_of vs) x in
          let t = u.those x in ((λ h. t.0 (r.0 h)), (λ h. r.1 (t.1 h)));
    })
