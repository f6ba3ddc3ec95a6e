-- Two copies of one term that keep the same variables are the same but for the form of their rows.
use Rattle.std.proofs.Common.{◌≡◌, ◌↔◌, ◌⊎◌, inl, inr, ℕ, ◌<◌, List, [], ◌∷◌, ◌++◌, map, refl, sym, ap, ap₂, subst, ◌∙◌, arith}
use Rattle.std.specs.Prelude.{filter}
use Rattle.spec_linear.specs.Solution.{Constraint, Has, Equivalent, Same, number}
use Rattle.spec_linear.proofs.Points.{solves_same}
use Rattle.spec_projection.specs.Others.{AreAscending}
use Rattle.spec_projection.proofs.SameOn.{alike_same_on}
use Rattle.spec_syntax.specs.Trees.{Tree}
use Rattle.spec_branch.specs.Branch.{State, Copied, read}
use Rattle.spec_branch.specs.Alike.{with_linear}
use Rattle.spec_copies.specs.Reach.{links, touches, delayed_terms, asleep_terms, asleep_link}
use Rattle.spec_copies.specs.Copies.{IsRest, reach, IsCopy}
use Rattle.spec_copies.specs.Alike.{SameCopy}

-- ---- ascending lists are their members

above_first : (x y : ℕ) (xs : List ℕ) → AreAscending (x ∷ xs) → Has y xs → x < y
above_first x y [] a h = absurd h
above_first x y (z ∷ xs) a (inl e) = subst (λ w. x < w) (sym e) a.0
above_first x y (z ∷ xs) a (inr h) = let k : z < y = above_first z y xs a.1 h in let j = a.0 in omega (arith, j, k)

ascending_rest : (x : ℕ) (xs : List ℕ) → AreAscending (x ∷ xs) → AreAscending xs
ascending_rest x [] a = tt
ascending_rest x (y ∷ xs) a = a.1

first_least : (x y : ℕ) (xs : List ℕ) → AreAscending (x ∷ xs) → Has y (x ∷ xs) → (y ≡ x) ⊎ (x < y)
first_least x y xs a (inl e) = inl e
first_least x y xs a (inr h) = inr (above_first x y xs a h)

first_same : (x y : ℕ) (xs ys : List ℕ) → AreAscending (x ∷ xs) → AreAscending (y ∷ ys) → Has x (y ∷ ys) → Has y (x ∷ xs) → x ≡ y
first_same x y xs ys a b h k = elim (first_least y x ys b h) [
  | inl e ↦ e
  | inr i ↦ elim (first_least x y xs a k) [ inl e ↦ sym e | inr j ↦ absurd (omega (arith, i, j)) ]
]

pub ascending_same : (xs ys : List ℕ) → AreAscending xs → AreAscending ys → ((v : ℕ) → Has v xs → Has v ys) → ((v : ℕ) → Has v ys → Has v xs) → xs ≡ ys
ascending_same [] [] a b h k = refl
ascending_same [] (y ∷ ys) a b h k = absurd (k y (inl refl))
ascending_same (x ∷ xs) [] a b h k = absurd (h x (inl refl))
ascending_same (x ∷ xs) (y ∷ ys) a b h k =
    let e : x ≡ y = first_same x y xs ys a b (h x (inl refl)) (k y (inl refl)) in
    ap₂ (λ (v : ℕ) (vs : List ℕ). v ∷ vs) e
    (ascending_same xs ys (ascending_rest x xs a) (ascending_rest y ys b)
    (λ v m. elim (h v (inr m)) [ inl d ↦ (let l : x < v = above_first x v xs a m in absurd (omega (arith, l, d, e))) | inr n ↦ n ])
    (λ v m. elim (k v (inr m)) [ inl d ↦ (let l : y < v = above_first y v ys b m in absurd (omega (arith, l, d, e))) | inr n ↦ n ]))

-- ---- rows that say the same

pub rows_alike : (vs : List ℕ) (r s k l : List Constraint) → Equivalent k l → Same vs r k → Same vs s l → Equivalent r s
rows_alike vs r s k l h a b p = (
  (λ i. (solves_same p s).1 ((b.same (number p)).1 ((alike_same_on vs k l h (number p)).0 ((a.same (number p)).0 ((solves_same p r).0 i))))),
  (λ i. (solves_same p r).1 ((a.same (number p)).1 ((alike_same_on vs k l h (number p)).1 ((b.same (number p)).0 ((solves_same p s).0 i))))),
)

-- ---- the copies

module _ (st : State) (l : List Constraint) (alike : Equivalent st.linear l) (t : Tree) (c d : Copied) (h : IsCopy st t c) (k : IsCopy (with_linear l st) t d)
    (one : c.variables ≡ d.variables) where
  rest_same : h.rest ≡ k.rest
  rest_same =
      ascending_same h.rest k.rest h.is_rest.older_first k.is_rest.older_first
      (λ v m. (k.is_rest.reached v).1 ((h.is_rest.reached v).0 m))
      (λ v m. (h.is_rest.reached v).1 ((k.is_rest.reached v).0 m))

  pub same : SameCopy c d
  same = record {
    variables = one;
    term = h.term_is ∙ sym k.term_is;
    numeric = h.numeric_are ∙ ap (filter st.numeric) (sym h.variables_are ∙ one ∙ k.variables_are) ∙ sym k.numeric_are;
    rows =
        rows_alike c.variables c.rows d.rows st.linear l alike (subst (λ vs. Same vs c.rows st.linear) (sym h.variables_are) h.rows_say)
        (subst (λ vs. Same vs d.rows l) (sym (one ∙ k.variables_are)) k.rows_say);
    told = h.told_are ∙ ap (λ (r : List ℕ). filter (touches (reach st t r)) (delayed_terms st)) rest_same ∙ sym k.told_are;
    asleep = h.asleep_are ∙ ap (λ (r : List ℕ). filter (λ a. touches (reach st t r) (asleep_link a).from) (asleep_terms st)) rest_same ∙ sym k.asleep_are;
  }
