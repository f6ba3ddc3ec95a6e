-- Two lists without repetition that have the same members are one list in another order.
use Rattle.std.proofs.Common.{◌≡◌, ◌≢◌, ℕ, zero, suc, ◌<◌, List, [], ◌∷◌, ◌++◌, length, get_or, refl, sym, ap, ◌∙◌, subst, inl, inr, ◌⊎◌, arith}
use Rattle.std.specs.Prelude.{Contains, IsPermutation}
use Rattle.std.specs.List.{AllPairs}
use Rattle.std.proofs.lemmas.List.Sorted.{IsPermutation-refl, IsPermutation-sym, IsPermutation-cons, IsPermutation-middle, IsPermutation-trans}
use Rattle.cq_attr.proofs.Elements.{contains_here, contains_later, contains_cases, contains_none}

-- where an element stands
pub record Standing (ys : List ℕ) (x : ℕ) : Type 0 where
  pub before : List ℕ
  pub after : List ℕ
  pub is : ys ≡ before ++ x ∷ after

pub standing : (ys : List ℕ) (x : ℕ) → Contains ys x → Standing ys x
standing [] x h = absurd (contains_none x h)
standing (y ∷ ys) x h =
    elim (contains_cases y ys x h) [
      | inl e ↦ record { before = []; after = ys; is = ap (λ (z : ℕ). z ∷ ys) e }
      | inr m ↦ (let r = standing ys x m in record { before = y ∷ r.before; after = r.after; is = ap (λ (zs : List ℕ). y ∷ zs) r.is })
    ]

-- a member of the rest is one of the whole, and the other way but for the element
later_too : (z : ℕ) (xs : List ℕ) (x y : ℕ) → (x ≡ y) ⊎ Contains xs y → (x ≡ y) ⊎ Contains (z ∷ xs) y
later_too z xs x y (inl e) = inl e
later_too z xs x y (inr m) = inr (contains_later z xs y m)

pub in_rest : (b a : List ℕ) (x y : ℕ) → Contains (b ++ x ∷ a) y → (x ≡ y) ⊎ Contains (b ++ a) y
in_rest [] a x y h = contains_cases x a y h
in_rest (z ∷ b) a x y h =
    elim (contains_cases z (b ++ x ∷ a) y h) [ inl e ↦ inr (contains_here z (b ++ a) y e) | inr m ↦ later_too z (b ++ a) x y (in_rest b a x y m) ]

pub in_whole : (b a : List ℕ) (x y : ℕ) → Contains (b ++ a) y → Contains (b ++ x ∷ a) y
in_whole [] a x y h = contains_later x a y h
in_whole (z ∷ b) a x y h =
    elim (contains_cases z (b ++ a) y h) [ inl e ↦ contains_here z (b ++ x ∷ a) y e | inr m ↦ contains_later z (b ++ x ∷ a) y (in_whole b a x y m) ]

pub in_middle : (b a : List ℕ) (x : ℕ) → Contains (b ++ x ∷ a) x
in_middle [] a x = contains_here x a x refl
in_middle (z ∷ b) a x = contains_later z (b ++ x ∷ a) x (in_middle b a x)

-- no element stands again behind
abbrev pub IsOnce : List ℕ → Type 0
IsOnce xs = AllPairs ◌≢◌ xs

pub once_rest : (x : ℕ) (xs : List ℕ) → IsOnce (x ∷ xs) → IsOnce xs
once_rest x xs h i j d l m = h (suc i) (suc j) d (omega (arith, l)) (omega (arith, m))

pub once_head : (x : ℕ) (xs : List ℕ) → IsOnce (x ∷ xs) → Contains xs x → ⊥
once_head x xs h m = h 0 (suc m.0) x (omega arith) (omega (arith, m.1)) (sym m.2)

pub any_default : (ys : List ℕ) (j d e : ℕ) → j < length ys → get_or ys j e ≡ get_or ys j d
any_default [] j d e l = absurd (omega (arith, l))
any_default (y ∷ ys) zero d e l = refl
any_default (y ∷ ys) (suc j) d e l = any_default ys j d e (omega (arith, l))

pub once_cons : (y : ℕ) (ys : List ℕ) → IsOnce ys → (Contains ys y → ⊥) → IsOnce (y ∷ ys)
once_cons y ys o n zero zero d l m = absurd (omega (arith, l))
once_cons y ys o n zero (suc j) d l m = λ e. n (j, omega (arith, m), any_default ys j d y (omega (arith, m)) ∙ sym e)
once_cons y ys o n (suc i) zero d l m = absurd (omega (arith, l))
once_cons y ys o n (suc i) (suc j) d l m = o i j d (omega (arith, l)) (omega (arith, m))

-- the list without the element
pub once_without : (b a : List ℕ) (x : ℕ) → IsOnce (b ++ x ∷ a) → IsOnce (b ++ a) × (Contains (b ++ a) x → ⊥)
once_without [] a x h = (once_rest x a h, once_head x a h)
once_without (z ∷ b) a x h =
    let r = once_without b a x (once_rest z (b ++ x ∷ a) h) in (
      once_cons z (b ++ a) r.0 (λ m. once_head z (b ++ x ∷ a) h (in_whole b a x z m)),
      λ m. elim (contains_cases z (b ++ a) x m) [
        | inl e ↦ once_head z (b ++ x ∷ a) h (subst (λ (y : ℕ). Contains (b ++ x ∷ a) y) (sym e) (in_middle b a x))
        | inr n ↦ r.1 n
      ],
    )

not_other : {A : Type 0} (x : ℕ) (xs : List ℕ) (v : ℕ) → IsOnce (x ∷ xs) → Contains xs v → (x ≡ v) ⊎ A → A
not_other x xs v o m (inl e) = absurd (once_head x xs o (subst (λ (z : ℕ). Contains xs z) (sym e) m))
not_other x xs v o m (inr a) = a

not_first : (x : ℕ) (xs : List ℕ) (v : ℕ) → (x ≡ v → ⊥) → (x ≡ v) ⊎ Contains xs v → Contains xs v
not_first x xs v n (inl e) = absurd (n e)
not_first x xs v n (inr m) = m

pub permuted : (xs ys : List ℕ) → IsOnce xs → IsOnce ys → ((v : ℕ) → Contains xs v → Contains ys v) → ((v : ℕ) → Contains ys v → Contains xs v)
    → IsPermutation xs ys
permuted [] [] o q f g = IsPermutation-refl []
permuted [] (y ∷ ys) o q f g = absurd (contains_none y (g y (contains_here y ys y refl)))
permuted (x ∷ xs) ys o q f g =
    let s = standing ys x (f x (contains_here x xs x refl)) in
    let w = once_without s.before s.after x (subst IsOnce s.is q) in
    let rest : IsPermutation xs (s.before ++ s.after) = permuted xs (s.before ++ s.after) (once_rest x xs o) w.0
    (λ v m. not_other x xs v o m (in_rest s.before s.after x v (subst (λ (zs : List ℕ). Contains zs v) s.is (f v (contains_later x xs v m)))))
    (λ v m. not_first x xs v (λ e. w.1 (subst (λ (z : ℕ). Contains (s.before ++ s.after) z) (sym e) m))
    (contains_cases x xs v (g v (subst (λ (zs : List ℕ). Contains zs v) (sym s.is) (in_whole s.before s.after x v m))))) in
    subst (λ (zs : List ℕ). IsPermutation (x ∷ xs) zs) (sym s.is)
    (IsPermutation-trans _ _ _ (IsPermutation-cons x xs (s.before ++ s.after) rest) (IsPermutation-sym _ _ (IsPermutation-middle s.before x s.after)))
