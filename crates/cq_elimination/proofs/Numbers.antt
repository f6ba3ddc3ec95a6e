-- The numbers of a kind, ascending or descending.
use Rattle.std.proofs.Common.{◌⊎◌, inl, inr, ℕ, suc, zero, ◌+◌, ◌<◌, ◌≤◌, List, [], ◌∷◌, ◌++◌, arith, refl, subst, sym}
use Rattle.std.proofs.lemmas.Bool.{cases_eq}
use Rattle.spec_linear.specs.Solution.{Has}
use Rattle.spec_linear.specs.Echelon.{AreDistinct}
use Rattle.spec_projection.specs.Others.{AreAscending, AreDescending}
use Rattle.spec_projection.proofs.Members.{has_either}

ascending_front : (x : ℕ) (xs : List ℕ) → ((y : ℕ) → Has y xs → x < y) → AreAscending xs → AreAscending (x ∷ xs)
ascending_front x [] h a = tt
ascending_front x (y ∷ xs) h a = (h y (inl refl), a)

descending_front : (x : ℕ) (xs : List ℕ) → ((y : ℕ) → Has y xs → y < x) → AreDescending xs → AreDescending (x ∷ xs)
descending_front x [] h a = tt
descending_front x (y ∷ xs) h a = (h y (inl refl), a)

-- those from a number on, of so many
pub record Rising (P : ℕ → Type 0) (low k : ℕ) : Type 0 where
  pub listed : List ℕ
  pub ascending : AreAscending listed
  pub distinct : AreDistinct listed
  pub is : (x : ℕ) → Has x listed → P x
  pub above : (x : ℕ) → Has x listed → low ≤ x
  pub all : (x : ℕ) → P x → low ≤ x → x < low + k → Has x listed

-- those below a number
pub record Falling (P : ℕ → Type 0) (n : ℕ) : Type 0 where
  pub listed : List ℕ
  pub descending : AreDescending listed
  pub distinct : AreDistinct listed
  pub is : (x : ℕ) → Has x listed → P x
  pub below : (x : ℕ) → Has x listed → x < n
  pub all : (x : ℕ) → P x → x < n → Has x listed

module _ (P : ℕ → Type 0) (test : (x : ℕ) → P x ⊎ (P x → ⊥)) where
  pub rising : (low k : ℕ) → Rising P low k
  rising low zero = record {
    listed = [];
    ascending = tt;
    distinct = tt;
    is = λ x h. absurd h;
    above = λ x h. absurd h;
    all = λ x p a b. absurd (omega (arith, a, b));
  }
  rising low (suc k) = go (test low) (rising (suc low) k)
    where
      go : P low ⊎ (P low → ⊥) → Rising P (suc low) k → Rising P low (suc k)
      go (inl p) r = record {
        listed = low ∷ r.listed;
        ascending = ascending_front low r.listed r.above r.ascending;
        distinct = ((λ h. (let a : suc low ≤ low = r.above low h in absurd (omega (arith, a)))), r.distinct);
        is = λ x h. elim h [ inl e ↦ subst P (sym e) p | inr i ↦ r.is x i ];
        above = λ x h. elim h [ inl e ↦ omega (arith, e) | inr i ↦ (let a : suc low ≤ x = r.above x i in omega (arith, a)) ];
        all = λ x q a b. elim (cases_eq x low) [ inl e ↦ inl e | inr n ↦ inr (r.all x q (omega (arith, a, n)) (omega (arith, b))) ];
      }
      go (inr n) r = record {
        listed = r.listed;
        ascending = r.ascending;
        distinct = r.distinct;
        is = r.is;
        above = λ x h. (let a : suc low ≤ x = r.above x h in omega (arith, a));
        all = λ x q a b. elim (cases_eq x low) [ inl e ↦ absurd (n (subst P e q)) | inr m ↦ r.all x q (omega (arith, a, m)) (omega (arith, b)) ];
      }

  pub falling : (n : ℕ) → Falling P n
  falling zero = record {
    listed = [];
    descending = tt;
    distinct = tt;
    is = λ x h. absurd h;
    below = λ x h. absurd h;
    all = λ x p a. absurd (omega (arith, a));
  }
  falling (suc n) = go (test n) (falling n)
    where
      go : P n ⊎ (P n → ⊥) → Falling P n → Falling P (suc n)
      go (inl p) r = record {
        listed = n ∷ r.listed;
        descending = descending_front n r.listed r.below r.descending;
        distinct = ((λ h. (let a : n < n = r.below n h in absurd (omega (arith, a)))), r.distinct);
        is = λ x h. elim h [ inl e ↦ subst P (sym e) p | inr i ↦ r.is x i ];
        below = λ x h. elim h [ inl e ↦ omega (arith, e) | inr i ↦ (let a : x < n = r.below x i in omega (arith, a)) ];
        all = λ x q a. elim (cases_eq x n) [ inl e ↦ inl e | inr m ↦ inr (r.all x q (omega (arith, a, m))) ];
      }
      go (inr k) r = record {
        listed = r.listed;
        descending = r.descending;
        distinct = r.distinct;
        is = r.is;
        below = λ x h. (let a : x < n = r.below x h in omega (arith, a));
        all = λ x q a. elim (cases_eq x n) [ inl e ↦ absurd (k (subst P e q)) | inr m ↦ r.all x q (omega (arith, a, m)) ];
      }

-- ---- lists of different numbers

pub distinct_both : (xs ys : List ℕ) → AreDistinct xs → AreDistinct ys → ((x : ℕ) → Has x xs → Has x ys → ⊥) → AreDistinct (xs ++ ys)
distinct_both [] ys d e apart = e
distinct_both (x ∷ xs) ys d e apart = (
  (λ h. elim (has_either x xs ys h) [ inl k ↦ d.0 k | inr k ↦ apart x (inl refl) k ]),
  distinct_both xs ys d.1 e (λ y h k. apart y (inr h) k),
)

-- above all numbers of a list
abbrev pub above_all : List ℕ → ℕ
above_all [] = 0
above_all (x ∷ xs) = suc x + above_all xs

pub below_all : (x : ℕ) (xs : List ℕ) → Has x xs → x < above_all xs
below_all x [] h = absurd h
below_all x (y ∷ xs) (inl e) = omega (arith, e)
below_all x (y ∷ xs) (inr h) = let k : x < above_all xs = below_all x xs h in omega (arith, k)
