-- The numbers of a list that are of a kind, ascending or descending, each once.
use Rattle.std.proofs.Common.{◌≡◌, ◌⊎◌, inl, inr, ℕ, zero, suc, ◌<◌, List, [], ◌∷◌, arith, refl, sym, ap, subst}
use Rattle.std.specs.Prelude.{⊤}
use Rattle.spec_linear.specs.Solution.{Has}
use Rattle.spec_linear.specs.Echelon.{AreDistinct}
use Rattle.spec_projection.specs.Others.{AreAscending, AreDescending}
use Rattle.spec_projection.proofs.DecidedLemmas.{nat_dec}

pub above_or_below : (x y : ℕ) → (x ≡ y → ⊥) → (x < y) ⊎ (y < x)
above_or_below zero zero n = absurd (n refl)
above_or_below zero (suc y) n = inl (omega arith)
above_or_below (suc x) zero n = inr (omega arith)
above_or_below (suc x) (suc y) n = elim (above_or_below x y (λ e. n (ap suc e))) [ inl h ↦ inl (omega (arith, h)) | inr h ↦ inr (omega (arith, h)) ]

module _ (Before : ℕ → ℕ → Type 0) (one_first : (x y : ℕ) → (x ≡ y → ⊥) → Before x y ⊎ Before y x)
    (through : (x y z : ℕ) → Before x y → Before y z → Before x z) where
  -- each number stands before all behind it
  abbrev pub AreInOrder : List ℕ → Type 0
  AreInOrder [] = ⊤
  AreInOrder (x ∷ xs) = ((y : ℕ) → Has y xs → Before x y) × AreInOrder xs

  -- the numbers in order, with one more
  record With (x : ℕ) (xs : List ℕ) : Type 0 where
    listed : List ℕ
    in_order : AreInOrder listed
    is : (y : ℕ) → Has y listed → (y ≡ x) ⊎ Has y xs
    here : Has x listed
    all : (y : ℕ) → Has y xs → Has y listed

  in_front : (x y : ℕ) (xs : List ℕ) → AreInOrder (y ∷ xs) → Before x y → With x (y ∷ xs)
  in_front x y xs o b = record {
    listed = x ∷ y ∷ xs;
    in_order = ((λ z h. elim h [ inl e ↦ subst (Before x) (sym e) b | inr k ↦ through x y z b (o.0 z k) ]), o);
    is = λ z h. h;
    here = inl refl;
    all = λ z h. inr h;
  }

  behind : (x y : ℕ) (xs : List ℕ) → AreInOrder (y ∷ xs) → Before y x → With x xs → With x (y ∷ xs)
  behind x y xs o b w = record {
    listed = y ∷ w.listed;
    in_order = ((λ z h. elim (w.is z h) [ inl e ↦ subst (Before y) (sym e) b | inr k ↦ o.0 z k ]), w.in_order);
    is = λ z h. elim h [ inl e ↦ inr (inl e) | inr k ↦ elim (w.is z k) [ inl e ↦ inl e | inr m ↦ inr (inr m) ] ];
    here = inr w.here;
    all = λ z h. elim h [ inl e ↦ inl e | inr k ↦ inr (w.all z k) ];
  }

  with_one : (x : ℕ) (xs : List ℕ) → AreInOrder xs → With x xs
  with_one x [] o = record { listed = x ∷ []; in_order = ((λ z h. absurd h), tt); is = λ z h. h; here = inl refl; all = λ z h. absurd h }
  with_one x (y ∷ xs) o = elim (nat_dec x y) [
    | inl e ↦ record { listed = y ∷ xs; in_order = o; is = λ z h. inr h; here = inl e; all = λ z h. h }
    | inr n ↦ elim (one_first x y n) [
      | inl b ↦ in_front x y xs o b
      | inr b ↦ behind x y xs o b (with_one x xs o.1)
    ]
  ]

  -- those of a kind among some
  pub record Sorted (P : ℕ → Type 0) (xs : List ℕ) : Type 0 where
    pub listed : List ℕ
    pub in_order : AreInOrder listed
    pub is : (y : ℕ) → Has y listed → P y
    pub all : (y : ℕ) → P y → Has y xs → Has y listed

  module _ (P : ℕ → Type 0) (test : (x : ℕ) → P x ⊎ (P x → ⊥)) where
    pub sorted : (xs : List ℕ) → Sorted P xs
    sorted [] = record { listed = []; in_order = tt; is = λ y h. absurd h; all = λ y p h. h }
    sorted (x ∷ xs) = go (test x) (sorted xs)
      where
        go : P x ⊎ (P x → ⊥) → Sorted P xs → Sorted P (x ∷ xs)
        go (inl p) s =
            let w = with_one x s.listed s.in_order in record {
              listed = w.listed;
              in_order = w.in_order;
              is = λ y h. elim (w.is y h) [ inl e ↦ subst P (sym e) p | inr k ↦ s.is y k ];
              all = λ y q h. elim h [ inl e ↦ subst (λ z. Has z w.listed) (sym e) w.here | inr k ↦ w.all y (s.all y q k) ];
            }
        go (inr n) s = record {
          listed = s.listed;
          in_order = s.in_order;
          is = s.is;
          all = λ y q h. elim h [ inl e ↦ absurd (n (subst P e q)) | inr k ↦ s.all y q k ];
        }

  pub in_order_distinct : ((x : ℕ) → Before x x → ⊥) → (xs : List ℕ) → AreInOrder xs → AreDistinct xs
  in_order_distinct never [] o = tt
  in_order_distinct never (x ∷ xs) o = ((λ h. never x (o.0 x h)), in_order_distinct never xs o.1)

-- ---- ascending, and descending

abbrev pub Below : ℕ → ℕ → Type 0
Below x y = x < y

abbrev pub Above : ℕ → ℕ → Type 0
Above x y = y < x

pub below_through : (x y z : ℕ) → Below x y → Below y z → Below x z
below_through x y z h k = omega (arith, h, k)

pub above_through : (x y z : ℕ) → Above x y → Above y z → Above x z
above_through x y z h k = omega (arith, h, k)

pub above_first : (x y : ℕ) → (x ≡ y → ⊥) → Above x y ⊎ Above y x
above_first x y n = elim (above_or_below x y n) [ inl h ↦ inr h | inr h ↦ inl h ]

pub never_below : (x : ℕ) → Below x x → ⊥
never_below x h = omega (arith, h)

pub never_above : (x : ℕ) → Above x x → ⊥
never_above x h = omega (arith, h)

pub ascending : (xs : List ℕ) → AreInOrder Below above_or_below below_through xs → AreAscending xs
ascending [] o = tt
ascending (x ∷ []) o = tt
ascending (x ∷ y ∷ xs) o = (o.0 y (inl refl), ascending (y ∷ xs) o.1)

pub descending : (xs : List ℕ) → AreInOrder Above above_first above_through xs → AreDescending xs
descending [] o = tt
descending (x ∷ []) o = tt
descending (x ∷ y ∷ xs) o = (o.0 y (inl refl), descending (y ∷ xs) o.1)
