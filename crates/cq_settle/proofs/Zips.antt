-- Lists whose elements stand in a relation one by one.
use Rattle.std.proofs.Common.{◌≡◌, List, [], ◌∷◌, ◌++◌, Bool, true, false, cond, refl, ap, ◌∙◌, subst, inl, inr, ◌⊎◌}
use Rattle.std.specs.Prelude.{Contains, filter}
use Rattle.std.specs.List.{AllByRecursion, AllZip}
use Rattle.cq_attr.proofs.Elements.{contains_here, contains_later, contains_cases, contains_none}

-- both of a pair stand to one of a third list
pub zip_across : {A B C : Type 0} (R : A → B → Type 0) (S : A → C → Type 0) (T : B → C → Type 0) → ((a : A) (b : B) (c : C) → R a b → S a c → T b c)
    → (xs : List A) (ys : List B) (zs : List C) → AllZip R xs ys → AllZip S xs zs → AllZip T ys zs
zip_across R S T f [] [] [] r s = tt
zip_across R S T f [] [] (z ∷ zs) r s = absurd s
zip_across R S T f [] (y ∷ ys) zs r s = absurd r
zip_across R S T f (x ∷ xs) [] zs r s = absurd r
zip_across R S T f (x ∷ xs) (y ∷ ys) [] r s = absurd s
zip_across R S T f (x ∷ xs) (y ∷ ys) (z ∷ zs) r s = (f x y z r.0 s.0, zip_across R S T f xs ys zs r.1 s.1)

-- with a fact of each left element
pub zip_left : {A B : Type 0} (R : A → B → Type 0) (P : A → Type 0) (xs : List A) (ys : List B) → AllZip R xs ys → ((x : A) → Contains xs x → P x)
    → AllZip (λ x y. P x × R x y) xs ys
zip_left R P [] [] z f = tt
zip_left R P [] (y ∷ ys) z f = absurd z
zip_left R P (x ∷ xs) [] z f = absurd z
zip_left R P (x ∷ xs) (y ∷ ys) z f = ((f x (contains_here x xs x refl), z.0), zip_left R P xs ys z.1 (λ w h. f w (contains_later x xs w h)))

-- with a fact of each right one
pub zip_right : {A B : Type 0} (R : A → B → Type 0) (P : B → Type 0) (xs : List A) (ys : List B) → AllZip R xs ys → AllByRecursion P ys → AllZip (λ x y. R x y × P y) xs ys
zip_right R P [] [] r s = tt
zip_right R P [] (y ∷ ys) r s = absurd r
zip_right R P (x ∷ xs) [] r s = absurd r
zip_right R P (x ∷ xs) (y ∷ ys) r s = ((r.0, s.0), zip_right R P xs ys r.1 s.1)

pub zip_append : {A B : Type 0} (R : A → B → Type 0) (xs : List A) (ys : List B) (vs : List A) (ws : List B) → AllZip R xs ys → AllZip R vs ws → AllZip R (xs ++ vs) (ys ++ ws)
zip_append R [] [] vs ws r s = s
zip_append R [] (y ∷ ys) vs ws r s = absurd r
zip_append R (x ∷ xs) [] vs ws r s = absurd r
zip_append R (x ∷ xs) (y ∷ ys) vs ws r s = (r.0, zip_append R xs ys vs ws r.1 s)

pub all_append : {A : Type 0} (P : A → Type 0) (xs ys : List A) → AllByRecursion P xs → AllByRecursion P ys → AllByRecursion P (xs ++ ys)
all_append P [] ys f g = g
all_append P (x ∷ xs) ys f g = (f.0, all_append P xs ys f.1 g)

pub all_front : {A : Type 0} (P : A → Type 0) (xs ys : List A) → AllByRecursion P (xs ++ ys) → AllByRecursion P xs
all_front P [] ys f = tt
all_front P (x ∷ xs) ys f = (f.0, all_front P xs ys f.1)

pub all_behind : {A : Type 0} (P : A → Type 0) (xs ys : List A) → AllByRecursion P (xs ++ ys) → AllByRecursion P ys
all_behind P [] ys f = f
all_behind P (x ∷ xs) ys f = all_behind P xs ys f.1

kept_case : {A : Type 0} (b : Bool) (x y : A) (xs : List A) → Contains (cond b (x ∷ xs) xs) y → (x ≡ y) ⊎ Contains xs y
kept_case true x y xs h = contains_cases x xs y h
kept_case false x y xs h = inr h

pub contains_unfiltered : {A : Type 0} (p : A → Bool) (xs : List A) (y : A) → Contains (filter p xs) y → Contains xs y
contains_unfiltered p [] y h = h
contains_unfiltered p (x ∷ xs) y h = elim (kept_case (p x) x y (filter p xs) h) [ inl e ↦ contains_here x xs y e | inr m ↦ contains_later x xs y (contains_unfiltered p xs y m) ]

-- where the left list has an element, the right list has its partner in the same place
pub record Partner {A B : Type 0} (R : A → B → Type 0) (xs : List A) (ys : List B) (x : A) : Type 0 where
  pub left_before : List A
  pub left_after : List A
  pub before : List B
  pub partner : B
  pub after : List B
  pub left : xs ≡ left_before ++ x ∷ left_after
  pub right : ys ≡ before ++ partner ∷ after
  pub pairs_before : AllZip R left_before before
  pub pair : R x partner
  pub pairs_after : AllZip R left_after after

partner_here : {A B : Type 0} (R : A → B → Type 0) (w : A) (xs : List A) (y : B) (ys : List B) (x : A) → R w y → AllZip R xs ys → w ≡ x → Partner R (w ∷ xs) (y ∷ ys) x
partner_here R w xs y ys x r z e = record {
  left_before = [];
  left_after = xs;
  before = [];
  partner = y;
  after = ys;
  left = ap (λ v. v ∷ xs) e;
  right = refl;
  pairs_before = tt;
  pair = subst (λ v. R v y) e r;
  pairs_after = z;
}

partner_later : {A B : Type 0} (R : A → B → Type 0) (w : A) (xs : List A) (y : B) (ys : List B) (x : A) → R w y → Partner R xs ys x → Partner R (w ∷ xs) (y ∷ ys) x
partner_later R w xs y ys x s r = record {
  left_before = w ∷ r.left_before;
  left_after = r.left_after;
  before = y ∷ r.before;
  partner = r.partner;
  after = r.after;
  left = ap (λ vs. w ∷ vs) r.left;
  right = ap (λ vs. y ∷ vs) r.right;
  pairs_before = (s, r.pairs_before);
  pair = r.pair;
  pairs_after = r.pairs_after;
}

pub partner_of : {A B : Type 0} (R : A → B → Type 0) (xs : List A) (ys : List B) (x : A) → AllZip R xs ys → Contains xs x → Partner R xs ys x
partner_of R [] ys x z h = absurd (contains_none x h)
partner_of R (w ∷ xs) [] x z h = absurd z
partner_of R (w ∷ xs) (y ∷ ys) x z h =
    elim (contains_cases w xs x h) [ inl e ↦ partner_here R w xs y ys x z.0 z.1 e | inr m ↦ partner_later R w xs y ys x z.0 (partner_of R xs ys x z.1 m) ]

kept_first : {A : Type 0} (b : Bool) (x y : A) (xs : List A) → b ≡ true → x ≡ y → Contains (cond b (x ∷ xs) xs) y
kept_first true x y xs e h = contains_here x xs y h
kept_first false x y xs e h = cc

kept_later : {A : Type 0} (b : Bool) (x y : A) (xs : List A) → Contains xs y → Contains (cond b (x ∷ xs) xs) y
kept_later true x y xs h = contains_later x xs y h
kept_later false x y xs h = h

pub contains_filtered : {A : Type 0} (p : A → Bool) (xs : List A) (y : A) → Contains xs y → p y ≡ true → Contains (filter p xs) y
contains_filtered p [] y h e = h
contains_filtered p (x ∷ xs) y h e =
    elim (contains_cases x xs y h) [
      | inl i ↦ kept_first (p x) x y (filter p xs) (ap p i ∙ e) i
      | inr m ↦ kept_later (p x) x y (filter p xs) (contains_filtered p xs y m e)
    ]
