-- What holds of a list holds of each of its members.
use Rattle.std.proofs.Common.{◌≡◌, ◌↔◌, ◌⊎◌, inl, inr, ℕ, List, [], ◌∷◌, ◌++◌, Bool, true, false, cond, refl, ap, sym, ◌∙◌}
use Rattle.std.specs.Prelude.{map, filter}
use Rattle.spec_numbers.specs.Rational.{ℚ}
use Rattle.spec_linear.specs.Solution.{Constraint, Point, Holds, Solves, Entails, Equivalent, HoldsAt, Satisfies, Has}
use Rattle.spec_linear.proofs.Lists.{member_holds, solves_append}

pub satisfies_all : (a : ℕ → ℚ) (l : List Constraint) → ((c : Constraint) → Has c l → HoldsAt a c) → Satisfies a l
satisfies_all a [] h = tt
satisfies_all a (c ∷ l) h = (h c (inl refl), satisfies_all a l (λ d k. h d (inr k)))

pub solves_all : (p : Point) (l : List Constraint) → ((c : Constraint) → Has c l → Holds p c) → Solves p l
solves_all p [] h = tt
solves_all p (c ∷ l) h = (h c (inl refl), solves_all p l (λ d k. h d (inr k)))

pub satisfies_parts : (a : ℕ → ℚ) (k l : List Constraint) → Satisfies a (k ++ l) → Satisfies a k × Satisfies a l
satisfies_parts a [] l s = (tt, s)
satisfies_parts a (c ∷ k) l s = let r = satisfies_parts a k l s.1 in ((s.0, r.0), r.1)

pub satisfies_both : (a : ℕ → ℚ) (k l : List Constraint) → Satisfies a k → Satisfies a l → Satisfies a (k ++ l)
satisfies_both a [] l s t = t
satisfies_both a (c ∷ k) l s t = (s.0, satisfies_both a k l s.1 t)

-- ---- members of lists that are made of others

pub has_either : {A : Type 0} (x : A) (s t : List A) → Has x (s ++ t) → Has x s ⊎ Has x t
has_either x [] t h = inr h
has_either x (y ∷ s) t (inl e) = inl (inl e)
has_either x (y ∷ s) t (inr h) = elim (has_either x s t h) [ inl k ↦ inl (inr k) | inr k ↦ inr k ]

pub has_filtered : {A : Type 0} (test : A → Bool) (x : A) (s : List A) → Has x (filter test s) → Has x s × (test x ≡ true)
has_filtered test x [] h = absurd h
has_filtered test x (y ∷ s) h = go (test y) refl h (has_filtered test x s)
  where
    go : (b : Bool) → test y ≡ b → Has x (cond b (y ∷ filter test s) (filter test s)) → (Has x (filter test s) → Has x s × (test x ≡ true)) → Has x (y ∷ s) × (test x ≡ true)
    go true e (inl i) rest = (inl i, ap test i ∙ e)
    go true e (inr k) rest = let r = rest k in (inr r.0, r.1)
    go false e k rest = let r = rest k in (inr r.0, r.1)

pub has_passed : {A : Type 0} (test : A → Bool) (x : A) (s : List A) → Has x s → test x ≡ true → Has x (filter test s)
has_passed test x [] h t = absurd h
has_passed test x (y ∷ s) h t = go (test y) refl h (λ k. has_passed test x s k t)
  where
    go : (b : Bool) → test y ≡ b → Has x (y ∷ s) → (Has x s → Has x (filter test s)) → Has x (cond b (y ∷ filter test s) (filter test s))
    go true e (inl i) rest = inl i
    go true e (inr k) rest = inr (rest k)
    go false e (inl i) rest = let d : true ≡ false = sym t ∙ ap test i ∙ e in cc
    go false e (inr k) rest = rest k

-- a member of a mapped list comes from one of the list
pub record Comes {A B : Type 0} (f : A → B) (y : B) (s : List A) : Type 0 where
  pub from : A
  pub member : Has from s
  pub is : y ≡ f from

pub has_mapped : {A B : Type 0} (f : A → B) (y : B) (s : List A) → Has y (map f s) → Comes f y s
has_mapped f y [] h = absurd h
has_mapped f y (x ∷ s) (inl e) = record { from = x; member = inl refl; is = e }
has_mapped f y (x ∷ s) (inr k) = let r = has_mapped f y s k in record { from = r.from; member = inr r.member; is = r.is }

pub has_image : {A B : Type 0} (f : A → B) (x : A) (s : List A) → Has x s → Has (f x) (map f s)
has_image f x [] h = absurd h
has_image f x (y ∷ s) (inl e) = inl (ap f e)
has_image f x (y ∷ s) (inr k) = inr (has_image f x s k)

-- ---- lists with the same solutions

-- lists that entail each other's members
pub alike_by_members : (k l : List Constraint) → ((c : Constraint) → Has c k → Entails l c) → ((c : Constraint) → Has c l → Entails k c) → Equivalent k l
alike_by_members k l h i p = ((λ s. solves_all p l (λ c m. i c m p s)), (λ s. solves_all p k (λ c m. h c m p s)))

pub member_entailed : (l : List Constraint) (c : Constraint) → Has c l → Entails l c
member_entailed l c h p s = member_holds p l c h s

pub alike_by_same_members : (k l : List Constraint) → ((c : Constraint) → Has c k ↔ Has c l) → Equivalent k l
alike_by_same_members k l h = alike_by_members k l (λ c m. member_entailed l c ((h c).0 m)) (λ c m. member_entailed k c ((h c).1 m))

pub alike_refl : (l : List Constraint) → Equivalent l l
alike_refl l p = ((λ s. s), (λ s. s))

-- ---- lists together

pub alike_front : (k l beside : List Constraint) → Equivalent k l → Equivalent (k ++ beside) (l ++ beside)
alike_front k l beside h p = (
  (λ s. let r = (solves_append p k beside).0 s in (solves_append p l beside).1 ((h p).0 r.0, r.1)),
  (λ s. let r = (solves_append p l beside).0 s in (solves_append p k beside).1 ((h p).1 r.0, r.1)),
)

pub alike_swapped : (k l : List Constraint) → Equivalent (k ++ l) (l ++ k)
alike_swapped k l p = (
  (λ s. let r = (solves_append p k l).0 s in (solves_append p l k).1 (r.1, r.0)),
  (λ s. let r = (solves_append p l k).0 s in (solves_append p k l).1 (r.1, r.0)),
)

pub alike_behind : (front k l : List Constraint) → Equivalent k l → Equivalent (front ++ k) (front ++ l)
alike_behind front k l h p = (
  (λ s. let r = (solves_append p front k).0 s in (solves_append p front l).1 (r.0, (h p).0 r.1)),
  (λ s. let r = (solves_append p front l).0 s in (solves_append p front k).1 (r.0, (h p).1 r.1)),
)
