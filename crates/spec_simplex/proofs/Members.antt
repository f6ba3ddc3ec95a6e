-- A list with the same members in another order means the same.
use Rattle.std.proofs.Common.{◌≡◌, ℕ, List, [], ◌∷◌, ◌++◌, Bool, true, false, nat_eq, inl, inr, pos, refl, ap, sym, subst, ◌∙◌}
use Rattle.std.proofs.lemmas.Bool.{cond-true, cond-false}
use Rattle.spec_numbers.specs.Rational.{1ℚ, ◌+ℚ◌, neg_ℚ}
use Rattle.spec_numbers.specs.Sums.{Mentions}
use Rattle.spec_numbers.proofs.Ring.{var, int, ◌⊕◌, minus}
use Rattle.spec_numbers.proofs.RationalLemmas.{ring}
use Rattle.spec_numbers.proofs.Sign.{pos_one}
use Rattle.spec_numbers.proofs.Sums.{sum_at-agrees}
use Rattle.spec_linear.specs.Form.{changed_at}
use Rattle.spec_linear.specs.Solution.{Meets, Point, Holds, Solves, Equivalent, Fixed, SomeMentions, Constraint, Satisfies, Has}
use Rattle.spec_numbers.proofs.Tests.{nat_eq-same, nat_eq-self}
use Rattle.spec_linear.proofs.Denominators.{solvable_same}
use Rattle.spec_linear.proofs.Lists.{member_holds, fixed_same}
use Rattle.spec_simplex.proofs.Standing.{pos_not_zero}
use Rattle.spec_numbers.specs.Rational.{ℚ}
use Rattle.spec_linear.specs.declared.Relation.{Relation}
use Rattle.spec_linear.specs.declared.Relation.TheVariants.{Eq, Gt, Ge, Ne}
use Rattle.spec_linear.specs.Form.{Linear, value_at}
use Rattle.spec_linear.specs.Weak.{weak}
use Rattle.spec_linear.proofs.Far.{Weakly, with_weak-made, weak_member}
use Rattle.spec_simplex.specs.Reach.{Rises, Stands, SameMembers}
use Rattle.spec_simplex.specs.Tableau.{Tableau, Within, Owned, Sound, Invariant}

weakly_each : (v : ℕ → ℚ) (m : List Constraint) → ((c : Constraint) → Has c m → Weakly c.relation (value_at v c.form)) → Satisfies v (weak m)
weakly_each v [] h = tt
weakly_each v (c ∷ m) h = with_weak-made v c.relation c.form (weak m) (h c (inl refl)) (weakly_each v m (λ k i. h k (inr i)))

pub weak_there : (l m : List Constraint) → SameMembers l m → (v : ℕ → ℚ) → Satisfies v (weak l) → Satisfies v (weak m)
weak_there l m s v h = weakly_each v m (λ c i. weak_member v l c (s.back c i) h)

pub turned : (l m : List Constraint) → SameMembers l m → SameMembers m l
turned l m s = record { there = s.back; back = s.there }

rises_there : (l m : List Constraint) → SameMembers l m → (f : Linear) → Rises l f → Rises m f
rises_there l m s f r = (r.0, (r.1.0, weak_there l m s r.0 r.1.1))

stands_there : (A : (ℕ → ℚ) → Type 0) (l m : List Constraint) → SameMembers l m → (r : Relation) (f : Linear) → Stands A l r f → Stands A m r f
stands_there A l m s Eq f h = h
stands_there A l m s Gt f h = rises_there l m s f h
stands_there A l m s Ge f (inl h) = inl h
stands_there A l m s Ge f (inr h) = inr (rises_there l m s f h)
stands_there A l m s Ne f h = h

owned_there : (l m : List Constraint) → SameMembers l m → (f : Linear) → Owned l f → Owned m f
owned_there l m s f (inl h) = inl (s.there _ h)
owned_there l m s f (inr (inl h)) = inr (inl (s.there _ h))
owned_there l m s f (inr (inr h)) = inr (inr (s.there _ h))

pub sound_there : (d : Tableau) (l m : List Constraint) → SameMembers l m → Sound d l → Sound d m
sound_there d l m s i = record {
  written = i.written;
  feasible = i.feasible;
  inside = λ v h. i.inside v (weak_there m l (turned l m s) v h);
  held = λ c k. i.held c (s.back c k);
  restricted = λ q h r. owned_there l m s (d.form q) (i.restricted q h r);
}

pub invariant_there : (d : Tableau) (l m : List Constraint) → SameMembers l m → Invariant d l → Invariant d m
invariant_there d l m s i = record {
  sound = sound_there d l m s i.sound;
  stands = λ c k. stands_there (Within d) l m s c.relation c.form (i.stands c (s.back c k));
}

-- the last member may stand first
last_there : (l : List Constraint) (c k : Constraint) → Has k (c ∷ l) → Has k (l ++ (c ∷ []))
last_there [] c k h = h
last_there (e ∷ l) c k (inl h) = inr (last_there l c k (inl h))
last_there (e ∷ l) c k (inr (inl h)) = inl h
last_there (e ∷ l) c k (inr (inr h)) = inr (last_there l c k (inr h))

last_back : (l : List Constraint) (c k : Constraint) → Has k (l ++ (c ∷ [])) → Has k (c ∷ l)
last_back [] c k h = h
last_back (e ∷ l) c k (inl h) = inr (inl h)
last_back (e ∷ l) c k (inr h) = go (last_back l c k h)
  where
    go : Has k (c ∷ l) → Has k (c ∷ (e ∷ l))
    go (inl i) = inl i
    go (inr i) = inr (inr i)

pub told_last : (l : List Constraint) (c : Constraint) → SameMembers (c ∷ l) (l ++ (c ∷ []))
told_last l c = record { there = last_there l c; back = last_back l c }

-- the same points solve both lists
solves_each : (p : Point) (m : List Constraint) → ((c : Constraint) → Has c m → Holds p c) → Solves p m
solves_each p [] h = tt
solves_each p (c ∷ m) h = (h c (inl refl), solves_each p m (λ k i. h k (inr i)))

pub alike : (l m : List Constraint) → SameMembers l m → Equivalent l m
alike l m s p = (λ h. solves_each p m (λ c i. member_holds p l c (s.back c i) h), λ h. solves_each p l (λ c i. member_holds p m c (s.there c i) h))

-- ---- a variable that no member mentions
module _ (x : ℕ) (v w : ℕ → ℚ) (same : (y : ℕ) → (y ≡ x → ⊥) → v y ≡ w y) where
  unmentioned_value : (f : Linear) → (Mentions x f.products → ⊥) → value_at v f ≡ value_at w f
  unmentioned_value f n = ap (λ b. f.constant +ℚ b) (sum_at-agrees v w f.products (λ y m. same y (λ e. n (subst (λ z. Mentions z f.products) e m))))

  unmentioned_satisfies : (l : List Constraint) → (SomeMentions x l → ⊥) → Satisfies v l → Satisfies w l
  unmentioned_satisfies [] n s = tt
  unmentioned_satisfies (c ∷ l) n s = (subst (Meets c.relation) (unmentioned_value c.form (λ m. n (inl m))) s.0, unmentioned_satisfies l (λ m. n (inr m)) s.1)

pub unmentioned_free : (l : List Constraint) (x : ℕ) → (SomeMentions x l → ⊥) → (r : ℚ) → Fixed l x r → ⊥
unmentioned_free l x n r f =
    let g = (fixed_same l x r).0 f in
    let s = (solvable_same l).0 g.0 in
    pos_not_zero pos_one
    (ring (r ∷ []) (int (pos 1)) (var 0 ⊕ int (pos 1) ⊕ minus (var 0)) refl
    ∙ ap (λ b. b +ℚ neg_ℚ r) (sym (cond-true (nat_eq x x) (r +ℚ 1ℚ) (s.0 x) (nat_eq-self x))
    ∙ g.1 (other s.0) (unmentioned_satisfies x s.0 (other s.0) (λ y k. sym (cond-false (nat_eq x y) (r +ℚ 1ℚ) (s.0 y) (differs y k))) l n s.1))
    ∙ ring (r ∷ []) (var 0 ⊕ minus (var 0)) (int (pos 0)) refl)
  where
    other : (ℕ → ℚ) → ℕ → ℚ
    other v = changed_at x (r +ℚ 1ℚ) v

    differs : (y : ℕ) → (y ≡ x → ⊥) → nat_eq x y ≡ false
    differs y k = go (nat_eq x y) refl
      where
        go : (b : Bool) → nat_eq x y ≡ b → nat_eq x y ≡ false
        go false e = e
        go true e = absurd (k (sym (nat_eq-same x y e)))
