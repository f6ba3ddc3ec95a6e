-- Goals that wake, and those that go on sleeping.
use Rattle.std.proofs.Common.{◌≡◌, ℕ, List, [], ◌∷◌, Bool, true, false, cond, refl, sym, ap, ◌∙◌, inl, inr}
use Rattle.std.specs.Prelude.{Contains, ◌&&◌, ◌==◌, not, filter, is_some}
use Rattle.std.specs.List.{AllZip, list_any}
use Rattle.spec_numbers.specs.Texts.{Text}
use Rattle.spec_numbers.proofs.Tests.{or_left, or_right, nat_eq-self}
use Rattle.spec_terms.specs.Term.{Var, Number, Name, Compound, named}
use Rattle.spec_syntax.specs.Trees.{Tree}
use Rattle.spec_builtins.specs.Kinds.{is_variable}
use Rattle.spec_branch.specs.Settling.{frozen_state, still_sleeps}
use Rattle.cq_attr.specs.Attributes.{Waiting}
use Rattle.cq_attr.specs.declared.susp.Susp.{Susp}
use Rattle.cq_attr.specs.declared.susp.Susp.TheVariants as susp
use Rattle.cq_attr.proofs.Elements.{contains_cases}
use Rattle.cq_term.specs.Meaning.{HeapTerm}
use Rattle.cq_settle.specs.Standing.{is_constraint}
use Rattle.cq_settle.specs.Steps.{is_unbound_term, goal_that_wakes, waits_for_one, wakes}

-- ---- filters

pub kept_cases : {A : Type 0} (p : A → Bool) (x : A) (xs : List A) (b c : Bool) → p x ≡ c → filter p (cond b (x ∷ xs) xs) ≡ cond (b && c) (x ∷ filter p xs) (filter p xs)
kept_cases p x xs true c e = ap (λ (d : Bool). cond d (x ∷ filter p xs) (filter p xs)) e
kept_cases p x xs false c e = refl

module _ (images : List HeapTerm) (bound : List ℕ) where
  abbrev pub stays : Waiting → Bool
  stays k = not (waits_for_one bound k && wakes images k)

  constraint_stays : (k : Waiting) (s : Susp) → k.susp ≡ s → is_constraint s ≡ true → stays k ≡ true
  constraint_stays k (susp.Delayed t) e h = ap (λ (s : Susp). not (waits_for_one bound k && is_some (goal_that_wakes images s))) e ∙ never (waits_for_one bound k) where
    never : (b : Bool) → not (b && false) ≡ true
    never true = refl
    never false = refl
  constraint_stays k (susp.Goal v t) e h = cc

  one_constraint : (k : Waiting) (ks : List Waiting) (b : Bool) → is_constraint k.susp ≡ b
      → cond (stays k && b) (k ∷ ks) ks ≡ cond b (k ∷ ks) ks
  one_constraint k ks true e = ap (λ (d : Bool). cond (d && true) (k ∷ ks) ks) (constraint_stays k k.susp refl e)
  one_constraint k ks false e = neither (stays k) where
    neither : (b : Bool) → cond (b && false) (k ∷ ks) ks ≡ ks
    neither true = refl
    neither false = refl

  -- those that wait to be linear stay
  pub constraints_stay : (ks : List Waiting) → filter (λ k. is_constraint k.susp) (filter stays ks) ≡ filter (λ k. is_constraint k.susp) ks
  constraints_stay [] = refl
  constraints_stay (k ∷ ks) =
      kept_cases (λ k. is_constraint k.susp) k (filter stays ks) (stays k) (is_constraint k.susp) refl
      ∙ ap (λ (zs : List Waiting). cond (stays k && is_constraint k.susp) (k ∷ zs) zs) (constraints_stay ks)
      ∙ one_constraint k (filter (λ k. is_constraint k.susp) ks) (is_constraint k.susp) refl

-- two filters in either order
both_orders : {A : Type 0} (x : A) (xs : List A) (a b : Bool) → cond (a && b) (x ∷ xs) xs ≡ cond (b && a) (x ∷ xs) xs
both_orders x xs true true = refl
both_orders x xs true false = refl
both_orders x xs false true = refl
both_orders x xs false false = refl

pub filters_commute : {A : Type 0} (p q : A → Bool) (xs : List A) → filter p (filter q xs) ≡ filter q (filter p xs)
filters_commute p q [] = refl
filters_commute p q (x ∷ xs) =
    kept_cases p x (filter q xs) (q x) (p x) refl
    ∙ ap (λ (zs : List _). cond (q x && p x) (x ∷ zs) zs) (filters_commute p q xs)
    ∙ both_orders x (filter q (filter p xs)) (q x) (p x)
    ∙ sym (kept_cases q x (filter p xs) (p x) (q x) refl)

-- pairs of which both pass or neither
zip_kept : {A B : Type 0} (R : A → B → Type 0) (x : A) (y : B) (xs : List A) (ys : List B) (a b : Bool) → a ≡ b → R x y → AllZip R xs ys
    → AllZip R (cond a (x ∷ xs) xs) (cond b (y ∷ ys) ys)
zip_kept R x y xs ys true true e r z = (r, z)
zip_kept R x y xs ys true false e r z = cc
zip_kept R x y xs ys false true e r z = cc
zip_kept R x y xs ys false false e r z = z

pub zip_filter : {A B : Type 0} (R : A → B → Type 0) (p : A → Bool) (q : B → Bool) → ((x : A) (y : B) → R x y → p x ≡ q y) → (xs : List A) (ys : List B)
    → AllZip R xs ys → AllZip R (filter p xs) (filter q ys)
zip_filter R p q f [] [] z = tt
zip_filter R p q f [] (y ∷ ys) z = absurd z
zip_filter R p q f (x ∷ xs) [] z = absurd z
zip_filter R p q f (x ∷ xs) (y ∷ ys) z = zip_kept R x y (filter p xs) (filter q ys) (p x) (q y) (f x y z.0) z.0 (zip_filter R p q f xs ys z.1)

pub zip_both : {A B : Type 0} (R S : A → B → Type 0) (xs : List A) (ys : List B) → AllZip R xs ys → AllZip S xs ys → AllZip (λ x y. R x y × S x y) xs ys
zip_both R S [] [] r s = tt
zip_both R S [] (y ∷ ys) r s = absurd r
zip_both R S (x ∷ xs) [] r s = absurd r
zip_both R S (x ∷ xs) (y ∷ ys) r s = ((r.0, s.0), zip_both R S xs ys r.1 s.1)

pub zip_so : {A B : Type 0} (R S : A → B → Type 0) → ((x : A) (y : B) → R x y → S x y) → (xs : List A) (ys : List B) → AllZip R xs ys → AllZip S xs ys
zip_so R S f [] [] z = tt
zip_so R S f [] (y ∷ ys) z = absurd z
zip_so R S f (x ∷ xs) [] z = absurd z
zip_so R S f (x ∷ xs) (y ∷ ys) z = (f x y z.0, zip_so R S f xs ys z.1)

-- ---- one sleeper

any_of : (test : ℕ → Bool) (xs : List ℕ) (v : ℕ) → Contains xs v → test v ≡ true → list_any test xs ≡ true
any_of test [] v h e = absurd (Rattle.cq_attr.proofs.Elements.contains_none v h)
any_of test (x ∷ xs) v h e = elim (contains_cases x xs v h) [
  | inl i ↦ or_left (test x) (list_any test xs) (ap test i ∙ e)
  | inr m ↦ or_right (test x) (list_any test xs) (any_of test xs v m e)
]

pub waits_for_it : (bound : List ℕ) (k : Waiting) (v : ℕ) → Contains bound v → Contains k.watched v → waits_for_one bound k ≡ true
waits_for_it bound k v b w = any_of (λ x. list_any (λ y. y == x) k.watched) bound v b (any_of (λ y. y == v) k.watched v w (nat_eq-self v))

-- whether a term is a variable, of the heap and as the definitions see it
pub named_variable : (f : ℕ → Text) (t : HeapTerm) → is_variable (named f t) ≡ is_unbound_term t
named_variable f (Var v) = refl
named_variable f (Number q) = refl
named_variable f (Name a) = refl
named_variable f (Compound a ts) = refl

pub sleeps_variable : (t g : Tree) → still_sleeps (frozen_state t g) ≡ is_variable t
sleeps_variable (Var v) g = refl
sleeps_variable (Number q) g = refl
sleeps_variable (Name a) g = refl
sleeps_variable (Compound f ts) g = refl

pub sleeping_variable : (t g : Tree) → still_sleeps (frozen_state t g) ≡ true → (v : ℕ) × (t ≡ Var v)
sleeping_variable (Var v) g e = (v, refl)
sleeping_variable (Number q) g e = cc
sleeping_variable (Name a) g e = cc
sleeping_variable (Compound f ts) g e = cc
