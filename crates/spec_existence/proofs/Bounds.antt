-- A branch that is kept has again finitely many numeric variables.
use Rattle.std.proofs.Common.{◌≡◌, ◌⊎◌, inl, inr, ℕ, suc, ◌+◌, ◌<◌, List, [], ◌∷◌, Bool, true, ◌||◌, arith}
use Rattle.std.specs.Prelude.{◌==◌}
use Rattle.std.specs.List.{list_any}
use Rattle.spec_numbers.specs.Texts.{Text}
use Rattle.spec_numbers.proofs.Tests.{nat_eq-same, one_is}
use Rattle.spec_terms.specs.Term.{Subst, Var, Number, Name, Compound, apply, followed_by}
use Rattle.spec_terms.specs.Variables.{variables}
use Rattle.spec_syntax.specs.Trees.{Tree}
use Rattle.spec_branch.specs.Branch.{State, Item, Pending, Branch}
use Rattle.spec_branch.specs.Settling.{is_the_variable, stands_in, newly_bound, numeric_after, Settles, unified, SettlesUnified, kept, Kept}
use Rattle.spec_existence.specs.Bounded.{IsBounded}

-- the bounds of all members together
abbrev pub total : {A : Type 0} → (A → ℕ) → List A → ℕ
total bound [] = 0
total bound (x ∷ xs) = bound x + total bound xs

pub any_below : {A : Type 0} (test : A → ℕ → Bool) (bound : A → ℕ) → ((x : A) (v : ℕ) → test x v ≡ true → v < bound x)
    → (xs : List A) (v : ℕ) → list_any (λ x. test x v) xs ≡ true → v < total bound xs
any_below test bound h [] v e = cc
any_below test bound h (x ∷ xs) v e = go (one_is (test x v) (list_any (λ y. test y v) xs) e) (any_below test bound h xs v)
  where
    go : (test x v ≡ true) ⊎ (list_any (λ y. test y v) xs ≡ true) → (list_any (λ y. test y v) xs ≡ true → v < total bound xs) → v < bound x + total bound xs
    go (inl d) rest = let k : v < bound x = h x v d in omega (arith, k)
    go (inr d) rest = let k : v < total bound xs = rest d in omega (arith, k)

-- above a variable, if the term is one
abbrev above_term : Tree → ℕ
above_term (Var w) = suc w
above_term t = 0

is_below : (t : Tree) (v : ℕ) → is_the_variable v t ≡ true → v < above_term t
is_below (Var w) v e = let d : w ≡ v = nat_eq-same w v e in omega (arith, d)
is_below (Number q) v e = cc
is_below (Name a) v e = cc
is_below (Compound f ts) v e = cc

abbrev same_variable : ℕ → ℕ → Bool
same_variable w v = w == v

next_is_above : (w v : ℕ) → same_variable w v ≡ true → v < suc w
next_is_above w v e = let d : w ≡ v = nat_eq-same w v e in omega (arith, d)

module _ (s : Subst Text) where
  abbrev stands_in_one : Tree → ℕ → Bool
  stands_in_one t v = list_any (λ w. w == v) (variables (apply s t))

  pub stands_below : (ts : List Tree) (v : ℕ) → stands_in s ts v ≡ true → v < total (λ t. total (λ w. suc w) (variables (apply s t))) ts
  stands_below ts v e =
      any_below stands_in_one (λ t. total (λ w. suc w) (variables (apply s t)))
      (λ t x d. any_below same_variable (λ w. suc w) next_is_above (variables (apply s t)) x d) ts v e

  pub images_below : (ws : List ℕ) (v : ℕ) → list_any (λ w. is_the_variable v (s w)) ws ≡ true → v < total (λ w. above_term (s w)) ws
  images_below ws v e = any_below (λ w x. is_the_variable x (s w)) (λ w. above_term (s w)) (λ w x d. is_below (s w) x d) ws v e

-- ---- settling

module _ (st : State) (u : Subst Text) (told : List Tree) where
  abbrev s : Subst Text
  s = followed_by st.bindings u

  numeric_below : (b : IsBounded st) (v : ℕ) → numeric_after st u s told v ≡ true
      → v < b.bound + (total (λ w. above_term (s w)) (newly_bound st u) + total (λ t. total (λ w. suc w) (variables (apply s t))) told)
  numeric_below b v e = go (one_is (st.numeric v || list_any (λ w. is_the_variable v (s w)) (newly_bound st u)) (stands_in s told v) e)
    where
      earlier : (st.numeric v ≡ true) ⊎ (list_any (λ w. is_the_variable v (s w)) (newly_bound st u) ≡ true)
          → v < b.bound + (total (λ w. above_term (s w)) (newly_bound st u) + total (λ t. total (λ w. suc w) (variables (apply s t))) told)
      earlier (inl d) = let k : v < b.bound = b.below v d in omega (arith, k)
      earlier (inr d) = let k : v < total (λ w. above_term (s w)) (newly_bound st u) = images_below s (newly_bound st u) v d in omega (arith, k)

      go : ((st.numeric v || list_any (λ w. is_the_variable v (s w)) (newly_bound st u)) ≡ true) ⊎ (stands_in s told v ≡ true)
          → v < b.bound + (total (λ w. above_term (s w)) (newly_bound st u) + total (λ t. total (λ w. suc w) (variables (apply s t))) told)
      go (inl d) = earlier (one_is (st.numeric v) (list_any (λ w. is_the_variable v (s w)) (newly_bound st u)) d)
      go (inr d) = let k : v < total (λ t. total (λ w. suc w) (variables (apply s t))) told = stands_below s told v d in omega (arith, k)

module _ (items : List Item) (st : State) (p : Pending) (b : IsBounded st) where
  unified_bounded : (u : Subst Text) (c : Branch) → SettlesUnified items st p u (Kept c) → IsBounded c.state
  unified_bounded u c (kept n j h fixed fixes) = record {
    bound = b.bound + (total (λ w. above_term (followed_by st.bindings u w)) (newly_bound st u)
        + total (λ t. total (λ w. suc w) (variables (apply (followed_by st.bindings u) t))) p.told);
    below = λ v e. numeric_below st u p.told b v e;
  }

  pub kept_bounded : (c : Branch) → Settles items st p (Kept c) → IsBounded c.state
  kept_bounded c (unified u i h) = unified_bounded u c h
