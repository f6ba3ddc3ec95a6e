-- Numbers of quantities, and lists of those that are columns.
use Rattle.std.proofs.Common.{◌≡◌, ℕ, zero, suc, ◌+◌, List, [], ◌∷◌, ◌++◌, Bool, true, false, Some, inl, inr, arith, refl, ap, sym, subst, ◌∙◌}
use Rattle.std.specs.Prelude.{slice_get}
use Rattle.std.specs.List.{AllByRecursion}
use Rattle.std.proofs.lemmas.Option.{none-some, same_Some}
use Rattle.spec_numbers.proofs.Tests.{nat_eq-self, nat_eq-same}
use Rattle.spec_linear.specs.Form.{Linear, variable_form}
use Rattle.spec_linear.specs.Solution.{Has}
use Rattle.spec_simplex.specs.LimitsDictionary.{Quantity, variable, member, IsSet, SomeFormMentions}
use Rattle.cq_frac.specs.declared.VarId.{VarId}
use Rattle.cq_frac.specs.Rows.{choose}
use Rattle.cq_equations.proofs.Dictionary.{has_either}
use Rattle.cq_tableau.specs.declared.names.Name.{Name}
use Rattle.cq_tableau.specs.declared.names.Name.TheVariants.{Variable, Member}
use Rattle.cq_tableau.specs.Quantities.{name_of, quantity_of, stands_for, place, picked, variable_forms}
use Rattle.cq_tableau.specs.Stored.{IsKnown}

stands_self : (q : Quantity) → stands_for (name_of q) q ≡ true
stands_self (variable x) = nat_eq-self x
stands_self (member i) = nat_eq-self (suc i)

stands_is : (t : Name) (q : Quantity) → stands_for t q ≡ true → t ≡ name_of q
stands_is (Variable x) (variable y) e = ap (λ n. Variable (record { 0 = n })) (nat_eq-same x.0 y e)
stands_is (Variable x) (member i) e = cc
stands_is (Member j) (variable y) e = cc
stands_is (Member j) (member i) e = ap Member (nat_eq-same j (suc i) e)

-- the one number where the quantity's name stands
pub place_is : (names : List Name) (n : ℕ) (q : Quantity) → slice_get names n ≡ Some (name_of q) → ((m : ℕ) → slice_get names m ≡ Some (name_of q) → m ≡ n) → place names q ≡ n
place_is [] n q e one = absurd (none-some (name_of q) e)
place_is (t ∷ names) zero q e one = ap (λ b. choose b 0 (suc (place names q))) (ap (λ u. stands_for u q) (same_Some t (name_of q) e) ∙ stands_self q)
place_is (t ∷ names) (suc n) q e one = go (stands_for t q) refl (place_is names n q e (λ m g. let w = one (suc m) g in omega (arith, w)))
  where
    go : (b : Bool) → stands_for t q ≡ b → place names q ≡ n → choose (stands_for t q) 0 (suc (place names q)) ≡ suc n
    go true f r = let w = one zero (ap Some (stands_is t q f)) in absurd (omega (arith, w))
    go false f r = ap (λ b. choose b 0 (suc (place names q))) f ∙ ap suc r

-- ---- quantities that are picked
pub in_picked : (p : ℕ → Bool) (i : ℕ) (names : List Name) (k : ℕ) (t : Name) → slice_get names k ≡ Some t → p (i + k) ≡ true → Has (quantity_of t) (picked p i names)
in_picked p i [] k t e h = absurd (none-some t e)
in_picked p i (u ∷ names) zero t e h =
    let w : i + 0 ≡ i = omega arith in
    subst (λ b. Has (quantity_of t) (choose b (quantity_of u ∷ picked p (suc i) names) (picked p (suc i) names))) (sym (subst (λ n. p n ≡ true) w h))
    (inl (ap quantity_of (sym (same_Some u t e))))
in_picked p i (u ∷ names) (suc k) t e h = go (p i) (in_picked p (suc i) names k t e (let w : i + suc k ≡ suc i + k = omega arith in subst (λ n. p n ≡ true) w h))
  where
    go : (b : Bool) → Has (quantity_of t) (picked p (suc i) names) → Has (quantity_of t) (choose b (quantity_of u ∷ picked p (suc i) names) (picked p (suc i) names))
    go true m = inr m
    go false m = m

-- where a picked quantity stands
pub record IsPicked (p : ℕ → Bool) (i : ℕ) (names : List Name) (q : Quantity) : Type 0 where
  pub place : ℕ
  pub name : Name
  pub there : slice_get names place ≡ Some name
  pub picks : p (i + place) ≡ true
  pub is : q ≡ quantity_of name

pub of_picked : (p : ℕ → Bool) (i : ℕ) (names : List Name) (q : Quantity) → Has q (picked p i names) → IsPicked p i names q
of_picked p i [] q h = absurd h
of_picked p i (u ∷ names) q h = go (p i) refl (λ m. of_picked p (suc i) names q m) h
  where
    later : IsPicked p (suc i) names q → IsPicked p i (u ∷ names) q
    later o =
        let w : suc i + o.place ≡ i + suc o.place = omega arith in
        record { place = suc o.place; name = o.name; there = o.there; picks = subst (λ n. p n ≡ true) w o.picks; is = o.is }

    go : (b : Bool) → p i ≡ b → (Has q (picked p (suc i) names) → IsPicked p (suc i) names q)
        → Has q (choose b (quantity_of u ∷ picked p (suc i) names) (picked p (suc i) names)) → IsPicked p i (u ∷ names) q
    go true e f (inl m) = let w : i ≡ i + 0 = omega arith in record { place = 0; name = u; there = refl; picks = subst (λ n. p n ≡ true) w e; is = m }
    go true e f (inr m) = later (f m)
    go false e f m = later (f m)

-- no quantity has two names
abbrev pub AreApart : List Name → Type 0
AreApart names = (k m : ℕ) (t u : Name) → slice_get names k ≡ Some t → slice_get names m ≡ Some u → quantity_of t ≡ quantity_of u → k ≡ m

pub set_picked : (p : ℕ → Bool) (i : ℕ) (names : List Name) → AreApart names → IsSet (picked p i names)
set_picked p i [] a = tt
set_picked p i (t ∷ names) a = go (p i) (set_picked p (suc i) names (λ k m u v e f g. let w = a (suc k) (suc m) u v e f g in omega (arith, w)))
  where
    go : (b : Bool) → IsSet (picked p (suc i) names) → IsSet (choose b (quantity_of t ∷ picked p (suc i) names) (picked p (suc i) names))
    go true r = (
      (λ h. let o = of_picked p (suc i) names (quantity_of t) h in let w = a 0 (suc o.place) t o.name refl o.there o.is in absurd (omega (arith, w))),
      r,
    )
    go false r = r

pub set_append : (s t : List Quantity) → IsSet s → IsSet t → ((q : Quantity) → Has q s → Has q t → ⊥) → IsSet (s ++ t)
set_append [] t a b n = b
set_append (q ∷ s) t a b n =
    ((λ h. elim (has_either q s t h) [ inl k ↦ a.0 k | inr k ↦ n q (inl refl) k ]), set_append s t a.1 b (λ r h k. n r (inr h) k))

-- ---- forms of variables
pub mentioned : (names : List Name) (n x : ℕ) → slice_get names n ≡ Some (Variable (record { 0 = x })) → SomeFormMentions x (variable_forms names)
mentioned [] n x e = absurd (none-some _ e)
mentioned (Variable y ∷ names) zero x e = inl (inl (variable_same (same_Some (Variable y) (Variable (record { 0 = x })) e)))
  where
    variable_same : {a b : VarId} → Variable a ≡ Variable b → b.0 ≡ a.0
    variable_same e = cc
mentioned (Variable y ∷ names) (suc n) x e = inr (mentioned names n x e)
mentioned (Member i ∷ names) zero x e = absurd (no_member (same_Some (Member i) (Variable (record { 0 = x })) e))
  where
    no_member : {j : ℕ} {b : VarId} → Member j ≡ Variable b → ⊥
    no_member e = cc
mentioned (Member i ∷ names) (suc n) x e = mentioned names n x e

pub known_of : (names : List Name) (x : ℕ) → SomeFormMentions x (variable_forms names) → IsKnown names x
known_of [] x h = absurd h
known_of (Variable y ∷ names) x (inl (inl e)) = (0, ap (λ n. Some (Variable (record { 0 = n }))) (sym e))
known_of (Variable y ∷ names) x (inl (inr h)) = absurd h
known_of (Variable y ∷ names) x (inr h) = let k = known_of names x h in (suc k.0, k.1)
known_of (Member i ∷ names) x h = let k = known_of names x h in (suc k.0, k.1)

pub all_variables : (P : Linear → Type 0) → ((x : ℕ) → P (variable_form x)) → (names : List Name) → AllByRecursion P (variable_forms names)
all_variables P h [] = tt
all_variables P h (Variable y ∷ names) = (h y.0, all_variables P h names)
all_variables P h (Member i ∷ names) = all_variables P h names

-- ---- names that stand once
module _ (names : List Name) (numbered : (n : ℕ) → slice_get names n ≡ Some (Member 0) → ⊥)
    (once : (m n : ℕ) (t : Name) → slice_get names m ≡ Some t → slice_get names n ≡ Some t → m ≡ n) where
  -- each name is that of its quantity
  pub proper : (n : ℕ) (t : Name) → slice_get names n ≡ Some t → name_of (quantity_of t) ≡ t
  proper n (Variable x) e = refl
  proper n (Member zero) e = absurd (numbered n e)
  proper n (Member (suc i)) e = refl

  pub apart : AreApart names
  apart k m t u e f g = once k m t e (f ∙ ap Some (sym (proper m u f) ∙ ap name_of (sym g) ∙ proper k t e))

  pub placed_at : (n : ℕ) (r : Quantity) → slice_get names n ≡ Some (name_of r) → place names r ≡ n
  placed_at n r e = place_is names n r e (λ m f. once m n (name_of r) f e)
