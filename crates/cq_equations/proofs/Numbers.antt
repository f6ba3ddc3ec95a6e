-- The entries that tell each variable's number.
use Rattle.std.proofs.Common.{◌≡◌, ℕ, suc, ◌+◌, List, [], ◌∷◌, ◌++◌, length, length-append, append-nil, Option, None, Some, Bool, true, false, cond, nat_eq, arith, refl, ap, sym, subst, ◌∙◌, ◌⊎◌, inl, inr}
use Rattle.std.specs.Prelude.{◌<◌, MatchOption, IsSome, option_to_list}
use Rattle.indexmap.proofs.RemoveLemmas.{popped_last}
use Rattle.std.specs.Map.{keys_of, lookup}
use Rattle.spec_linear.specs.Solution.{Has}
use Rattle.cq_frac.specs.Rows.{choose}
use Rattle.cq_frac.proofs.Units.{same_number}
use Rattle.cq_frac.specs.declared.VarId.{VarId}
use Rattle.cq_equations.specs.declared.table.Name.{Name}
use Rattle.cq_equations.specs.declared.table.Name.TheVariants.{Variable, Member}
use Rattle.cq_equations.specs.Contents.{variables_of, place_of_variable}
use Rattle.cq_equations.specs.Numbered.{numbers_from}
use Rattle.cq_equations.specs.Told.{numbers_of}
use Rattle.spec_numbers.proofs.Tests.{nat_eq-self, nat_eq-apart}

pub numbers-order : (n : ℕ) (names : List Name) → numbers_of (keys_of (numbers_from n names)) ≡ variables_of names
numbers-order n [] = refl
numbers-order n (Variable x ∷ names) = ap (λ s. x.0 ∷ s) (numbers-order (n + 1) names)
numbers-order n (Member ∷ names) = numbers-order (n + 1) names

pub numbers_from-append : (n : ℕ) (names more : List Name) → numbers_from n (names ++ more) ≡ numbers_from n names ++ numbers_from (n + length names) more
numbers_from-append n [] more = ap (λ k. numbers_from k more) (omega arith)
numbers_from-append n (Variable x ∷ names) more = ap (λ s. (x, n) ∷ s) (numbers_from-append (n + 1) names more ∙ ap (λ k. numbers_from (n + 1) names ++ numbers_from k more) (omega arith))
numbers_from-append n (Member ∷ names) more = numbers_from-append (n + 1) names more ∙ ap (λ k. numbers_from (n + 1) names ++ numbers_from k more) (omega arith)

-- ---- the last name goes

pub without_member : (names : List Name) → numbers_from 0 (names ++ Member ∷ []) ≡ numbers_from 0 names
without_member names = numbers_from-append 0 names (Member ∷ []) ∙ append-nil (numbers_from 0 names)

pub without_variable : (names : List Name) (x : VarId) (left : List (VarId × ℕ)) (last : Option (VarId × ℕ)) → numbers_from 0 (names ++ Variable x ∷ []) ≡ left ++ option_to_list last → IsSome last → left ≡ numbers_from 0 names
without_variable names x left last e is = (popped_last (numbers_from 0 names) left (x, 0 + length names) last (sym (numbers_from-append 0 names (Variable x ∷ [])) ∙ e) is).1

pub some_number : (names : List Name) (x : VarId) → 0 < length (numbers_from 0 (names ++ Variable x ∷ []))
some_number names x = omega (arith, ap length (numbers_from-append 0 names (Variable x ∷ [])), length-append (numbers_from 0 names) ((x, 0 + length names) ∷ []))

-- what the entries say of a variable that a test tells
pub lookup-numbers : (test : VarId → Bool) (x : ℕ) → ((y : VarId) → test y ≡ nat_eq x y.0) → (n : ℕ) (names : List Name) →
    MatchOption (lookup test (numbers_from n names)) (Has x (variables_of names) → ⊥) (λ k. Has x (variables_of names) × (k ≡ n + place_of_variable names x))
lookup-numbers test x e n [] = λ h. h
lookup-numbers test x e n (Member ∷ names) = later (lookup test (numbers_from (n + 1) names)) (lookup-numbers test x e (n + 1) names)
  where
    later : (o : Option ℕ) → MatchOption o (Has x (variables_of names) → ⊥) (λ k. Has x (variables_of names) × (k ≡ (n + 1) + place_of_variable names x)) →
        MatchOption o (Has x (variables_of names) → ⊥) (λ k. Has x (variables_of names) × (k ≡ n + suc (place_of_variable names x)))
    later None h = h
    later (Some k) h = (h.0, omega (arith, h.1))
lookup-numbers test x e n (Variable y ∷ names) = go (test y) (e y) (lookup test (numbers_from (n + 1) names)) (lookup-numbers test x e (n + 1) names)
  where
    other : nat_eq x y.0 ≡ false → (x ≡ y.0 → ⊥)
    other f w = let g : nat_eq x y.0 ≡ true = subst (λ k. nat_eq x k ≡ true) w (nat_eq-self x) in cc

    swapped : nat_eq x y.0 ≡ false → choose (nat_eq y.0 x) 0 (suc (place_of_variable names x)) ≡ suc (place_of_variable names x)
    swapped f = ap (λ b. choose b 0 (suc (place_of_variable names x))) (nat_eq-apart y.0 x (λ w. other f (sym w)))

    go : (b : Bool) → b ≡ nat_eq x y.0 → (o : Option ℕ) → MatchOption o (Has x (variables_of names) → ⊥) (λ k. Has x (variables_of names) × (k ≡ (n + 1) + place_of_variable names x)) →
        MatchOption (cond b (Some n) o) ((x ≡ y.0) ⊎ Has x (variables_of names) → ⊥) (λ k. ((x ≡ y.0) ⊎ Has x (variables_of names)) × (k ≡ n + choose (nat_eq y.0 x) 0 (suc (place_of_variable names x))))
    go true f o h =
        let w : x ≡ y.0 = same_number x y.0 (sym f) in
        (inl w, omega (arith, ap (λ b. choose b 0 (suc (place_of_variable names x))) (subst (λ k. nat_eq k x ≡ true) w (nat_eq-self x))))
    go false f None h = λ k. elim k [ inl w ↦ other (sym f) w | inr m ↦ h m ]
    go false f (Some k) h = (inr h.0, omega (arith, h.1, swapped (sym f)))

pub number_found : (test : VarId → Bool) (x : ℕ) → ((y : VarId) → test y ≡ nat_eq x y.0) → (names : List Name) →
    MatchOption (lookup test (numbers_from 0 names)) (Has x (variables_of names) → ⊥) (λ k. Has x (variables_of names) × (k ≡ place_of_variable names x))
number_found test x e names = go (lookup test (numbers_from 0 names)) (lookup-numbers test x e 0 names)
  where
    go : (o : Option ℕ) → MatchOption o (Has x (variables_of names) → ⊥) (λ k. Has x (variables_of names) × (k ≡ 0 + place_of_variable names x)) →
        MatchOption o (Has x (variables_of names) → ⊥) (λ k. Has x (variables_of names) × (k ≡ place_of_variable names x))
    go None h = h
    go (Some k) h = (h.0, omega (arith, h.1))
