-- What a unifier leaves alone: variables that stand in none of its pairs.
use Rattle.std.proofs.Common.{◌≡◌, ◌≤◌, ℕ, List, [], ◌∷◌, Bool, true, false, refl, sym, ap, ◌∙◌, subst, arith, inl, inr, ◌⊎◌}
use Rattle.std.specs.Prelude.{if◌then◌else◌, ◌==◌}
use Rattle.std.proofs.lemmas.Bool.{cases_eq}
use Rattle.spec_numbers.specs.Rational.{0ℚ}
use Rattle.spec_numbers.proofs.Tests.{nat_eq-same, nat_eq-self}
use Rattle.spec_terms.specs.Term.{Term, Terms, Subst, Var, Number, Name, Compound, one, more, Occurs, OccursIn, apply, identity}
use Rattle.spec_terms.specs.Unifier.{Equation, Equates, IsUnifier}
use Rattle.spec_terms.proofs.Substitution.{apply-identity, apply_agree, agree_apply}

-- the variable stands in one of the pairs
abbrev pub StandsIn : {A : Type 0} → ℕ → List (Equation A) → Type 0
StandsIn v [] = ⊥
StandsIn v (e ∷ es) = Occurs v e.left ⊎ (Occurs v e.right ⊎ StandsIn v es)

either : (P Q : Type 0) → P ⊎ (P → ⊥) → Q ⊎ (Q → ⊥) → (P ⊎ Q) ⊎ ((P ⊎ Q) → ⊥)
either P Q (inl p) q = inl (inl p)
either P Q (inr n) (inl q) = inl (inr q)
either P Q (inr n) (inr m) = inr (λ o. elim o [ inl p ↦ n p | inr q ↦ m q ])

module _ {A : Type 0} where
  -- it does, or it doesn't
  mutual
    occurs_or_not : (v : ℕ) (t : Term A) → Occurs v t ⊎ (Occurs v t → ⊥)
    occurs_or_not v (Var w) = cases_eq v w
    occurs_or_not v (Number q) = inr (λ o. o)
    occurs_or_not v (Name a) = inr (λ o. o)
    occurs_or_not v (Compound f ts) = occurs_in_or_not v ts

    occurs_in_or_not : (v : ℕ) (ts : Terms A) → OccursIn v ts ⊎ (OccursIn v ts → ⊥)
    occurs_in_or_not v (one t) = occurs_or_not v t
    occurs_in_or_not v (more t ts) = either (Occurs v t) (OccursIn v ts) (occurs_or_not v t) (occurs_in_or_not v ts)

  pub stands_or_not : (v : ℕ) (es : List (Equation A)) → StandsIn v es ⊎ (StandsIn v es → ⊥)
  stands_or_not v [] = inr (λ o. o)
  stands_or_not v (e ∷ es) =
      either (Occurs v e.left) (Occurs v e.right ⊎ StandsIn v es) (occurs_or_not v e.left)
      (either (Occurs v e.right) (StandsIn v es) (occurs_or_not v e.right) (stands_or_not v es))

  -- a substitution that agrees on the variables of the pairs makes them equal too
  same_equates : (es : List (Equation A)) (r s : Subst A) → ((v : ℕ) → StandsIn v es → r v ≡ s v) → Equates s es → Equates r es
  same_equates [] r s h e = e
  same_equates (p ∷ es) r s h e = (
    apply_agree r s p.left (λ v o. h v (inl o)) ∙ e.0 ∙ sym (apply_agree r s p.right (λ v o. h v (inr (inl o)))),
    same_equates es r s (λ v i. h v (inr (inr i))) e.1,
  )

  -- the substitution with another image of one variable
  with_image : Subst A → ℕ → Term A → Subst A
  with_image s v t w = if w == v then t else s w

  at_itself : (s : Subst A) (v : ℕ) (t : Term A) → with_image s v t v ≡ t
  unfolding with_image
  at_itself s v t = ap (λ (b : Bool). if b then t else s v) (nat_eq-self v)

  at_other : (s : Subst A) (v : ℕ) (t : Term A) (w : ℕ) → (w == v) ≡ false → with_image s v t w ≡ s w
  unfolding with_image
  at_other s v t w e = ap (λ (b : Bool). if b then t else s w) e

  pub only_variable : (r : Subst A) (t : Term A) (v : ℕ) → apply r t ≡ Var v → (y : ℕ) × (t ≡ Var y) × (r y ≡ Var v)
  only_variable r (Var y) v e = (y, refl, e)
  only_variable r (Number q) v e = cc
  only_variable r (Name a) v e = cc
  only_variable r (Compound f ts) v e = cc

module _ {A : Type 0} (es : List (Equation A)) (s : Subst A) (u : IsUnifier es s) where
  agrees : (v : ℕ) (t : Term A) → (StandsIn v es → ⊥) → (w : ℕ) → StandsIn w es → (b : Bool) → (w == v) ≡ b → with_image s v t w ≡ s w
  agrees v t apart w i true e = absurd (apart (subst (λ (x : ℕ). StandsIn x es) (nat_eq-same w v e) i))
  agrees v t apart w i false e = at_other s v t w e

  other_image : (v : ℕ) (t : Term A) → (StandsIn v es → ⊥) → Equates (with_image s v t) es
  other_image v t apart = same_equates es (with_image s v t) s (λ w i. agrees v t apart w i (w == v) refl) u.unifies

  itself_by : (v y : ℕ) → s v ≡ Var y → with_image s v (Var v) y ≡ Var v → (b : Bool) → (y == v) ≡ b → s v ≡ Var v
  itself_by v y e r true i = e ∙ ap (λ (z : ℕ). Var z) (nat_eq-same y v i)
  itself_by v y e r false i =
      let back : s y ≡ Var v = sym (at_other s v (Var v) y i) ∙ r in
      let low : y ≤ v = u.oldest v y e in
      let high : v ≤ y = u.oldest y v back in
      let same : y ≡ v = omega (arith, low, high) in
      e ∙ ap (λ (z : ℕ). Var z) same

  -- a variable that stands in none of the pairs is its own image
  pub stays_itself : (v : ℕ) → (StandsIn v es → ⊥) → s v ≡ Var v
  stays_itself v apart =
      let seen = only_variable (with_image s v (Var v)) (s v) v (u.general (with_image s v (Var v)) (other_image v (Var v) apart) v ∙ at_itself s v (Var v)) in
      itself_by v seen.0 seen.1 seen.2 (seen.0 == v) refl

  own_by : (x w : ℕ) → Occurs w (s x) → (StandsIn w es → ⊥) → (b : Bool) → (x == w) ≡ b → w ≡ x
  own_by x w o apart true e = sym (nat_eq-same x w e)
  own_by x w o apart false e =
      let kept : apply (with_image s w (Number 0ℚ)) (s x) ≡ apply identity (s x) =
      u.general (with_image s w (Number 0ℚ)) (other_image w (Number 0ℚ) apart) x ∙ at_other s w (Number 0ℚ) x e ∙ sym (apply-identity (s x)) in
      let clash : Number 0ℚ ≡ Var w = sym (at_itself s w (Number 0ℚ)) ∙ agree_apply (with_image s w (Number 0ℚ)) identity (s x) kept w o in
      cc

  -- a variable of an image is the one whose image it is, or stands in the pairs
  pub own_or_paired : (x w : ℕ) → Occurs w (s x) → (StandsIn w es → ⊥) → w ≡ x
  own_or_paired x w o apart = own_by x w o apart (x == w) refl
