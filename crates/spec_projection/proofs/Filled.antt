-- Values of the free variables give the variables that equations are solved for theirs.
use Rattle.std.proofs.Common.{◌≡◌, ◌↔◌, inl, inr, ℕ, List, [], ◌∷◌, ◌++◌, refl, ap, sym, subst, ◌∙◌}
use Rattle.std.specs.List.{AllByRecursion}
use Rattle.spec_numbers.specs.Rational.{ℚ}
use Rattle.spec_numbers.specs.Sums.{Monomial, Mentions}
use Rattle.spec_linear.specs.Form.{Linear, value_at, changed_at}
use Rattle.spec_linear.specs.Solution.{Constraint, HoldsAt, Satisfies, Entails, Has}
use Rattle.spec_linear.proofs.Denominators.{holds_agrees}
use Rattle.spec_linear.proofs.Lists.{entails_same}
use Rattle.spec_linear.specs.Echelon.{Solved, equation, equations, MentionsNone, AreDistinct}
use Rattle.spec_linear.proofs.Filled.{equation-said, value_at-agrees}
use Rattle.spec_linear.proofs.Far.{member_satisfied}
use Rattle.spec_projection.specs.Substitution.{solved_variables, AreReduced, AreFreeOf}
use Rattle.spec_projection.specs.Targets.{SameOn}
use Rattle.spec_projection.proofs.Members.{satisfies_all, satisfies_parts, satisfies_both, has_mapped, has_image}
use Rattle.spec_projection.proofs.SameOn.{same_on_by_values}
use Rattle.spec_projection.proofs.Projected.{changed_elsewhere, changed_here}

pub each : {A : Type 0} (P : A → Type 0) (s : List A) → AllByRecursion P s → (x : A) → Has x s → P x
each P [] h x k = absurd k
each P (y ∷ s) h x (inl e) = subst P (sym e) h.0
each P (y ∷ s) h x (inr k) = each P s h.1 x k

pub all_of : {A : Type 0} (P : A → Type 0) (s : List A) → ((x : A) → Has x s → P x) → AllByRecursion P s
all_of P [] h = tt
all_of P (y ∷ s) h = (h y (inl refl), all_of P s (λ x k. h x (inr k)))

-- the value of its form for each variable that is solved for
abbrev pub filled : List Solved → (ℕ → ℚ) → ℕ → ℚ
filled [] a = a
filled (e ∷ es) a = changed_at e.variable (value_at a e.form) (filled es a)

pub filled-free : (es : List Solved) (a : ℕ → ℚ) (y : ℕ) → (Has y (solved_variables es) → ⊥) → filled es a y ≡ a y
filled-free [] a y n = refl
filled-free (e ∷ es) a y n =
    changed_elsewhere (filled es a) e.variable (value_at a e.form) y (λ w. n (inl w)) ∙ filled-free es a y (λ h. n (inr h))

filled-solved : (es : List Solved) (a : ℕ → ℚ) → AreDistinct (solved_variables es) → (e : Solved) → Has e es → filled es a e.variable ≡ value_at a e.form
filled-solved [] a d e h = absurd h
filled-solved (b ∷ es) a d e (inl w) =
    changed_here (filled es a) b.variable (value_at a b.form) e.variable (ap (λ z. z.variable) w) ∙ ap (λ z. value_at a z.form) (sym w)
filled-solved (b ∷ es) a d e (inr h) =
    changed_elsewhere (filled es a) b.variable (value_at a b.form) e.variable
    (λ w. d.0 (subst (λ z. Has z (solved_variables es)) w (has_image (λ z. z.variable) e es h)))
    ∙ filled-solved es a d.1 e h

pub free_variable : (es : List Solved) (s : List Monomial) → MentionsNone es s → (y : ℕ) → Mentions y s → Has y (solved_variables es) → ⊥
free_variable es s n y m h =
    let k = has_mapped (λ z. z.variable) y es h in
    each (λ e. Mentions e.variable s → ⊥) es n k.from k.member (subst (λ z. Mentions z s) k.is m)

module _ (es : List Solved) (r : AreReduced es) where
  pub filled-form : (a : ℕ → ℚ) (f : Linear) → MentionsNone es f.products → value_at (filled es a) f ≡ value_at a f
  filled-form a f n = value_at-agrees (filled es a) a f (λ y m. filled-free es a y (free_variable es f.products n y m))

  -- the equations hold
  pub filled-equations : (a : ℕ → ℚ) → Satisfies (filled es a) (equations es)
  filled-equations a = satisfies_all (filled es a) (equations es) (λ c h.
      let k = has_mapped equation c es h in
      subst (HoldsAt (filled es a)) (sym k.is)
      (equation-said (filled es a) k.from
      (filled-solved es a r.distinct k.from k.member ∙ sym (filled-form a k.from.form (each (λ e. MentionsNone es e.form.products) es r.reduced k.from k.member)))))

  -- what mentions none of their variables holds as before
  pub filled-others : (a : ℕ → ℚ) (l : List Constraint) → AreFreeOf es l → Satisfies a l ↔ Satisfies (filled es a) l
  filled-others a l n = (
    (λ s. satisfies_all (filled es a) l (λ c h. holds_agrees a (filled es a) c (λ y m. sym (filled-free es a y (free_variable es c.form.products (n c h) y m))) (member_satisfied a l c h s))),
    (λ s. satisfies_all a l (λ c h. holds_agrees (filled es a) a c (λ y m. filled-free es a y (free_variable es c.form.products (n c h) y m)) (member_satisfied (filled es a) l c h s))),
  )

  pub filled-all : (a : ℕ → ℚ) (l : List Constraint) → AreFreeOf es l → Satisfies a l → Satisfies (filled es a) (equations es ++ l)
  filled-all a l n s = satisfies_both (filled es a) (equations es) l (filled-equations a) ((filled-others a l n).0 s)

  -- equations that are solved for no target may go, where nothing else mentions their variables
  pub solved_go : (targets : List ℕ) (l : List Constraint) → AreFreeOf es l → ((x : ℕ) → Has x targets → Has x (solved_variables es) → ⊥) → SameOn targets l (equations es ++ l)
  solved_go targets l n apart = same_on_by_values targets l (equations es ++ l)
      (λ a s. (filled es a, (λ x h. filled-free es a x (apart x h)), filled-all a l n s))
      (λ a s. (a, (λ x h. refl), (satisfies_parts a (equations es) l s).1))

  -- what mentions none of their variables follows from the others alone
  pub follows_without : (l : List Constraint) (c : Constraint) → AreFreeOf es (c ∷ l) → Entails (equations es ++ l) c → Entails l c
  follows_without l c n h = (entails_same l c).1 (λ a s.
      let k = (entails_same (equations es ++ l) c).0 h (filled es a) (filled-all a l (λ d i. n d (inr i)) s) in
      ((filled-others a (c ∷ []) (λ d i. elim i [ inl w ↦ subst (λ z. MentionsNone es z.form.products) (sym w) (n c (inl refl)) | inr w ↦ absurd w ])).1 (k, tt)).0)
