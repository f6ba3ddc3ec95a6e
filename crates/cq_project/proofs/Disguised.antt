-- With the equations in disguise disclosed a list says the same, and holds strictly somewhere.
use Rattle.std.proofs.Common.{◌≡◌, ◌+◌, ◌<◌, inl, inr, ℕ, List, [], ◌∷◌, ◌++◌, length, take, get_or, ap, sym, subst, ◌∙◌}
use Rattle.std.proofs.lemmas.List.{take_more}
use Rattle.spec_numbers.specs.Rational.{IsPositive}
use Rattle.spec_numbers.proofs.Sign.{nonneg_cases, nonneg_zero}
use Rattle.spec_linear.specs.declared.Relation.TheVariants.{Eq, Ge}
use Rattle.spec_linear.specs.Form.{Linear}
use Rattle.spec_linear.specs.Solution.{Constraint, Meets, Holds, through, Point, Solves, Solvable, Entails, Equivalent, Has, number, equal_zero}
use Rattle.spec_linear.proofs.Points.{solves_same}
use Rattle.spec_linear.proofs.Lists.{member_holds, alike_solvable, alike_sym}
use Rattle.spec_linear.specs.Weak.{at_least_zero, weak}
use Rattle.spec_linear.proofs.Far.{weak_satisfied}
use Rattle.spec_linear.specs.Extremes.{Leaves}
use Rattle.spec_projection.specs.Interior.{strictly, equations_of}
use Rattle.spec_projection.proofs.Interior.{strict_together}
use Rattle.spec_projection.proofs.Inside.{equations_follow}
use Rattle.cq_project.specs.Disclosing.{IsDisclosed, Discloses, no_row, one_row}

module _ (told : List Constraint) where
  -- one more row
  pub disclosed_both : (k m i j : List Constraint) → Discloses told k m → Discloses told i j → Discloses told (k ++ i) (m ++ j)
  disclosed_both _ _ i j no_row t = t
  disclosed_both _ _ i j (one_row {k = k} {l = l} h s) t = one_row h (disclosed_both k l i j s t)

  pub disclosed_more : (rows all : List Constraint) (n : ℕ) (c d : Constraint) → n < length rows → c ≡ get_or rows n c → IsDisclosed told c d
      → Discloses told (take n rows) all → Discloses told (take (n + 1) rows) (all ++ d ∷ [])
  disclosed_more rows all n c d h e own s =
      subst (λ w. Discloses told w (all ++ d ∷ [])) (sym (take_more rows n c h ∙ ap (λ z. take n rows ++ z ∷ []) (sym e)))
      (disclosed_both (take n rows) all (c ∷ []) (d ∷ []) s (one_row own no_row))

  -- ---- the same solutions
  back : (p : Point) (k m : List Constraint) → Discloses told k m → Solves p m → Solves p k
  back p _ _ no_row s = tt
  back p _ _ (one_row {c = c} {d = d} {k = k} {l = l} own t) s = (by own s.0, back p k l t s.1)
    where
      by : IsDisclosed told c d → Holds p d → Holds p c
      by (inl h) o =
          let zero : Holds p (equal_zero c.form) = subst (Holds p) h.1 o in
          subst (λ r. Meets r (through p c.form)) (sym h.0) (subst (Meets Ge) (sym zero) nonneg_zero)
      by (inr h) o = subst (Holds p) h.0 o

  forth : (p : Point) → Solves p told → (k m : List Constraint) → Discloses told k m → Solves p k → Solves p m
  forth p all _ _ no_row s = tt
  forth p all _ _ (one_row {c = c} {d = d} {k = k} {l = l} own t) s = (by own s.0, forth p all k l t s.1)
    where
      by : IsDisclosed told c d → Holds p c → Holds p d
      by (inl h) o = subst (Holds p) (sym h.1) (h.2 p all)
      by (inr h) o = subst (Holds p) (sym h.0) o

  pub disclosed_same : (m : List Constraint) → Discloses told told m → Equivalent m told
  disclosed_same m t p = ((λ s. back p told m t s), (λ s. forth p s told m t s))

  -- ---- strictly
  rises : (k m : List Constraint) → Discloses told k m → (f : Linear) → Has (at_least_zero f) m → Leaves told (equal_zero f) × Has (at_least_zero f) k
  rises _ _ no_row f h = absurd h
  rises _ _ (one_row {c = c} {d = d} {k = k} own t) f (inl e) = by own
    where
      by : IsDisclosed told c d → Leaves told (equal_zero f) × Has (at_least_zero f) (c ∷ k)
      by (inl h) = let w : Ge ≡ Eq = ap (λ z. z.relation) (e ∙ h.1) in cc
      by (inr h) =
          let same : at_least_zero f ≡ c = e ∙ h.0 in
          (subst (λ g. Leaves told (equal_zero g)) (sym (ap (λ z. z.form) same)) (h.1 (sym (ap (λ z. z.relation) same))), inl same)
  rises _ _ (one_row {k = k} {l = l} own t) f (inr h) = let r = rises k l t f h in (r.0, inr r.1)

  pub disclosed_strictly : (m : List Constraint) → Discloses told told m → Solvable told → Solvable (strictly m)
  disclosed_strictly m t s = strict_together m (alike_solvable told m (alike_sym m told (disclosed_same m t)) s) (λ f h.
      let r = rises told m t f h in
      let p = r.0.point in
      let above : IsPositive (through p f) = elim (nonneg_cases (through p f) (member_holds p told (at_least_zero f) r.1 r.0.solves)) [ inl z ↦ absurd (r.0.breaks z) | inr o ↦ o ] in
      (p, (above, (solves_same p (weak m)).1 (weak_satisfied (number p) m ((solves_same p m).0 (forth p r.0.solves told m t r.0.solves))))))

  -- what equations the list entails follows from those that stand then
  pub disclosed_complete : (m : List Constraint) → Discloses told told m → Solvable told → (f : Linear) → Entails told (equal_zero f) → Entails (equations_of m) (equal_zero f)
  disclosed_complete m t s f h = equations_follow m f (disclosed_strictly m t s) (λ p o. h p ((disclosed_same m t p).0 o))
