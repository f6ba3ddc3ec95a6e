-- Rows beside disequations: a weak one whose scaled form is one of theirs is made strict.
use Rattle.std.proofs.Common.{◌≡◌, ◌+◌, ◌<◌, inl, inr, ℕ, List, [], ◌∷◌, ◌++◌, map, length, take, get_or, ap, sym, subst, ◌∙◌}
use Rattle.std.proofs.lemmas.List.{take_more, map-append}
use Rattle.spec_linear.specs.declared.Relation.{Relation}
use Rattle.spec_linear.specs.declared.Relation.TheVariants.{Gt, Ge}
use Rattle.spec_linear.specs.Form.{Linear, IsForm}
use Rattle.spec_linear.specs.Solution.{Constraint, Has}
use Rattle.spec_projection.specs.Lists.{AreForms}
use Rattle.spec_projection.specs.Strict.{HasForm, Strengthened, no_more, made_strict, left_alone}
use Rattle.spec_projection.proofs.Members.{has_either, has_mapped, has_image}
use Rattle.spec_simplex.specs.Overflow.{Moment, OverflowDue}
use Rattle.cq_frac.specs.declared.Pair.{Pair}
use Rattle.cq_elimination.specs.Steps.{AreRowsOf}
use Rattle.cq_elimination.proofs.Crossing.{division_due}
use Rattle.cq_elimination.proofs.Lists.{has_at}
use Rattle.cq_elimination.specs.Scaling.{canonical, canonical_of, ScalesForm, AreDisequations, IsRelationBeside}
use Rattle.cq_elimination.proofs.Canonical.{multiples_scaled, scaled_multiples}

-- ---- one more row of a list
module _ (rows : List Constraint) (i : ℕ) (row : Constraint) (within : i < length rows) (at : row ≡ get_or rows i row) where
  pub one_more : take (i + 1) rows ≡ take i rows ++ row ∷ []
  one_more = take_more rows i row within ∙ ap (λ d. take i rows ++ d ∷ []) (sym at)

  pub forms_more : IsForm row.form → AreForms (take i rows) → AreForms (take (i + 1) rows)
  forms_more f all c k = elim (has_either c (take i rows) (row ∷ []) (subst (Has c) one_more k)) [
    | inl a ↦ all c a
    | inr a ↦ elim a [ inl w ↦ subst (λ d. IsForm d.form) (sym w) f | inr n ↦ absurd n ]
  ]

  pub scaled_more : (forms : List Linear) → forms ≡ map canonical_of (take i rows) → (forms ++ canonical row.form ∷ []) ≡ map canonical_of (take (i + 1) rows)
  scaled_more forms e =
      ap (λ w. w ++ canonical row.form ∷ []) e ∙ sym (map-append canonical_of (take i rows) (row ∷ [])) ∙ ap (map canonical_of) (sym one_more)

-- ---- members
module _ {A : Type 0} (l : List A) (i : ℕ) (y : A) (within : i < length l) (at : y ≡ get_or l i y) where
  pub none_more : (x : A) → (Has x (take i l) → ⊥) → (x ≡ y → ⊥) → Has x (take (i + 1) l) → ⊥
  none_more x n d h =
      elim (has_either x (take i l) (y ∷ []) (subst (Has x) (take_more l i y within ∙ ap (λ z. take i l ++ z ∷ []) (sym at)) h)) [
        | inl a ↦ n a
        | inr a ↦ elim a [ inl e ↦ d e | inr k ↦ absurd k ]
      ]

  pub found_at : (x : A) → x ≡ y → Has x l
  found_at x e = subst (λ z. Has z l) (sym e) (has_at l i y within at)

-- ---- what is refused
pub scales_due : (m : Moment) (l : List Constraint) (row : Constraint) (pair : Pair) → AreRowsOf m l → Has row l → ScalesForm row.form pair → OverflowDue m pair
scales_due m l row pair rows h s = division_due m s.variable l pair rows (record { row = row; member = h; stands = s.stands; quotient = s.quotient })

-- ---- beside disequations
strengthened_both : (d k l m n : List Constraint) → Strengthened d k l → Strengthened d m n → Strengthened d (k ++ m) (l ++ n)
strengthened_both d _ _ m n no_more t = t
strengthened_both d _ _ m n (made_strict {k = k} {l = l} f s) t = made_strict f (strengthened_both d k l m n s t)
strengthened_both d _ _ m n (left_alone {k = k} {l = l} f s) t = left_alone f (strengthened_both d k l m n s t)

module _ (disequations : List Constraint) (unequal : AreDisequations disequations) (forms : AreForms disequations) where
  scaled_has : (f : Linear) → IsForm f → Has (canonical f) (map canonical_of disequations) → HasForm f disequations
  scaled_has f i h =
      let d = has_mapped canonical_of (canonical f) disequations h in
      record { disequation = d.from; among = d.member; relation = unequal d.from d.member; multiples = scaled_multiples f d.from.form i (forms d.from d.member) d.is }

  has_scaled : (f : Linear) → IsForm f → HasForm f disequations → Has (canonical f) (map canonical_of disequations)
  has_scaled f i h =
      subst (λ w. Has w (map canonical_of disequations)) (sym (multiples_scaled f h.disequation.form i (forms h.disequation h.among) h.multiples))
      (has_image canonical_of h.disequation disequations h.among)

  one_row : (c : Constraint) (r : Relation) → IsForm c.form → IsRelationBeside (map canonical_of disequations) c r
      → Strengthened disequations (c ∷ []) (record { relation = r; form = c.form } ∷ [])
  one_row c r i (inl h) =
      let weak : record { relation = Ge; form = c.form } ≡ c = ap (λ w. record { relation = w; form = c.form }) (sym h.1) in
      let strict : record { relation = Gt; form = c.form } ≡ record { relation = r; form = c.form } = ap (λ w. record { relation = w; form = c.form }) (sym h.0) in
      subst (λ d. Strengthened disequations (d ∷ []) (record { relation = r; form = c.form } ∷ [])) weak
      (subst (λ e. Strengthened disequations (record { relation = Ge; form = c.form } ∷ []) (e ∷ [])) strict (made_strict (scaled_has c.form i h.2) no_more))
  one_row c r i (inr h) =
      let same : c ≡ record { relation = r; form = c.form } = ap (λ w. record { relation = w; form = c.form }) (sym h.0) in
      subst (λ e. Strengthened disequations (c ∷ []) (e ∷ [])) same (left_alone (λ w k. h.1 w (has_scaled c.form i k)) no_more)

  -- one more row
  pub strengthened_more : (k l : List Constraint) (c : Constraint) (r : Relation) → IsForm c.form → IsRelationBeside (map canonical_of disequations) c r
      → Strengthened disequations k l → Strengthened disequations (k ++ c ∷ []) (l ++ record { relation = r; form = c.form } ∷ [])
  strengthened_more k l c r i b s = strengthened_both disequations k l (c ∷ []) (record { relation = r; form = c.form } ∷ []) s (one_row c r i b)
