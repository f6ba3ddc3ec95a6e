-- The steps of a projection end in rows in the form of an answer, with the list's solutions on the targets.
use Rattle.std.proofs.Common.{◌≡◌, inl, inr, ℕ, List, [], ◌∷◌, ◌++◌, refl, ap, sym, subst, ◌∙◌}
use Rattle.std.specs.Prelude.{map}
use Rattle.std.proofs.lemmas.List.{append_assoc}
use Rattle.spec_numbers.specs.Sums.{Mentions}
use Rattle.spec_linear.specs.declared.Relation.TheVariants.{Eq, Ge, Ne}
use Rattle.spec_linear.specs.Form.{Linear}
use Rattle.spec_linear.specs.Solution.{Constraint, Solvable, Equivalent, Has, MentionsOnly, Same}
use Rattle.spec_linear.specs.Echelon.{Solved, equation, equations, AreDistinct}
use Rattle.spec_projection.specs.Targets.{SameOn}
use Rattle.spec_projection.specs.Lists.{AreForms}
use Rattle.spec_projection.specs.Elimination.{IsInequality}
use Rattle.spec_projection.specs.Irredundant.{IsIrredundant}
use Rattle.spec_projection.specs.Substitution.{put_into, AreFreeOf}
use Rattle.spec_projection.specs.Strict.{HasForm, IsStrictWhereUnequal}
use Rattle.spec_projection.specs.Projection.{inequalities_of, disequations_of, Projects, AreProjectedRows}
use Rattle.spec_projection.proofs.Members.{has_either, has_mapped, alike_front, alike_behind, alike_swapped}
use Rattle.spec_projection.proofs.SameOn.{same_from_same_on, same_on_trans, same_on_solvable, alike_same_on}
use Rattle.spec_projection.proofs.Sifted.{none_yet, sifted_none, sifted_alike}
use Rattle.spec_projection.proofs.Strong.{strengthened_alike}
use Rattle.spec_projection.proofs.Filled.{solved_go}
use Rattle.spec_projection.proofs.Echelons.{others_reduced, not_others, equations_free, all_front}
use Rattle.spec_projection.proofs.Rows.{equations_irredundant, two_passes}
use Rattle.spec_projection.proofs.Arranged.{source, arranged_alike, arranged_irredundant, arranged_form}
use Rattle.spec_projection.proofs.PutIn.{put_disequations, put_in_alike}
use Rattle.spec_projection.proofs.Whole as whole
use Rattle.spec_linear.proofs.Lists.{alike_sym, alike_trans}

equations_append : (s t : List Solved) → equations (s ++ t) ≡ equations s ++ equations t
equations_append [] t = refl
equations_append (e ∷ s) t = ap (λ w. equation e ∷ w) (equations_append s t)

module _ {front targets kept : List ℕ} {l : List Constraint} {es : List Solved} {inequalities disequations : List Constraint}
    (distinct : AreDistinct (front ++ targets)) (only : MentionsOnly (front ++ targets) l) (forms : AreForms l)
    (p : Projects front targets kept l es inequalities disequations) where
  abbrev all : List Solved
  all = p.keeps.others ++ es

  abbrev on : List ℕ
  on = targets ++ kept

  abbrev ordered : List Constraint
  ordered = map (put_into all) (inequalities_of l)

  abbrev unequal : List Constraint
  unequal = map (put_into all) (disequations_of l)

  abbrev rows : List Constraint
  rows = equations es ++ (inequalities ++ disequations)

  -- ---- the same solutions

  before : Equivalent (p.keeps.strict ++ p.keeps.left) (ordered ++ unequal)
  before =
      alike_trans (p.keeps.strict ++ p.keeps.left) (p.keeps.left ++ p.keeps.strict) (ordered ++ unequal) (alike_swapped p.keeps.strict p.keeps.left)
      (alike_trans (p.keeps.left ++ p.keeps.strict) (unequal ++ p.keeps.strict) (ordered ++ unequal) (sifted_alike p.keeps.strict [] unequal p.keeps.left p.keeps.unequal)
      (alike_trans (unequal ++ p.keeps.strict) (p.keeps.strict ++ unequal) (ordered ++ unequal) (alike_swapped unequal p.keeps.strict)
      (strengthened_alike unequal ordered p.keeps.strict p.keeps.strengthened)))

  put_in : Equivalent (equations all ++ (p.keeps.strict ++ p.keeps.left)) l
  put_in =
      alike_trans (equations all ++ (p.keeps.strict ++ p.keeps.left)) (equations all ++ (ordered ++ unequal)) l
      (alike_behind (equations all) (p.keeps.strict ++ p.keeps.left) (ordered ++ unequal) before) (put_in_alike (front ++ targets) l all distinct p.keeps.echelon only)

  others_free : AreFreeOf p.keeps.others (equations es ++ (p.keeps.strict ++ p.keeps.left))
  others_free c h = elim (has_either c (equations es) (p.keeps.strict ++ p.keeps.left) h) [
    | inl i ↦ equations_free front targets kept l p.keeps.others es distinct p.keeps.echelon p.keeps.others_in_front p.keeps.solved_targets (whole.from_front distinct only forms p) (whole.unsolved distinct only forms p) c i
    | inr i ↦ all_front (λ e. Mentions e.variable c.form.products → ⊥) p.keeps.others es
        (elim (has_either c p.keeps.strict p.keeps.left i) [ inl j ↦ (whole.free_strict distinct only forms p) c j | inr j ↦ (whole.free_left distinct only forms p) c j ])
  ]

  without_others : SameOn on (equations es ++ (p.keeps.strict ++ p.keeps.left)) l
  without_others =
      same_on_trans on (equations es ++ (p.keeps.strict ++ p.keeps.left)) (equations p.keeps.others ++ (equations es ++ (p.keeps.strict ++ p.keeps.left))) l
      (solved_go p.keeps.others (others_reduced front targets kept l p.keeps.others es distinct p.keeps.echelon p.keeps.others_in_front p.keeps.solved_targets (whole.from_front distinct only forms p) (whole.unsolved distinct only forms p)) on
      (equations es ++ (p.keeps.strict ++ p.keeps.left)) others_free (not_others front targets kept l p.keeps.others es distinct p.keeps.echelon p.keeps.others_in_front p.keeps.solved_targets (whole.from_front distinct only forms p) (whole.unsolved distinct only forms p)))
      (alike_same_on on (equations p.keeps.others ++ (equations es ++ (p.keeps.strict ++ p.keeps.left))) l
      (subst (λ w. Equivalent w l) (ap (λ w. w ++ (p.keeps.strict ++ p.keeps.left)) (equations_append p.keeps.others es) ∙ append_assoc (equations p.keeps.others) (equations es) (p.keeps.strict ++ p.keeps.left)) put_in))

  end_rows : Equivalent (inequalities ++ disequations) (p.remaining ++ p.keeps.left)
  end_rows =
      alike_trans (inequalities ++ disequations) (p.rows ++ disequations) (p.remaining ++ p.keeps.left)
      (alike_front inequalities p.rows disequations (arranged_alike p.rows inequalities p.arrangement))
      (alike_trans (p.rows ++ disequations) (p.rows ++ p.unequal) (p.remaining ++ p.keeps.left)
      (alike_behind p.rows disequations p.unequal (arranged_alike p.unequal disequations p.arrangement_unequal))
      (alike_trans (p.rows ++ p.unequal) (p.strict_again ++ p.unequal) (p.remaining ++ p.keeps.left) (sifted_alike p.unequal [] p.strict_again p.rows p.last)
      (alike_trans (p.strict_again ++ p.unequal) (p.unequal ++ p.strict_again) (p.remaining ++ p.keeps.left) (alike_swapped p.strict_again p.unequal)
      (alike_trans (p.unequal ++ p.strict_again) (p.keeps.left ++ p.strict_again) (p.remaining ++ p.keeps.left)
      (sifted_alike p.strict_again [] p.keeps.left p.unequal p.unequal_again)
      (alike_trans (p.keeps.left ++ p.strict_again) (p.strict_again ++ p.keeps.left) (p.remaining ++ p.keeps.left) (alike_swapped p.keeps.left p.strict_again)
      (strengthened_alike p.keeps.left p.remaining p.strict_again p.strengthened_again))))))

  -- equations in front, and behind
  moved : (k m : List Constraint) → Equivalent (equations es ++ (k ++ m)) (k ++ (m ++ equations es))
  moved k m = subst (λ w. Equivalent (equations es ++ (k ++ m)) w) (append_assoc k m (equations es)) (alike_swapped (equations es) (k ++ m))

  rows_same_on : SameOn on rows l
  rows_same_on =
      same_on_trans on rows (equations es ++ (p.remaining ++ p.keeps.left)) l
      (alike_same_on on rows (equations es ++ (p.remaining ++ p.keeps.left)) (alike_behind (equations es) (inequalities ++ disequations) (p.remaining ++ p.keeps.left) end_rows))
      (same_on_trans on (equations es ++ (p.remaining ++ p.keeps.left)) (p.remaining ++ (p.keeps.left ++ equations es)) l
      (alike_same_on on (equations es ++ (p.remaining ++ p.keeps.left)) (p.remaining ++ (p.keeps.left ++ equations es)) (moved p.remaining p.keeps.left))
      (same_on_trans on (p.remaining ++ (p.keeps.left ++ equations es)) (p.keeps.strict ++ (p.keeps.left ++ equations es)) l (whole.keeps distinct only forms p).same
      (same_on_trans on (p.keeps.strict ++ (p.keeps.left ++ equations es)) (equations es ++ (p.keeps.strict ++ p.keeps.left)) l
      (alike_same_on on (p.keeps.strict ++ (p.keeps.left ++ equations es)) (equations es ++ (p.keeps.strict ++ p.keeps.left))
      (alike_sym (equations es ++ (p.keeps.strict ++ p.keeps.left)) (p.keeps.strict ++ (p.keeps.left ++ equations es)) (moved p.keeps.strict p.keeps.left)))
      without_others)))

  pub rows_same : Same on rows l
  rows_same = same_from_same_on on rows l (whole.rows_over distinct only forms p) rows_same_on

  -- ---- no row follows

  pub rows_irredundant : Solvable l → IsIrredundant rows
  rows_irredundant s =
      equations_irredundant es (inequalities ++ disequations) (whole.es_reduced distinct only forms p) (whole.rows_free distinct only forms p) ((same_on_solvable on rows l rows_same_on).1 s)
      (arranged_irredundant p.rows inequalities p.unequal disequations p.arrangement p.arrangement_unequal
      (two_passes p.rows p.strict_again p.unequal (whole.rows_has distinct only forms p)
      (sifted_none p.strict_again [] p.keeps.left p.unequal (none_yet (p.keeps.left ++ p.strict_again)) p.unequal_again)
      (sifted_none p.unequal [] p.strict_again p.rows (none_yet (p.strict_again ++ p.unequal)) p.last)))

  -- ---- no weak row has the form of a disequation

  disequation_left : (c : Constraint) → Has c p.keeps.left → c.relation ≡ Ne
  disequation_left c h = put_disequations all l c (whole.left_has distinct only forms p c h)

  is_disequation_row : (c : Constraint) → Has c disequations → c.relation ≡ Ne
  is_disequation_row c h =
      let i = source p.unequal disequations p.arrangement_unequal c h in
      i.multiple.relation ∙ disequation_left i.row (whole.unequal_has distinct only forms p i.row i.among)

  is_inequality_row : (c : Constraint) → Has c inequalities → IsInequality c.relation
  is_inequality_row c h =
      let i = source p.rows inequalities p.arrangement c h in
      let s = whole.again distinct only forms p i.row (whole.rows_has distinct only forms p i.row i.among) in
      subst IsInequality (sym i.multiple.relation) (s.inequality ((whole.keeps distinct only forms p).inequalities s.row s.among))

  is_equation_row : (c : Constraint) → Has c (equations es) → c.relation ≡ Eq
  is_equation_row c h = let k = has_mapped equation c es h in ap (λ d. d.relation) k.is

  -- a disequation of the rows is one of the disequations
  form_left : (f : Linear) → HasForm f rows → HasForm f disequations
  form_left f h = elim (has_either h.disequation (equations es) (inequalities ++ disequations) h.among) [
    | inl i ↦ absurd (equation_unequal (sym (is_equation_row h.disequation i) ∙ h.relation))
    | inr i ↦ elim (has_either h.disequation inequalities disequations i) [
      | inl j ↦ absurd (subst IsInequality h.relation (is_inequality_row h.disequation j))
      | inr j ↦ record { disequation = h.disequation; among = j; relation = h.relation; multiples = h.multiples }
    ]
  ]
    where
      equation_unequal : Eq ≡ Ne → ⊥
      equation_unequal e = cc

  -- and comes from one that was left
  form_before : (f : Linear) → HasForm f p.unequal → HasForm f p.keeps.left
  form_before f h = record { disequation = h.disequation; among = whole.unequal_has distinct only forms p h.disequation h.among; relation = h.relation; multiples = h.multiples }

  pub rows_strict : IsStrictWhereUnequal rows
  rows_strict c h w f = elim (has_either c (equations es) (inequalities ++ disequations) h) [
    | inl i ↦ equation_weak (sym (is_equation_row c i) ∙ w)
    | inr i ↦ elim (has_either c inequalities disequations i) [
      | inl j ↦ weak_row j
      | inr j ↦ unequal_weak (sym (is_disequation_row c j) ∙ w)
    ]
  ]
    where
      equation_weak : Eq ≡ Ge → ⊥
      equation_weak e = cc

      unequal_weak : Ne ≡ Ge → ⊥
      unequal_weak e = cc

      weak_row : Has c inequalities → ⊥
      weak_row j =
          let i = source p.rows inequalities p.arrangement c j in
          let s = whole.again distinct only forms p i.row (whole.rows_has distinct only forms p i.row i.among) in
          s.strict (sym i.multiple.relation ∙ w)
          (form_before i.row.form (arranged_form p.unequal disequations p.arrangement_unequal i.row.form c.form i.multiple.forms (form_left c.form f)))

  pub projected_rows : Solvable l → AreProjectedRows on l es (inequalities ++ disequations)
  projected_rows s = record {
    echelon = whole.echelon distinct only forms p;
    unsolved = whole.rows_free distinct only forms p;
    irredundant = rows_irredundant s;
    strict = rows_strict;
    same = rows_same;
  }
