-- The stops while the last rows are made, as stops while an answer is made of a list.
use Rattle.std.proofs.Common.{◌≡◌, inl, inr, ℕ, List, [], ◌∷◌, ◌++◌, refl, ap, sym, subst, ◌∙◌, append-nil}
use Rattle.std.specs.Prelude.{map, IsPermutation}
use Rattle.std.proofs.lemmas.List.Sorted.{IsPermutation-append_comm, IsPermutation-trans}
use Rattle.spec_linear.specs.Form.{Linear}
use Rattle.spec_linear.specs.Solution.{Constraint, Has, MentionsOnly}
use Rattle.spec_linear.proofs.Denominators.{has_right}
use Rattle.spec_linear.specs.Echelon.{Solved, IsEchelon}
use Rattle.spec_projection.specs.Irredundant.{IsSublist, empty, kept as kept_row, left_out, Sifts}
use Rattle.spec_projection.specs.Partial.{IsPartial, IsPartialProjection}
use Rattle.spec_projection.specs.Strict.{Strengthened}
use Rattle.spec_projection.specs.Substitution.{put_into}
use Rattle.spec_projection.specs.Projection.{inequalities_of, disequations_of}
use Rattle.spec_projection.proofs.Members.{has_either, has_mapped, has_image}
use Rattle.spec_projection.proofs.Sifted.{sublist_has, sifted_sublist}
use Rattle.spec_simplex.specs.Overflow.{Moment, OverflowDue}
use Rattle.spec_simplex.specs.Answers.{Solves, Leaves, IsAnswerList, projected, strict_again, IsAnswerRow, substituted, IsProjectionDue}
use Rattle.cq_frac.specs.declared.Pair.{Pair}
use Rattle.cq_elimination.specs.Steps.{AreRowsOf}
use Rattle.cq_project.specs.Answering.{IsRefusedAnswering, IsSpentAnswering}
use Rattle.cq_project.proofs.Parts.{sublist_front}
use Rattle.cq_project.specs.Eliminating.{RefusesEliminating, while_sifting, while_combining, SpendsEliminating, IsRowsDue}
use Rattle.cq_project.specs.Passing.{RefusesPass, SpendsPass}
use Rattle.cq_project.proofs.Moments.{rows_refused}
use Rattle.cq_project.proofs.Passes.{sifting_refused, sifting_spent, pass_refused, pass_spent}
use Rattle.cq_project.specs.Lasting.{AreLeft}

-- ---- sublists

sublist_through : (k f l : List Constraint) → IsSublist k f → IsSublist f l → IsSublist k l
sublist_through _ _ _ s empty = s
sublist_through _ _ _ (kept_row s) (kept_row t) = kept_row (sublist_through _ _ _ s t)
sublist_through _ _ _ (left_out s) (kept_row t) = left_out (sublist_through _ _ _ s t)
sublist_through _ _ _ s (left_out t) = left_out (sublist_through _ _ _ s t)

nothing_of : (k l : List Constraint) → IsSublist k l → l ≡ [] → k ≡ []
nothing_of _ _ empty e = refl
nothing_of _ _ (kept_row {c = c} {l = l} s) e = absurd none
  where
    none : ⊥
    none = cc
nothing_of _ _ (left_out {c = c} {l = l} s) e = absurd none
  where
    none : ⊥
    none = cc

-- ---- the last rows
module _ (targets kept rest : List ℕ) (l inequalities disequations : List Constraint) (a : AreLeft targets kept rest l inequalities disequations) where
  abbrev order : List ℕ
  order = targets ++ kept

  abbrev unequal : List Constraint
  unequal = map (put_into a.es) (disequations_of l)

  solves : Solves targets l a.es
  solves = record {
    front = a.leaves.front;
    others = a.leaves.others;
    echelon = subst (IsEchelon (a.leaves.front ++ targets) l) (sym a.leaves.equations) a.leaves.keeps.echelon;
  }

  left_sublist : IsSublist disequations unequal
  left_sublist =
      subst (λ w. IsSublist w unequal) a.left
      (subst (λ (es : List Solved). IsSublist a.leaves.keeps.left (map (put_into es) (disequations_of l))) (sym a.leaves.equations)
      (sifted_sublist a.leaves.keeps.strict _ a.leaves.keeps.left a.leaves.keeps.unequal))

  -- ---- while variables are eliminated
  from_projection : (m : List Constraint) → IsPartialProjection order inequalities m → (told chosen list : List Constraint) → IsSublist told [] → IsSublist chosen m
      → IsPermutation (told ++ chosen) list → IsAnswerList targets l list
  from_projection m p told chosen list t s q =
      let none : told ≡ [] = nothing_of told [] t refl in
      let order_is : IsPermutation (chosen ++ []) list = subst (λ w. IsPermutation w list) (ap (λ w. w ++ chosen) none ∙ sym (append-nil chosen)) q in
      projected a.leaves p s (sublist_front [] [] unequal empty) order_is

  pub eliminating_refused : (pair : Pair) → RefusesEliminating order inequalities pair → IsRefusedAnswering targets l pair
  eliminating_refused pair (while_sifting m p r) = sifting_refused targets l [] m (from_projection m p) pair r
  eliminating_refused pair (while_combining m p due) = rows_refused targets l m (λ c h. projected c a.leaves p h) pair due

  pub eliminating_spent : (n : ℕ) → SpendsEliminating order inequalities n → IsSpentAnswering targets l n
  eliminating_spent n s = sifting_spent targets l [] s.rows (from_projection s.rows s.partial) n s.spends

  pub rows_due : (limit p n others : ℕ) (rows : List Constraint) → IsRowsDue order inequalities limit p n others rows → IsProjectionDue targets l limit p n others rows
  rows_due limit p n others rows d = record { kept = kept; es = a.es; strict = inequalities; leaves = a.leaves; due = d.due; rows_are = d.rows_are }

  -- ---- while weak rows are made strict
  module _ (remaining : List Constraint) (p : IsPartial order inequalities remaining) where
    pub each_row : (c : Constraint) → Has c (disequations ++ remaining) → IsAnswerRow targets l c.form
    each_row c h = elim (has_either c disequations remaining h) [
      | inl i ↦
          let k = has_mapped (put_into a.es) c (disequations_of l) (sublist_has disequations unequal left_sublist c i) in
          substituted c solves
          (subst (λ d. Has d (map (put_into a.es) (inequalities_of l ++ disequations_of l))) (sym k.is)
          (has_image (put_into a.es) k.from (inequalities_of l ++ disequations_of l) (has_right k.from (inequalities_of l) (disequations_of l) k.member)))
      | inr i ↦ projected c a.leaves p i
    ]

    pub strengthening_refused : (pair : Pair) → ((m : Moment) → AreRowsOf m (disequations ++ remaining) → OverflowDue m pair) → IsRefusedAnswering targets l pair
    strengthening_refused pair due = rows_refused targets l (disequations ++ remaining) each_row pair due

    -- ---- while rows that follow are dropped
    module _ (over : MentionsOnly order remaining) (strict : List Constraint) (strong : Strengthened disequations remaining strict) where
      strong_left : Strengthened a.leaves.keeps.left remaining strict
      strong_left = subst (λ d. Strengthened d remaining strict) (sym a.left) strong

      from_strict : (some beside list : List Constraint) → IsSublist some strict → IsSublist beside disequations → IsPermutation (some ++ beside) list → IsAnswerList targets l list
      from_strict some beside list s t q = strict_again a.leaves p over strong_left s (subst (IsSublist beside) (sym a.left) t) q

      pub unequal_refused : (pair : Pair) → RefusesPass strict disequations pair → IsRefusedAnswering targets l pair
      unequal_refused pair r = pass_refused targets l strict disequations from_strict pair r

      pub unequal_spent : (n : ℕ) → SpendsPass strict disequations n → IsSpentAnswering targets l n
      unequal_spent n r = pass_spent targets l strict disequations from_strict n r

      module _ (fewer : List Constraint) (sifts : Sifts strict [] disequations fewer) where
        from_fewer : (told chosen list : List Constraint) → IsSublist told fewer → IsSublist chosen strict → IsPermutation (told ++ chosen) list → IsAnswerList targets l list
        from_fewer told chosen list t s q =
            from_strict chosen told list s (sublist_through told fewer disequations t (sifted_sublist strict disequations fewer sifts))
            (IsPermutation-trans (chosen ++ told) (told ++ chosen) list (IsPermutation-append_comm chosen told) q)

        pub last_refused : (pair : Pair) → RefusesPass fewer strict pair → IsRefusedAnswering targets l pair
        last_refused pair r = pass_refused targets l fewer strict from_fewer pair r

        pub last_spent : (n : ℕ) → SpendsPass fewer strict n → IsSpentAnswering targets l n
        last_spent n r = pass_spent targets l fewer strict from_fewer n r
