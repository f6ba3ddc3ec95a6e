-- The stops while weak rows beside disequations are made strict, and the lists that are told then.
use Rattle.std.proofs.Common.{inl, inr, ℕ, List, ◌++◌, sym, subst}
use Rattle.std.specs.Prelude.{map, IsPermutation}
use Rattle.spec_linear.specs.Solution.{Constraint, Has}
use Rattle.spec_linear.proofs.Denominators.{has_left, has_right}
use Rattle.spec_linear.specs.Echelon.{Solved}
use Rattle.spec_projection.specs.Irredundant.{IsSublist}
use Rattle.spec_projection.specs.Strict.{Strengthened}
use Rattle.spec_projection.specs.Substitution.{put_into}
use Rattle.spec_projection.specs.Projection.{inequalities_of, disequations_of}
use Rattle.spec_projection.proofs.Members.{has_either, has_mapped, has_image}
use Rattle.spec_simplex.specs.Overflow.{Moment, OverflowDue}
use Rattle.spec_simplex.specs.Answers.{Solves, Strengthens, IsAnswerList, substituted}
use Rattle.cq_frac.specs.declared.Pair.{Pair}
use Rattle.cq_elimination.specs.Steps.{AreRowsOf}
use Rattle.cq_equations.specs.Rows.{equations_of}
use Rattle.cq_project.specs.Answering.{IsRefusedAnswering, IsSpentAnswering}
use Rattle.cq_project.specs.declared.keep.Substituted.{Substituted}
use Rattle.cq_project.specs.Keeping.{AreSubstituted}
use Rattle.cq_project.specs.Passing.{RefusesPass, SpendsPass}
use Rattle.cq_project.proofs.Moments.{rows_refused}
use Rattle.cq_project.proofs.Passes.{pass_refused, pass_spent}

module _ (targets : List ℕ) (l : List Constraint) (es : List Solved) (solves : Solves targets l es) where
  abbrev ordered : List Constraint
  ordered = map (put_into es) (inequalities_of l)

  abbrev unequal : List Constraint
  unequal = map (put_into es) (disequations_of l)

  put_member : (c : Constraint) → Has c (unequal ++ ordered) → Has c (map (put_into es) (inequalities_of l ++ disequations_of l))
  put_member c h = elim (has_either c unequal ordered h) [
    | inl i ↦
        let k = has_mapped (put_into es) c (disequations_of l) i in
        subst (λ d. Has d (map (put_into es) (inequalities_of l ++ disequations_of l))) (sym k.is)
        (has_image (put_into es) k.from (inequalities_of l ++ disequations_of l) (has_right k.from (inequalities_of l) (disequations_of l) k.member))
    | inr i ↦
        let k = has_mapped (put_into es) c (inequalities_of l) i in
        subst (λ d. Has d (map (put_into es) (inequalities_of l ++ disequations_of l))) (sym k.is)
        (has_image (put_into es) k.from (inequalities_of l ++ disequations_of l) (has_left k.from (inequalities_of l) (disequations_of l) k.member))
  ]

  pub strengthening_refused : (pair : Pair) → ((m : Moment) → AreRowsOf m (unequal ++ ordered) → OverflowDue m pair) → IsRefusedAnswering targets l pair
  strengthening_refused pair due = rows_refused targets l (unequal ++ ordered) (λ c h. substituted c solves (put_member c h)) pair due

  -- some strict rows with some disequations are a list from which the answer goes out
  pub told_strict : (strict : List Constraint) → Strengthens l es strict → (told chosen list : List Constraint) → IsSublist told strict
      → IsSublist chosen unequal → IsPermutation (told ++ chosen) list → IsAnswerList targets l list
  told_strict strict s told chosen list a b p = substituted solves s a b p

-- ---- the list's own rows
module _ (targets : List ℕ) (l : List Constraint) (s : Substituted) (a : AreSubstituted targets l s) where
  abbrev es : List Solved
  es = equations_of s.equations.items

  pub scaling_refused : (pair : Pair) → ((m : Moment) → AreRowsOf m (s.disequations.items ++ s.inequalities.items) → OverflowDue m pair) → IsRefusedAnswering targets l pair
  scaling_refused pair due =
      strengthening_refused targets l es a.solves pair
      (subst (λ d. (m : Moment) → AreRowsOf m (d ++ map (put_into es) (inequalities_of l)) → OverflowDue m pair) a.put_in.disequations
      (subst (λ i. (m : Moment) → AreRowsOf m (s.disequations.items ++ i) → OverflowDue m pair) a.put_in.inequalities due))

  module _ (strict : List Constraint) (strong : Strengthened s.disequations.items s.inequalities.items strict) where
    pub strengthens : Strengthens l es strict
    strengthens =
        subst (λ d. Strengthened d (map (put_into es) (inequalities_of l)) strict) a.put_in.disequations
        (subst (λ i. Strengthened s.disequations.items i strict) a.put_in.inequalities strong)

    is_answer : (told chosen list : List Constraint) → IsSublist told strict → IsSublist chosen s.disequations.items → IsPermutation (told ++ chosen) list
        → IsAnswerList targets l list
    is_answer told chosen list t c p = told_strict targets l es a.solves strict strengthens told chosen list t (subst (IsSublist chosen) a.put_in.disequations c) p

    pub left_refused : (pair : Pair) → RefusesPass strict s.disequations.items pair → IsRefusedAnswering targets l pair
    left_refused pair r = pass_refused targets l strict s.disequations.items is_answer pair r

    pub left_spent : (n : ℕ) → SpendsPass strict s.disequations.items n → IsSpentAnswering targets l n
    left_spent n r = pass_spent targets l strict s.disequations.items is_answer n r
