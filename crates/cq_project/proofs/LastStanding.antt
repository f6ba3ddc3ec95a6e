-- Rows that are left hold together with the disequations.
use Rattle.std.proofs.Common.{inl, inr, ℕ, List, [], ◌++◌}
use Rattle.spec_linear.specs.Solution.{Constraint, Solvable}
use Rattle.spec_linear.proofs.Lists.{alike_sym, alike_solvable}
use Rattle.spec_linear.proofs.Denominators.{has_left, has_right}
use Rattle.spec_projection.specs.Lists.{AreForms}
use Rattle.spec_projection.specs.Irredundant.{Sifts}
use Rattle.spec_projection.specs.Partial.{IsPartial}
use Rattle.spec_projection.specs.Strict.{Strengthened}
use Rattle.spec_projection.proofs.Members.{has_either}
use Rattle.spec_projection.proofs.SameOn.{same_on_solvable}
use Rattle.spec_projection.proofs.Sifted.{sublist_has, sifted_sublist}
use Rattle.spec_projection.proofs.Strong.{strengthened_alike}
use Rattle.spec_projection.proofs.Eliminating.{eliminates_keeps, partial_eliminates}
use Rattle.cq_project.proofs.Parts.{solvable_part}
use Rattle.cq_project.specs.Lasting.{Stands}

module _ (rest : List ℕ) (inequalities disequations : List Constraint) (s : Stands rest inequalities disequations) (forms : AreForms inequalities)
    (remaining : List Constraint) (p : IsPartial s.others inequalities remaining) where
  remaining_solvable : Solvable (remaining ++ disequations)
  remaining_solvable =
      let carried = eliminates_keeps s.others inequalities disequations s.ordered forms s.only remaining (partial_eliminates s.others inequalities remaining p) in
      (same_on_solvable s.others (remaining ++ disequations) (inequalities ++ disequations) carried.same).1 s.solvable

  module _ (strict : List Constraint) (strong : Strengthened disequations remaining strict) where
    pub strict_solvable : Solvable (strict ++ disequations)
    strict_solvable =
        alike_solvable (remaining ++ disequations) (strict ++ disequations)
        (alike_sym (strict ++ disequations) (remaining ++ disequations) (strengthened_alike disequations remaining strict strong)) remaining_solvable

    pub unequal_solvable : (unequal : List Constraint) → Sifts strict [] disequations unequal → Solvable (unequal ++ strict)
    unequal_solvable unequal q = solvable_part (unequal ++ strict) (strict ++ disequations) (λ c h. elim (has_either c unequal strict h) [
      | inl a ↦ has_right c strict disequations (sublist_has unequal disequations (sifted_sublist strict disequations unequal q) c a)
      | inr b ↦ has_left c strict disequations b
    ]) strict_solvable
