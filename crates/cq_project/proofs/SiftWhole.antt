-- Two halves of rows, of which the first was gone through: what the second gives is so of all rows.
use Rattle.std.proofs.Common.{◌≡◌, ℕ, List, ◌++◌, sym, subst}
use Rattle.spec_linear.specs.Solution.{Constraint, Solvable}
use Rattle.spec_projection.specs.Irredundant.{IsSublist}
use Rattle.spec_projection.proofs.Sifted.{sublist_has}
use Rattle.cq_frac.specs.declared.Pair.{Pair}
use Rattle.cq_project.specs.Sifting.{SiftsBeside, SiftsBehind, IsToldWith, RefusesSifting, SpendsSifting}
use Rattle.cq_project.proofs.Halves.{both_halves, kept_rows}
use Rattle.cq_project.proofs.Parts.{sublist_all, sublist_both, solvable_with, of_part, refuses_in, spends_in}

module _ (told rows front back first : List Constraint) (split : rows ≡ front ++ back) (sifted : SiftsBeside (told ++ back) front first) where
  some : IsSublist (first ++ back) rows
  some = subst (IsSublist (first ++ back)) (sym split) (sublist_both first front back back (kept_rows (told ++ back) front first sifted) (sublist_all back))

  pub rest_solvable : Solvable (told ++ rows) → Solvable (told ++ (first ++ back))
  rest_solvable w = solvable_with told (first ++ back) rows some w

  pub whole_told : (l : List Constraint) → IsToldWith told (first ++ back) l → IsToldWith told rows l
  whole_told = of_part told (first ++ back) rows some

  pub whole_refuses : (pair : Pair) → RefusesSifting told (first ++ back) pair → RefusesSifting told rows pair
  whole_refuses = refuses_in told (first ++ back) told rows whole_told (sublist_has (first ++ back) rows some)

  pub whole_spends : (n : ℕ) → SpendsSifting told (first ++ back) n → SpendsSifting told rows n
  whole_spends = spends_in told (first ++ back) told rows whole_told (sublist_has (first ++ back) rows some)

  pub whole_sifted : (kept : List Constraint) → SiftsBehind told first back kept → SiftsBeside told rows kept
  whole_sifted kept s =
      subst (λ l. SiftsBeside told l kept) (sym split) (subst (SiftsBeside told (front ++ back)) (sym s.kept_are) (both_halves told front back first s.rest sifted s.sifts))
