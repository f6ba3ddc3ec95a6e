-- The stops of a pass over combinations beside the other rows, as stops of a pass over all of them.
use Rattle.std.proofs.Common.{ℕ, List, [], ◌∷◌, ◌++◌, ◌≡◌, sym, subst, ◌∙◌, append_assoc}
use Rattle.spec_linear.specs.Solution.{Constraint}
use Rattle.spec_linear.proofs.Denominators.{has_right}
use Rattle.spec_projection.specs.Irredundant.{IsSublist}
use Rattle.cq_frac.specs.declared.Pair.{Pair}
use Rattle.cq_project.specs.Sifting.{IsToldWith, RefusesSifting, SpendsSifting, telling}
use Rattle.cq_project.proofs.Parts.{sublist_all, sublist_front, some_told, of_back, refuses_in, spends_in}
use Rattle.cq_project.specs.Passing.{RefusesPass, SpendsPass, while_telling, while_sifting}

module _ (beside new : List Constraint) where
  -- while those beside are told
  module _ (front : List Constraint) (row : Constraint) (back : List Constraint) (split : beside ≡ front ++ row ∷ back) where
    in_front : IsToldWith [] (beside ++ new) front
    in_front =
        some_told [] (beside ++ new) front
        (sublist_front front beside new (subst (IsSublist front) (sym split) (sublist_front front front (row ∷ back) (sublist_all front))))

    with_row : IsToldWith [] (beside ++ new) (front ++ row ∷ [])
    with_row =
        some_told [] (beside ++ new) (front ++ row ∷ [])
        (sublist_front (front ++ row ∷ []) beside new
        (subst (IsSublist (front ++ row ∷ [])) (append_assoc front (row ∷ []) back ∙ sym split)
        (sublist_front (front ++ row ∷ []) (front ++ row ∷ []) back (sublist_all (front ++ row ∷ [])))))

  all_told : (l : List Constraint) → IsToldWith beside new l → IsToldWith [] (beside ++ new) l
  all_told = of_back [] beside new beside (sublist_all beside)

  pub whole_refuses : (pair : Pair) → RefusesPass beside new pair → RefusesSifting [] (beside ++ new) pair
  whole_refuses pair (while_telling r) =
      telling r.front r.row (in_front r.front r.row r.back r.split) (with_row r.front r.row r.back r.split) r.refuses
  whole_refuses pair (while_sifting r) = refuses_in beside new [] (beside ++ new) all_told (λ c h. has_right c beside new h) pair r

  pub whole_spends : (n : ℕ) → SpendsPass beside new n → SpendsSifting [] (beside ++ new) n
  whole_spends n (while_telling r) =
      telling r.front r.row (in_front r.front r.row r.back r.split) (with_row r.front r.row r.back r.split) r.spends
  whole_spends n (while_sifting r) = spends_in beside new [] (beside ++ new) all_told (λ c h. has_right c beside new h) n r
