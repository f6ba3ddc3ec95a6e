-- The stops of a pass over rows beside others, as stops while an answer is made of a list.
use Rattle.std.proofs.Common.{inl, ℕ, List, [], ◌∷◌, ◌++◌, ◌≡◌, refl, ap, sym, subst, ◌∙◌, append_assoc, append-nil}
use Rattle.std.specs.Prelude.{IsPermutation}
use Rattle.std.proofs.lemmas.List.Sorted.{IsPermutation-refl, IsPermutation-append_right}
use Rattle.spec_linear.specs.Solution.{Constraint, Has}
use Rattle.spec_linear.proofs.Denominators.{has_right}
use Rattle.spec_projection.specs.Irredundant.{IsSublist, empty}
use Rattle.spec_simplex.specs.Asked.{NoQuestion}
use Rattle.spec_simplex.specs.Answers.{IsAnswerList, IsAnswerMember, AsksMember}
use Rattle.cq_frac.specs.declared.Pair.{Pair}
use Rattle.cq_store.specs.StoreValue.{Only}
use Rattle.cq_project.specs.Answering.{IsRefusedAnswering, IsSpentAnswering}
use Rattle.cq_project.specs.Telling.{RefusesTelling, SpendsTelling}
use Rattle.cq_project.proofs.Answering.{refused_so, spent_so}
use Rattle.cq_project.specs.Sifting.{IsToldWith, RefusesSifting, SpendsSifting, telling, asking}
use Rattle.cq_project.proofs.Parts.{sublist_all, sublist_front}
use Rattle.cq_project.specs.Passing.{RefusesPass, SpendsPass, while_telling, while_sifting}

-- an answer goes out from some of the rows beside and some of those gone through, in whatever order
module _ (targets : List ℕ) (l beside rows : List Constraint)
    (is_answer : (told chosen list : List Constraint) → IsSublist told beside → IsSublist chosen rows → IsPermutation (told ++ chosen) list → IsAnswerList targets l list) where
  of_beside : (told : List Constraint) → IsSublist told beside → IsAnswerList targets l told
  of_beside told s =
      is_answer told [] told s (sublist_front [] [] rows empty) (subst (λ w. IsPermutation w told) (sym (append-nil told)) (IsPermutation-refl told))

  of_pass : (list : List Constraint) → IsToldWith beside rows list → IsAnswerList targets l list
  of_pass list w =
      subst (IsAnswerList targets l) (sym w.split)
      (is_answer beside w.chosen (beside ++ w.some) (sublist_all beside) w.sublist (IsPermutation-append_right beside w.chosen w.some w.order))

  asks : (c d : Constraint) → Has c rows → Only c d → AsksMember targets l d
  asks c d h e = record {
    of = c;
    member = record { list = rows; is_list = is_answer [] rows rows (sublist_front [] [] beside empty) (sublist_all rows) (IsPermutation-refl rows); member = h };
    form = ap (λ b. b.form) e;
  }

  -- ---- while the rows beside are told
  module _ (front : List Constraint) (row : Constraint) (back : List Constraint) (split : beside ≡ front ++ row ∷ back) where
    in_front : IsAnswerList targets l front
    in_front = of_beside front (subst (IsSublist front) (sym split) (sublist_front front front (row ∷ back) (sublist_all front)))

    longer : (c : Constraint) → Only row c → IsAnswerList targets l (front ++ c ∷ [])
    longer c e =
        subst (λ d. IsAnswerList targets l (front ++ d ∷ [])) (sym e)
        (of_beside (front ++ row ∷ [])
        (subst (IsSublist (front ++ row ∷ [])) (append_assoc front (row ∷ []) back ∙ sym split)
        (sublist_front (front ++ row ∷ []) (front ++ row ∷ []) back (sublist_all (front ++ row ∷ [])))))

    joins : (c : Constraint) → Only row c → IsAnswerMember targets l c
    joins c e = record { list = front ++ c ∷ []; is_list = longer c e; member = has_right c front (c ∷ []) (inl refl) }

  pub telling_refused : (pair : Pair) → RefusesTelling beside pair → IsRefusedAnswering targets l pair
  telling_refused pair r =
      refused_so targets l r.front (Only r.row) NoQuestion (joins r.front r.row r.back r.split) (λ c n. absurd n) (in_front r.front r.row r.back r.split)
      (longer r.front r.row r.back r.split) pair r.refuses

  pub telling_spent : (n : ℕ) → SpendsTelling beside n → IsSpentAnswering targets l n
  telling_spent n r =
      spent_so targets l r.front (Only r.row) NoQuestion (joins r.front r.row r.back r.split) (λ c k. absurd k) (in_front r.front r.row r.back r.split)
      (longer r.front r.row r.back r.split) n r.spends

  -- ---- while the rows are gone through
  module _ (list : List Constraint) (c : Constraint) (w : IsToldWith beside rows (list ++ c ∷ [])) where
    pass_longer : (d : Constraint) → Only c d → IsAnswerList targets l (list ++ d ∷ [])
    pass_longer d e = subst (λ b. IsAnswerList targets l (list ++ b ∷ [])) (sym e) (of_pass (list ++ c ∷ []) w)

    pass_joins : (d : Constraint) → Only c d → IsAnswerMember targets l d
    pass_joins d e = record { list = list ++ d ∷ []; is_list = pass_longer d e; member = has_right d list (d ∷ []) (inl refl) }

  pub sifting_refused : (pair : Pair) → RefusesSifting beside rows pair → IsRefusedAnswering targets l pair
  sifting_refused pair (telling list c w v r) =
      refused_so targets l list (Only c) NoQuestion (pass_joins list c v) (λ d n. absurd n) (of_pass list w) (pass_longer list c v) pair r
  sifting_refused pair (asking list c w h r) =
      refused_so targets l list NoQuestion (Only c) (λ d n. absurd n) (λ d e. asks c d h e) (of_pass list w) (λ d n. absurd n) pair r

  pub sifting_spent : (n : ℕ) → SpendsSifting beside rows n → IsSpentAnswering targets l n
  sifting_spent n (telling list c w v r) =
      spent_so targets l list (Only c) NoQuestion (pass_joins list c v) (λ d k. absurd k) (of_pass list w) (pass_longer list c v) n r
  sifting_spent n (asking list c w h r) =
      spent_so targets l list NoQuestion (Only c) (λ d k. absurd k) (λ d e. asks c d h e) (of_pass list w) (λ d k. absurd k) n r

  -- ---- either
  pub pass_refused : (pair : Pair) → RefusesPass beside rows pair → IsRefusedAnswering targets l pair
  pass_refused pair (while_telling r) = telling_refused pair r
  pass_refused pair (while_sifting r) = sifting_refused pair r

  pub pass_spent : (n : ℕ) → SpendsPass beside rows n → IsSpentAnswering targets l n
  pass_spent n (while_telling r) = telling_spent n r
  pass_spent n (while_sifting r) = sifting_spent n r
