-- The stops of calls on a list, as stops while an answer is made of it.
use Rattle.std.proofs.Common.{◌≡◌, ℕ, ◌+◌, ◌<◌, suc, List, [], ◌∷◌, ◌++◌, inl, length, take, drop, get_or, add-one, refl, ap, sym, subst, ◌∙◌, append_assoc, append-nil}
use Rattle.std.proofs.Math.Seq.{split_at}
use Rattle.spec_linear.specs.Solution.{Constraint, Has, equal_zero}
use Rattle.spec_linear.proofs.Denominators.{has_right}
use Rattle.spec_simplex.specs.Asked.{NoQuestion}
use Rattle.spec_simplex.specs.Answers.{IsAnswerList, beginning, IsAnswerMember, AsksMember}
use Rattle.cq_frac.specs.declared.Pair.{Pair}
use Rattle.cq_store.specs.StoreValue.{Only}
use Rattle.cq_project.specs.Answering.{IsRefusedAnswering, IsSpentAnswering}
use Rattle.cq_project.specs.Disclosing.{RefusesDisclosing, SpendsDisclosing}
use Rattle.cq_project.specs.Telling.{RefusesTelling, SpendsTelling}
use Rattle.cq_project.proofs.Answering.{refused_so, spent_so}

-- the rows in front of one of them, it, and those behind
pub around : (rows : List Constraint) (i : ℕ) (row : Constraint) → i < length rows → row ≡ get_or rows i row → rows ≡ take i rows ++ row ∷ drop (i + 1) rows
around rows i row h e =
    split_at rows i row h ∙ ap (λ d. take i rows ++ d ∷ drop (suc i) rows) (sym e) ∙ ap (λ n. take i rows ++ row ∷ drop n rows) (sym (add-one i))

pub is_at : (rows : List Constraint) (i : ℕ) (row : Constraint) → i < length rows → row ≡ get_or rows i row → Has row rows
is_at rows i row h e = subst (Has row) (sym (around rows i row h e)) (has_right row (take i rows) (row ∷ drop (i + 1) rows) (inl refl))

module _ (targets : List ℕ) (l : List Constraint) where
  whole : IsAnswerList targets l l
  whole = beginning l [] (sym (append-nil l))

  of_list : (c : Constraint) → Has c l → IsAnswerMember targets l c
  of_list c h = record { list = l; is_list = whole; member = h }

  -- ---- while the list's members are told
  module _ (front : List Constraint) (row : Constraint) (back : List Constraint) (split : l ≡ front ++ row ∷ back) where
    own : (c : Constraint) → Only row c → IsAnswerMember targets l c
    own c e = of_list c (subst (Has c) (sym split) (has_right c front (row ∷ back) (inl e)))

    longer : (c : Constraint) → Only row c → IsAnswerList targets l (front ++ c ∷ [])
    longer c e = subst (λ d. IsAnswerList targets l (front ++ d ∷ [])) (sym e) (beginning (front ++ row ∷ []) back (split ∙ sym (append_assoc front (row ∷ []) back)))

  pub telling_refused : (pair : Pair) → RefusesTelling l pair → IsRefusedAnswering targets l pair
  telling_refused pair r =
      refused_so targets l r.front (Only r.row) NoQuestion (own r.front r.row r.back r.split) (λ c h. absurd h) (beginning r.front (r.row ∷ r.back) r.split)
      (longer r.front r.row r.back r.split) pair r.refuses

  pub telling_spent : (n : ℕ) → SpendsTelling l n → IsSpentAnswering targets l n
  telling_spent n r =
      spent_so targets l r.front (Only r.row) NoQuestion (own r.front r.row r.back r.split) (λ c h. absurd h) (beginning r.front (r.row ∷ r.back) r.split)
      (longer r.front r.row r.back r.split) n r.spends

  -- ---- while it is asked whether a member's form is zero in every solution
  asks_form : (row : Constraint) → Has row l → (c : Constraint) → Only (equal_zero row.form) c → AsksMember targets l c
  asks_form row h c e = record { of = row; member = of_list row h; form = ap (λ d. d.form) e }

  pub disclosing_refused : (row : Constraint) → Has row l → (pair : Pair) → RefusesDisclosing l row pair → IsRefusedAnswering targets l pair
  disclosing_refused row h pair r = refused_so targets l l NoQuestion (Only (equal_zero row.form)) (λ c n. absurd n) (asks_form row h) whole (λ c n. absurd n) pair r

  pub disclosing_spent : (row : Constraint) → Has row l → (n : ℕ) → SpendsDisclosing l row n → IsSpentAnswering targets l n
  disclosing_spent row h n r = spent_so targets l l NoQuestion (Only (equal_zero row.form)) (λ c k. absurd k) (asks_form row h) whole (λ c k. absurd k) n r
