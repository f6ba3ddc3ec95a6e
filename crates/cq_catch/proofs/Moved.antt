-- A copy under new variables of a world.
use Rattle.std.proofs.Common.{◌≡◌, ◌+◌, ◌≤◌, ℕ, zero, suc, List, [], ◌∷◌, length, refl, sym, ap, ◌∙◌, arith}
use Rattle.spec_numbers.specs.Texts.{Text}
use Rattle.spec_terms.specs.Term.{apply, named}
use Rattle.spec_terms.specs.Variables.{variables, counted_from}
use Rattle.spec_terms.proofs.RenamedVariables.{variables_named}
use Rattle.spec_terms.proofs.Substitution.{apply-followed_by, apply_agree, named-apply}
use Rattle.spec_syntax.specs.Trees.{Tree}
use Rattle.spec_branch.specs.Branch.{State, Copied}
use Rattle.spec_search.specs.Replies.{landed, landed_term, with_new}
use Rattle.cq_term.specs.Texts.{text_of}
use Rattle.cq_resolve.specs.Building.{moved_by}
use Rattle.cq_resolve.specs.StoredValue.{StoredValue}
use Rattle.cq_term.specs.Meaning.{HeapTerm}
use Rattle.cq_settle.specs.Rest.{IsReadThrough}
use Rattle.spec_engine.specs.Standing.{IsStoredAs}
use Rattle.spec_engine.specs.Trying.{moved_on, variables_of, IsLanded}
use Rattle.spec_engine.proofs.Landed.{copies_landed}
use Rattle.cq_branch.specs.Stored.{IsCountedTerm, stored_tree}

-- a term over variables that are not in use reads as itself
pub reads_itself : (st : State) (n : ℕ) (t : Tree) → IsReadThrough st → st.fresh ≤ n → apply st.bindings (apply (moved_on n) t) ≡ apply (moved_on n) t
reads_itself st n t r le =
    sym (apply-followed_by (moved_on n) st.bindings t) ∙ apply_agree _ (moved_on n) t (λ v o. r.beyond (n + v) (omega (arith, le)))

-- with texts in the places of names
pub moved_named : (f : ℕ → Text) (n : ℕ) (t : HeapTerm) → named f (apply (moved_by n) t) ≡ apply (moved_on n) (named f t)
moved_named f n t = named-apply f (moved_by n) t

-- ---- how many variables there are

length-counted : (n count : ℕ) → length (counted_from n count) ≡ count
length-counted n zero = refl
length-counted n (suc count) = ap suc (length-counted (suc n) count)

pub count_is : (texts : List Text) (names : ℕ) (s : StoredValue) → IsCountedTerm names s → length (variables (stored_tree texts s)) ≡ s.variables
count_is texts names s c = ap length (variables_named (text_of texts) s.term) ∙ ap length c.numbered ∙ length-counted 0 s.variables

-- ---- one copy that is landed

first_same : (t u : Tree) → t ∷ [] ≡ u ∷ [] → t ≡ u
first_same t u e = cc

module _ (texts : List Text) (names : ℕ) (s : StoredValue) (counted : IsCountedTerm names s) (st : State) (copy : Copied) (stored : IsStoredAs copy (stored_tree texts s)) where
  is_landed : IsLanded st (stored_tree texts s ∷ []) (landed st (copy ∷ []))
  is_landed = copies_landed st (copy ∷ []) (stored_tree texts s ∷ []) (stored, tt)

  pub landed_state : (landed st (copy ∷ [])).state ≡ with_new s.variables st
  landed_state =
      let n : variables_of (stored_tree texts s ∷ []) ≡ s.variables = omega (arith, count_is texts names s counted) in
      is_landed.state ∙ ap (λ (m : ℕ). with_new m st) n

  pub landed_as : landed_term st copy ≡ apply (moved_on st.fresh) (stored_tree texts s)
  landed_as = first_same (landed_term st copy) (apply (moved_on st.fresh) (stored_tree texts s)) is_landed.terms

  pub no_rows : (landed st (copy ∷ [])).rows ≡ []
  no_rows = is_landed.rows

  pub none_told : (landed st (copy ∷ [])).told ≡ []
  none_told = is_landed.told
