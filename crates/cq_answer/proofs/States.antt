-- What is known of the variables that rows are wanted of, as the state's.
use Rattle.std.proofs.Common.{◌≡◌, ℕ, ◌<◌, ◌≤◌, List, ◌++◌, length, map, ap, ap₂, ◌∙◌, subst, arith, length-append}
use Rattle.std.specs.Prelude.{All, fold}
use Rattle.std.proofs.lemmas.List.{length-map}
use Rattle.spec_numbers.specs.Texts.{Text}
use Rattle.spec_linear.specs.Solution.{Constraint}
use Rattle.spec_terms.specs.VariableName.{VariableName}
use Rattle.spec_terms.specs.Variables.{variables_after}
use Rattle.spec_syntax.specs.Trees.{Tree}
use Rattle.spec_branch.specs.Branch.{State}
use Rattle.spec_answers.specs.Targets.{wanted}
use Rattle.cq_frac.specs.declared.VarId.{VarId}
use Rattle.cq_term.specs.Trees.{tree}
use Rattle.cq_term.specs.Places.{numbers_of}
use Rattle.cq_settle.specs.Contents.{Contents}
use Rattle.cq_settle.specs.Rest.{IsReadyAs}
use Rattle.cq_answer.specs.Shown.{all_waiting, free_in, shown_trees}
use Rattle.cq_answer.proofs.Members.{begins_fold}
use Rattle.cq_answer.proofs.Numbering.{numbers}
use Rattle.cq_answer.proofs.Shows.{free_is, shown_is}

-- the free query variables are the first that rows are wanted of
pub free_first : (fs free : List VariableName) (ts : List Tree) (ws lent : List VarId) → free ≡ fs → numbers_of ws ≡ fold variables_after (numbers fs) ts → lent ≡ ws → length free ≤ length lent
free_first fs free ts ws lent f e l =
    let b = begins_fold ts (numbers fs) in
    omega (
      arith,
      ap (λ (ns : List VariableName). length ns) f,
      ap (λ (vs : List ℕ). length vs) (e ∙ b.1),
      length-append (numbers fs) b.0,
      length-map fs (λ (n : VariableName). n.number),
      length-map ws (λ (v : VarId). v.0),
      ap (λ (vs : List VarId). length vs) l,
    )

module _ (names : List VariableName) (st : State) (texts : List Text) (c : Contents) (ready : IsReadyAs texts c st) (live : All (λ (n : VariableName). n.number < length c.heap.images) names) where
  -- a fact of these variables and the constraints that were told
  pub at_state : (P : List ℕ → List Constraint → Type 0) (ws lent : List VarId) (told : List Constraint) →
      numbers_of ws ≡ fold variables_after (numbers (free_in (tree texts c.heap.images) names)) (shown_trees texts c.heap names (all_waiting c.attrs)) → lent ≡ ws → told ≡ c.told →
      P (numbers_of lent) told → P (wanted names st) st.linear
  at_state P ws lent told e l t p =
      let same : numbers_of lent ≡ wanted names st =
      ap numbers_of l ∙ e ∙ ap₂ (λ (ns : List VariableName) ts. fold variables_after (numbers ns) ts) (free_is texts c st ready.stands names live) (shown_is texts c st ready.stands names live) in
      subst (λ m. P (wanted names st) m) (t ∙ ready.stands.linear) (subst (λ vs. P vs told) same p)
