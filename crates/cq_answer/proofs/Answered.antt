-- The text of the lines of a world is that of an answer of its state.
use Rattle.std.proofs.Common.{◌≡◌, ℕ, ◌<◌, Bool, true, false, List, [], ◌∷◌, ◌++◌, codes, length, drop, map, nat_eq, Option, Some, None, refl, sym, ap, ap₂, ◌∙◌, subst, if◌then◌else◌}
use Rattle.std.specs.Prelude.{All, fold, filter}
use Rattle.std.proofs.lemmas.List.{length-map}
use Rattle.spec_numbers.specs.Texts.{Text}
use Rattle.spec_linear.specs.Solution.{Has}
use Rattle.spec_linear.specs.Echelon.{AreDistinct}
use Rattle.spec_syntax.specs.Operators.{Ops}
use Rattle.spec_terms.specs.VariableName.{VariableName}
use Rattle.spec_terms.specs.Variables.{variables_after}
use Rattle.spec_syntax.specs.Trees.{Tree}
use Rattle.spec_text.specs.declared.writing.Style.TheVariants.{Quoted}
use Rattle.spec_text.specs.Written.{given_name, text_within}
use Rattle.spec_branch.specs.Branch.{State, read}
use Rattle.spec_answers.specs.Answer.{braced, AnswerForm}
use Rattle.spec_answers.specs.Lines.{or_true, lines_text}
use Rattle.spec_answers.specs.Rows.{row_variables, row_texts}
use Rattle.spec_answers.specs.Targets.{asleep_term, bound_queries, free_queries, shown_terms, wanted}
use Rattle.cq_term.specs.Trees.{tree}
use Rattle.cq_term.specs.Places.{numbers_of}
use Rattle.cq_settle.specs.Contents.{Contents}
use Rattle.cq_settle.specs.Rest.{IsReadyAs}
use Rattle.cq_answer.specs.Names.{name_among}
use Rattle.cq_project.specs.declared.Rows.{Rows}
use Rattle.cq_project.specs.Projecting.{IsProjection, rows_of}
use Rattle.cq_answer.specs.Shown.{all_waiting, bound_in, free_in, constraint_trees, goal_trees, shown_trees}
use Rattle.cq_answer.specs.Numbered.{counted, has_variable}
use Rattle.cq_answer.specs.Lines.{binding_line, constraint_line, goal_line, lines_with}
use Rattle.cq_answer.proofs.Numbering.{numbers, without_name, without_name_is}
use Rattle.cq_answer.proofs.Whole.{given_names, answer_is}
use Rattle.cq_answer.proofs.Shows.{free_is, bindings_are, delayed_is, asleep_is, shown_is}

is_among : (names : List VariableName) (v : ℕ) (f : Text) → given_name names v ≡ Some f → name_among names v ≡ f
is_among [] v f e = cc
is_among (n ∷ names) v f e = by (nat_eq n.number v) e (is_among names v f)
  where
    by : (b : Bool) → (if b then Some n.name else given_name names v) ≡ Some f → (given_name names v ≡ Some f → name_among names v ≡ f) → (if b then n.name else name_among names v) ≡ f
    by true h rest = cc
    by false h rest = rest h

module _ (ops : Ops) (names : List VariableName) (st : State) (texts : List Text) (c : Contents) (ready : IsReadyAs texts c st) (live : All (λ (n : VariableName). n.number < length c.heap.images) names) (rows : Rows)
    (free given : List VariableName) (targets : List ℕ) (text : Text) where
  abbrev images : ℕ → Tree
  images = tree texts c.heap.images

  abbrev kept : List ℕ
  kept = numbers_of rows.kept.items

  pub targets_are : targets ≡ fold variables_after (numbers (free_in images names)) (shown_trees texts c.heap names (all_waiting c.attrs)) → targets ≡ wanted names st
  targets_are w =
      w ∙ ap₂ (λ ns ts. fold variables_after (numbers ns) ts) (free_is texts c st ready.stands names live) (shown_is texts c st ready.stands names live)

  module _ (is_free : free ≡ free_in images names)
      (are_targets : targets ≡ fold variables_after (numbers (free_in images names)) (shown_trees texts c.heap names (all_waiting c.attrs)))
      (distinct : AreDistinct targets) (projection : IsProjection targets c.told rows)
      (are_given : given ≡ free ++ counted 0 (drop (length free) targets ++ filter (has_variable (row_variables (rows_of rows))) kept))
      (is_text : text ≡ lines_text (or_true (lines_with ops given (name_among given) images (bound_in images names) (rows_of rows) (constraint_trees texts c.heap (all_waiting c.attrs)) (goal_trees texts c.heap (all_waiting c.attrs))))) where
    abbrev of_state : IsProjection (wanted names st) st.linear rows
    of_state = subst (λ l. IsProjection (wanted names st) l rows) ready.stands.linear (subst (λ vs. IsProjection vs c.told rows) (targets_are are_targets) projection)

    abbrev all_given : List VariableName
    all_given = given_names ops names st (rows_of rows) kept

    apart : (v : ℕ) → Has v kept → Has v (wanted names st) → ⊥
    apart v h k = ((of_state.others.others v).0 (of_state.keeps.kept_only v h).0).1 k

    given_are : given ≡ all_given
    given_are =
        are_given
        ∙ ap₂ (λ (fs : List VariableName) vs. fs ++ counted 0 (drop (length fs) vs ++ filter (has_variable (row_variables (rows_of rows))) kept)) (is_free ∙ free_is texts c st ready.stands names live) (targets_are are_targets)
        ∙ ap (λ us. free_queries names st ++ counted 0 us) (
        ap (λ n. drop n (wanted names st) ++ filter (has_variable (row_variables (rows_of rows))) kept) (sym (length-map (free_queries names st) (λ (n : VariableName). n.number)))
        ∙ sym (without_name_is (free_queries names st) (shown_terms names st) (row_variables (rows_of rows)) kept (subst AreDistinct (targets_are are_targets) distinct) apart))

    lines_are : lines_with ops given (name_among given) images (bound_in images names) (rows_of rows) (constraint_trees texts c.heap (all_waiting c.attrs)) (goal_trees texts c.heap (all_waiting c.attrs))
        ≡ lines_with ops all_given (name_among all_given) st.bindings (bound_queries names st) (rows_of rows) (map (read st) st.delayed) (map (λ s. read st (asleep_term s.asleep)) st.sleepers)
    lines_are =
        ap (λ ns. lines_with ops ns (name_among ns) images (bound_in images names) (rows_of rows) (constraint_trees texts c.heap (all_waiting c.attrs)) (goal_trees texts c.heap (all_waiting c.attrs))) given_are
        ∙ ap₂ (λ a b. a ++ b) (
        ap₂ (λ a b. a ++ b) (
        ap (λ a. a ++ map braced (row_texts (name_among all_given) (rows_of rows))) (bindings_are texts c st ready.stands names live (λ n t. n.name ++ codes " = " ++ text_within Quoted ops all_given 699 t)))
        (ap (map (constraint_line ops all_given)) (delayed_is texts c st ready.stands)))
        (ap (map (goal_line ops all_given)) (asleep_is texts c st ready.stands))

    pub answered : AnswerForm ops names st text
    answered =
        answer_is ops names st (rows_of rows) kept of_state.front of_state.others of_state.older_first of_state.keeps of_state.form (name_among all_given) (is_among all_given) text
        (is_text ∙ ap (λ ls. lines_text (or_true ls)) lines_are)
