-- The text of an answer: bindings, rows, delayed constraints, suspended goals.
use Rattle.std.specs.Prelude.{◌≡◌, ℕ, ◌==◌, List, ◌++◌, map, filter, fold, codes, ◌&&◌}
use Rattle.std.specs.List.{list_any}
use Rattle.spec_syntax.specs.Operators.{Ops}
use Rattle.spec_terms.specs.Variables.{variables_after}
use Rattle.spec_syntax.specs.TextTokens.{VariableName}
use Rattle.spec_syntax.specs.Trees.{Tree}
use Rattle.spec_text.specs.declared.writing.Style.TheVariants.{Quoted}
use Rattle.spec_text.specs.Written.{is_unnamed, shown, text_by}
use Rattle.spec_projection.specs.Others.{AreOthers, AreAscending}
use Rattle.spec_projection.specs.Projection.{Keeps}
use Rattle.spec_branch.specs.Branch.{State, read}
use Rattle.spec_numbers.specs.Texts.{Text}
use Rattle.spec_answers.specs.Lines.{or_true, lines_text}
use Rattle.spec_answers.specs.Rows.{Rows, row_variables, row_texts}
use Rattle.spec_answers.specs.Forms.{AreAnswerRows}
use Rattle.spec_answers.specs.Targets.{asleep_term, bound_queries, free_queries, shown_terms, wanted}

-- a text in braces
abbrev pub braced : Text → Text
braced text = codes "{" ++ text ++ codes "}"

module _ (ops : Ops) (names : List VariableName) (st : State) (order : List ℕ) (r : Rows) where
  -- the variables that stand in a line
  abbrev pub printed : List ℕ
  printed = fold variables_after (row_variables r) (shown_terms names st)

  -- those of them without a name, in the order of variables
  abbrev pub unnamed : List ℕ
  unnamed = filter (λ v. is_unnamed (free_queries names st) v && list_any (λ w. w == v) printed) order

  -- the name of a variable that is printed: `_1`, `_2` and so on where it has none
  abbrev pub printed_name : ℕ → Text
  printed_name = shown (free_queries names st) unnamed

  -- a term as by writeq
  abbrev pub term_text : ℕ → Tree → Text
  term_text priority t = text_by Quoted ops printed_name priority t

  abbrev pub answer_lines : List Text
  answer_lines =
      map (λ n. n.name ++ codes " = " ++ term_text 699 (st.bindings n.number)) (bound_queries names st)
      ++ map braced (row_texts printed_name r)
      ++ map (λ t. braced (term_text 1200 (read st t))) st.delayed
      ++ map (λ s. term_text 1200 (read st (asleep_term s.asleep))) st.sleepers

-- The text is that of an answer. The variables that are no targets are solved for, the youngest first; some of them
-- are kept since they stand in a disequation. Some rows are in the form of an answer over the targets and those
-- that are kept, the older first, and the text is their lines among the others.
pub record AnswerForm (ops : Ops) (names : List VariableName) (st : State) (text : Text) : Type 0 where
  pub front : List ℕ
  pub others : AreOthers (wanted names st) st.linear front
  pub kept : List ℕ
  pub older_first : AreAscending kept
  pub rows : Rows
  pub keeps : Keeps front (wanted names st) kept st.linear rows.equations
  pub form : AreAnswerRows (wanted names st ++ kept) st.linear rows
  pub lines : text ≡ lines_text (or_true (answer_lines ops names st (wanted names st ++ kept) rows))
