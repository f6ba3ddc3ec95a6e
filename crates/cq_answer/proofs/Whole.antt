-- The lines with the names that are given are those of the answer.
use Rattle.std.proofs.Common.{◌≡◌, ℕ, Bool, true, List, [], ◌∷◌, ◌++◌, codes, map, Option, Some, refl, sym, ap, ap₂, ◌∙◌}
use Rattle.std.specs.Prelude.{fold, ◌||◌}
use Rattle.std.specs.List.{AllByRecursion}
use Rattle.spec_numbers.specs.Texts.{Text}
use Rattle.spec_linear.specs.Solution.{Has}
use Rattle.spec_linear.specs.Echelon.{AreDistinct}
use Rattle.spec_syntax.specs.Operators.{Ops}
use Rattle.spec_terms.specs.Term.{Subst, Occurs}
use Rattle.spec_terms.specs.VariableName.{VariableName}
use Rattle.spec_terms.specs.Variables.{variables_after}
use Rattle.spec_syntax.specs.Trees.{Tree}
use Rattle.spec_text.specs.declared.writing.Style.TheVariants.{Quoted}
use Rattle.spec_text.specs.Written.{given_name, text_within}
use Rattle.spec_projection.specs.Others.{AreOthers, AreAscending}
use Rattle.spec_projection.specs.Projection.{Keeps}
use Rattle.spec_branch.specs.Branch.{State, Sleeper, read}
use Rattle.spec_answers.specs.Lines.{or_true, lines_text}
use Rattle.spec_answers.specs.Rows.{Rows, row_variables, row_texts}
use Rattle.spec_answers.specs.Forms.{AreAnswerRows}
use Rattle.spec_answers.specs.Targets.{asleep_term, bound_queries, free_queries, shown_terms, wanted}
use Rattle.spec_answers.specs.Answer.{braced, printed_name, term_text, answer_lines, AnswerForm}
use Rattle.cq_answer.specs.Numbered.{counted}
use Rattle.cq_answer.specs.Lines.{binding_line, constraint_line, goal_line, lines_with}
use Rattle.cq_answer.proofs.Agreement.{text_named}
use Rattle.cq_answer.proofs.Members.{has, has_from, has_append, has_fold, each_has, or_true as or_right}
use Rattle.cq_answer.proofs.Numbering.{without_name, name_given}
use Rattle.cq_answer.proofs.RowTexts.{rows_same, rows_within, has_left}

-- ---- lists

all_both : {X : Type 0} (P Q R : X → Type 0) → ((x : X) → P x → Q x → R x) → (xs : List X) → AllByRecursion P xs → AllByRecursion Q xs → AllByRecursion R xs
all_both P Q R f [] p q = tt
all_both P Q R f (x ∷ xs) p q = (f x p.0 q.0, all_both P Q R f xs p.1 q.1)

all_front : {X : Type 0} (P : X → Type 0) (xs ys : List X) → AllByRecursion P (xs ++ ys) → AllByRecursion P xs
all_front P [] ys h = tt
all_front P (x ∷ xs) ys h = (h.0, all_front P xs ys h.1)

all_behind : {X : Type 0} (P : X → Type 0) (xs ys : List X) → AllByRecursion P (xs ++ ys) → AllByRecursion P ys
all_behind P [] ys h = h
all_behind P (x ∷ xs) ys h = all_behind P xs ys h.1

map_agree : {X : Type 0} (f : X → Tree) (g h : X → Text) (Q : Tree → Type 0) → ((x : X) → Q (f x) → g x ≡ h x) → (xs : List X) → AllByRecursion Q (map f xs) → map g xs ≡ map h xs
map_agree f g h Q k [] q = refl
map_agree f g h Q k (x ∷ xs) q = ap₂ (λ t ts. t ∷ ts) (k x q.0) (map_agree f g h Q k xs q.1)

map_twice : {X : Type 0} (f : X → Tree) (g : Tree → Text) (xs : List X) → map g (map f xs) ≡ map (λ x. g (f x)) xs
map_twice f g [] = refl
map_twice f g (x ∷ xs) = ap (λ ts. g (f x) ∷ ts) (map_twice f g xs)

-- ---- the lines

module _ (ops : Ops) (names : List VariableName) (st : State) (r : Rows) (kept : List ℕ) where
  abbrev free : List VariableName
  free = free_queries names st

  abbrev terms : List Tree
  terms = shown_terms names st

  abbrev order : List ℕ
  order = wanted names st ++ kept

  -- the names of all variables that are printed
  abbrev pub given_names : List VariableName
  given_names = free ++ counted 0 (without_name free terms (row_variables r) kept)

  abbrev Is : ℕ → Type 0
  Is v = given_name given_names v ≡ Some (printed_name ops names st order r v)

  abbrev IsNamed : Tree → Type 0
  IsNamed t = (v : ℕ) → Occurs v t → Is v

  wanted_ordered : (v : ℕ) → has (wanted names st) v ≡ true → has order v ≡ true
  wanted_ordered v e = has_append (wanted names st) kept v ∙ ap (λ b. b || has kept v) e

  is_given : (v : ℕ) → has order v ≡ true → has (fold variables_after (row_variables r) terms) v ≡ true → Is v
  is_given v there shows = name_given free terms (row_variables r) kept v there shows

  terms_named : AllByRecursion IsNamed terms
  terms_named =
      all_both (λ t. (v : ℕ) → Occurs v t → has (wanted names st) v ≡ true) (λ t. (v : ℕ) → Occurs v t → has (fold variables_after (row_variables r) terms) v ≡ true) IsNamed
      (λ t a b v o. is_given v (wanted_ordered v (a v o)) (b v o)) terms
      (each_has terms (map (λ n. n.number) free)) (each_has terms (row_variables r))

  text_is : (m : ℕ) (t : Tree) → IsNamed t → text_within Quoted ops given_names m t ≡ term_text ops names st order r m t
  text_is m t h = text_named Quoted ops given_names (printed_name ops names st order r) m t h

  bound_terms : List Tree
  bound_terms = map (λ n. st.bindings n.number) (bound_queries names st)

  delayed_terms : List Tree
  delayed_terms = map (read st) st.delayed

  asleep_terms : List Tree
  asleep_terms = map (λ s. read st (asleep_term s.asleep)) st.sleepers

  module _ (form : AreAnswerRows order st.linear r) (among : ℕ → Text) (is_among : (v : ℕ) (f : Text) → given_name given_names v ≡ Some f → among v ≡ f) where
    rows_are : row_texts among r ≡ row_texts (printed_name ops names st order r) r
    rows_are = rows_same among (printed_name ops names st order r) r (λ v h.
        is_among v (printed_name ops names st order r v) (is_given v (has_from order v (rows_within order st.linear r form v h))
        (has_fold terms (row_variables r) v ∙ ap (λ b. b || has (fold variables_after [] terms) v) (has_from (row_variables r) v h))))

    lines_are : lines_with ops given_names among st.bindings (bound_queries names st) r (map (read st) st.delayed) (map (λ s. read st (asleep_term s.asleep)) st.sleepers)
        ≡ answer_lines ops names st order r
    unfolding bound_terms delayed_terms asleep_terms
    lines_are =
        let first = all_front IsNamed (bound_terms ++ delayed_terms) asleep_terms terms_named in
        let a = map_agree (λ n. st.bindings n.number) (binding_line ops given_names st.bindings) (λ n. n.name ++ codes " = " ++ term_text ops names st order r 699 (st.bindings n.number)) IsNamed
        (λ n h. ap (λ t. n.name ++ codes " = " ++ t) (text_is 699 (st.bindings n.number) h)) (bound_queries names st) (all_front IsNamed bound_terms delayed_terms first) in
        let b = ap (map braced) rows_are in
        let c = map_twice (read st) (constraint_line ops given_names) st.delayed
        ∙ map_agree (read st) (λ t. constraint_line ops given_names (read st t)) (λ t. braced (term_text ops names st order r 1200 (read st t))) IsNamed
        (λ t h. ap braced (text_is 1200 (read st t) h)) st.delayed (all_behind IsNamed bound_terms delayed_terms first) in
        let d = map_twice (λ (s : Sleeper). read st (asleep_term s.asleep)) (goal_line ops given_names) st.sleepers
        ∙ map_agree (λ (s : Sleeper). read st (asleep_term s.asleep)) (λ s. goal_line ops given_names (read st (asleep_term s.asleep))) (λ s. term_text ops names st order r 1200 (read st (asleep_term s.asleep))) IsNamed
        (λ s h. text_is 1200 (read st (asleep_term s.asleep)) h) st.sleepers (all_behind IsNamed (bound_terms ++ delayed_terms) asleep_terms terms_named) in
        ap₂ (λ x y. x ++ y) (ap₂ (λ x y. x ++ y) (ap₂ (λ x y. x ++ y) a b) c) d

  -- a text of these lines is that of an answer
  pub answer_is : (front : List ℕ) → AreOthers (wanted names st) st.linear front → AreAscending kept → Keeps front (wanted names st) kept st.linear r.equations →
      AreAnswerRows order st.linear r → (among : ℕ → Text) → ((v : ℕ) (f : Text) → given_name given_names v ≡ Some f → among v ≡ f) → (text : Text) →
      text ≡ lines_text (or_true (lines_with ops given_names among st.bindings (bound_queries names st) r (map (read st) st.delayed) (map (λ s. read st (asleep_term s.asleep)) st.sleepers))) →
      AnswerForm ops names st text
  answer_is front others older keeps form among is_among text e = record {
    front = front;
    others = others;
    kept = kept;
    older_first = older;
    rows = r;
    keeps = keeps;
    form = form;
    lines = e ∙ ap (λ ls. lines_text (or_true ls)) (lines_are form among is_among);
  }
