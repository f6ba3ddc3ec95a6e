-- A solvable list has rows in the form of an answer over any targets, and so each answer has a text.
use Rattle.std.proofs.Common.{◌≡◌, ◌⊎◌, inl, inr, ℕ, ◌<◌, List, ◌∷◌, ◌++◌, map, arith, append_assoc, refl, ap, sym, subst, ◌∙◌}
use Rattle.spec_numbers.specs.Texts.{Text}
use Rattle.spec_linear.specs.declared.Relation.{Relation}
use Rattle.spec_linear.specs.declared.Relation.TheVariants.{Eq, Gt, Ge, Ne}
use Rattle.spec_linear.specs.Form.{IsForm}
use Rattle.spec_linear.specs.Solution.{Constraint, Solvable, Has, SomeMentions, MentionsOnly}
use Rattle.spec_linear.proofs.Lists.{solves_append}
use Rattle.spec_linear.proofs.Targets.{same_solvable}
use Rattle.spec_linear.proofs.Denominators.{has_left, has_right}
use Rattle.spec_linear.specs.Echelon.{AreDistinct, equations}
use Rattle.spec_syntax.specs.Operators.{Ops}
use Rattle.spec_syntax.specs.TextTokens.{VariableName}
use Rattle.spec_projection.specs.Lists.{AreForms}
use Rattle.spec_projection.specs.Others.{AreOthers, AreAscending}
use Rattle.spec_projection.specs.Elimination.{IsInequality}
use Rattle.spec_projection.specs.Partial.{AreInequalities}
use Rattle.spec_projection.specs.Irredundant.{IsIrredundant}
use Rattle.spec_projection.specs.Projection.{is_disequation, Keeps, Projects, AreProjectedRows, disequations_of}
use Rattle.spec_projection.proofs.Members.{has_either, has_filtered}
use Rattle.spec_projection.proofs.Splits.{entails_members}
use Rattle.spec_projection.proofs.Standing.{has_or_not}
use Rattle.spec_projection.proofs.Mentions.{some_mentions, mentioning}
use Rattle.spec_projection.proofs.Free.{AreForms-put_into}
use Rattle.spec_projection.proofs.PutIn.{put_disequations}
use Rattle.spec_projection.proofs.Whole as whole
use Rattle.spec_projection.proofs.Exists.{Projection, exists}
use Rattle.spec_projection.proofs.Ends.{projected_rows}
use Rattle.spec_answers.specs.Rows.{Rows, inequality, disequation}
use Rattle.spec_answers.specs.Forms.{AreAnswerRows}
use Rattle.spec_answers.specs.Lines.{or_true, lines_text}
use Rattle.spec_answers.specs.Targets.{wanted}
use Rattle.spec_answers.specs.Answer.{AnswerForm, answer_lines}
use Rattle.spec_branch.specs.Branch.{State}
use Rattle.cq_elimination.specs.Lines.{inequality_of, disequation_of}
use Rattle.cq_elimination.proofs.Joined.{inequality_rows, disequation_rows}
use Rattle.cq_elimination.proofs.Numbers.{Falling, falling, Rising, rising, distinct_both, above_all, below_all}
use Rattle.cq_elimination.proofs.Wanted.{wanted_distinct}
use Rattle.cq_elimination.proofs.Kept.{some_mention_or_not, above_list, some_below, arranged_itself, projects_moved}
use Rattle.cq_elimination.proofs.Arranging.{arranged}

-- ---- parts of irredundant rows

irredundant_behind : (k l : List Constraint) → IsIrredundant (k ++ l) → IsIrredundant l
irredundant_behind k l alone a b c e h =
    alone (k ++ a) b c (ap (λ w. k ++ w) e ∙ sym (append_assoc k a (c ∷ b)))
    (entails_members (a ++ b) ((k ++ a) ++ b) c (λ d i. subst (Has d) (sym (append_assoc k a b)) (has_right d k (a ++ b) i)) h)

irredundant_front : (k l : List Constraint) → IsIrredundant (k ++ l) → IsIrredundant k
irredundant_front k l alone a b c e h =
    alone a (b ++ l) c (ap (λ w. w ++ l) e ∙ append_assoc a (c ∷ b) l)
    (entails_members (a ++ b) (a ++ (b ++ l)) c
    (λ d i. elim (has_either d a b i) [ inl j ↦ has_left d a (b ++ l) j | inr j ↦ has_right d a (b ++ l) (has_left d b l j) ]) h)

solvable_behind : (k l : List Constraint) → Solvable (k ++ l) → Solvable l
solvable_behind k l s = (s.0, ((solves_append s.0 k l).0 s.1).1)

solvable_front : (k l : List Constraint) → Solvable (k ++ l) → Solvable k
solvable_front k l s = (s.0, ((solves_append s.0 k l).0 s.1).0)

mentioned_in : (x : ℕ) (k m : List Constraint) → ((c : Constraint) → Has c k → Has c m) → SomeMentions x k → SomeMentions x m
mentioned_in x k m i h = let t = mentioning x k h in some_mentions x m t.row (i t.row t.among) t.mentions

no_equation : (r : Relation) → IsInequality r → r ≡ Eq → ⊥
no_equation Eq i e = i
no_equation Gt i e = cc
no_equation Ge i e = cc
no_equation Ne i e = absurd i

-- ---- rows of an answer

pub record HasRows (targets : List ℕ) (l : List Constraint) : Type 0 where
  pub front : List ℕ
  pub others : AreOthers targets l front
  pub kept : List ℕ
  pub older_first : AreAscending kept
  pub rows : Rows
  pub keeps : Keeps front targets kept l rows.equations
  pub form : AreAnswerRows (targets ++ kept) l rows

module _ (targets : List ℕ) (l : List Constraint) (targets_distinct : AreDistinct targets) (forms : AreForms l) (solvable : Solvable l) where
  -- ---- the variables that are no targets

  abbrev IsOther : ℕ → Type 0
  IsOther x = SomeMentions x l × (Has x targets → ⊥)

  other_or_not : (x : ℕ) → IsOther x ⊎ (IsOther x → ⊥)
  other_or_not x = go (some_mention_or_not x l) (has_or_not x targets)
    where
      go : SomeMentions x l ⊎ (SomeMentions x l → ⊥) → Has x targets ⊎ (Has x targets → ⊥) → IsOther x ⊎ (IsOther x → ⊥)
      go (inl m) (inr n) = inl (m, n)
      go (inl m) (inl h) = inr (λ o. o.1 h)
      go (inr k) t = inr (λ o. k o.0)

  others : Falling IsOther (above_list l)
  others = falling IsOther other_or_not (above_list l)

  distinct : AreDistinct (others.listed ++ targets)
  distinct = distinct_both others.listed targets others.distinct targets_distinct (λ x h k. (others.is x h).1 k)

  only : MentionsOnly (others.listed ++ targets) l
  only x m = elim (has_or_not x targets) [
    | inl h ↦ has_right x others.listed targets h
    | inr n ↦ has_left x others.listed targets (others.all x (m, n) (some_below x l m))
  ]

  are_others : AreOthers targets l others.listed
  are_others = record {
    youngest_first = others.descending;
    others = λ x. (others.is x, λ o. others.all x o (some_below x l o.0));
  }

  -- ---- a projection, with the variables that are kept ascending

  projection : Projection others.listed targets l
  projection = exists others.listed targets l distinct only forms solvable

  kept : Rising (λ x. Has x projection.kept) 0 (above_all projection.kept)
  kept = rising (λ x. Has x projection.kept) (λ x. has_or_not x projection.kept) 0 (above_all projection.kept)

  to_kept : (x : ℕ) → Has x projection.kept → Has x kept.listed
  to_kept x h = kept.all x h (omega arith) (let b : x < above_all projection.kept = below_all x projection.kept h in omega (arith, b))

  order_distinct : AreDistinct (targets ++ kept.listed)
  order_distinct =
      distinct_both targets kept.listed targets_distinct kept.distinct
      (λ x h k. (others.is x (projection.steps.keeps.kept_only x (kept.is x k)).0).1 h)

  -- ---- its rows

  abbrev p : Projects others.listed targets projection.kept l projection.es projection.inequalities projection.disequations
  p = projection.steps

  rows_forms : AreForms p.rows
  rows_forms c h =
      let s = whole.again distinct only forms p c (whole.rows_has distinct only forms p c h) in
      subst IsForm (sym s.form) ((whole.keeps distinct only forms p).forms s.row s.among)

  rows_inequalities : AreInequalities p.rows
  rows_inequalities c h =
      let s = whole.again distinct only forms p c (whole.rows_has distinct only forms p c h) in
      s.inequality ((whole.keeps distinct only forms p).inequalities s.row s.among)

  unequal_forms : AreForms p.unequal
  unequal_forms c h =
      AreForms-put_into (p.keeps.others ++ projection.es) (disequations_of l) (λ d k. forms d (from_l d k)) c
      (whole.left_has distinct only forms p c (whole.unequal_has distinct only forms p c h))
    where
      from_l : (d : Constraint) → Has d (disequations_of l) → Has d l
      from_l d k = (has_filtered (λ e. is_disequation e.relation) d l k).0

  unequal_relations : (c : Constraint) → Has c p.unequal → c.relation ≡ Ne
  unequal_relations c h =
      put_disequations (p.keeps.others ++ projection.es) l c (whole.left_has distinct only forms p c (whole.unequal_has distinct only forms p c h))

  -- as they are
  plain : AreProjectedRows (targets ++ kept.listed) l projection.es (p.rows ++ p.unequal)
  plain =
      projected_rows distinct only forms
      (projects_moved targets projection.kept kept.listed to_kept kept.is p p.rows p.unequal (arranged_itself p.rows rows_forms) (arranged_itself p.unequal unequal_forms))
      solvable

  both_irredundant : IsIrredundant (p.rows ++ p.unequal)
  both_irredundant = irredundant_behind (equations projection.es) (p.rows ++ p.unequal) plain.irredundant

  both_solvable : Solvable (p.rows ++ p.unequal)
  both_solvable =
      solvable_behind (equations projection.es) (p.rows ++ p.unequal)
      ((same_solvable (targets ++ kept.listed) (equations projection.es ++ (p.rows ++ p.unequal)) l plain.same).1 solvable)

  both_over : MentionsOnly (targets ++ kept.listed) (p.rows ++ p.unequal)
  both_over x m =
      plain.same.mentions x
      (mentioned_in x (p.rows ++ p.unequal) (equations projection.es ++ (p.rows ++ p.unequal)) (λ c h. has_right c (equations projection.es) (p.rows ++ p.unequal) h) m)

  -- ---- scaled and sorted

  finished : AreDistinct (targets ++ kept.listed) → HasRows targets l
  finished d =
      let a = arranged (targets ++ kept.listed) d p.rows (irredundant_front p.rows p.unequal both_irredundant) (solvable_front p.rows p.unequal both_solvable) rows_forms
      (λ c h e. no_equation c.relation (rows_inequalities c h) e)
      (λ x m. both_over x (mentioned_in x p.rows (p.rows ++ p.unequal) (λ c h. has_left c p.rows p.unequal h) m)) in
      let b = arranged (targets ++ kept.listed) d p.unequal (irredundant_behind p.rows p.unequal both_irredundant) (solvable_behind p.rows p.unequal both_solvable) unequal_forms
      (λ c h e. (let f : Ne ≡ Eq = sym (unequal_relations c h) ∙ e in cc))
      (λ x m. both_over x (mentioned_in x p.unequal (p.rows ++ p.unequal) (λ c h. has_right c p.rows p.unequal h) m)) in
      let i = inequality_rows (targets ++ kept.listed) p.rows a.0 a.1 rows_inequalities in
      let u = disequation_rows (targets ++ kept.listed) p.unequal b.0 b.1 unequal_relations in
      let q = projects_moved targets projection.kept kept.listed to_kept kept.is p (map inequality (map inequality_of a.0)) (map disequation (map disequation_of b.0)) i.arranged u.arranged in
      record {
        front = others.listed;
        others = are_others;
        kept = kept.listed;
        older_first = kept.ascending;
        rows = record { equations = projection.es; inequalities = map inequality_of a.0; disequations = map disequation_of b.0 };
        keeps = q.keeps;
        form = record {
          projected = projected_rows distinct only forms q solvable;
          scaled_inequalities = i.scaled;
          scaled_disequations = u.scaled;
          sorted_inequalities = i.sorted;
          sorted_disequations = u.sorted;
        };
      }

  pub rows_exist : HasRows targets l
  rows_exist = finished order_distinct

-- ---- the text

pub answer_exists : (ops : Ops) (names : List VariableName) (st : State) → AreDistinct (map (λ n. n.number) names) → AreForms st.linear → Solvable st.linear
    → (text : Text) × AnswerForm ops names st text
answer_exists ops names st d forms solvable =
    let r = rows_exist (wanted names st) st.linear (wanted_distinct names st d) forms solvable in (
      lines_text (or_true (answer_lines ops names st (wanted names st ++ r.kept) r.rows)),
      record {
        front = r.front;
        others = r.others;
        kept = r.kept;
        older_first = r.older_first;
        rows = r.rows;
        keeps = r.keeps;
        form = r.form;
        lines = refl;
      },
    )
