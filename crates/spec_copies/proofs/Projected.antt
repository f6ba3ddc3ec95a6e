-- A solvable list has rows over any targets and the variables that are kept beside them, the older first.
use Rattle.std.proofs.Common.{◌≡◌, ◌⊎◌, inl, inr, ℕ, List, [], ◌∷◌, ◌++◌, refl}
use Rattle.spec_linear.specs.Form.{variables}
use Rattle.spec_linear.specs.Solution.{Constraint, Solvable, Has, SomeMentions, MentionsOnly, Same}
use Rattle.spec_linear.specs.Echelon.{AreDistinct, Solved, equations}
use Rattle.spec_linear.proofs.Denominators.{has_left, has_right, has_mentioned}
use Rattle.spec_projection.specs.Lists.{AreForms}
use Rattle.spec_projection.specs.Others.{AreOthers, AreAscending}
use Rattle.spec_projection.specs.Projection.{Keeps}
use Rattle.spec_projection.proofs.Members.{has_either}
use Rattle.spec_projection.proofs.Standing.{has_or_not}
use Rattle.spec_projection.proofs.Exists.{Projection, exists}
use Rattle.spec_projection.proofs.Ends.{projected_rows}
use Rattle.spec_projection.proofs.SameOn.{same_on_fewer, same_from_same_on, same_on_from_same}
use Rattle.spec_copies.proofs.Apart.{some_mention_or_not}
use Rattle.spec_copies.proofs.Sorted.{Sorted, sorted, Below, above_or_below, below_through, Above, above_first, above_through, never_above, ascending, descending, in_order_distinct}

pub distinct_both : (xs ys : List ℕ) → AreDistinct xs → AreDistinct ys → ((x : ℕ) → Has x xs → Has x ys → ⊥) → AreDistinct (xs ++ ys)
distinct_both [] ys d e apart = e
distinct_both (x ∷ xs) ys d e apart = (
  (λ h. elim (has_either x xs ys h) [ inl k ↦ d.0 k | inr k ↦ apart x (inl refl) k ]),
  distinct_both xs ys d.1 e (λ y h k. apart y (inr h) k),
)

-- the variables of a list, as often as they stand there
abbrev mentioned : List Constraint → List ℕ
mentioned [] = []
mentioned (c ∷ l) = variables c.form.products ++ mentioned l

mentioned_has : (x : ℕ) (l : List Constraint) → SomeMentions x l → Has x (mentioned l)
mentioned_has x [] h = absurd h
mentioned_has x (c ∷ l) (inl m) = has_left x (variables c.form.products) (mentioned l) (has_mentioned x c.form.products m)
mentioned_has x (c ∷ l) (inr h) = has_right x (variables c.form.products) (mentioned l) (mentioned_has x l h)

pub record HasRows (targets : List ℕ) (l : List Constraint) : Type 0 where
  pub front : List ℕ
  pub others : AreOthers targets l front
  pub kept : List ℕ
  pub older_first : AreAscending kept
  pub equations : List Solved
  pub keeps : Keeps front targets kept l equations
  pub rows : List Constraint
  pub same : Same (targets ++ kept) rows l

module _ (targets : List ℕ) (l : List Constraint) (targets_distinct : AreDistinct targets) (forms : AreForms l) (solvable : Solvable l) where
  -- ---- the variables that are no targets

  abbrev IsOther : ℕ → Type 0
  IsOther x = SomeMentions x l × (Has x targets → ⊥)

  other_or_not : (x : ℕ) → IsOther x ⊎ (IsOther x → ⊥)
  other_or_not x = go (some_mention_or_not x l) (has_or_not x targets)
    where
      go : SomeMentions x l ⊎ (SomeMentions x l → ⊥) → Has x targets ⊎ (Has x targets → ⊥) → IsOther x ⊎ (IsOther x → ⊥)
      go (inl m) (inr n) = inl (m, n)
      go (inl m) (inl h) = inr (λ o. o.1 h)
      go (inr k) t = inr (λ o. k o.0)

  others : Sorted Above above_first above_through (λ x. SomeMentions x l × (Has x targets → ⊥)) (mentioned l)
  others = sorted Above above_first above_through (λ x. SomeMentions x l × (Has x targets → ⊥)) other_or_not (mentioned l)

  distinct : AreDistinct (others.listed ++ targets)
  distinct =
      distinct_both others.listed targets (in_order_distinct Above above_first above_through never_above others.listed others.in_order) targets_distinct
      (λ x h k. (others.is x h).1 k)

  only : MentionsOnly (others.listed ++ targets) l
  only x m = elim (has_or_not x targets) [
    | inl h ↦ has_right x others.listed targets h
    | inr n ↦ has_left x others.listed targets (others.all x (m, n) (mentioned_has x l m))
  ]

  are_others : AreOthers targets l others.listed
  are_others = record {
    youngest_first = descending others.listed others.in_order;
    others = λ x. (others.is x, λ o. others.all x o (mentioned_has x l o.0));
  }

  -- ---- a projection, with the variables that are kept ascending

  projection : Projection others.listed targets l
  projection = exists others.listed targets l distinct only forms solvable

  kept : Sorted Below above_or_below below_through (λ x. Has x projection.kept) projection.kept
  kept = sorted Below above_or_below below_through (λ x. Has x projection.kept) (λ x. has_or_not x projection.kept) projection.kept

  moved : (x : ℕ) → Has x (targets ++ projection.kept) → Has x (targets ++ kept.listed)
  moved x h = elim (has_either x targets projection.kept h) [
    | inl k ↦ has_left x targets kept.listed k
    | inr k ↦ has_right x targets kept.listed (kept.all x k k)
  ]

  moved_back : (x : ℕ) → Has x (targets ++ kept.listed) → Has x (targets ++ projection.kept)
  moved_back x h = elim (has_either x targets kept.listed h) [
    | inl k ↦ has_left x targets projection.kept k
    | inr k ↦ has_right x targets projection.kept (kept.is x k)
  ]

  keeps : Keeps others.listed targets kept.listed l projection.es
  keeps = record {
    others = projection.steps.keeps.others;
    echelon = projection.steps.keeps.echelon;
    others_in_front = projection.steps.keeps.others_in_front;
    solved_targets = projection.steps.keeps.solved_targets;
    strict = projection.steps.keeps.strict;
    strengthened = projection.steps.keeps.strengthened;
    left = projection.steps.keeps.left;
    unequal = projection.steps.keeps.unequal;
    kept_all = λ x m. moved x (projection.steps.keeps.kept_all x m);
    kept_only = λ x h. projection.steps.keeps.kept_only x (kept.is x h);
  }

  -- ---- its rows

  abbrev rows : List Constraint
  rows = equations projection.es ++ (projection.inequalities ++ projection.disequations)

  same_there : Same (targets ++ projection.kept) rows l
  same_there = (projected_rows distinct only forms projection.steps solvable).same

  same : Same (targets ++ kept.listed) rows l
  same =
      same_from_same_on (targets ++ kept.listed) rows l (λ x m. moved x (same_there.mentions x m))
      (same_on_fewer (targets ++ kept.listed) (targets ++ projection.kept) rows l moved_back (same_on_from_same (targets ++ projection.kept) rows l same_there))

  pub rows_exist : HasRows targets l
  rows_exist = record {
    front = others.listed;
    others = are_others;
    kept = kept.listed;
    older_first = ascending kept.listed kept.in_order;
    equations = projection.es;
    keeps = keeps;
    rows = rows;
    same = same;
  }
