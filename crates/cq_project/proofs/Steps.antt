-- What holds of the rows while one variable after the other is eliminated.
use Rattle.std.proofs.Common.{◌≡◌, inl, inr, ℕ, ◌+◌, ◌<◌, List, [], ◌∷◌, ◌++◌, length, take, get_or, ap, sym, subst, ◌∙◌, append-nil}
use Rattle.std.proofs.lemmas.List.{take_more}
use Rattle.spec_linear.specs.Form.{IsForm}
use Rattle.spec_linear.specs.Solution.{Constraint, Solvable, Has, SomeMentions, MentionsOnly}
use Rattle.spec_linear.proofs.Lists.{alike_solvable, alike_sym}
use Rattle.spec_projection.specs.Targets.{SameOn}
use Rattle.spec_projection.specs.Lists.{AreForms}
use Rattle.spec_projection.specs.Elimination.{eliminated}
use Rattle.spec_projection.specs.Irredundant.{IsIrredundant, IsIrredundantSublist}
use Rattle.spec_projection.specs.Partial.{AreInequalities, IsNext, IsPartial, first, next, before}
use Rattle.spec_projection.proofs.Members.{has_either}
use Rattle.spec_projection.proofs.Sifted.{sublist_has}
use Rattle.spec_projection.proofs.SameOn.{same_on_solvable}
use Rattle.spec_projection.proofs.Projected.{eliminated_same_on}
use Rattle.spec_projection.proofs.Mentions.{x_is_gone, no_variable_joins, AreForms-eliminated}
use Rattle.spec_projection.proofs.Eliminating.{sublist_mentions, AreInequalities-eliminated}
use Rattle.cq_frac.specs.declared.Pair.{Pair}
use Rattle.cq_elimination.specs.Next.{AreApart}
use Rattle.cq_project.specs.Eliminating.{AreOver, RefusesStep, SpendsStep, RefusesEliminating, SpendsEliminating, IsLimitPassed, IsRowsDue, while_combining, while_sifting}

-- one more row with a form in order
pub forms_more : (rows : List Constraint) (i : ℕ) (row : Constraint) → i < length rows → row ≡ get_or rows i row → IsForm row.form → AreForms (take i rows) → AreForms (take (i + 1) rows)
forms_more rows i row h e f all c k =
    elim (has_either c (take i rows) (row ∷ []) (subst (Has c) (take_more rows i row h ∙ ap (λ d. take i rows ++ d ∷ []) (sym e)) k)) [
      | inl a ↦ all c a
      | inr a ↦ elim a [ inl w ↦ subst (λ d. IsForm d.form) (sym w) f | inr n ↦ absurd n ]
    ]

-- rows have a solution without a variable where they have one with it
pub solvable_without : (x : ℕ) (m : List Constraint) → AreInequalities m → Solvable m → Solvable (eliminated x m)
solvable_without x m i s =
    let same : SameOn [] (eliminated x m ++ []) (m ++ []) = eliminated_same_on [] x m [] (λ h. h) (λ c h. inl (i c h)) (λ h. h) in
    let one : SameOn [] (eliminated x m) m = subst (λ w. SameOn [] (eliminated x m) w) (append-nil m) (subst (λ w. SameOn [] w (m ++ [])) (append-nil (eliminated x m)) same) in
    (same_on_solvable [] (eliminated x m) m one).1 s

-- ---- the rows that are left, of others and of targets
pub record AreLeft (others : List ℕ) (start m : List Constraint) : Type 0 where
  pub forms : AreForms m
  pub inequalities : AreInequalities m
  pub solvable : Solvable m
  pub irredundant : IsIrredundant m
  pub mentions : (y : ℕ) → SomeMentions y m → SomeMentions y start
  pub partial : (targets : List ℕ) → AreOver targets others start → IsPartial targets start m

module _ (others : List ℕ) (start : List Constraint) where
  -- at the start
  pub left_first : (m : List Constraint) → AreForms start → AreInequalities start → Solvable start → IsIrredundantSublist m start → AreLeft others start m
  left_first m f i s k =
      let has : (c : Constraint) → Has c m → Has c start = sublist_has m start k.sublist in
      record {
        forms = λ c h. f c (has c h);
        inequalities = λ c h. i c (has c h);
        solvable = alike_solvable start m (alike_sym m start k.same) s;
        irredundant = k.irredundant;
        mentions = sublist_mentions m start has;
        partial = λ targets o. first k;
      }

  module _ (m : List Constraint) (a : AreLeft others start m) where
    -- the rows are of the others and of targets still
    pub over : (targets : List ℕ) → AreOver targets others start → MentionsOnly (others ++ targets) m
    over targets o y h = o.all y (a.mentions y h)

    -- as they are read
    pub next_here : (read : List Constraint) (x : ℕ) → read ≡ m
        → ((targets : List ℕ) → AreApart others targets → MentionsOnly (others ++ targets) read → IsNext targets read x)
        → (targets : List ℕ) → AreOver targets others start → IsNext targets m x
    next_here read x e h targets o =
        subst (λ l. IsNext targets l x) e (h targets o.apart (subst (λ l. MentionsOnly (others ++ targets) l) (sym e) (over targets o)))

    module _ (x : ℕ) (is_next : (targets : List ℕ) → AreOver targets others start → IsNext targets m x) where
      -- without the next variable
      pub left_next : (k : List Constraint) → IsIrredundantSublist k (eliminated x m) → AreLeft others start k
      left_next k s =
          let has : (c : Constraint) → Has c k → Has c (eliminated x m) = sublist_has k (eliminated x m) s.sublist in
          record {
            forms = λ c h. AreForms-eliminated x m a.forms c (has c h);
            inequalities = λ c h. AreInequalities-eliminated x m a.inequalities c (has c h);
            solvable = alike_solvable (eliminated x m) k (alike_sym k (eliminated x m) s.same) (solvable_without x m a.inequalities a.solvable);
            irredundant = s.irredundant;
            mentions = λ y h. a.mentions y (no_variable_joins x y m a.forms (sublist_mentions k (eliminated x m) has y h));
            partial = λ targets o. next (a.partial targets o) (is_next targets o) s;
          }

      pub refuses : (pair : Pair) → RefusesStep x m pair → (targets : List ℕ) → AreOver targets others start → RefusesEliminating targets start pair
      refuses pair (while_combining r) targets o = while_combining m (a.partial targets o) r
      refuses pair (while_sifting r) targets o = while_sifting (eliminated x m) (before (a.partial targets o) (is_next targets o)) r

      pub spends : (n : ℕ) → SpendsStep x m n → (targets : List ℕ) → AreOver targets others start → SpendsEliminating targets start n
      spends n s targets o = record { rows = eliminated x m; partial = before (a.partial targets o) (is_next targets o); spends = s }

      pub too_many : (limit p n rest : ℕ) (rows : List Constraint) → IsLimitPassed x m limit p n rest rows → (targets : List ℕ) → AreOver targets others start
          → IsRowsDue targets start limit p n rest rows
      too_many limit p n rest rows l targets o = record {
        due = record { rows = m; partial = a.partial targets o; variable = x; next = is_next targets o; lower = l.lower; upper = l.upper; others = l.others; more = l.more };
        rows_are = sym l.rows_are;
      }

    -- without the variable fewer of them stand in the rows
    module _ (x : ℕ) (k : List Constraint) (s : IsIrredundantSublist k (eliminated x m)) where
      pub within : (y : ℕ) → SomeMentions y k → SomeMentions y m
      within y h = no_variable_joins x y m a.forms (sublist_mentions k (eliminated x m) (sublist_has k (eliminated x m) s.sublist) y h)

      pub is_gone : SomeMentions x k → ⊥
      is_gone h = x_is_gone x m a.forms (sublist_mentions k (eliminated x m) (sublist_has k (eliminated x m) s.sublist) x h)
