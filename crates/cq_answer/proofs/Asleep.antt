-- The terms of what waits, one more at a time.
use Rattle.std.proofs.Common.{◌≡◌, ℕ, zero, suc, ◌+◌, ◌<◌, List, [], ◌∷◌, ◌++◌, length, take, get_or, refl, sym, ap, ◌∙◌, subst, arith}
use Rattle.std.specs.Prelude.{fold}
use Rattle.std.proofs.lemmas.List.{take_more}
use Rattle.std.proofs.lemmas.List.Sums.{fold-append}
use Rattle.spec_numbers.specs.Texts.{Text}
use Rattle.spec_terms.specs.Variables.{variables_after}
use Rattle.spec_syntax.specs.Trees.{Tree}
use Rattle.cq_term.specs.HeapValue.{Terms}
use Rattle.cq_attr.specs.declared.susp.Susp.{Susp}
use Rattle.cq_attr.specs.declared.susp.Susp.TheVariants as susp
use Rattle.cq_answer.specs.Shown.{constraint_trees, goal_trees, IsLive, AreLive}

pub live_at : (h : Terms) (ks : List Susp) (i : ℕ) (k : Susp) → i < length ks → k ≡ get_or ks i k → AreLive h ks → IsLive h k
live_at h [] i k l e a = absurd (omega arith)
live_at h (j ∷ ks) zero k l e a = subst (IsLive h) (sym e) a.0
live_at h (j ∷ ks) (suc i) k l e a = live_at h ks i k (omega (arith, l)) e a.1

module _ (texts : List Text) (h : Terms) where
  constraints_append : (js ks : List Susp) → constraint_trees texts h (js ++ ks) ≡ constraint_trees texts h js ++ constraint_trees texts h ks
  constraints_append [] ks = refl
  constraints_append (susp.Delayed id ∷ js) ks = ap (λ (ts : List Tree). constraint_trees texts h (susp.Delayed id ∷ []) ++ ts) (constraints_append js ks)
  constraints_append (susp.Goal v id ∷ js) ks = constraints_append js ks

  goals_append : (js ks : List Susp) → goal_trees texts h (js ++ ks) ≡ goal_trees texts h js ++ goal_trees texts h ks
  goals_append [] ks = refl
  goals_append (susp.Delayed id ∷ js) ks = goals_append js ks
  goals_append (susp.Goal v id ∷ js) ks = ap (λ (ts : List Tree). goal_trees texts h (susp.Goal v id ∷ []) ++ ts) (goals_append js ks)

  module _ (ks : List Susp) (i : ℕ) (k : Susp) (l : i < length ks) (e : k ≡ get_or ks i k) where
    next : take (i + 1) ks ≡ take i ks ++ k ∷ []
    next = take_more ks i k l ∙ ap (λ j. take i ks ++ j ∷ []) (sym e)

    pub constraints_more : constraint_trees texts h (take i ks) ++ constraint_trees texts h (k ∷ []) ≡ constraint_trees texts h (take (i + 1) ks)
    constraints_more = sym (ap (constraint_trees texts h) next ∙ constraints_append (take i ks) (k ∷ []))

    pub goals_more : goal_trees texts h (take i ks) ++ goal_trees texts h (k ∷ []) ≡ goal_trees texts h (take (i + 1) ks)
    goals_more = sym (ap (goal_trees texts h) next ∙ goals_append (take i ks) (k ∷ []))

    pub after_constraint : (vs : List ℕ) (j : Susp) → k ≡ j →
        fold variables_after (fold variables_after vs (constraint_trees texts h (take i ks))) (constraint_trees texts h (j ∷ [])) ≡ fold variables_after vs (constraint_trees texts h (take (i + 1) ks))
    after_constraint vs j same =
        ap (λ m. fold variables_after (fold variables_after vs (constraint_trees texts h (take i ks))) (constraint_trees texts h (m ∷ []))) (sym same)
        ∙ sym (fold-append variables_after vs (constraint_trees texts h (take i ks)) (constraint_trees texts h (k ∷ [])))
        ∙ ap (fold variables_after vs) constraints_more

    pub after_goal : (vs : List ℕ) (j : Susp) → k ≡ j →
        fold variables_after (fold variables_after vs (goal_trees texts h (take i ks))) (goal_trees texts h (j ∷ [])) ≡ fold variables_after vs (goal_trees texts h (take (i + 1) ks))
    after_goal vs j same =
        ap (λ m. fold variables_after (fold variables_after vs (goal_trees texts h (take i ks))) (goal_trees texts h (m ∷ []))) (sym same)
        ∙ sym (fold-append variables_after vs (goal_trees texts h (take i ks)) (goal_trees texts h (k ∷ [])))
        ∙ ap (fold variables_after vs) goals_more
