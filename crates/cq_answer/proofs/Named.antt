-- The names of query variables, one more at a time.
use Rattle.std.proofs.Common.{◌≡◌, ℕ, ◌+◌, ◌<◌, Bool, true, false, not, cond, ◌&&◌, List, [], ◌∷◌, ◌++◌, length, take, get_or, map, refl, sym, ap, ap₂, ◌∙◌, subst, inl, inr, if◌then◌else◌, append-nil}
use Rattle.std.specs.Prelude.{filter, fold, ◌⊎◌}
use Rattle.std.proofs.lemmas.List.{take_more, map-append}
use Rattle.std.proofs.lemmas.List.Elements.{filter-append}
use Rattle.std.proofs.lemmas.List.Sums.{fold-append}
use Rattle.spec_numbers.specs.Texts.{Text}
use Rattle.spec_linear.specs.Solution.{Has}
use Rattle.spec_linear.specs.Echelon.{AreDistinct}
use Rattle.spec_terms.specs.Term.{Subst}
use Rattle.spec_terms.specs.VariableName.{VariableName}
use Rattle.spec_terms.specs.Variables.{variables_after}
use Rattle.spec_syntax.specs.Trees.{Tree}
use Rattle.spec_branch.specs.Settling.{is_bound}
use Rattle.spec_answers.specs.Lines.{is_hidden}
use Rattle.spec_answers.specs.Targets.{query_variables}
use Rattle.cq_answer.specs.Shown.{shows_bound, shows_free, bound_in, free_in, bound_trees}

abbrev pub if_shown : Bool → VariableName → List VariableName
if_shown b n = cond b (n ∷ []) []

module _ (p q : VariableName → Bool) where
  one_filtered : (n : VariableName) → filter q (filter p (n ∷ [])) ≡ if_shown (p n && q n) n
  one_filtered n = by (p n)
    where
      by : (b : Bool) → filter q (cond b (n ∷ []) []) ≡ if_shown (b && q n) n
      by true = refl
      by false = refl

  more_filtered : (names : List VariableName) (i : ℕ) (n : VariableName) → i < length names → n ≡ get_or names i n →
      filter q (filter p (take (i + 1) names)) ≡ filter q (filter p (take i names)) ++ if_shown (p n && q n) n
  more_filtered names i n l e =
      ap (λ ns. filter q (filter p ns)) (take_more names i n l ∙ ap (λ m. take i names ++ m ∷ []) (sym e))
      ∙ ap (filter q) (filter-append p (take i names) (n ∷ []))
      ∙ filter-append q (filter p (take i names)) (filter p (n ∷ []))
      ∙ ap (λ ns. filter q (filter p (take i names)) ++ ns) (one_filtered n)

module _ (s : Subst Text) (names : List VariableName) (i : ℕ) (n : VariableName) (l : i < length names) (e : n ≡ get_or names i n) where
  pub free_more : free_in s (take (i + 1) names) ≡ free_in s (take i names) ++ if_shown (shows_free s n) n
  free_more = more_filtered (λ m. not (is_hidden m.name)) (λ m. not (is_bound s m.number)) names i n l e

  bound_more : bound_in s (take (i + 1) names) ≡ bound_in s (take i names) ++ if_shown (shows_bound s n) n
  bound_more = more_filtered (λ m. not (is_hidden m.name)) (λ m. is_bound s m.number) names i n l e

  trees_more : bound_trees s (take (i + 1) names) ≡ bound_trees s (take i names) ++ map (λ m. s m.number) (if_shown (shows_bound s n) n)
  trees_more = ap (map (λ (m : VariableName). s m.number)) bound_more ∙ map-append (λ (m : VariableName). s m.number) (bound_in s (take i names)) (if_shown (shows_bound s n) n)

  pub bound_kept : false ≡ shows_bound s n → bound_in s (take i names) ≡ bound_in s (take (i + 1) names)
  bound_kept f = sym (bound_more ∙ ap (λ b. bound_in s (take i names) ++ if_shown b n) (sym f) ∙ append-nil (bound_in s (take i names)))

  pub bound_pushed : true ≡ shows_bound s n → bound_in s (take i names) ++ n ∷ [] ≡ bound_in s (take (i + 1) names)
  bound_pushed f = sym (bound_more ∙ ap (λ b. bound_in s (take i names) ++ if_shown b n) (sym f))

  -- a free one, or another
  pub free_kept : false ≡ shows_free s n → free_in s (take i names) ≡ free_in s (take (i + 1) names)
  free_kept f = sym (free_more ∙ ap (λ b. free_in s (take i names) ++ if_shown b n) (sym f) ∙ append-nil (free_in s (take i names)))

  pub free_pushed : true ≡ shows_free s n → free_in s (take i names) ++ n ∷ [] ≡ free_in s (take (i + 1) names)
  free_pushed f = sym (free_more ∙ ap (λ b. free_in s (take i names) ++ if_shown b n) (sym f))

  module _ (vs : List ℕ) where
    after_more : fold variables_after vs (bound_trees s (take (i + 1) names)) ≡ fold variables_after (fold variables_after vs (bound_trees s (take i names))) (map (λ m. s m.number) (if_shown (shows_bound s n) n))
    after_more = ap (fold variables_after vs) trees_more ∙ fold-append variables_after vs (bound_trees s (take i names)) (map (λ (m : VariableName). s m.number) (if_shown (shows_bound s n) n))

    pub after_kept : false ≡ shows_bound s n → fold variables_after vs (bound_trees s (take i names)) ≡ fold variables_after vs (bound_trees s (take (i + 1) names))
    after_kept f = sym (after_more ∙ ap (λ b. fold variables_after (fold variables_after vs (bound_trees s (take i names))) (map (λ (m : VariableName). s m.number) (if_shown b n))) (sym f))

    pub after_bound : true ≡ shows_bound s n → variables_after (fold variables_after vs (bound_trees s (take i names))) (s n.number) ≡ fold variables_after vs (bound_trees s (take (i + 1) names))
    after_bound f = sym (after_more ∙ ap (λ b. fold variables_after (fold variables_after vs (bound_trees s (take i names))) (map (λ (m : VariableName). s m.number) (if_shown b n))) (sym f))

-- ---- numbers that differ

has_some : (p : VariableName → Bool) (names : List VariableName) (x : ℕ) → Has x (map (λ n. n.number) (filter p names)) → Has x (map (λ n. n.number) names)
has_some p [] x h = h
has_some p (n ∷ names) x h = go (has_some p names x) (p n) h
  where
    go : (Has x (map (λ (m : VariableName). m.number) (filter p names)) → Has x (map (λ (m : VariableName). m.number) names)) → (b : Bool) →
        Has x (map (λ (m : VariableName). m.number) (cond b (n ∷ filter p names) (filter p names))) → Has x (map (λ (m : VariableName). m.number) (n ∷ names))
    go rest true (inl e) = inl e
    go rest true (inr k) = inr (rest k)
    go rest false k = inr (rest k)

distinct_some : (p : VariableName → Bool) (names : List VariableName) → AreDistinct (map (λ n. n.number) names) → AreDistinct (map (λ n. n.number) (filter p names))
distinct_some p [] d = d
distinct_some p (n ∷ names) d = go (distinct_some p names d.1) (p n)
  where
    go : AreDistinct (map (λ (m : VariableName). m.number) (filter p names)) → (b : Bool) → AreDistinct (map (λ (m : VariableName). m.number) (cond b (n ∷ filter p names) (filter p names)))
    go rest true = (λ h. d.0 (has_some p names n.number h), rest)
    go rest false = rest

pub free_distinct : (s : Subst Text) (names : List VariableName) → AreDistinct (map (λ n. n.number) names) → AreDistinct (map (λ n. n.number) (free_in s names))
free_distinct s names d =
    distinct_some (λ m. not (is_bound s m.number)) (query_variables names) (distinct_some (λ m. not (is_hidden m.name)) names d)
