-- The variables of an answer without a name, and their names.
use Rattle.std.proofs.Common.{◌≡◌, ℕ, zero, suc, ◌+◌, Bool, true, false, cond, not, ◌&&◌, ◌||◌, List, [], ◌∷◌, ◌++◌, length, drop, map, nat_eq, Option, Some, None, refl, sym, ap, ap₂, ◌∙◌, subst, arith, append_assoc, if◌then◌else◌}
use Rattle.std.specs.Prelude.{fold, filter}
use Rattle.std.specs.List.{list_any, position_or_len}
use Rattle.std.proofs.lemmas.List.Elements.{filter-append}
use Rattle.std.proofs.Math.Seq.{drop-append_seam}
use Rattle.spec_numbers.specs.Texts.{Text}
use Rattle.spec_linear.specs.Solution.{Has}
use Rattle.spec_linear.specs.Echelon.{AreDistinct}
use Rattle.spec_terms.specs.VariableName.{VariableName}
use Rattle.spec_terms.specs.Variables.{variables_after}
use Rattle.spec_syntax.specs.Trees.{Tree}
use Rattle.spec_text.specs.Written.{given_name, is_unnamed, counted_name, shown}
use Rattle.cq_answer.specs.Numbered.{counted}
use Rattle.cq_answer.proofs.Members.{has, has_append, has_from, from_has, has_not, has_fold, begins_fold, filter_none, filter_every, filter_alike, has_filtered, not_both, or_true}
use Rattle.cq_answer.proofs.Agreement.{shown_given}

abbrev pub numbers : List VariableName → List ℕ
numbers ns = map (λ n. n.number) ns

-- ---- names that are given

unnamed_has : (ns : List VariableName) (v : ℕ) → is_unnamed ns v ≡ not (has (numbers ns) v)
unnamed_has [] v = refl
unnamed_has (n ∷ ns) v = by (nat_eq n.number v) (unnamed_has ns v)
  where
    by : (b : Bool) → is_unnamed ns v ≡ not (has (numbers ns) v) →
        (elim (if b then Some n.name else given_name ns v) [ Some f ↦ false | None ↦ true ]) ≡ not (b || has (numbers ns) v)
    by true h = refl
    by false h = h

given_front : (ns cs : List VariableName) (v : ℕ) (f : Text) → given_name ns v ≡ Some f → given_name (ns ++ cs) v ≡ Some f
given_front [] cs v f e = cc
given_front (n ∷ ns) cs v f e = by (nat_eq n.number v) e (given_front ns cs v f)
  where
    by : (b : Bool) → (if b then Some n.name else given_name ns v) ≡ Some f → (given_name ns v ≡ Some f → given_name (ns ++ cs) v ≡ Some f) → (if b then Some n.name else given_name (ns ++ cs) v) ≡ Some f
    by true h rest = h
    by false h rest = rest h

given_behind : (ns cs : List VariableName) (v : ℕ) → given_name ns v ≡ None → given_name (ns ++ cs) v ≡ given_name cs v
given_behind [] cs v e = refl
given_behind (n ∷ ns) cs v e = by (nat_eq n.number v) e (given_behind ns cs v)
  where
    by : (b : Bool) → (if b then Some n.name else given_name ns v) ≡ None → (given_name ns v ≡ None → given_name (ns ++ cs) v ≡ given_name cs v) → (if b then Some n.name else given_name (ns ++ cs) v) ≡ given_name cs v
    by true h rest = cc
    by false h rest = rest h

-- ---- names that are counted

pub counted_push : (k : ℕ) (us : List ℕ) (v : ℕ) → counted k (us ++ v ∷ []) ≡ counted k us ++ record { name = counted_name (k + length us); number = v } ∷ []
counted_push k [] v = let e : k ≡ k + 0 = omega arith in ap (λ n. record { name = counted_name n; number = v } ∷ []) e
counted_push k (u ∷ us) v =
    let e : suc k + length us ≡ k + suc (length us) = omega arith in
    ap (λ ns. record { name = counted_name k; number = u } ∷ ns)
    (counted_push (suc k) us v ∙ ap (λ n. counted (suc k) us ++ record { name = counted_name n; number = v } ∷ []) e)

given_counted : (k : ℕ) (us : List ℕ) (v : ℕ) → has us v ≡ true → given_name (counted k us) v ≡ Some (counted_name (k + position_or_len (λ w. nat_eq w v) us))
given_counted k [] v e = let d : false ≡ true = e in cc
given_counted k (u ∷ us) v e = by (nat_eq u v) e (given_counted (suc k) us v)
  where
    by : (b : Bool) → (b || has us v) ≡ true → (has us v ≡ true → given_name (counted (suc k) us) v ≡ Some (counted_name (suc k + position_or_len (λ w. nat_eq w v) us))) →
        (if b then Some (counted_name k) else given_name (counted (suc k) us) v) ≡ Some (counted_name (k + cond (not b) (1 + position_or_len (λ w. nat_eq w v) us) 0))
    by true h rest = let e : k ≡ k + 0 = omega arith in ap (λ n. Some (counted_name n)) e
    by false h rest =
        let e : suc k + position_or_len (λ w. nat_eq w v) us ≡ k + (1 + position_or_len (λ w. nat_eq w v) us) = omega arith in
        rest h ∙ ap (λ n. Some (counted_name n)) e

shown_counted : (ns : List VariableName) (us : List ℕ) (v : ℕ) → given_name ns v ≡ None → shown ns us v ≡ counted_name (position_or_len (λ w. nat_eq w v) us)
shown_counted ns us v e = ap (λ o. elim o [ Some g ↦ g | None ↦ counted_name (position_or_len (λ w. nat_eq w v) us) ]) e

-- ---- the variables of an answer

-- the names of the free query variables, the terms that are shown, the variables of the rows, and those that are kept
module _ (free : List VariableName) (ts : List Tree) (rows kept : List ℕ) where
  abbrev wanted : List ℕ
  wanted = fold variables_after (numbers free) ts

  abbrev printed : List ℕ
  printed = fold variables_after rows ts

  abbrev counts : ℕ → Bool
  counts v = is_unnamed free v && has printed v

  -- those without a name
  abbrev pub without_name : List ℕ
  without_name = filter counts (wanted ++ kept)

  module _ (distinct : AreDistinct wanted) (apart : (v : ℕ) → Has v kept → Has v wanted → ⊥) where
    rest : List ℕ
    rest = (begins_fold ts (numbers free)).0

    split : wanted ≡ numbers free ++ rest
    unfolding rest
    split = (begins_fold ts (numbers free)).1

    -- it stands in a term that is shown
    abbrev in_terms : ℕ → Bool
    in_terms v = has (fold variables_after [] ts) v

    in_wanted : (v : ℕ) → has wanted v ≡ (has (numbers free) v || in_terms v)
    in_wanted v = has_fold ts (numbers free) v

    in_printed : (v : ℕ) → has printed v ≡ (has rows v || in_terms v)
    in_printed v = has_fold ts rows v

    free_named : (v : ℕ) → has (numbers free) v ≡ true → counts v ≡ false
    free_named v e = ap (λ b. b && has printed v) (unnamed_has free v ∙ ap not e)

    second : (a b : Bool) → a ≡ false → (a || b) ≡ true → b ≡ true
    second a b e h = ap (λ c. c || b) (sym e) ∙ h

    neither : (a b : Bool) → (a || b) ≡ false → (a ≡ false) × (b ≡ false)
    neither true b e = let d : true ≡ false = e in cc
    neither false b e = (refl, e)

    rest_counts : (v : ℕ) → has rest v ≡ true → counts v ≡ true
    rest_counts v e =
        let absent : has (numbers free) v ≡ false = has_not (numbers free) v (λ h. not_both (numbers free) rest v (subst AreDistinct split distinct) h (from_has rest v e)) in
        let there : has wanted v ≡ true = ap (λ vs. has vs v) split ∙ has_append (numbers free) rest v ∙ or_true (has (numbers free) v) (has rest v) e in
        let shows : in_terms v ≡ true = second (has (numbers free) v) (in_terms v) absent (sym (in_wanted v) ∙ there) in
        ap₂ (λ a b. a && b) (unnamed_has free v ∙ ap not absent) (in_printed v ∙ or_true (has rows v) (in_terms v) shows)

    or_none : (a b : Bool) → b ≡ false → (a || b) ≡ a
    or_none true b e = refl
    or_none false b e = e

    kept_counts : (v : ℕ) → has kept v ≡ true → counts v ≡ has rows v
    kept_counts v e =
        let absent : has wanted v ≡ false = has_not wanted v (apart v (from_has kept v e)) in
        let both = neither (has (numbers free) v) (in_terms v) (sym (in_wanted v) ∙ absent) in
        ap₂ (λ a b. a && b) (unnamed_has free v ∙ ap not both.0) (in_printed v ∙ or_none (has rows v) (in_terms v) both.1)

    -- they are the wanted ones behind the free query variables, and those kept ones that stand in a row
    pub without_name_is : without_name ≡ drop (length (numbers free)) wanted ++ filter (has rows) kept
    without_name_is =
        filter-append counts wanted kept
        ∙ ap₂ (λ a b. a ++ b)
        (ap (filter counts) split ∙ filter-append counts (numbers free) rest
        ∙ ap₂ (λ a b. a ++ b) (filter_none counts (numbers free) free_named) (filter_every counts rest rest_counts)
        ∙ sym (drop-append_seam (numbers free) rest) ∙ ap (drop (length (numbers free))) (sym split))
        (filter_alike counts (has rows) kept kept_counts)

  -- each variable that is printed has its name
  pub name_given : (v : ℕ) → has (wanted ++ kept) v ≡ true → has printed v ≡ true → given_name (free ++ counted 0 without_name) v ≡ Some (shown free without_name v)
  name_given v there shows = by (given_name free v) refl
    where
      by : (o : Option Text) → given_name free v ≡ o → given_name (free ++ counted 0 without_name) v ≡ Some (shown free without_name v)
      by (Some f) e = given_front free (counted 0 without_name) v f e ∙ ap Some (sym (shown_given free without_name v f e))
      by None e =
          let unnamed : is_unnamed free v ≡ true = ap (λ o. elim o [ Some f ↦ false | None ↦ true ]) e in
          let zero_more : 0 + position_or_len (λ w. nat_eq w v) without_name ≡ position_or_len (λ w. nat_eq w v) without_name = omega arith in
          let here : has without_name v ≡ true = has_filtered counts (wanted ++ kept) v there (ap₂ (λ a b. a && b) unnamed shows) in
          given_behind free (counted 0 without_name) v e
          ∙ given_counted 0 without_name v here
          ∙ ap Some (ap counted_name zero_more ∙ sym (shown_counted free without_name v e))
