-- The least value is unified with V, which nothing constrains: the branch is kept, and answers with that value.
use Rattle.std.proofs.Common.{◌≡◌, ◌∙◌, ◌≤◌, ℕ, suc, List, [], ◌∷◌, ◌++◌, map, append-nil, Bool, true, false, cond, inl, inr, refl, sym, ap, subst, arith, eq-eqb}
use Rattle.std.proofs.lemmas.Bool.{cases_eq}
use Rattle.std.specs.Prelude.{◌&&◌, ◌==◌, not}
use Rattle.std.specs.List.{AllByRecursion}
use Rattle.spec_numbers.specs.Texts.{Text}
use Rattle.spec_numbers.specs.Rational.{ℚ}
use Rattle.spec_linear.specs.Solution.{Point, number, Solves}
use Rattle.spec_terms.specs.Term.{Subst, Var, Number, apply, followed_by, single}
use Rattle.spec_terms.specs.Unifier.{IsUnifier, Equates, Equation, read_under}
use Rattle.spec_terms.proofs.Substitution.{apply-single_instance, single_same, single_other}
use Rattle.spec_terms.proofs.Unifiers.{unifier_unique}
use Rattle.spec_syntax.specs.Trees.{Tree}
use Rattle.spec_builtins.specs.Alternatives.{◌≐◌}
use Rattle.spec_branch.specs.Values.{IsTrueAt}
use Rattle.spec_branch.specs.Branch.{State, Branch, Pending, read}
use Rattle.spec_branch.specs.Meaning.{IsSolution, SolvesPending}
use Rattle.spec_branch.specs.Settling as settling
use Rattle.spec_branch.specs.Settling.{Settles, unified, SettlesUnified, Outcome, Kept, Pruned, Why, Clash, NoSolution, Clashes, binding_equation, bindings_after, fixed_values, is_bound, is_no_number, is_the_variable, newly_bound, numeric_after, woken}
use Rattle.spec_branch.proofs.Meant.{pruned_means}
use Rattle.spec_search.specs.Replies.{with_equations}
use Rattle.spec_search.specs.Search.{Answering, look_at}
use Rattle.spec_command.proofs.Beginning.{none_passes}
use Rattle.spec_command.proofs.Knowing.{IsImage, Knows}

-- ---- one variable is unified with a number

module _ (n : ℕ) (q : ℚ) where
  abbrev with_value : Subst Text
  with_value = single n (Number q)

  abbrev pub pairs : List (Equation Text)
  pairs = (Var n ≐ Number q) ∷ []

  abbrev the_number : Tree
  the_number = Number q

  abbrev the_variable : ℕ → Tree
  the_variable v = Var v

  keeps_oldest : (v w : ℕ) (b : Bool) → cond b the_number (the_variable v) ≡ the_variable w → w ≤ v
  keeps_oldest v w true e = cc
  keeps_oldest v w false e = let same : v ≡ w = cc in omega (arith, same)

  value_unifies : IsUnifier pairs with_value
  value_unifies = record {
    unifies = (single_same n (Number q), tt);
    general = λ r e v. apply-single_instance n (Number q) r e.0 (Var v);
    oldest = λ v w. keeps_oldest v w (n == v);
  }

module _ (k : ℕ) (line : Text) (b : Branch) (known : Knows k line b) (q : ℚ) where
  abbrev st : State
  st = b.state

  abbrev n : ℕ
  n = suc k

  abbrev work : Pending
  work = with_equations (pairs n q)

  -- the pair reads as it stands
  as_it_stands : read_under st.bindings (pairs n q) ≡ pairs n q
  as_it_stands = ap (λ t. (t ≐ Number q) ∷ []) known.unbound

  module _ (u : Subst Text) (h : IsUnifier (read_under st.bindings (pairs n q)) u) where
    binds : (v : ℕ) → u v ≡ with_value n q v
    binds = unifier_unique (pairs n q) u (with_value n q) (subst (λ es. IsUnifier es u) as_it_stands h) (value_unifies n q)

    stays : (v : ℕ) → (n ≡ v → ⊥) → u v ≡ Var v
    stays v o = binds v ∙ single_other n v (Number q) o

    gets : u n ≡ Number q
    gets = binds n ∙ single_same n (Number q)

    bound_elsewhere : (v : ℕ) → (st.numeric v && not (is_bound st.bindings v) && is_bound u v) ≡ false
    bound_elsewhere v = elim (cases_eq n v) [
      | inl e ↦ (let plain : st.numeric v ≡ false = ap st.numeric (sym e) ∙ known.numeric in ap (λ x. x && not (is_bound st.bindings v) && is_bound u v) plain)
      | inr o ↦ (let free : is_bound u v ≡ false = ap (λ t. not (is_the_variable v t)) (stays v o) ∙ ap not (eq-eqb v v refl) in none_of_three (st.numeric v) (not (is_bound st.bindings v)) (is_bound u v) free)
    ]
      where
        none_of_three : (x y z : Bool) → z ≡ false → (x && y && z) ≡ false
        none_of_three true true z e = e
        none_of_three true false z e = refl
        none_of_three false y z e = refl

    none_bound : newly_bound st u ≡ []
    none_bound = none_passes (λ v. st.numeric v && not (is_bound st.bindings v) && is_bound u v) bound_elsewhere _

    -- ---- it isn't pruned

    image_stays : (v : ℕ) (t : Tree) → IsImage known.fixed v t → st.numeric v ≡ true → is_no_number (apply u t) ≡ false
    image_stays v t (inl e) numeric = elim (cases_eq n v) [
      | inl same ↦ (let wrong : true ≡ false = sym numeric ∙ ap st.numeric (sym same) ∙ known.numeric in cc)
      | inr o ↦ ap (λ x. is_no_number (apply u x)) e ∙ ap is_no_number (stays v o)
    ]
    image_stays v t (inr h) numeric = ap (λ x. is_no_number (apply u x)) h.1

    no_clash : Clashes st (followed_by st.bindings u) → ⊥
    no_clash c = let wrong : true ≡ false = sym c.image ∙ image_stays c.variable (st.bindings c.variable) (known.image c.variable) c.numeric in cc

    still_solves : (p : Point) → Solves p st.linear → SolvesPending st work u p
    still_solves p s =
        let bindings : Subst Text = followed_by st.bindings u in
        subst (λ vs. IsSolution bindings (st.linear ++ map (binding_equation bindings) vs ++ []) (st.delayed ++ []) p) (sym none_bound)
        (record {
          solves = subst (λ l. Solves p l) (sym (append-nil (st.linear ++ []) ∙ append-nil st.linear)) s;
          true_there = subst (λ ts. AllByRecursion (λ t. IsTrueAt (number p) (apply bindings t)) (ts ++ [])) (sym known.delayed) tt;
        })

    not_clashed : (o : Outcome) → SettlesUnified [] st work u o → o ≡ Pruned Clash → ⊥
    not_clashed o (settling.clash c) e = no_clash c
    not_clashed o (settling.no_solution x j y) e = cc
    not_clashed o (settling.kept x j s f hf) e = cc

    -- ---- what it answers

    answers_so : (c : Branch) → SettlesUnified [] st work u (Kept c) → (look_at (c ∷ []) ≡ Answering c.state []) × (read c.state (Var n) ≡ Number q)
    answers_so c (settling.kept x j s f hf) =
        let bindings = bindings_after st work u f in
        let values = fixed_values (numeric_after st u (followed_by st.bindings u) []) f in (
          ap (λ ks. look_at (record c { items = woken bindings ks ++ [] } ∷ [])) known.sleepers,
          ap (λ t. apply values (apply u t)) known.unbound ∙ ap (apply values) gets,
        )

  clashed : (o : Outcome) → Settles [] st work o → o ≡ Pruned Clash → ⊥
  clashed o (settling.no_unifier h) e = h (with_value n q) (subst (λ es. Equates (with_value n q) es) (sym as_it_stands) (value_unifies n q).unifies)
  clashed o (unified u h x) e = not_clashed u h o x e

  pub not_pruned : (p : Point) → Solves p st.linear → (why : Why) → Settles [] st work (Pruned why) → ⊥
  not_pruned p s Clash h = clashed (Pruned Clash) h refl
  not_pruned p s (NoSolution l) h =
      let (u, is, none) = pruned_means [] st work l h in
      none p (still_solves u is p s)

  pub answers_with : (c : Branch) → Settles [] st work (Kept c) → (look_at (c ∷ []) ≡ Answering c.state []) × (read c.state (Var n) ≡ Number q)
  answers_with c (unified u h x) = answers_so u h c x
