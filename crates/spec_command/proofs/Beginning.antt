-- How a course of the query of `gen` begins: the conjunction is taken apart, and nothing is to be settled.
use Rattle.std.proofs.Common.{◌≡◌, ◌≤◌, ◌∙◌, ℕ, List, [], ◌∷◌, false, refl, ap, ap₂, subst, arith}
use Rattle.spec_numbers.specs.Texts.{Text}
use Rattle.spec_terms.specs.Term.{Var, followed_by, identity}
use Rattle.spec_terms.specs.Unifier.{IsUnifier, read_under}
use Rattle.spec_terms.specs.Variables.{counted_from}
use Rattle.spec_terms.proofs.Substitution.{apply-identity}
use Rattle.spec_syntax.specs.Trees.{Tree}
use Rattle.std.specs.Prelude.{filter, not, ◌&&◌, ◌||◌, Bool, true, if◌then◌else◌}
use Rattle.std.specs.List.{list_any}
use Rattle.spec_linear.specs.Solution.{Point, Solves}
use Rattle.spec_branch.specs.Alike.{SameBranch, no_values}
use Rattle.spec_branch.specs.Branch.{State, Item, Goal, Branch, Copied, no_work, read}
use Rattle.spec_branch.specs.Settling.{Settles, Kept, is_bound, is_the_variable, kept_branch, newly_bound, numeric_after}
use Rattle.spec_branch.proofs.Determined.{kept_alike, never_both}
use Rattle.spec_branch.proofs.Idle.{idle_settles}
use Rattle.spec_search.specs.Replies.{Place, Made, Makes, child, made}
use Rattle.spec_search.specs.Rows.{reply_of}
use Rattle.spec_search.specs.Steps.{Steps, Ball, Children}
use Rattle.spec_search.specs.Search.{Search, Selecting, empty_state, look_at, look_at_branch}
use Rattle.spec_search.specs.Turns.{place_of, after_step}
use Rattle.spec_search.proofs.Single.{one_step}
use Rattle.spec_command.specs.Outcome.{GenFrom, gen_budgets, gen_search}
use Rattle.spec_command.specs.Query.{asked, query, told, variables}
use Rattle.spec_command.proofs.Courses.{selects, settles}

-- a goal whose row gives children raises no ball, and its children are those
module _ (p : Place) (goal : Tree) (m : Made) (reply : reply_of p goal ≡ Makes m) where
  pub no_ball : (ball : Copied) → Steps p goal (Ball ball) → ⊥
  no_ball ball steps = let c = one_step p goal m (Ball ball) reply steps in cc

  pub is_made : (x : Made) → Steps p goal (Children x) → x ≡ m
  is_made x steps = let c : Children x ≡ Children m = one_step p goal m (Children x) reply steps in cc

abbrev the_variable : ℕ → Tree
the_variable v = Var v

-- the substitution that changes nothing unifies no pairs
pub identity_unifies : IsUnifier (read_under the_variable []) the_variable
identity_unifies = record { unifies = tt; general = λ r e v. refl; oldest = λ v w e. same_variable v w e }
  where
    same_variable : (v w : ℕ) → the_variable v ≡ the_variable w → w ≤ v
    same_variable v w e = let d : v ≡ w = cc in omega (arith, d)

-- what passes none of a list
pub none_passes : (f : ℕ → Bool) → ((v : ℕ) → f v ≡ false) → (vs : List ℕ) → filter f vs ≡ []
none_passes f h [] = refl
none_passes f h (v ∷ vs) = ap (λ (b : Bool). if b then v ∷ filter f vs else filter f vs) (h v) ∙ none_passes f h vs

module _ (n : ℕ) (line : Text) where
  abbrev pub both : List Item
  both = Goal (told n) 0 ∷ Goal (asked n) 0 ∷ []

  abbrev pub st0 : State
  st0 = empty_state (variables n)

  abbrev p0 : Place
  p0 = place_of (gen_search n) st0 [] 0 []

  abbrev made0 : Made
  made0 = made p0 (child both st0 no_work ∷ [])

  reply0 : reply_of p0 (read st0 (query n)) ≡ Makes made0
  reply0 = ap (reply_of p0) (apply-identity (query n))

  abbrev pub taken_apart : Search
  taken_apart = after_step (gen_search n) made0 []

  takes_apart : GenFrom gen_budgets n line false 0 [] (gen_search n) → GenFrom gen_budgets n line false 0 [] taken_apart
  takes_apart from =
      let (m, steps, more) = selects gen_budgets n line 0 [] (gen_search n) (query n) 0 [] st0 [] refl (no_ball p0 (read st0 (query n)) made0 reply0) from in
      let same = is_made p0 (read st0 (query n)) made0 reply0 m steps in
      subst (λ x. GenFrom gen_budgets n line false 0 [] (after_step (gen_search n) x [])) same more

  -- ---- nothing is to be settled

  abbrev kept0 : Branch
  kept0 = kept_branch both st0 no_work identity [] [] no_values

  settles0 : Settles both st0 no_work (Kept kept0)
  settles0 = idle_settles both identity (λ v. false) 0 (variables n) (λ v. refl) [] identity identity_unifies

  pub begins : GenFrom gen_budgets n line false 0 [] (gen_search n)
      → (c : Branch) × SameBranch c kept0 × GenFrom gen_budgets n line false 0 [] (record taken_apart { branches = c ∷ [] })
  begins from =
      let (c, kept, more) = settles gen_budgets n line 0 [] taken_apart both st0 no_work [] refl (λ why pruned. never_both both st0 no_work kept0 why settles0 pruned) (takes_apart from) in
      (c, kept_alike both st0 [] (λ p. ((λ h. h), (λ h. h))) no_work c kept0 kept settles0, more)

  -- ---- a state in which nothing is known

  pub record IsFree (st : State) : Type 0 where
    pub bindings : st.bindings ≡ identity
    pub linear : (p : Point) → Solves p st.linear
    pub delayed : st.delayed ≡ []
    pub numeric : (v : ℕ) → st.numeric v ≡ false
    pub sleepers : st.sleepers ≡ []
    pub fresh : st.fresh ≡ variables n

  none_newly_bound : newly_bound st0 identity ≡ []
  none_newly_bound = none_passes (λ v. false && not (is_bound identity v) && is_bound identity v) (λ v. refl) (counted_from 0 (variables n))

  still_variable : (b : Bool) (v : ℕ) → (if b then the_variable v else the_variable v) ≡ the_variable v
  still_variable true v = refl
  still_variable false v = refl

  kept_bindings : kept0.state.bindings ≡ identity
  kept_bindings = λ i v. still_variable (numeric_after st0 identity (followed_by identity identity) [] v) v i

  kept_numeric : (v : ℕ) → kept0.state.numeric v ≡ false
  kept_numeric v = ap (λ vs. list_any (λ w. is_the_variable v (followed_by identity identity w)) vs || false) none_newly_bound

  pub free_after : (c : Branch) → SameBranch c kept0 → IsFree c.state
  free_after c same = record {
    bindings = same.bindings ∙ kept_bindings;
    linear = λ p. (same.linear p).1 tt;
    delayed = same.delayed;
    numeric = λ v. ap (λ f. f v) same.numeric ∙ kept_numeric v;
    sleepers = same.sleepers;
    fresh = same.fresh;
  }

  pub look_after : (c : Branch) → SameBranch c kept0 → look_at (c ∷ []) ≡ Selecting (told n) 0 (Goal (asked n) 0 ∷ []) c.state []
  look_after c same = ap₂ (λ ph is. look_at_branch ph is c.state []) same.phase same.items
