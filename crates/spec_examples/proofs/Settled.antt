-- Settling where no variable is numeric and nothing is told or waits, within so many steps of unification.
use Rattle.std.proofs.Common.{◌≡◌, ℕ, List, [], ◌∷◌, ◌++◌, Bool, true, false, ◌&&◌, ◌||◌, not, cond, map, Option, None, refl, sym, ap, ◌∙◌, subst}
use Rattle.std.specs.Prelude.{filter, IsPermutation}
use Rattle.std.specs.List.{list_any}
use Rattle.spec_numbers.specs.Texts.{Text}
use Rattle.spec_numbers.proofs.Places.{nothing_within}
use Rattle.spec_terms.specs.Term.{Subst, Var, identity, apply, followed_by}
use Rattle.spec_terms.specs.Unifier.{Equation, IsUnifier, read_under}
use Rattle.spec_terms.specs.Variables.{counted_from}
use Rattle.spec_terms.proofs.Substitution.{apply-identity}
use Rattle.spec_syntax.specs.Trees.{Tree}
use Rattle.spec_linear.specs.Solution.{Constraint}
use Rattle.spec_branch.specs.Branch.{State, Sleeper, Item, Copied, Pending, Branch, Settled, no_work}
use Rattle.spec_branch.specs.Closure.{IsClosure, no_move}
use Rattle.spec_branch.specs.Settling.{Settles, no_unifier, unified, SettlesUnified, clash as clashes, no_solution, kept, Kept, Pruned, Clash, Outcome, kept_branch, bindings_after, value_or_variable, newly_bound, numeric_after, is_bound, is_the_variable, stands_in, binding_equation, woken, left_asleep}
use Rattle.spec_branch.specs.Alike.{idle, no_values}
use Rattle.spec_branch.proofs.Idle.{fixes_nothing}
use Rattle.spec_examples.proofs.Unify.{Unified, unifier, clash, unknown, unify, no_pairs}
use Rattle.spec_examples.proofs.Told.{nothing_solvable}

-- ---- the branch that is kept

-- nothing is told or waits
abbrev pub resting : Subst Text → (ℕ → Bool) → List Sleeper → ℕ → ℕ → State
resting b numeric sleepers next fresh = record (idle b numeric next fresh) { sleepers = sleepers }

-- settled, with these bindings, under which some sleepers wake, and nothing told
abbrev pub plain : List Item → Subst Text → List Sleeper → ℕ → ℕ → Branch
plain items b sleepers next fresh = record {
  items = woken b sleepers ++ items;
  state = resting b (λ v. false) (left_asleep b sleepers) next fresh;
  phase = Settled;
}

nothing_waits : (s : Subst Text) → IsClosure s [] [] [] []
nothing_waits s = record { moves = no_move; closed = λ m x h. nothing_within h.before h.after h.term h.among }

no_equations : (s : Subst Text) (vs : List ℕ) → vs ≡ [] → IsPermutation [] (map (binding_equation s) vs)
no_equations s vs e = record { moves = []; below = tt; is = ap (λ (ws : List ℕ). map (binding_equation s) ws) e }

module _ (b u : Subst Text) (numeric : ℕ → Bool) (sleepers : List Sleeper) (next fresh : ℕ) (none : (v : ℕ) → numeric v ≡ false) where
  abbrev pub before : State
  before = resting b numeric sleepers next fresh

  pub none_among : (vs : List ℕ) → filter (λ v. numeric v && not (is_bound b v) && is_bound u v) vs ≡ []
  none_among [] = refl
  none_among (v ∷ vs) = rw (none v) (none_among vs)

  pub not_numeric : (v : ℕ) → numeric_after before u (followed_by b u) [] v ≡ false
  not_numeric v =
      ap (λ c. c || list_any (λ w. is_the_variable v (followed_by b u w)) (newly_bound before u) || stands_in (followed_by b u) [] v) (none v)
      ∙ ap (λ (ws : List ℕ). list_any (λ w. is_the_variable v (followed_by b u w)) ws || stands_in (followed_by b u) [] v) (none_among (counted_from 0 fresh))

  pub no_value : (c : Bool) (v : ℕ) → ◌≡◌ {A = Tree} (cond c (value_or_variable None v) (Var v)) (Var v)
  no_value true v = refl
  no_value false v = refl

  pub same_bindings : (p : Pending) → p.told ≡ [] → (v : ℕ) → bindings_after before p u no_values v ≡ followed_by b u v
  same_bindings p told v =
      ap (λ (s : Subst Text). apply s (followed_by b u v)) (λ i w. no_value (numeric_after before u (followed_by b u) p.told w) w i)
      ∙ apply-identity (followed_by b u v)

  pub kept_is : (items : List Item) (p : Pending) → p.told ≡ [] → kept_branch items before p u [] [] no_values ≡ plain items (followed_by b u) sleepers next fresh
  kept_is items p told = λ i. record {
    items = woken (λ v. same_bindings p told v i) sleepers ++ items;
    state = record {
      bindings = λ v. same_bindings p told v i;
      linear = [];
      delayed = [];
      numeric = λ v. (ap (λ (ts : List Tree). numeric_after before u (followed_by b u) ts v) told ∙ not_numeric v) i;
      sleepers = left_asleep (λ v. same_bindings p told v i) sleepers;
      next_sleeper = next;
      fresh = fresh;
    };
    phase = Settled;
  }

  -- the pairs are unified, and some sleepers wake
  pub settles_resting : (items : List Item) (es : List (Equation Text)) → IsUnifier (read_under b es) u
      → Settles items before (record no_work { equations = es }) (Kept (kept_branch items before (record no_work { equations = es }) u [] [] no_values))
  settles_resting items es h =
      unified u h (
      kept (λ v e. let c : false ≡ true = sym (none v) ∙ e in cc)
      (record {
        equations = [];
        each_newly_bound = no_equations (followed_by b u) (newly_bound before u) (none_among (counted_from 0 fresh));
        linear = [];
        waiting = [];
        closure = nothing_waits (followed_by b u);
      })
      nothing_solvable no_values fixes_nothing)

  pub kept_plainly : (items : List Item) (es : List (Equation Text)) → IsUnifier (read_under b es) u
      → Settles items before (record no_work { equations = es }) (Kept (plain items (followed_by b u) sleepers next fresh))
  kept_plainly items es h =
      subst (λ (k : Branch). Settles items before (record no_work { equations = es }) (Kept k)) (kept_is items (record no_work { equations = es }) refl)
      (settles_resting items es h)

-- ---- any state and any work

-- what a settling comes to
pub data SettledAs (items : List Item) (st : State) (p : Pending) : Type 0 where
  -- the branch is kept, if no variable is numeric
  keeps_as : (b : Branch) → (((v : ℕ) → st.numeric v ≡ false) → Settles items st p (Kept b)) → SettledAs items st p
  prunes_as : Settles items st p (Pruned Clash) → SettledAs items st p
  unsettled : SettledAs items st p

abbrev pub work : List (Equation Text) → Option ℕ → Option Copied → Pending
work es removes ball = record { equations = es; rows = []; told = []; removes = removes; ball = ball }

-- what is removed then, and the ball, change nothing of it
pub any_unified : (items : List Item) (st : State) (es : List (Equation Text)) (removes : Option ℕ) (ball : Option Copied) (u : Subst Text) (o : Outcome)
    → SettlesUnified items st (record no_work { equations = es }) u o → SettlesUnified items st (work es removes ball) u o
any_unified items st es removes ball u o (clashes c) = clashes c
any_unified items st es removes ball u o (no_solution n j s) =
    no_solution n (record { equations = j.equations; each_newly_bound = j.each_newly_bound; linear = j.linear; waiting = j.waiting; closure = j.closure }) s
any_unified items st es removes ball u o (kept n j s f x) =
    kept n (record { equations = j.equations; each_newly_bound = j.each_newly_bound; linear = j.linear; waiting = j.waiting; closure = j.closure }) s f x

pub any_outcome : (items : List Item) (st : State) (es : List (Equation Text)) (removes : Option ℕ) (ball : Option Copied) (o : Outcome)
    → Settles items st (record no_work { equations = es }) o → Settles items st (work es removes ball) o
any_outcome items st es removes ball o (no_unifier h) = no_unifier h
any_outcome items st es removes ball o (unified u h k) = unified u h (any_unified items st es removes ball u o k)

pub beside : (items : List Item) (st : State) (es : List (Equation Text)) (removes : Option ℕ) (ball : Option Copied) (k : Branch)
    → Settles items st (record no_work { equations = es }) (Kept k) → Settles items st (work es removes ball) (Kept k)
beside items st es removes ball k h = any_outcome items st es removes ball (Kept k) h

abbrev pub by_unifier : (items : List Item) (b : Subst Text) (numeric : ℕ → Bool) (sleepers : List Sleeper) (next fresh : ℕ) (es : List (Equation Text)) (removes : Option ℕ) (ball : Option Copied)
    → Unified (read_under b es) → SettledAs items (resting b numeric sleepers next fresh) (work es removes ball)
by_unifier items b numeric sleepers next fresh es removes ball (unifier u h) =
    keeps_as (plain items (followed_by b u) sleepers next fresh)
    (λ none. beside items (resting b numeric sleepers next fresh) es removes ball (plain items (followed_by b u) sleepers next fresh) (kept_plainly b u numeric sleepers next fresh none items es h))
by_unifier items b numeric sleepers next fresh es removes ball (clash h) = prunes_as (no_unifier h)
by_unifier items b numeric sleepers next fresh es removes ball unknown = unsettled

pub no_growth : (items : List Item) (b : Subst Text) (numeric : ℕ → Bool) (sleepers : List Sleeper) (next fresh : ℕ) (removes : Option ℕ) (ball : Option Copied) → ((v : ℕ) → numeric v ≡ false)
    → Settles items (resting b numeric sleepers next fresh) (work [] removes ball) (Kept (plain items b sleepers next fresh))
no_growth items b numeric sleepers next fresh removes ball none =
    beside items (resting b numeric sleepers next fresh) [] removes ball (plain items b sleepers next fresh)
    (subst (λ (s : Subst Text). Settles items (resting b numeric sleepers next fresh) (record no_work { equations = [] }) (Kept (plain items s sleepers next fresh))) (λ i v. apply-identity (b v) i)
    (kept_plainly b identity numeric sleepers next fresh none items [] no_pairs))

abbrev pub by_pairs_of : ℕ → (items : List Item) (b : Subst Text) (numeric : ℕ → Bool) (sleepers : List Sleeper) (next fresh : ℕ) (es : List (Equation Text)) (removes : Option ℕ) (ball : Option Copied)
    → SettledAs items (resting b numeric sleepers next fresh) (work es removes ball)
by_pairs_of n items b numeric sleepers next fresh [] removes ball = keeps_as (plain items b sleepers next fresh) (no_growth items b numeric sleepers next fresh removes ball)
by_pairs_of n items b numeric sleepers next fresh (e ∷ es) removes ball = by_unifier items b numeric sleepers next fresh (e ∷ es) removes ball (unify n (read_under b (e ∷ es)))

-- where nothing is told or waits
abbrev pub by_lists : ℕ → (items : List Item) (b : Subst Text) (numeric : ℕ → Bool) (next fresh : ℕ) (linear : List Constraint) (delayed : List Tree) (sleepers : List Sleeper)
    (es : List (Equation Text)) (rows : List Constraint) (told : List Tree) (removes : Option ℕ) (ball : Option Copied)
    → SettledAs items (record { bindings = b; linear = linear; delayed = delayed; numeric = numeric; sleepers = sleepers; next_sleeper = next; fresh = fresh })
    (record { equations = es; rows = rows; told = told; removes = removes; ball = ball })
by_lists n items b numeric next fresh [] [] sleepers es [] [] removes ball = by_pairs_of n items b numeric sleepers next fresh es removes ball
by_lists n items b numeric next fresh linear delayed sleepers es rows told removes ball = unsettled

abbrev pub settle : ℕ → (items : List Item) (st : State) (p : Pending) → SettledAs items st p
settle n items st p =
    by_lists n items st.bindings st.numeric st.next_sleeper st.fresh st.linear st.delayed st.sleepers p.equations p.rows p.told p.removes p.ball
