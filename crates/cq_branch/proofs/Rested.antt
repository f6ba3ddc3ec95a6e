-- A branch at rest is kept as it is where it has no work to do.
use Rattle.std.proofs.Common.{◌≡◌, ℕ, List, [], ◌∷◌, ◌++◌, Bool, true, false, Option, None, Some, refl, sym, ap, append-nil, ap₂, ◌∙◌, subst, arith, ◌||◌, inl, inr}
use Rattle.std.specs.Prelude.{◌&&◌, not, filter, map, if◌then◌else◌, IsPermutation, bytes_eq, codes}
use Rattle.std.specs.List.{AllByRecursion}
use Rattle.spec_numbers.specs.Rational.{ℚ}
use Rattle.spec_linear.specs.Form.{Linear}
use Rattle.spec_linear.specs.Solution.{Constraint, Fixes}
use Rattle.spec_numbers.specs.Texts.{Text}
use Rattle.spec_numbers.proofs.Tests.{nat_eq-self}
use Rattle.spec_terms.specs.Term.{Subst, Var, Number, Name, Compound, one, more, Occurs, apply, identity, followed_by}
use Rattle.spec_terms.specs.Unifier.{IsUnifier, read_under}
use Rattle.spec_terms.specs.Variables.{counted_from}
use Rattle.spec_terms.proofs.Substitution.{apply-identity, apply_agree, occurs_from}
use Rattle.spec_syntax.specs.Trees.{Tree}
use Rattle.spec_branch.specs.Expressions.{form_of, has_zero_divisor, is_zero_form, unary_name, unary_of, binary_name, binary_of, variable_under}
use Rattle.spec_branch.specs.Relations.{Lin, Waits, False, lin, relation_name, related_forms, row_of}
use Rattle.spec_branch.specs.Branch.{State, Item, Sleeper, Settled, no_work, read}
use Rattle.spec_branch.specs.Alike.{no_values}
use Rattle.spec_branch.specs.Closure.{IsMove, Moves, no_move, IsClosure}
use Rattle.spec_branch.specs.Settling.{is_the_variable, is_bound, newly_bound, binding_equation, numeric_after, fixed_values, value_or_variable, bindings_after, NoClash, SleeperState, Sleeps, Wakes, state_of, still_sleeps, woken_item, woken, left_asleep, Settling, Settles, unified, kept, Kept, kept_branch}
use Rattle.spec_branch.proofs.Waiting.{one_map}
use Rattle.spec_search.specs.Search.{settled}
use Rattle.cq_settle.specs.Rest.{IsAtRest}

-- ---- a told term depends on the values of its own variables alone

module _ (f g : ℕ → Option ℚ) where
  form_agrees : (t : Tree) → ((v : ℕ) → Occurs v t → f v ≡ g v) → form_of f t ≡ form_of g t
  form_agrees (Var x) h = ap (λ (o : Option ℚ). Some (variable_under o x)) (h x refl)
  form_agrees (Number q) h = refl
  form_agrees (Name a) h = refl
  form_agrees (Compound n (one a)) h = ap (unary_of (unary_name n)) (form_agrees a h)
  form_agrees (Compound n (more a (one b))) h =
      ap₂ (λ x y. binary_of (binary_name n) x y) (form_agrees a (λ v o. h v (inl o))) (form_agrees b (λ v o. h v (inr o)))
  form_agrees (Compound n (more a (more b ts))) h = refl

  divisor_agrees : (t : Tree) → ((v : ℕ) → Occurs v t → f v ≡ g v) → has_zero_divisor f t ≡ has_zero_divisor g t
  divisor_agrees (Var x) h = refl
  divisor_agrees (Number q) h = refl
  divisor_agrees (Name a) h = refl
  divisor_agrees (Compound n (one a)) h = divisor_agrees a h
  divisor_agrees (Compound n (more a (one b))) h =
      ap₂ (λ x (y : Option Linear). x || (bytes_eq n (codes "/") && is_zero_form y))
      (ap₂ (λ x y. x || y) (divisor_agrees a (λ v o. h v (inl o))) (divisor_agrees b (λ v o. h v (inr o)))) (form_agrees b (λ v o. h v (inr o)))
  divisor_agrees (Compound n (more a (more b ts))) h = refl

  told_agrees : (t : Tree) → ((v : ℕ) → Occurs v t → f v ≡ g v) → lin f t ≡ lin g t
  told_agrees (Var x) h = refl
  told_agrees (Number q) h = refl
  told_agrees (Name a) h = refl
  told_agrees (Compound n (one a)) h = refl
  told_agrees (Compound n (more a (one b))) h =
      let left : (v : ℕ) → Occurs v a → f v ≡ g v = λ v o. h v (inl o) in
      let right : (v : ℕ) → Occurs v b → f v ≡ g v = λ v o. h v (inr o) in
      ap₂ (λ (z : Bool) (r : Lin Constraint). if z then False else r)
      (ap₂ (λ x y. x || y) (divisor_agrees a left) (divisor_agrees b right))
      (ap₂ (λ x y. related_forms (relation_name n) x y) (form_agrees a left) (form_agrees b right))
  told_agrees (Compound n (more a (more b ts))) h = refl

-- ---- lists

among : (P : Tree → Type 0) (before : List Tree) (t : Tree) (after ts : List Tree) → ts ≡ before ++ t ∷ after → AllByRecursion P ts → P t
among P before t after ts e h = go before (subst (AllByRecursion P) e h) where
  go : (front : List Tree) → AllByRecursion P (front ++ t ∷ after) → P t
  go [] a = a.0
  go (x ∷ front) a = go front a.1

and_false : (a b : Bool) → (a && b && false) ≡ false
and_false true true = refl
and_false true false = refl
and_false false b = refl

or_false : (a : Bool) → (a || false || false) ≡ a
or_false true = refl
or_false false = refl

-- ---- sleepers

not_woken : (x : SleeperState) → still_sleeps x ≡ true → woken_item x ≡ None
not_woken Sleeps e = refl
not_woken (Wakes g) e = cc

none_wakes : (s : Subst Text) (ks : List Sleeper) → AllByRecursion (λ k. still_sleeps (state_of s k.asleep) ≡ true) ks → woken s ks ≡ []
none_wakes s [] a = refl
none_wakes s (k ∷ ks) a = rw (not_woken (state_of s k.asleep) a.0) (none_wakes s ks a.1)

all_asleep : (s : Subst Text) (ks : List Sleeper) → AllByRecursion (λ k. still_sleeps (state_of s k.asleep) ≡ true) ks → left_asleep s ks ≡ ks
all_asleep s [] a = refl
all_asleep s (k ∷ ks) a = rw a.0 (ap (λ l. k ∷ l) (all_asleep s ks a.1))

-- ---- settling

module _ (st : State) (rest : IsAtRest st) (fixed : ℕ → Option ℚ) (fixes : Fixes st.linear fixed) where
  same : followed_by st.bindings identity ≡ st.bindings
  same = λ i v. apply-identity (st.bindings v) i

  is_unifier : IsUnifier (read_under st.bindings no_work.equations) identity
  is_unifier = record { unifies = tt; general = λ r e v. refl; oldest = λ v w e. let h : v ≡ w = cc in omega (arith, h) }

  not_new : (v : ℕ) → (st.numeric v && not (is_bound st.bindings v) && is_bound identity v) ≡ false
  not_new v = ap (λ b. st.numeric v && not (is_bound st.bindings v) && not b) (nat_eq-self v) ∙ and_false (st.numeric v) (not (is_bound st.bindings v))

  none_new : (vs : List ℕ) → filter (λ v. st.numeric v && not (is_bound st.bindings v) && is_bound identity v) vs ≡ []
  none_new [] = refl
  none_new (v ∷ vs) = rw (not_new v) (none_new vs)

  no_equations : (s : Subst Text) (vs : List ℕ) → vs ≡ [] → IsPermutation [] (map (binding_equation s) vs)
  no_equations s vs e = record { moves = []; below = tt; is = ap (λ (ws : List ℕ). map (binding_equation s) ws) e }

  abbrev numeric : ℕ → Bool
  numeric = numeric_after st identity (followed_by st.bindings identity) []

  same_numeric : numeric ≡ st.numeric
  same_numeric = λ i v. at_each v i where
    at_each : (v : ℕ) → numeric v ≡ st.numeric v
    at_each v = rw (none_new (counted_from 0 st.fresh)) (or_false (st.numeric v))

  not_fixed : (v : ℕ) → st.bindings v ≡ Var v → st.numeric v ≡ true → fixed v ≡ None
  not_fixed v unbound n = go (fixed v) refl where
    go : (o : Option ℚ) → fixed v ≡ o → o ≡ None
    go None e = refl
    go (Some q) e =
        let bound : is_bound st.bindings v ≡ true = rest.fixed v q n (fixes.sound v q e) in
        let free : is_bound st.bindings v ≡ false = ap (λ t. not (is_the_variable v t)) unbound ∙ ap not (nat_eq-self v) in
        let c : true ≡ false = sym bound ∙ free in
        cc

  value_stays : (v : ℕ) → st.bindings v ≡ Var v → fixed_values st.numeric fixed v ≡ Var v
  value_stays v unbound = go (st.numeric v) refl where
    go : (b : Bool) → st.numeric v ≡ b → (if b then value_or_variable (fixed v) v else Var v) ≡ Var v
    go true n = ap (λ (o : Option ℚ). value_or_variable o v) (not_fixed v unbound n)
    go false n = refl

  same_bindings : bindings_after st no_work identity fixed ≡ st.bindings
  same_bindings = λ i v. at_each v i where
    at_each : (v : ℕ) → bindings_after st no_work identity fixed v ≡ st.bindings v
    at_each v =
        ap (λ (n : ℕ → Bool). apply (fixed_values n fixed) (followed_by st.bindings identity v)) same_numeric
        ∙ ap (λ (s : Subst Text). apply (fixed_values st.numeric fixed) (s v)) same
        ∙ apply_agree (fixed_values st.numeric fixed) identity (st.bindings v) (λ w o. value_stays w (rest.read_through.through v w o))
        ∙ apply-identity (st.bindings v)

  unbound_inside : (t : Tree) (v : ℕ) → Occurs v (read st t) → st.bindings v ≡ Var v
  unbound_inside t v o = let r = occurs_from st.bindings v t o in rest.read_through.through r.0 v r.2

  -- a delayed constraint waits under the values that are fixed, too
  still_waits : (before : List Tree) (t : Tree) (after : List Tree) → st.delayed ≡ before ++ t ∷ after → lin fixed (read st t) ≡ Waits
  still_waits before t after e =
      told_agrees fixed no_values (read st t) (λ v o. not_fixed v (unbound_inside t v o) (among _ before t after st.delayed e rest.delayed v o))
      ∙ among _ before t after st.delayed e rest.waiting

  no_more_moves : (m : List Constraint) (x : List Tree) → IsMove st.bindings st.linear st.delayed m x → ⊥
  no_more_moves m x k =
      let e : k.is_lin.fixed ≡ fixed = one_map st.linear st.linear k.is_lin.fixed fixed (λ p. (λ h. h, λ h. h)) k.is_lin.fixes fixes in
      let r : k.result ≡ Waits = sym k.is_lin.is ∙ ap (λ (g : ℕ → Option ℚ). lin g (read st k.term)) e ∙ still_waits k.before k.term k.after k.among in
      let n : None ≡ Some k.row = ap (λ (z : Lin Constraint). row_of z) (sym r) ∙ k.row_is in
      cc

  is_closed : IsClosure st.bindings (st.linear ++ [] ++ []) (st.delayed ++ []) st.linear st.delayed
  is_closed = record {
    moves = subst (λ l. Moves st.bindings l (st.delayed ++ []) st.linear st.delayed) (sym (append-nil (st.linear ++ []) ∙ append-nil st.linear))
        (subst (λ w. Moves st.bindings st.linear w st.linear st.delayed) (sym (append-nil st.delayed)) no_move);
    closed = no_more_moves;
  }

  abbrev settling : Settling st no_work identity
  settling = record {
    equations = [];
    each_newly_bound = no_equations (followed_by st.bindings identity) (newly_bound st identity) (none_new (counted_from 0 st.fresh));
    linear = st.linear;
    waiting = st.delayed;
    closure = subst (λ s. IsClosure s (st.linear ++ [] ++ []) (st.delayed ++ []) st.linear st.delayed) (sym same) is_closed;
  }

  same_items : (items : List Item) → woken (bindings_after st no_work identity fixed) st.sleepers ++ items ≡ items
  same_items items = ap (λ s. woken s st.sleepers ++ items) same_bindings ∙ ap (λ l. l ++ items) (none_wakes st.bindings st.sleepers rest.asleep)

  same_sleepers : left_asleep (bindings_after st no_work identity fixed) st.sleepers ≡ st.sleepers
  same_sleepers = ap (λ s. left_asleep s st.sleepers) same_bindings ∙ all_asleep st.bindings st.sleepers rest.asleep

  same_branch : (items : List Item) → kept_branch items st no_work identity st.linear st.delayed fixed ≡ settled items st
  same_branch items = λ i. record {
    items = same_items items i;
    state = record st { bindings = same_bindings i; numeric = same_numeric i; sleepers = same_sleepers i };
    phase = Settled;
  }

  pub settles_as_it_is : (items : List Item) → Settles items st no_work (Kept (settled items st))
  settles_as_it_is items =
      subst (λ b. Settles items st no_work (Kept b)) (same_branch items)
      (unified identity is_unifier (kept (subst (NoClash st) (sym same) rest.no_clash) settling rest.solvable fixed fixes))
