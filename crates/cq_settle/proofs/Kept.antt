-- Once nothing is left to do and the goals woke, the world is the branch that is kept.
use Rattle.std.proofs.Common.{◌≡◌, ◌<◌, ℕ, List, [], ◌∷◌, map, length, Bool, true, false, cond, Option, None, Some, refl, sym, ap, ◌∙◌, subst}
use Rattle.std.specs.Prelude.{Contains, All, ◌&&◌, not, filter, is_some, if◌then◌else◌}
use Rattle.std.specs.List.{AllByRecursion, AllZip, filter_map, cons_option}
use Rattle.spec_numbers.specs.Rational.{ℚ}
use Rattle.spec_linear.specs.Solution.{Solvable, Fixes}
use Rattle.spec_numbers.specs.Texts.{Text}
use Rattle.spec_terms.specs.Term.{Subst, Var, Number, Name, Compound, apply}
use Rattle.spec_terms.proofs.Substitution.{apply-followed_by}
use Rattle.spec_syntax.specs.Trees.{Tree}
use Rattle.spec_builtins.specs.Kinds.{is_variable}
use Rattle.spec_branch.specs.Branch.{State, Pending, Asleep, Frozen, Sleeper}
use Rattle.spec_branch.specs.Settling.{is_bound, frozen_state, still_sleeps, state_of, left_asleep, bindings_after, kept_branch, value_or_variable}
use Rattle.cq_term.specs.Texts.{text_of}
use Rattle.cq_attr.specs.Attributes.{Waiting, Attributes}
use Rattle.cq_attr.specs.declared.susp.Susp.{Susp}
use Rattle.cq_attr.specs.declared.susp.Susp.TheVariants as susp
use Rattle.cq_frac.specs.declared.VarId.{VarId}
use Rattle.cq_term.specs.Meaning.{HeapTerm, at}
use Rattle.cq_term.specs.Trees.{tree}
use Rattle.cq_settle.specs.Contents.{Contents}
use Rattle.cq_settle.specs.Standing.{goals, constraints, is_goal, is_constraint, IsAwaited, IsSleeper, AreRead, Stands}
use Rattle.cq_settle.specs.Settled.{IsKept, woken_goal, woken_goals}
use Rattle.cq_settle.specs.Steps.{WakesAll, is_unbound_term, goal_that_wakes, waits_for_one}
use Rattle.cq_settle.specs.Underway.{IsUnderway, unified, valued, bindings_now}
use Rattle.cq_settle.proofs.Closed.{same_bindings, settles}
use Rattle.cq_settle.proofs.Resting.{rests}
use Rattle.std.proofs.lemmas.List.Elements.{All-from_recursion}
use Rattle.cq_settle.proofs.Numeric.{variable_bound}
use Rattle.cq_settle.proofs.Zips.{zip_right}
use Rattle.cq_settle.proofs.Woken.{stays, constraints_stay, filters_commute, zip_filter, zip_both, zip_so, waits_for_it, named_variable, sleeps_variable, sleeping_variable}

module _ (texts : List Text) (older : List HeapTerm) (c : Contents) (st : State) (p : Pending) (u : Subst Text) (values : ℕ → Option ℚ) (waiting : List Tree) (all : List ℕ)
    (k : IsUnderway texts older c st p u values waiting [] [] [] [] all) (solvable : Solvable c.told) (fixed : ℕ → Option ℚ) (fixes : Fixes c.told fixed) where
  abbrev now : Subst Text
  now = bindings_now st u values

  abbrev after : Subst Text
  after = bindings_after st p u fixed

  pub same : now ≡ after
  same = λ i v. same_bindings texts older c st p u values waiting all k solvable fixed fixes v i

  -- what a sleeper waits for, before
  abbrev Awaits : Waiting → Asleep → Type 0
  Awaits w x = (v : ℕ) → IsAwaited st.bindings v x → Contains w.watched v × (is_bound u v ≡ true → Contains all v)

  by_value : (x : ℕ) (o : Option ℚ) → values x ≡ o → is_variable (value_or_variable o x) ≡ false → Contains all x
  by_value x None e h = cc
  by_value x (Some q) e h = k.here.all_values x q e

  by_binding : (x : ℕ) (b : Bool) → is_bound u x ≡ b → (is_bound u x ≡ true → Contains all x) → is_variable (apply (valued values) (u x)) ≡ false → Contains all x
  by_binding x true e f h = f e
  by_binding x false e f h = by_value x (values x) refl (ap (λ (t : Tree). is_variable (apply (valued values) t)) (sym (variable_bound x (u x) e)) ∙ h)

  -- the sleeper's term as it reads now
  reads_now : (x : ℕ) (y : Tree) → apply st.bindings y ≡ Var x → apply now y ≡ apply (valued values) (u x)
  reads_now x y e =
      apply-followed_by (unified st u) (valued values) y
      ∙ ap (apply (valued values)) (apply-followed_by st.bindings u y ∙ ap (apply u) e)

  was_bound : (x : ℕ) (y : Tree) → apply st.bindings y ≡ Var x → is_variable (apply now y) ≡ false → (is_bound u x ≡ true → Contains all x) → Contains all x
  was_bound x y e h f = by_binding x (is_bound u x) refl f (ap is_variable (sym (reads_now x y e)) ∙ h)

  one_by : (w : Waiting) (v : VarId) (id : ℕ) (y g : Tree) (b : Bool) → w.susp ≡ susp.Goal v id → tree texts c.heap.images v.0 ≡ apply now y
      → is_unbound_term (at c.heap.images v.0) ≡ b → Awaits w (Frozen y g) → still_sleeps (state_of st.bindings (Frozen y g)) ≡ true
      → stays c.heap.images all w ≡ still_sleeps (state_of after (Frozen y g))
  one_by w v id y g true e r i f z =
      ap (λ (s : Susp). not (waits_for_one all w && is_some (goal_that_wakes c.heap.images s))) e
      ∙ ap (λ (d : Bool). not (waits_for_one all w && is_some (if d then None else Some id))) i
      ∙ never (waits_for_one all w)
      ∙ sym (sleeps_variable (apply after y) g ∙ ap (λ (s : Subst Text). is_variable (apply s y)) (sym same) ∙ ap is_variable (sym r) ∙ named_variable (text_of texts) (at c.heap.images v.0) ∙ i) where
        never : (d : Bool) → not (d && false) ≡ true
        never true = refl
        never false = refl
  one_by w v id y g false e r i f z =
      let no_variable : is_variable (apply now y) ≡ false = ap is_variable (sym r) ∙ named_variable (text_of texts) (at c.heap.images v.0) ∙ i in
      let x = sleeping_variable (apply st.bindings y) g z in
      let waits : waits_for_one all w ≡ true = waits_for_it all w x.0 (was_bound x.0 y x.1 no_variable (f x.0 x.1).1) (f x.0 x.1).0 in
      ap (λ (s : Susp). not (waits_for_one all w && is_some (goal_that_wakes c.heap.images s))) e
      ∙ ap (λ (d : Bool). not (waits_for_one all w && is_some (if d then None else Some id))) i
      ∙ ap (λ (d : Bool). not (d && true)) waits
      ∙ sym (sleeps_variable (apply after y) g ∙ ap (λ (s : Subst Text). is_variable (apply s y)) (sym same) ∙ no_variable)

  one_of : (w : Waiting) (v : VarId) (id : ℕ) (x : Asleep) → w.susp ≡ susp.Goal v id → AreRead texts c.heap now v id x → Awaits w x
      → still_sleeps (state_of st.bindings x) ≡ true → stays c.heap.images all w ≡ still_sleeps (state_of after x)
  one_of w v id (Frozen y g) e r f z = one_by w v id y g (is_unbound_term (at c.heap.images v.0)) e r.0 refl f z

  abbrev Pair : Waiting → Sleeper → Type 0
  Pair w z = (IsSleeper texts c.heap now now w z × Awaits w z.asleep) × (still_sleeps (state_of st.bindings z.asleep) ≡ true)

  one : (w : Waiting) (z : Sleeper) → Pair w z → stays c.heap.images all w ≡ still_sleeps (state_of after z.asleep)
  one w z r = one_of w r.0.0.variable r.0.0.id z.asleep r.0.0.susp r.0.0.reads r.0.1 r.1

  pairs : AllZip Pair (goals c.attrs) st.sleepers
  pairs = zip_right _ (λ (z : Sleeper). still_sleeps (state_of st.bindings z.asleep) ≡ true) (goals c.attrs) st.sleepers
      (zip_both (IsSleeper texts c.heap now now) (λ (w : Waiting) (z : Sleeper). Awaits w z.asleep) (goals c.attrs) st.sleepers k.here.stands.sleepers k.here.awaited) k.here.task.rests.asleep

  -- those that go on sleeping are those of the branch
  pub asleep : AllZip (IsSleeper texts c.heap now now) (filter (stays c.heap.images all) (goals c.attrs)) (left_asleep after st.sleepers)
  asleep = zip_so Pair (IsSleeper texts c.heap now now) (λ w z r. r.0.0) (filter (stays c.heap.images all) (goals c.attrs)) (left_asleep after st.sleepers)
      (zip_filter Pair (stays c.heap.images all) (λ (z : Sleeper). still_sleeps (state_of after z.asleep)) one (goals c.attrs) st.sleepers pairs)

  -- ---- the goals that wake

  abbrev wakes_now : Waiting → Option ℕ
  wakes_now w = if waits_for_one all w then goal_that_wakes c.heap.images w.susp else None

  abbrev wakes_there : Sleeper → Option Tree
  wakes_there z = woken_goal (state_of after z.asleep)

  -- both wake or neither
  pub data WakesAlike : Option ℕ → Option Tree → Type 0 where
    neither : WakesAlike None None
    both : (id : ℕ) (g : Tree) → id < length c.heap.terms → tree texts c.heap.terms id ≡ apply after g → WakesAlike (Some id) (Some g)

  goal_of_sleep : (t g : Tree) → is_variable t ≡ true → woken_goal (frozen_state t g) ≡ None
  goal_of_sleep (Var v) g e = refl
  goal_of_sleep (Number q) g e = cc
  goal_of_sleep (Name a) g e = cc
  goal_of_sleep (Compound f ts) g e = cc

  goal_of_wake : (t g : Tree) → is_variable t ≡ false → woken_goal (frozen_state t g) ≡ Some g
  goal_of_wake (Var v) g e = cc
  goal_of_wake (Number q) g e = refl
  goal_of_wake (Name a) g e = refl
  goal_of_wake (Compound f ts) g e = refl

  alike_by : (w : Waiting) (v : VarId) (id : ℕ) (y g : Tree) (b : Bool) → w.susp ≡ susp.Goal v id → id < length c.heap.terms → tree texts c.heap.images v.0 ≡ apply now y
      → tree texts c.heap.terms id ≡ apply now g → is_unbound_term (at c.heap.images v.0) ≡ b → Awaits w (Frozen y g) → still_sleeps (state_of st.bindings (Frozen y g)) ≡ true
      → WakesAlike (wakes_now w) (woken_goal (state_of after (Frozen y g)))
  alike_by w v id y g true e l r q i f z =
      let there : woken_goal (state_of after (Frozen y g)) ≡ None = goal_of_sleep (apply after y) g
      (ap (λ (s : Subst Text). is_variable (apply s y)) (sym same) ∙ ap is_variable (sym r) ∙ named_variable (text_of texts) (at c.heap.images v.0) ∙ i) in
      let here : wakes_now w ≡ None =
      ap (λ (s : Susp). if waits_for_one all w then goal_that_wakes c.heap.images s else None) e
      ∙ ap (λ (d : Bool). if waits_for_one all w then (if d then None else Some id) else None) i ∙ none (waits_for_one all w) in
      subst (λ (o : Option ℕ). WakesAlike o (woken_goal (state_of after (Frozen y g)))) (sym here) (subst (λ (o : Option Tree). WakesAlike None o) (sym there) neither) where
        none : (d : Bool) → (if d then (if true then None else Some id) else None) ≡ None
        none true = refl
        none false = refl
  alike_by w v id y g false e l r q i f z =
      let no_variable : is_variable (apply now y) ≡ false = ap is_variable (sym r) ∙ named_variable (text_of texts) (at c.heap.images v.0) ∙ i in
      let x = sleeping_variable (apply st.bindings y) g z in
      let waits : waits_for_one all w ≡ true = waits_for_it all w x.0 (was_bound x.0 y x.1 no_variable (f x.0 x.1).1) (f x.0 x.1).0 in
      let there : woken_goal (state_of after (Frozen y g)) ≡ Some g = goal_of_wake (apply after y) g (ap (λ (s : Subst Text). is_variable (apply s y)) (sym same) ∙ no_variable) in
      let here : wakes_now w ≡ Some id =
      ap (λ (s : Susp). if waits_for_one all w then goal_that_wakes c.heap.images s else None) e
      ∙ ap (λ (d : Bool). if waits_for_one all w then (if d then None else Some id) else None) i
      ∙ ap (λ (d : Bool). if d then Some id else None) waits in
      subst (λ (o : Option ℕ). WakesAlike o (woken_goal (state_of after (Frozen y g)))) (sym here)
      (subst (λ (o : Option Tree). WakesAlike (Some id) o) (sym there) (both id g l (q ∙ ap (λ (s : Subst Text). apply s g) same)))

  alike_of : (w : Waiting) (v : VarId) (id : ℕ) (x : Asleep) → w.susp ≡ susp.Goal v id → id < length c.heap.terms → AreRead texts c.heap now v id x → Awaits w x
      → still_sleeps (state_of st.bindings x) ≡ true → WakesAlike (wakes_now w) (woken_goal (state_of after x))
  alike_of w v id (Frozen y g) e l r f z = alike_by w v id y g (is_unbound_term (at c.heap.images v.0)) e l r.0 r.1 refl f z

  alike : (w : Waiting) (z : Sleeper) → Pair w z → WakesAlike (wakes_now w) (wakes_there z)
  alike w z r = alike_of w r.0.0.variable r.0.0.id z.asleep r.0.0.susp r.0.0.live r.0.0.reads r.0.1 r.1

  -- the ids are of these goals, and there
  pub record AreGoals (ids : List ℕ) (gs : List Tree) : Type 0 where
    pub live : AllByRecursion (λ id. id < length c.heap.terms) ids
    pub read : map (tree texts c.heap.terms) ids ≡ map (apply after) gs

  one_goal : (o : Option ℕ) (r : Option Tree) (ids : List ℕ) (gs : List Tree) → WakesAlike o r → AreGoals ids gs → AreGoals (cons_option o ids) (cons_option r gs)
  one_goal _ _ ids gs neither h = h
  one_goal _ _ ids gs (both id g l e) h = record { live = (l, h.live); read = λ i. e i ∷ h.read i }

  pub all_goals : (ws : List Waiting) (zs : List Sleeper) → AllZip Pair ws zs → AreGoals (filter_map wakes_now ws) (filter_map wakes_there zs)
  all_goals [] [] z = record { live = tt; read = refl }
  all_goals [] (y ∷ zs) z = absurd z
  all_goals (x ∷ ws) [] z = absurd z
  all_goals (x ∷ ws) (y ∷ zs) z = one_goal (wakes_now x) (wakes_there y) (filter_map wakes_now ws) (filter_map wakes_there zs) (alike x y z.0) (all_goals ws zs z.1)

  no_goal : (w : Waiting) (s : Susp) → w.susp ≡ s → is_goal s ≡ false → wakes_now w ≡ None
  no_goal w (susp.Delayed t) e h = ap (λ (x : Susp). if waits_for_one all w then goal_that_wakes c.heap.images x else None) e ∙ never (waits_for_one all w) where
    never : (d : Bool) → (if d then goal_that_wakes c.heap.images (susp.Delayed t) else None) ≡ None
    never true = refl
    never false = refl
  no_goal w (susp.Goal v t) e h = cc

  among_goals : (w : Waiting) (ids : List ℕ) (ws : List Waiting) (b : Bool) → is_goal w.susp ≡ b → cons_option (wakes_now w) (filter_map wakes_now ws) ≡ filter_map wakes_now (cond b (w ∷ ws) ws)
  among_goals w ids ws true e = refl
  among_goals w ids ws false e = ap (λ (o : Option ℕ). cons_option o (filter_map wakes_now ws)) (no_goal w w.susp refl e)

  pub only_goals : (ws : List Waiting) → filter_map wakes_now ws ≡ filter_map wakes_now (filter (λ w. is_goal w.susp) ws)
  only_goals [] = refl
  only_goals (w ∷ ws) = ap (λ (ids : List ℕ). cons_option (wakes_now w) ids) (only_goals ws) ∙ among_goals w [] (filter (λ w. is_goal w.susp) ws) (is_goal w.susp) refl

  module _ (a : Attributes) (woken : List ℕ) (w : WakesAll c all a woken) where
    goals_left : goals a ≡ filter (stays c.heap.images all) (goals c.attrs)
    goals_left = ap (filter (λ (x : Waiting). is_goal x.susp)) w.waiting ∙ filters_commute (λ (x : Waiting). is_goal x.susp) (stays c.heap.images all) c.attrs.waiting

    constraints_left : constraints a ≡ constraints c.attrs
    constraints_left = ap (filter (λ (x : Waiting). is_constraint x.susp)) w.waiting ∙ constraints_stay c.heap.images all c.attrs.waiting

    abbrev pub final : Contents
    final = record c { attrs = a }

    pub stands_now : Stands texts final now now (record (kept_branch [] st p u c.told waiting fixed).state { bindings = now })
    stands_now = record {
      bindings = k.here.stands.bindings;
      linear = k.here.stands.linear;
      delayed = rw constraints_left k.here.stands.delayed;
      numeric = λ v. ap (λ (ns : List ℕ). Rattle.std.specs.List.list_any (λ (x : ℕ). Rattle.std.specs.Prelude.nat_eq x v) ns) w.numeric ∙ k.here.stands.numeric v;
      sleepers = rw goals_left asleep;
      fresh = k.here.stands.fresh;
      names = k.here.stands.names;
    }

    pub stands_after : Stands texts final after after (kept_branch [] st p u c.told waiting fixed).state
    stands_after = subst (λ (s : Subst Text). Stands texts final s s (record (kept_branch [] st p u c.told waiting fixed).state { bindings = s })) same stands_now

    goals_are : AreGoals woken (woken_goals after st.sleepers)
    goals_are = subst (λ (ids : List ℕ). AreGoals ids (woken_goals after st.sleepers)) (sym (w.given ∙ only_goals c.attrs.waiting)) (all_goals (goals c.attrs) st.sleepers pairs)

    reads : (id : ℕ) (t : Tree) → id < length older → tree texts older id ≡ apply (unified st u) t → tree texts c.heap.terms id ≡ apply after t
    reads id t l e =
        k.here.older_read id l ∙ ap (apply (valued values)) e ∙ sym (apply-followed_by (unified st u) (valued values) t) ∙ ap (λ (s : Subst Text). apply s t) same

    pub is_kept : (old : Contents) → old.heap.terms ≡ older → IsKept texts old final woken st p u
    is_kept old e = record {
      linear = c.told;
      waiting = waiting;
      fixed = fixed;
      settles = settles texts older c st p u values waiting all k solvable fixed fixes;
      ready = record { stands = stands_after; rests = rests texts older c st p u values waiting all k solvable fixed fixes };
      live = rw e k.here.older_live;
      reads = rw e reads;
      goals_live = All-from_recursion (λ id. id < length c.heap.terms) woken goals_are.live;
      woken = goals_are.read;
    }
