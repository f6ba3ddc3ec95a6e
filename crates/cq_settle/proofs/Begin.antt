-- All equations and rows have joined, and values are bound: the settling is underway.
use Rattle.std.proofs.Common.{◌≡◌, ◌≢◌, ◌<◌, ◌≤◌, ℕ, zero, suc, List, [], ◌∷◌, ◌++◌, map, length, Bool, true, false, cond, Option, None, Some, refl, sym, ap, ap₂, ◌∙◌, subst, inl, inr, ◌⊎◌, arith, ◌||◌, append_assoc}
use Rattle.std.specs.Prelude.{Contains, All, ◌==◌}
use Rattle.std.specs.List.{AllByRecursion, AllZip, list_any}
use Rattle.std.proofs.lemmas.Bool.{true≢false}
use Rattle.std.specs.Cmp.{both_ways}
use Rattle.std.proofs.lemmas.List.Elements.{All-contains, All-head, All-tail, Contains-append_left, Contains-append_right}
use Rattle.spec_numbers.specs.Rational.{ℚ}
use Rattle.spec_linear.specs.Solution.{Constraint, Has, Fixed}
use Rattle.spec_numbers.specs.Texts.{Text}
use Rattle.spec_numbers.proofs.Tests.{one_is, or_right, nat_eq-self, nat_eq-same}
use Rattle.spec_terms.specs.Term.{Subst, Var, Number, Name, Compound, Occurs, apply, named}
use Rattle.spec_terms.specs.Variables.{variables}
use Rattle.spec_terms.proofs.Listed.{occurs_listed, listed_occurs}
use Rattle.spec_terms.proofs.Substitution.{apply-followed_by, apply-identity, apply_agree, occurs_from}
use Rattle.spec_syntax.specs.Trees.{Tree}
use Rattle.spec_branch.specs.Relations.{Waits, lin}
use Rattle.spec_branch.specs.Alike.{no_values}
use Rattle.spec_branch.specs.Branch.{State, Pending, Asleep, Frozen, Sleeper}
use Rattle.spec_branch.specs.Closure.{Moves, no_move}
use Rattle.spec_branch.specs.Settling.{is_bound, is_no_number, NoClash, newly_bound, stands_in}
use Rattle.spec_branch.specs.Settling as definitions
use Rattle.cq_term.specs.Texts.{text_of}
use Rattle.cq_attr.specs.Attributes.{Waiting, is_numeric}
use Rattle.cq_attr.proofs.Elements.{any_of_map}
use Rattle.cq_frac.specs.declared.VarId.{VarId}
use Rattle.cq_term.specs.Meaning.{HeapTerm, at}
use Rattle.cq_term.specs.Shown.{IsUnbound}
use Rattle.cq_term.specs.Trees.{tree, trees}
use Rattle.cq_term.specs.Places.{numbers_of}
use Rattle.cq_settle.specs.Contents.{Contents}
use Rattle.cq_settle.specs.Standing.{IsConstraint, IsSleeper, IsAwaited, AreRead, Stands, constraints, goals, is_constraint, is_goal}
use Rattle.cq_settle.specs.Called.{IsCalled, IsNewlyBound}
use Rattle.cq_settle.specs.Steps.{ClashesAt, WaitsOn, BindsValues, equations_of, numeric_ones, is_image_of, is_the_variable}
use Rattle.cq_settle.specs.Underway.{IsTask, AreBound, Awaits, IsReached, IsHere, IsUnderway, WaitsOrToDo, unified, numeric_then, bindings_now, state_then}
use Rattle.cq_settle.proofs.Binding.{none}
use Rattle.cq_settle.proofs.Further.{unnamed}
use Rattle.cq_settle.proofs.Numeric.{found_any, any_found, contains_of_has, numeric_below, numeric_image, variable_bound}
use Rattle.cq_settle.proofs.Progress.{bind_on}
use Rattle.cq_settle.proofs.Start.{no_clash, image_is, unified_unbound, newly_there, newly_numeric, newly_listed, each_newly_bound, occurs_named, variables_named, unbound_value}
use Rattle.cq_settle.proofs.Joined.{numbers_behind}
use Rattle.cq_settle.proofs.Looked.{has_of_contains}
use Rattle.cq_settle.proofs.Woken.{zip_filter}
use Rattle.cq_settle.proofs.Zips.{zip_across, zip_left, zip_right, all_append, contains_unfiltered}

-- the world once all equations and rows have joined, before any value is bound
pub record HasBegun (c d : Contents) (newly : List VarId) (told : List ℕ) (rows : List Constraint) (fixed : List ℕ) : Type 0 where
  pub heap : d.heap ≡ c.heap
  pub waiting : AllZip (WaitsOn c.heap.images (numbers_of newly)) c.attrs.waiting d.attrs.waiting
  pub numeric : (v : ℕ) → is_numeric d.attrs v ≡ (is_numeric c.attrs v || is_image_of c.heap.images (numeric_ones c.attrs newly) v
      || list_any (λ id. list_any (λ w. w == v) (variables (at c.heap.terms id))) told)
  pub list : d.told ≡ c.told ++ (equations_of c newly ++ rows)
  pub newly_fixed : (v : ℕ) (q : ℚ) → Fixed d.told v q → ((r : ℚ) → Fixed c.told v r → ⊥) → Contains fixed v
  pub images : (v : ℕ) → is_image_of c.heap.images (numeric_ones c.attrs newly) v ≡ true → Contains fixed v
  pub in_told : All (λ id. All (Contains fixed) (variables (at c.heap.terms id))) told
  pub unbound : All (λ id. All (IsUnbound c.heap.images) (variables (at c.heap.terms id))) told

below_or : (v n : ℕ) → (v < n) ⊎ (n ≤ v)
below_or v zero = inr (omega arith)
below_or zero (suc n) = inl (omega arith)
below_or (suc v) (suc n) = elim (below_or v n) [ inl l ↦ inl (omega (arith, l)) | inr l ↦ inr (omega (arith, l)) ]

module _ (texts : List Text) (c : Contents) (newly : List VarId) (told : List ℕ) (rows : List Constraint) (st : State) (p : Pending) (u : Subst Text)
    (k : IsCalled texts c newly told rows st p u) (free : All (λ (v : VarId). ClashesAt c v.0 → ⊥) newly) (d : Contents) (fixed : List ℕ)
    (b : HasBegun c d newly told rows fixed) where
  abbrev s : Subst Text
  s = unified st u

  -- ---- what is told

  told_variables : (ids : List ℕ) (ts : List Tree) → trees texts c.heap.terms ids ≡ map (apply s) ts → All (λ id. All (IsUnbound c.heap.images) (variables (at c.heap.terms id))) ids
      → AllByRecursion (λ t. (v : ℕ) → Occurs v (apply s t) → v < st.fresh) ts
  told_variables [] [] e h = tt
  told_variables [] (t ∷ ts) e h = cc
  told_variables (i ∷ ids) [] e h = cc
  told_variables (i ∷ ids) (t ∷ ts) e h = (
    (λ v o. let r : tree texts c.heap.terms i ≡ apply s t = cc in
        let n : Occurs v (at c.heap.terms i) = occurs_named (text_of texts) v (at c.heap.terms i) (subst (λ (x : Tree). Occurs v x) (sym r) o) in
        let w = All-contains (IsUnbound c.heap.images) (variables (at c.heap.terms i)) v (All-head (λ id. All (IsUnbound c.heap.images) (variables (at c.heap.terms id))) i ids h)
        (occurs_listed (at c.heap.terms i) v n) in
        subst (λ (n : ℕ). v < n) k.stands.fresh w.0),
    told_variables ids ts (ap (Rattle.std.proofs.Common.drop 1) e) (All-tail (λ id. All (IsUnbound c.heap.images) (variables (at c.heap.terms id))) i ids h),
  )

  pub task : IsTask st p u
  task = record {
    rests = k.rests;
    unifier = k.unifier;
    read_through = k.read_through;
    no_clash = no_clash texts c newly told rows st p u k free;
    told_below = told_variables told p.told k.told_reads b.unbound;
  }

  -- ---- the numeric variables

  image_there : (v : ℕ) → is_image_of c.heap.images (numeric_ones c.attrs newly) v ≡ true → list_any (λ w. definitions.is_the_variable v (s w)) (newly_bound st u) ≡ true
  image_there v e =
      let r = found_any (λ w. is_the_variable v (at c.heap.images w)) (numeric_ones c.attrs newly) e in
      let m = contains_of_has (numeric_ones c.attrs newly) r.item r.among in
      let h = newly_numeric texts c newly told rows st p u k free r.item m in
      let l = (All-contains (IsNewlyBound st u) (numbers_of newly) r.item k.bound (contains_unfiltered (is_numeric c.attrs) (numbers_of newly) r.item m)).there in
      any_found (λ w. definitions.is_the_variable v (s w)) (newly_bound st u) r.item h
      (ap (definitions.is_the_variable v) (image_is texts c newly told rows st p u k r.item l) ∙ same_test v (at c.heap.images r.item) ∙ r.passes) where
        same_test : (v : ℕ) (t : HeapTerm) → definitions.is_the_variable v (named (text_of texts) t) ≡ is_the_variable v t
        same_test v (Var w) = refl
        same_test v (Number q) = refl
        same_test v (Name a) = refl
        same_test v (Compound f ts) = refl

  image_here : (v : ℕ) → list_any (λ w. definitions.is_the_variable v (s w)) (newly_bound st u) ≡ true → is_image_of c.heap.images (numeric_ones c.attrs newly) v ≡ true
  image_here v e =
      let r = found_any (λ w. definitions.is_the_variable v (s w)) (newly_bound st u) e in
      let m = newly_listed texts c newly told rows st p u k free r.item r.among in
      let l = (All-contains (IsNewlyBound st u) (numbers_of newly) r.item k.bound (contains_unfiltered (is_numeric c.attrs) (numbers_of newly) r.item m)).there in
      any_found (λ w. is_the_variable v (at c.heap.images w)) (numeric_ones c.attrs newly) r.item (has_of_contains (numeric_ones c.attrs newly) r.item m)
      (sym (same_test v (at c.heap.images r.item)) ∙ ap (definitions.is_the_variable v) (sym (image_is texts c newly told rows st p u k r.item l)) ∙ r.passes) where
        same_test : (v : ℕ) (t : HeapTerm) → definitions.is_the_variable v (named (text_of texts) t) ≡ is_the_variable v t
        same_test v (Var w) = refl
        same_test v (Number q) = refl
        same_test v (Name a) = refl
        same_test v (Compound f ts) = refl

  abbrev one_of_them : ℕ → Tree → Bool
  one_of_them v t = list_any (λ w. w == v) (variables t)

  any_same : (f g : ℕ → Bool) (xs : List ℕ) → ((x : ℕ) → f x ≡ g x) → list_any f xs ≡ list_any g xs
  any_same f g [] h = refl
  any_same f g (x ∷ xs) h = ap₂ (λ a b. a || b) (h x) (any_same f g xs h)

  stands_here : (v : ℕ) → list_any (λ id. list_any (λ w. w == v) (variables (at c.heap.terms id))) told ≡ stands_in s p.told v
  stands_here v =
      any_same (λ id. list_any (λ w. w == v) (variables (at c.heap.terms id))) (λ id. one_of_them v (tree texts c.heap.terms id)) told
      (λ id. ap (λ (vs : List ℕ). list_any (λ w. w == v) vs) (sym (variables_named (text_of texts) (at c.heap.terms id))))
      ∙ sym (any_of_map (one_of_them v) (tree texts c.heap.terms) told)
      ∙ ap (list_any (one_of_them v)) k.told_reads
      ∙ any_of_map (one_of_them v) (apply s) p.told

  pub numeric_there : (v : ℕ) → is_numeric d.attrs v ≡ numeric_then st p u v
  numeric_there v =
      b.numeric v
      ∙ ap₂ (λ x y. x || y) (ap₂ (λ x y. x || y) (k.stands.numeric v) (both_ways _ _ (image_there v) (image_here v))) (stands_here v)

  -- ---- values

  unbound_before : (v : ℕ) → s v ≡ Var v → st.bindings v ≡ Var v
  unbound_before v e = by_image (st.bindings v) refl where
    by_image : (t : Tree) → st.bindings v ≡ t → t ≡ Var v
    by_image (Var w) i =
        let i' : st.bindings w ≡ Var w = k.rests.read_through.through v w (subst (λ (t : Tree). Occurs w t) (sym i) refl) in
        let le = k.rests.read_through.older v w i in
        let sw : s w ≡ Var v = ap (apply u) i' ∙ sym (ap (apply u) i) ∙ e in
        let ge = k.read_through.older w v sw in
        let same : w ≡ v = omega (arith, le, ge) in
        ap (λ (x : ℕ). Var x) same
    by_image (Number q) i = let no : Number q ≡ Var v = sym (ap (apply u) i) ∙ e in cc
    by_image (Name a) i = let no : Name a ≡ Var v = sym (ap (apply u) i) ∙ e in cc
    by_image (Compound f ts) i = let no : apply u (Compound f ts) ≡ Var v = sym (ap (apply u) i) ∙ e in cc

  is_left : (v : ℕ) (q : ℚ) → numeric_then st p u v ≡ true → s v ≡ Var v → Fixed d.told v q → Contains fixed v
  is_left v q n e f =
      elim (one_is (st.numeric v || list_any (λ w. definitions.is_the_variable v (s w)) (newly_bound st u)) (stands_in s p.told v) n) [
        | inl h ↦ (elim (one_is (st.numeric v) (list_any (λ w. definitions.is_the_variable v (s w)) (newly_bound st u)) h) [
          | inl m ↦ b.newly_fixed v q f (λ r g.
              let bound = k.rests.fixed v r m (subst (λ (l : List Constraint). Fixed l v r) k.stands.linear g) in
              let unbound = unbound_value v (st.bindings v) (unbound_before v e) in
              true≢false (sym bound ∙ unbound))
          | inr i ↦ b.images v (image_here v i)
        ])
        | inr t ↦ (let r = found_any (λ id. list_any (λ w. w == v) (variables (at c.heap.terms id))) told (stands_here v ∙ t) in
            let w = found_any (λ w. w == v) (variables (at c.heap.terms r.item)) r.passes in
            let all = All-contains (λ id. All (Contains fixed) (variables (at c.heap.terms id))) told r.item b.in_told (contains_of_has told r.item r.among) in
            subst (λ (x : ℕ). Contains fixed x) (nat_eq-same w.item v w.passes)
            (All-contains (Contains fixed) (variables (at c.heap.terms r.item)) w.item all (contains_of_has (variables (at c.heap.terms r.item)) w.item w.among)))
      ]

  -- ---- what waits

  -- the unifier's image of a variable that a numeric one became
  numeric_unified : (x : ℕ) → st.numeric x ≡ true → st.bindings x ≡ Var x → is_no_number (u x) ≡ false
  numeric_unified x n e = ap is_no_number (sym (unified_unbound texts c newly told rows st p u k x e)) ∙ task.no_clash x n

  by_unified : (x v : ℕ) (t : Tree) → is_no_number t ≡ false → Occurs v t → t ≡ Var v
  by_unified x v (Var w) n o = ap (λ (y : ℕ). Var y) (sym o)
  by_unified x v (Number q) n o = absurd o
  by_unified x v (Name a) n o = absurd o
  by_unified x v (Compound f ts) n o = absurd (true≢false n)

  abbrev newly_ones : List ℕ
  newly_ones = numbers_of newly

  -- a variable that was bound became this one
  becomes : (x v : ℕ) → x < st.fresh → st.bindings x ≡ Var x → u x ≡ Var v → at c.heap.images x ≡ Var v
  becomes x v l e i = unnamed (text_of texts) v (at c.heap.images x) (sym (image_is texts c newly told rows st p u k x l) ∙ unified_unbound texts c newly told rows st p u k x e ∙ i)

  watched_on : (w m : Waiting) (x v : ℕ) → WaitsOn c.heap.images newly_ones w m → Contains w.watched x → x < st.fresh → st.bindings x ≡ Var x → u x ≡ Var v
      → (is_bound u x ≡ true → Contains newly_ones x) → Contains m.watched v
  watched_on w m x v r h l e i told_there = by_bound (is_bound u x) refl where
    by_bound : (b : Bool) → is_bound u x ≡ b → Contains m.watched v
    by_bound true f = r.image x v (told_there f) (becomes x v l e i) h
    by_bound false f =
        let q : Var x ≡ Var v = sym (variable_bound x (u x) f) ∙ i in
        let same : x ≡ v = cc in
        r.still v (subst (λ (y : ℕ). Contains w.watched y) same h)

  abbrev IsWaiting : Tree → Type 0
  IsWaiting t = (lin no_values (apply st.bindings t) ≡ Waits) × ((v : ℕ) → Occurs v (apply st.bindings t) → st.numeric v ≡ true)

  zip_facts : (ts : List Tree) → AllByRecursion (λ t. lin no_values (apply st.bindings t) ≡ Waits) ts → AllByRecursion (λ t. (v : ℕ) → Occurs v (apply st.bindings t) → st.numeric v ≡ true) ts
      → AllByRecursion IsWaiting ts
  zip_facts [] f g = tt
  zip_facts (t ∷ ts) f g = ((f.0, g.0), zip_facts ts f.1 g.1)

  abbrev Before : Waiting → Tree → Type 0
  Before w t = IsConstraint texts c.heap st.bindings s w t × IsWaiting t

  constraint_on : (w m : Waiting) (t : Tree) → WaitsOn c.heap.images newly_ones w m → Before w t → IsConstraint texts d.heap s s m t
  constraint_on w m t r h = record {
    id = h.0.id;
    susp = r.susp ∙ h.0.susp;
    live = subst (λ hp. h.0.id < length hp.terms) (sym b.heap) h.0.live;
    reads = ap (λ hp. tree texts hp.terms h.0.id) b.heap ∙ h.0.reads;
    watched = λ v o.
        let x = occurs_from u v (apply st.bindings t) (subst (λ (y : Tree). Occurs v y) (apply-followed_by st.bindings u t) o) in
        let y = occurs_from st.bindings x.0 t x.1 in
        let unbound : st.bindings x.0 ≡ Var x.0 = k.rests.read_through.through y.0 x.0 y.2 in
        let n : st.numeric x.0 ≡ true = h.1.1 x.0 x.1 in
        let l = k.rests.read_through.numeric x.0 n in
        watched_on w m x.0 v r (h.0.watched x.0 x.1) l unbound (by_unified x.0 v (u x.0) (numeric_unified x.0 n unbound) x.2)
        (λ f. k.numeric x.0 n (newly_there texts c newly told rows st p u k x.0 l unbound f));
  }

  constraints_before : AllZip Before (constraints c.attrs) st.delayed
  constraints_before = zip_right (IsConstraint texts c.heap st.bindings s) IsWaiting (constraints c.attrs) st.delayed k.stands.delayed (zip_facts st.delayed k.rests.waiting k.rests.delayed)

  constraints_waiting : AllZip (WaitsOn c.heap.images newly_ones) (constraints c.attrs) (constraints d.attrs)
  constraints_waiting = zip_filter (WaitsOn c.heap.images newly_ones) (λ w. is_constraint w.susp) (λ w. is_constraint w.susp) (λ w m r. ap is_constraint (sym r.susp))
      c.attrs.waiting d.attrs.waiting b.waiting

  goals_waiting : AllZip (WaitsOn c.heap.images newly_ones) (goals c.attrs) (goals d.attrs)
  goals_waiting = zip_filter (WaitsOn c.heap.images newly_ones) (λ w. is_goal w.susp) (λ w. is_goal w.susp) (λ w m r. ap is_goal (sym r.susp))
      c.attrs.waiting d.attrs.waiting b.waiting

  constraints_stand : AllZip (IsConstraint texts d.heap s s) (constraints d.attrs) st.delayed
  constraints_stand = zip_across (WaitsOn c.heap.images newly_ones) Before (IsConstraint texts d.heap s s) constraint_on (constraints c.attrs) (constraints d.attrs) st.delayed
      constraints_waiting constraints_before

  -- the variables of a goal
  abbrev SleeperBefore : Waiting → Sleeper → Type 0
  SleeperBefore w z = Contains c.attrs.waiting w × IsSleeper texts c.heap st.bindings s w z

  sleepers_before : AllZip SleeperBefore (goals c.attrs) st.sleepers
  sleepers_before = zip_left (IsSleeper texts c.heap st.bindings s) (λ w. Contains c.attrs.waiting w) (goals c.attrs) st.sleepers k.stands.sleepers
      (λ w h. contains_unfiltered (λ x. is_goal x.susp) c.attrs.waiting w h)

  bound_is_below : (x : ℕ) → st.bindings x ≡ Var x → is_bound u x ≡ true → x < st.fresh
  bound_is_below x e f = elim (below_or x st.fresh) [
    | inl l ↦ l
    | inr l ↦ absurd (true≢false (sym f ∙ unbound_value x (u x) (sym (unified_unbound texts c newly told rows st p u k x e) ∙ k.read_through.beyond x l)))
  ]

  awaited_unbound : (x : ℕ) (y : Tree) → apply st.bindings y ≡ Var x → st.bindings x ≡ Var x
  awaited_unbound x y e =
      let r = occurs_from st.bindings x y (subst (λ (t : Tree). Occurs x t) (sym e) refl) in
      k.rests.read_through.through r.0 x r.2

  told_awaited : (w : Waiting) (x : ℕ) → Contains c.attrs.waiting w → Contains w.watched x → st.bindings x ≡ Var x → is_bound u x ≡ true → Contains newly_ones x
  told_awaited w x h i e f =
      k.awaited x w.number (record { waiting = w; waits = h; number = refl; watches = i })
      (newly_there texts c newly told rows st p u k x (bound_is_below x e f) e f)

  reads_there : (x : VarId) (id : ℕ) (z : Asleep) → AreRead texts c.heap s x id z → AreRead texts d.heap s x id z
  reads_there x id (Frozen y g) r = (ap (λ hp. tree texts hp.images x.0) b.heap ∙ r.0, ap (λ hp. tree texts hp.terms id) b.heap ∙ r.1)

  same_or_bound : (w m : Waiting) (x v : ℕ) → WaitsOn c.heap.images newly_ones w m → Contains c.attrs.waiting w → Contains w.watched x → st.bindings x ≡ Var x → u x ≡ Var v → Contains m.watched v
  same_or_bound w m x v r h i e f = by_bound (is_bound u x) refl where
    by_bound : (b : Bool) → is_bound u x ≡ b → Contains m.watched v
    by_bound true g = watched_on w m x v r i (bound_is_below x e g) e f (λ j. told_awaited w x h i e j)
    by_bound false g =
        let q : Var x ≡ Var v = sym (variable_bound x (u x) g) ∙ f in
        let same : x ≡ v = cc in
        r.still v (subst (λ (y : ℕ). Contains w.watched y) same i)

  -- what is awaited under the unified bindings was awaited before
  awaited_from : (w m : Waiting) (z : Asleep) → WaitsOn c.heap.images newly_ones w m → Contains c.attrs.waiting w → ((v : ℕ) → IsAwaited st.bindings v z → Contains w.watched v)
      → (v : ℕ) → IsAwaited s v z → Contains m.watched v
  awaited_from w m (Frozen y g) r h f v e = by_term (apply st.bindings y) refl where
    by_term : (t : Tree) → apply st.bindings y ≡ t → Contains m.watched v
    by_term (Var x) i = same_or_bound w m x v r h (f x i) (awaited_unbound x y i) (sym (apply-followed_by st.bindings u y ∙ ap (apply u) i) ∙ e)
    by_term (Number q) i = let no : Number q ≡ Var v = sym (apply-followed_by st.bindings u y ∙ ap (apply u) i) ∙ e in cc
    by_term (Name a) i = let no : Name a ≡ Var v = sym (apply-followed_by st.bindings u y ∙ ap (apply u) i) ∙ e in cc
    by_term (Compound a ts) i = let no : apply u (Compound a ts) ≡ Var v = sym (apply-followed_by st.bindings u y ∙ ap (apply u) i) ∙ e in cc

  sleeper_on : (w m : Waiting) (z : Sleeper) → WaitsOn c.heap.images newly_ones w m → SleeperBefore w z → IsSleeper texts d.heap s s m z
  sleeper_on w m z r h = record {
    variable = h.1.variable;
    id = h.1.id;
    susp = r.susp ∙ h.1.susp;
    variable_live = subst (λ hp. h.1.variable.0 < length hp.images) (sym b.heap) h.1.variable_live;
    live = subst (λ hp. h.1.id < length hp.terms) (sym b.heap) h.1.live;
    reads = reads_there h.1.variable h.1.id z.asleep h.1.reads;
    watched = awaited_from w m z.asleep r h.0 h.1.watched;
  }

  sleepers_stand : AllZip (IsSleeper texts d.heap s s) (goals d.attrs) st.sleepers
  sleepers_stand = zip_across (WaitsOn c.heap.images newly_ones) SleeperBefore (IsSleeper texts d.heap s s) sleeper_on (goals c.attrs) (goals d.attrs) st.sleepers goals_waiting sleepers_before

  awaits_of : (z : Asleep) (v : ℕ) → IsAwaited st.bindings v z → st.bindings v ≡ Var v
  awaits_of (Frozen y g) v e = awaited_unbound v y e

  awaits_on : (w m : Waiting) (z : Sleeper) → WaitsOn c.heap.images newly_ones w m → SleeperBefore w z → Awaits st u newly_ones m z
  awaits_on w m z r h v e = (
    r.still v (h.1.watched v e),
    λ f. told_awaited w v h.0 (h.1.watched v e) (awaits_of z.asleep v e) f,
  )

  awaited : AllZip (Awaits st u newly_ones) (goals d.attrs) st.sleepers
  awaited = zip_across (WaitsOn c.heap.images newly_ones) SleeperBefore (Awaits st u newly_ones) awaits_on (goals c.attrs) (goals d.attrs) st.sleepers goals_waiting sleepers_before

  -- ---- no value is bound yet

  no_value_yet : s ≡ bindings_now st u none
  no_value_yet = sym (λ i v. apply-identity (s v) i)

  stands_d : Stands texts d s s (state_then st p u d.told st.delayed)
  stands_d = record {
    bindings = record {
      inside = λ v l. k.stands.bindings.inside v (subst (λ hp. v < length hp.images) b.heap l) ∙ ap (λ hp. tree texts hp.images v) (sym b.heap);
      outside = λ v l. k.stands.bindings.outside v (subst (λ hp. length hp.images ≤ v) b.heap l);
    };
    linear = refl;
    delayed = constraints_stand;
    numeric = numeric_there;
    sleepers = sleepers_stand;
    fresh = ap (λ hp. length hp.images) b.heap ∙ k.stands.fresh;
    names = subst (λ hp. Rattle.cq_term.specs.Trees.KnowsTerms texts hp.terms) (sym b.heap) k.stands.names;
  }

  -- a term that waits does so still, or a variable of it was bound
  unified_same : (t : Tree) → ((v : ℕ) → Occurs v (apply st.bindings t) → is_bound u v ≡ false) → apply s t ≡ apply st.bindings t
  unified_same t h =
      apply-followed_by st.bindings u t
      ∙ apply_agree u (λ v. Var v) (apply st.bindings t) (λ v o. variable_bound v (u v) (h v o))
      ∙ apply-identity (apply st.bindings t)

  looked_by : (m : Waiting) (t : Tree) → IsWaiting t → ((v : ℕ) → Occurs v (apply st.bindings t) → is_bound u v ≡ true → Contains m.watched v × Contains newly_ones v)
      → (d : Bool) → list_any (is_bound u) (variables (apply st.bindings t)) ≡ d → WaitsOrToDo s none [] newly_ones m t
  looked_by m t w f true e =
      let r = found_any (is_bound u) (variables (apply st.bindings t)) e in
      let o = listed_occurs (apply st.bindings t) r.item (contains_of_has (variables (apply st.bindings t)) r.item r.among) in
      let h = f r.item o r.passes in
      inr (inr (r.item, h.0, h.1))
  looked_by m t w f false e = inl (ap (λ (x : Tree). lin no_values x) (unified_same t (λ v o. none_bound v o (is_bound u v) refl)) ∙ w.0) where
    none_bound : (v : ℕ) → Occurs v (apply st.bindings t) → (b : Bool) → is_bound u v ≡ b → b ≡ false
    none_bound v o true g =
        absurd (true≢false (sym (any_found (is_bound u) (variables (apply st.bindings t)) v (has_of_contains (variables (apply st.bindings t)) v (occurs_listed (apply st.bindings t) v o)) g) ∙ e))
    none_bound v o false g = refl

  looked_one : (w m : Waiting) (t : Tree) → WaitsOn c.heap.images newly_ones w m → Before w t → WaitsOrToDo s none [] newly_ones m t
  looked_one w m t r h =
      looked_by m t h.1 (λ v o f.
      let y = occurs_from st.bindings v t o in
      let unbound : st.bindings v ≡ Var v = k.rests.read_through.through y.0 v y.2 in
      let n : st.numeric v ≡ true = h.1.1 v o in (
        r.still v (h.0.watched v o),
        k.numeric v n (newly_there texts c newly told rows st p u k v (k.rests.read_through.numeric v n) unbound f),
      )) (list_any (is_bound u) (variables (apply st.bindings t))) refl

  looked_at : AllZip (WaitsOrToDo s none [] newly_ones) (constraints d.attrs) st.delayed
  looked_at = zip_across (WaitsOn c.heap.images newly_ones) Before (WaitsOrToDo s none [] newly_ones) looked_one (constraints c.attrs) (constraints d.attrs) st.delayed
      constraints_waiting constraints_before

  -- ---- the variables of terms are numeric

  abbrev AreNumeric : Tree → Type 0
  AreNumeric t = (v : ℕ) → Occurs v (apply s t) → numeric_then st p u v ≡ true

  delayed_numeric : (ts : List Tree) → AllByRecursion (λ t. (v : ℕ) → Occurs v (apply st.bindings t) → st.numeric v ≡ true) ts → AllByRecursion AreNumeric ts
  delayed_numeric [] h = tt
  delayed_numeric (t ∷ ts) h = (
    (λ v o.
        let x = occurs_from u v (apply st.bindings t) (subst (λ (y : Tree). Occurs v y) (apply-followed_by st.bindings u t) o) in
        let y = occurs_from st.bindings x.0 t x.1 in
        let unbound : st.bindings x.0 ≡ Var x.0 = k.rests.read_through.through y.0 x.0 y.2 in
        let n : st.numeric x.0 ≡ true = h.0 x.0 x.1 in
        numeric_image st p u task x.0 v n (unified_unbound texts c newly told rows st p u k x.0 unbound ∙ by_unified x.0 v (u x.0) (numeric_unified x.0 n unbound) x.2)),
    delayed_numeric ts h.1,
  )

  told_numeric : (ts : List Tree) → ((t : Tree) → Has t ts → Has t p.told) → AllByRecursion AreNumeric ts
  told_numeric [] f = tt
  told_numeric (t ∷ ts) f = (
    (λ v o. or_right _ (stands_in s p.told v) (any_found (λ y. list_any (λ w. w == v) (variables (apply s y))) p.told t (f t (inl refl))
        (any_found (λ w. w == v) (variables (apply s t)) v (has_of_contains (variables (apply s t)) v (occurs_listed (apply s t) v o)) (nat_eq-self v)))),
    told_numeric ts (λ y h. f y (inr h)),
  )

  numeric_terms : AllByRecursion AreNumeric (st.delayed ++ p.told)
  numeric_terms = all_append AreNumeric st.delayed p.told (delayed_numeric st.delayed k.rests.delayed) (told_numeric p.told (λ t h. h))

  module _ (e : Contents) (after : List VarId) (values : ℕ → Option ℚ) (binds : BindsValues d.attrs d.told d.heap e.heap newly after values)
      (complete : (v : ℕ) (q : ℚ) → Contains fixed v → is_numeric d.attrs v ≡ true → at d.heap.images v ≡ Var v → Fixed d.told v q → values v ≡ Some q)
      (same_attrs : e.attrs ≡ d.attrs) (same_told : e.told ≡ d.told) where
    here_image : (v : ℕ) → numeric_then st p u v ≡ true → s v ≡ tree texts d.heap.images v
    here_image v n = image_is texts c newly told rows st p u k v (numeric_below st p u task v n) ∙ ap (λ h. tree texts h.images v) (sym b.heap)

    are_bound : AreBound st p u e.told values
    are_bound = record {
      numeric = λ v q h. sym (numeric_there v) ∙ (binds.sound v q h).0;
      unbound = λ v q h. here_image v (sym (numeric_there v) ∙ (binds.sound v q h).0) ∙ ap (named (text_of texts)) (binds.sound v q h).1;
      fixed = λ v q h. subst (λ (l : List Constraint). Fixed l v q) (sym same_told) (binds.sound v q h).2;
      complete = λ v q n i f.
          let g : Fixed d.told v q = subst (λ (l : List Constraint). Fixed l v q) same_told f in
          complete v q (is_left v q n i g) (numeric_there v ∙ n) (unnamed (text_of texts) v (at d.heap.images v) (sym (here_image v n) ∙ i)) g;
    }

    reached : IsReached st p u e.told (st.delayed ++ p.told)
    reached = record {
      equations = equations_of c newly;
      each_newly_bound = each_newly_bound texts c newly told rows st p u k free;
      moves = subst (λ (l : List Constraint). Moves s l (st.delayed ++ p.told) e.told (st.delayed ++ p.told))
          (same_told ∙ b.list ∙ ap₂ (λ l rs. l ++ (equations_of c newly ++ rs)) k.stands.linear k.rows_are ∙ sym (append_assoc st.linear (equations_of c newly) p.rows)) no_move;
    }

    abbrev binds_there : BindsValues d.attrs e.told d.heap e.heap newly after values
    binds_there = subst (λ (l : List Constraint). BindsValues d.attrs l d.heap e.heap newly after values) (sym same_told) binds

    begun : IsHere texts c.heap.terms e st p u values st.delayed p.told told [] (numbers_of after) (numbers_of after)
    begun = bind_on texts c.heap.terms st p u d e newly after none values binds_there same_attrs st.delayed p.told told [] newly_ones (numbers_of after) task
        (subst (λ (x : Subst Text). Stands texts d x x (state_then st p u d.told st.delayed)) no_value_yet stands_d)
        (subst (λ hp. length c.heap.terms ≤ length hp.terms) (sym b.heap) (omega arith))
        (λ id l. ap (λ hp. tree texts hp.terms id) b.heap ∙ sym (apply-identity (tree texts c.heap.terms id)))
        awaited (λ v q h. cc) numeric_terms
        (subst (λ hp. All (λ id. id < length hp.terms) told) (sym b.heap) k.told_live)
        (ap (λ hp. trees texts hp.terms told) b.heap ∙ k.told_reads ∙ ap (λ (x : Subst Text). map (apply x) p.told) no_value_yet)
        looked_at are_bound sums new_sums where
          sums : (v : ℕ) → Contains newly_ones v → Contains (numbers_of after) v
          sums v h = subst (λ (vs : List VarId). Contains (numbers_of vs) v) (sym binds_there.list)
              (subst (λ (ns : List ℕ). Contains ns v) (sym (numbers_behind newly binds_there.more)) (Contains-append_left newly_ones (numbers_of binds_there.more) v h))

          new_sums : (v : ℕ) → Contains (numbers_of binds_there.more) v → Contains (numbers_of after) v
          new_sums v h = subst (λ (vs : List VarId). Contains (numbers_of vs) v) (sym binds_there.list)
              (subst (λ (ns : List ℕ). Contains ns v) (sym (numbers_behind newly binds_there.more)) (Contains-append_right newly_ones (numbers_of binds_there.more) v h))

    pub underway : IsUnderway texts c.heap.terms e st p u values st.delayed p.told told [] (numbers_of after) (numbers_of after)
    underway = record { reached = reached; here = begun }
