-- What a world shows is what its state shows.
use Rattle.std.proofs.Common.{◌≡◌, ℕ, ◌<◌, Bool, true, false, cond, not, List, [], ◌∷◌, ◌++◌, length, map, refl, sym, ap, ap₂, ◌∙◌, subst}
use Rattle.std.specs.Prelude.{filter, All}
use Rattle.std.specs.List.{AllZip, AllByRecursion}
use Rattle.std.proofs.lemmas.List.Elements.{All-head, All-tail}
use Rattle.spec_numbers.specs.Texts.{Text}
use Rattle.spec_terms.specs.Term.{Subst, apply}
use Rattle.spec_terms.specs.VariableName.{VariableName}
use Rattle.spec_syntax.specs.Trees.{Tree}
use Rattle.spec_builtins.specs.Built.{compound2}
use Rattle.spec_branch.specs.Branch.{State, Sleeper, Asleep, Frozen, read}
use Rattle.spec_branch.specs.Settling.{is_bound, is_the_variable}
use Rattle.spec_answers.specs.Lines.{is_hidden}
use Rattle.spec_answers.specs.Targets.{asleep_term, bound_queries, free_queries, query_variables, shown_terms}
use Rattle.cq_frac.specs.declared.VarId.{VarId}
use Rattle.cq_term.specs.HeapValue.{Terms}
use Rattle.cq_term.specs.Trees.{tree}
use Rattle.cq_attr.specs.Attributes.{Waiting, Attributes}
use Rattle.cq_attr.specs.declared.susp.Susp.{Susp}
use Rattle.cq_attr.specs.declared.susp.Susp.TheVariants as susp
use Rattle.cq_settle.specs.Contents.{Contents}
use Rattle.cq_settle.specs.Worlds.{now_of}
use Rattle.cq_settle.specs.Standing.{Stands, IsConstraint, IsSleeper, AreRead, is_constraint, is_goal, constraints, goals}
use Rattle.cq_answer.specs.Shown.{all_waiting, bound_in, free_in, bound_trees, constraint_trees, goal_trees, shown_trees, IsLive, AreLive}

susps : List Waiting → List Susp
susps ws = map (λ k. k.susp) ws

-- ---- query variables

module _ (p q : ℕ → Bool) (n : ℕ) where
  filter_same : (names : List VariableName) → All (λ (m : VariableName). m.number < n) names → ((v : ℕ) → v < n → p v ≡ q v) →
      filter (λ (m : VariableName). p m.number) (query_variables names) ≡ filter (λ (m : VariableName). q m.number) (query_variables names)
  filter_same [] all same = refl
  filter_same (m ∷ names) all same =
      by (not (is_hidden m.name)) (same m.number (All-head (λ (k : VariableName). k.number < n) m names all)) (filter_same names (All-tail (λ (k : VariableName). k.number < n) m names all) same)
    where
      by : (b : Bool) → p m.number ≡ q m.number → filter (λ (k : VariableName). p k.number) (query_variables names) ≡ filter (λ (k : VariableName). q k.number) (query_variables names) →
          filter (λ (k : VariableName). p k.number) (cond b (m ∷ query_variables names) (query_variables names)) ≡ filter (λ (k : VariableName). q k.number) (cond b (m ∷ query_variables names) (query_variables names))
      by true e rest = ap₂ (λ c ms. cond c (m ∷ ms) ms) e rest
      by false e rest = rest

map_below : {B : Type 0} (f g : ℕ → B) (n : ℕ) (p : VariableName → Bool) (h : VariableName → Bool) (names : List VariableName) → All (λ (m : VariableName). m.number < n) names →
    ((m : VariableName) → m.number < n → f m.number ≡ g m.number) → map (λ (m : VariableName). f m.number) (filter p (filter h names)) ≡ map (λ (m : VariableName). g m.number) (filter p (filter h names))
map_below f g n p h [] all same = refl
map_below f g n p h (m ∷ names) all same =
    by (h m) (p m) refl (same m (All-head (λ (k : VariableName). k.number < n) m names all)) (map_below f g n p h names (All-tail (λ (k : VariableName). k.number < n) m names all) same)
  where
    inner : (c : Bool) → f m.number ≡ g m.number → map (λ (k : VariableName). f k.number) (filter p (filter h names)) ≡ map (λ (k : VariableName). g k.number) (filter p (filter h names)) →
        map (λ (k : VariableName). f k.number) (cond c (m ∷ filter p (filter h names)) (filter p (filter h names))) ≡ map (λ (k : VariableName). g k.number) (cond c (m ∷ filter p (filter h names)) (filter p (filter h names)))
    inner true e rest = ap₂ (λ x xs. x ∷ xs) e rest
    inner false e rest = rest

    by : (b c : Bool) → p m ≡ p m → f m.number ≡ g m.number → map (λ (k : VariableName). f k.number) (filter p (filter h names)) ≡ map (λ (k : VariableName). g k.number) (filter p (filter h names)) →
        map (λ (k : VariableName). f k.number) (filter p (cond b (m ∷ filter h names) (filter h names))) ≡ map (λ (k : VariableName). g k.number) (filter p (cond b (m ∷ filter h names) (filter h names)))
    by true c d e rest = inner (p m) e rest
    by false c d e rest = rest

-- lines of names below a number, by what their variables are
lines_below : (F : VariableName → Tree → Text) (s t : Subst Text) (n : ℕ) (p h : VariableName → Bool) (names : List VariableName) → All (λ (m : VariableName). m.number < n) names →
    ((v : ℕ) → v < n → s v ≡ t v) → map (λ m. F m (s m.number)) (filter p (filter h names)) ≡ map (λ m. F m (t m.number)) (filter p (filter h names))
lines_below F s t n p h [] all same = refl
lines_below F s t n p h (m ∷ names) all same =
    by (h m) (ap (F m) (same m.number (All-head (λ (k : VariableName). k.number < n) m names all))) (lines_below F s t n p h names (All-tail (λ (k : VariableName). k.number < n) m names all) same)
  where
    inner : (c : Bool) → F m (s m.number) ≡ F m (t m.number) → map (λ k. F k (s k.number)) (filter p (filter h names)) ≡ map (λ k. F k (t k.number)) (filter p (filter h names)) →
        map (λ k. F k (s k.number)) (cond c (m ∷ filter p (filter h names)) (filter p (filter h names))) ≡ map (λ k. F k (t k.number)) (cond c (m ∷ filter p (filter h names)) (filter p (filter h names)))
    inner true e rest = ap₂ (λ x xs. x ∷ xs) e rest
    inner false e rest = rest

    by : (b : Bool) → F m (s m.number) ≡ F m (t m.number) → map (λ k. F k (s k.number)) (filter p (filter h names)) ≡ map (λ k. F k (t k.number)) (filter p (filter h names)) →
        map (λ k. F k (s k.number)) (filter p (cond b (m ∷ filter h names) (filter h names))) ≡ map (λ k. F k (t k.number)) (filter p (cond b (m ∷ filter h names) (filter h names)))
    by true e rest = inner (p m) e rest
    by false e rest = rest

-- ---- what waits

module _ (texts : List Text) (h : Terms) (s : Subst Text) where
  constraints_same : (ws : List Waiting) (ds : List Tree) → AllZip (IsConstraint texts h s s) (filter (λ k. is_constraint k.susp) ws) ds → constraint_trees texts h (susps ws) ≡ map (apply s) ds
  unfolding susps
  constraints_same [] [] z = refl
  constraints_same [] (d ∷ ds) z = absurd z
  constraints_same (w ∷ ws) ds z = by w.susp refl ds z (constraints_same ws)
    where
      here : (k : Susp) (d : Tree) → IsConstraint texts h s s w d → w.susp ≡ k → (id : ℕ) → k ≡ susp.Delayed id → tree texts h.terms id ≡ apply s d
      here k d is e id f = let same : susp.Delayed is.id ≡ susp.Delayed id = sym is.susp ∙ e ∙ f in let g : is.id ≡ id = cc in subst (λ j. tree texts h.terms j ≡ apply s d) g is.reads

      by : (k : Susp) → w.susp ≡ k → (ds : List Tree) → AllZip (IsConstraint texts h s s) (cond (is_constraint k) (w ∷ filter (λ j. is_constraint j.susp) ws) (filter (λ j. is_constraint j.susp) ws)) ds →
          ((es : List Tree) → AllZip (IsConstraint texts h s s) (filter (λ j. is_constraint j.susp) ws) es → constraint_trees texts h (map (λ j. j.susp) ws) ≡ map (apply s) es) →
          constraint_trees texts h (k ∷ map (λ j. j.susp) ws) ≡ map (apply s) ds
      by (susp.Delayed id) e [] y rest = absurd y
      by (susp.Delayed id) e (d ∷ ds) y rest = ap₂ (λ t ts. t ∷ ts) (here (susp.Delayed id) d y.0 e id refl) (rest ds y.1)
      by (susp.Goal v id) e ds y rest = rest ds y

  abbrev frozen : Sleeper → Tree
  frozen z = apply s (asleep_term z.asleep)

  goals_same : (ws : List Waiting) (zs : List Sleeper) → AllZip (IsSleeper texts h s s) (filter (λ k. is_goal k.susp) ws) zs → goal_trees texts h (susps ws) ≡ map frozen zs
  unfolding susps
  goals_same [] [] z = refl
  goals_same [] (y ∷ zs) z = absurd z
  goals_same (w ∷ ws) zs z = by w.susp refl zs z (goals_same ws)
    where
      read_as : (v : VarId) (id : ℕ) (a : Asleep) → AreRead texts h s v id a → compound2 "freeze" (tree texts h.images v.0) (tree texts h.terms id) ≡ apply s (asleep_term a)
      read_as v id (Frozen y g) r = ap₂ (compound2 "freeze") r.0 r.1

      here : (z : Sleeper) → IsSleeper texts h s s w z → (v : VarId) (id : ℕ) → w.susp ≡ susp.Goal v id → compound2 "freeze" (tree texts h.images v.0) (tree texts h.terms id) ≡ frozen z
      here z is v id e =
          let same : susp.Goal is.variable is.id ≡ susp.Goal v id = sym is.susp ∙ e in
          let f : is.variable ≡ v = cc in
          let g : is.id ≡ id = cc in
          ap₂ (λ (x : VarId) j. compound2 "freeze" (tree texts h.images x.0) (tree texts h.terms j)) (sym f) (sym g) ∙ read_as is.variable is.id z.asleep is.reads

      by : (k : Susp) → w.susp ≡ k → (zs : List Sleeper) → AllZip (IsSleeper texts h s s) (cond (is_goal k) (w ∷ filter (λ j. is_goal j.susp) ws) (filter (λ j. is_goal j.susp) ws)) zs →
          ((ys : List Sleeper) → AllZip (IsSleeper texts h s s) (filter (λ j. is_goal j.susp) ws) ys → goal_trees texts h (map (λ j. j.susp) ws) ≡ map frozen ys) →
          goal_trees texts h (k ∷ map (λ j. j.susp) ws) ≡ map frozen zs
      by (susp.Delayed id) e zs y rest = rest zs y
      by (susp.Goal v id) e [] y rest = absurd y
      by (susp.Goal v id) e (z ∷ zs) y rest = ap₂ (λ t ts. t ∷ ts) (here z y.0 v id e) (rest zs y.1)

  -- what waits is there
  all_live : (ws : List Waiting) (ds : List Tree) (zs : List Sleeper) → AllZip (IsConstraint texts h s s) (filter (λ k. is_constraint k.susp) ws) ds →
      AllZip (IsSleeper texts h s s) (filter (λ k. is_goal k.susp) ws) zs → AreLive h (susps ws)
  unfolding susps
  all_live [] ds zs a b = tt
  all_live (w ∷ ws) ds zs a b = by w.susp refl ds zs a b (all_live ws)
    where
      delayed : (d : Tree) → IsConstraint texts h s s w d → (id : ℕ) → w.susp ≡ susp.Delayed id → id < length h.terms
      delayed d is id e = let same : susp.Delayed is.id ≡ susp.Delayed id = sym is.susp ∙ e in let g : is.id ≡ id = cc in subst (λ j. j < length h.terms) g is.live

      asleep : (z : Sleeper) → IsSleeper texts h s s w z → (v : VarId) (id : ℕ) → w.susp ≡ susp.Goal v id → (v.0 < length h.images) × (id < length h.terms)
      asleep z is v id e =
          let same : susp.Goal is.variable is.id ≡ susp.Goal v id = sym is.susp ∙ e in
          let f : is.variable ≡ v = cc in
          let g : is.id ≡ id = cc in
          (subst (λ (x : VarId). x.0 < length h.images) f is.variable_live, subst (λ j. j < length h.terms) g is.live)

      by : (k : Susp) → w.susp ≡ k → (ds : List Tree) (zs : List Sleeper) →
          AllZip (IsConstraint texts h s s) (cond (is_constraint k) (w ∷ filter (λ j. is_constraint j.susp) ws) (filter (λ j. is_constraint j.susp) ws)) ds →
          AllZip (IsSleeper texts h s s) (cond (is_goal k) (w ∷ filter (λ j. is_goal j.susp) ws) (filter (λ j. is_goal j.susp) ws)) zs →
          ((es : List Tree) (ys : List Sleeper) → AllZip (IsConstraint texts h s s) (filter (λ j. is_constraint j.susp) ws) es → AllZip (IsSleeper texts h s s) (filter (λ j. is_goal j.susp) ws) ys →
          AreLive h (map (λ j. j.susp) ws)) → AreLive h (k ∷ map (λ j. j.susp) ws)
      by (susp.Delayed id) e [] zs y z rest = absurd y
      by (susp.Delayed id) e (d ∷ ds) zs y z rest = (delayed d y.0 id e, rest ds zs y.1 z)
      by (susp.Goal v id) e ds [] y z rest = absurd z
      by (susp.Goal v id) e ds (x ∷ zs) y z rest = (asleep x z.0 v id e, rest ds zs y z.1)

-- ---- the state

module _ (texts : List Text) (c : Contents) (st : State) (stands : Stands texts c st.bindings st.bindings st) where
  abbrev images : Subst Text
  images = tree texts c.heap.images

  pub waiting_live : AreLive c.heap (all_waiting c.attrs)
  unfolding susps
  waiting_live = all_live texts c.heap st.bindings c.attrs.waiting st.delayed st.sleepers stands.delayed stands.sleepers

  pub delayed_is : constraint_trees texts c.heap (all_waiting c.attrs) ≡ map (read st) st.delayed
  unfolding susps
  delayed_is = constraints_same texts c.heap st.bindings c.attrs.waiting st.delayed stands.delayed

  pub asleep_is : goal_trees texts c.heap (all_waiting c.attrs) ≡ map (λ z. read st (asleep_term z.asleep)) st.sleepers
  unfolding susps
  asleep_is = goals_same texts c.heap st.bindings c.attrs.waiting st.sleepers stands.sleepers

  bound_same : (v : ℕ) → v < length c.heap.images → is_bound images v ≡ is_bound st.bindings v
  bound_same v l = ap (λ t. not (is_the_variable v t)) (sym (stands.bindings.inside v l))

  module _ (names : List VariableName) (live : All (λ (n : VariableName). n.number < length c.heap.images) names) where
    pub free_is : free_in images names ≡ free_queries names st
    free_is = filter_same (λ v. not (is_bound images v)) (λ v. not (is_bound st.bindings v)) (length c.heap.images) names live (λ v l. ap not (bound_same v l))

    pub bound_is : bound_in images names ≡ bound_queries names st
    bound_is = filter_same (is_bound images) (is_bound st.bindings) (length c.heap.images) names live bound_same

    -- lines of the bound query variables
    pub bindings_are : (F : VariableName → Tree → Text) → map (λ n. F n (images n.number)) (bound_in images names) ≡ map (λ n. F n (st.bindings n.number)) (bound_queries names st)
    bindings_are F =
        lines_below F images st.bindings (length c.heap.images) (λ n. is_bound images n.number) (λ n. not (is_hidden n.name)) names live (λ v l. sym (stands.bindings.inside v l))
        ∙ ap (map (λ n. F n (st.bindings n.number))) bound_is

    trees_are : bound_trees images names ≡ map (λ n. st.bindings n.number) (bound_queries names st)
    trees_are =
        map_below images st.bindings (length c.heap.images) (λ n. is_bound images n.number) (λ n. not (is_hidden n.name)) names live (λ n l. sym (stands.bindings.inside n.number l))
        ∙ ap (map (λ (n : VariableName). st.bindings n.number)) bound_is

    pub shown_is : shown_trees texts c.heap names (all_waiting c.attrs) ≡ shown_terms names st
    shown_is = ap₂ (λ a b. a ++ b) (ap₂ (λ a b. a ++ b) trees_are delayed_is) asleep_is
