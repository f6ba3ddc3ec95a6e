-- From one world in the middle of a settling to the next.
use Rattle.std.proofs.Common.{◌≡◌, ◌<◌, ◌≤◌, ℕ, List, [], ◌∷◌, ◌++◌, map, length, drop, true, Option, None, Some, refl, sym, ap, ap₂, ◌∙◌, subst, inl, arith, append_assoc}
use Rattle.std.specs.Prelude.{Contains, All}
use Rattle.std.specs.List.{AllByRecursion, AllZip}
use Rattle.std.proofs.lemmas.List.Elements.{All-weaker, All-head, All-tail, filter-append, Contains-append_left, Contains-append_right}
use Rattle.spec_numbers.specs.Rational.{ℚ}
use Rattle.spec_linear.specs.Solution.{Constraint}
use Rattle.spec_numbers.specs.Texts.{Text}
use Rattle.spec_terms.specs.Term.{Subst, Var, Occurs, apply}
use Rattle.spec_terms.proofs.Substitution.{apply-followed_by, occurs_into}
use Rattle.spec_syntax.specs.Trees.{Tree}
use Rattle.spec_branch.specs.Relations.{Waits, lin}
use Rattle.spec_branch.specs.Branch.{State, Pending, Sleeper}
use Rattle.spec_branch.specs.Settling.{value_or_variable}
use Rattle.cq_attr.specs.Attributes.{Waiting, Attributes, suspended, is_numeric}
use Rattle.cq_attr.specs.declared.susp.Susp.TheVariants as susp
use Rattle.cq_frac.specs.declared.VarId.{VarId}
use Rattle.cq_term.specs.Meaning.{HeapTerm}
use Rattle.cq_term.specs.Trees.{tree, trees}
use Rattle.cq_term.specs.Places.{numbers_of}
use Rattle.cq_settle.specs.Contents.{Contents}
use Rattle.cq_settle.specs.Standing.{IsConstraint, IsSleeper, Stands, AreImages, constraints, goals, is_constraint, is_goal}
use Rattle.cq_settle.specs.Steps.{BindsValues, JoinsAndBinds}
use Rattle.cq_settle.specs.Underway.{IsTask, AreBound, Awaits, IsHere, WaitsOrToDo, unified, numeric_then, valued, bindings_now, state_then}
use Rattle.cq_settle.proofs.Closed.{nothing_behind}
use Rattle.cq_settle.proofs.Composed.{first_of, together, read_together}
use Rattle.cq_settle.proofs.Further.{bound_further}
use Rattle.cq_settle.proofs.Joined.{numbers_behind}
use Rattle.cq_settle.proofs.Looked.{looked_further}
use Rattle.cq_settle.proofs.Numeric.{numeric_below}
use Rattle.cq_settle.proofs.Stood.{tree_reads, image_reads, same_images, reads_further, constraint_further, sleeper_further}
use Rattle.cq_settle.proofs.Woken.{zip_both, zip_so}
use Rattle.cq_settle.proofs.Zips.{zip_left, zip_append, all_append, all_front, all_behind}

cons_rest : {A : Type 0} (x y : A) (xs ys : List A) → x ∷ xs ≡ y ∷ ys → xs ≡ ys
cons_rest x y xs ys e = ap (drop 1) e

cons_first : {A : Type 0} (x y : A) (xs ys : List A) → x ∷ xs ≡ y ∷ ys → x ≡ y
cons_first x y xs ys e = cc

module _ (texts : List Text) (older : List HeapTerm) (st : State) (p : Pending) (u : Subst Text) where
  -- ---- the told term in front

  module _ (c : Contents) (f : ℕ → Option ℚ) (waiting later : List Tree) (t : Tree) (id : ℕ) (rest numbers bound all : List ℕ)
      (k : IsHere texts older c st p u f waiting (t ∷ later) (id ∷ rest) numbers bound all) where
    pub front_live : id < length c.heap.terms
    front_live = All-head (λ i. i < length c.heap.terms) id rest k.rest_live

    pub front_reads : tree texts c.heap.terms id ≡ apply (bindings_now st u f) t
    front_reads = cons_first _ _ _ _ k.rest_reads

    pub front_numeric : (v : ℕ) → Occurs v (apply (unified st u) t) → numeric_then st p u v ≡ true
    front_numeric = (all_behind _ waiting (t ∷ later) k.numeric_terms).0

    -- it is done with
    pub front_done : IsHere texts older c st p u f waiting later rest numbers bound all
    front_done = record {
      task = k.task;
      are_bound = k.are_bound;
      stands = k.stands;
      older_live = k.older_live;
      older_read = k.older_read;
      awaited = k.awaited;
      all_values = k.all_values;
      numeric_terms = all_append _ waiting later (all_front _ waiting (t ∷ later) k.numeric_terms) (all_behind _ waiting (t ∷ later) k.numeric_terms).1;
      rest_live = All-tail (λ i. i < length c.heap.terms) id rest k.rest_live;
      rest_reads = cons_rest _ _ _ _ k.rest_reads;
      looked_at = k.looked_at;
    }

    module _ (vs : List ℕ) (waits : lin f (apply (unified st u) t) ≡ Waits) (watched : (v : ℕ) → Occurs v (tree texts c.heap.terms id) → Contains vs v) where
      abbrev now : Subst Text
      now = bindings_now st u f

      abbrev pub waiting_now : Attributes
      waiting_now = suspended c.attrs vs (susp.Delayed id)

      abbrev new : Waiting
      new = record { number = c.attrs.next; watched = vs; susp = susp.Delayed id }

      constraints_then : constraints waiting_now ≡ constraints c.attrs ++ new ∷ []
      constraints_then = filter-append (λ (w : Waiting). is_constraint w.susp) c.attrs.waiting (new ∷ [])

      goals_then : goals waiting_now ≡ goals c.attrs
      goals_then = filter-append (λ (w : Waiting). is_goal w.susp) c.attrs.waiting (new ∷ []) ∙ nothing_behind (goals c.attrs)

      new_constraint : IsConstraint texts c.heap now now new t
      new_constraint = record {
        id = id;
        susp = refl;
        live = front_live;
        reads = front_reads;
        watched = λ v o. watched v (subst (λ (x : Tree). Occurs v x) (sym front_reads) o);
      }

      -- it waits behind the others
      pub front_waits : IsHere texts older (record c { attrs = waiting_now }) st p u f (waiting ++ t ∷ []) later rest numbers bound all
      front_waits = record {
        task = k.task;
        are_bound = k.are_bound;
        stands = record {
          bindings = k.stands.bindings;
          linear = refl;
          delayed = subst (λ (ws : List Waiting). AllZip (IsConstraint texts c.heap now now) ws (waiting ++ t ∷ [])) (sym constraints_then)
              (zip_append (IsConstraint texts c.heap now now) (constraints c.attrs) waiting (new ∷ []) (t ∷ []) k.stands.delayed (new_constraint, tt));
          numeric = k.stands.numeric;
          sleepers = subst (λ (ws : List Waiting). AllZip (IsSleeper texts c.heap now now) ws st.sleepers) (sym goals_then) k.stands.sleepers;
          fresh = k.stands.fresh;
          names = k.stands.names;
        };
        older_live = k.older_live;
        older_read = k.older_read;
        awaited = subst (λ (ws : List Waiting). AllZip (Awaits st u all) ws st.sleepers) (sym goals_then) k.awaited;
        all_values = k.all_values;
        numeric_terms = subst (λ (ts : List Tree). AllByRecursion (λ t. (v : ℕ) → Occurs v (apply (unified st u) t) → numeric_then st p u v ≡ true) ts)
            (sym (append_assoc waiting (t ∷ []) later)) k.numeric_terms;
        rest_live = All-tail (λ i. i < length c.heap.terms) id rest k.rest_live;
        rest_reads = cons_rest _ _ _ _ k.rest_reads;
        looked_at = subst (λ (ws : List Waiting). AllZip (WaitsOrToDo (unified st u) f numbers bound) ws (waiting ++ t ∷ [])) (sym constraints_then)
            (zip_append (WaitsOrToDo (unified st u) f numbers bound) (constraints c.attrs) waiting (new ∷ []) (t ∷ []) k.looked_at (inl waits, tt));
      }

  -- ---- what is to be looked at

  pub looked_on : (c : Contents) (f : ℕ → Option ℚ) (waiting later : List Tree) (rest numbers bound ns more all : List ℕ)
      → IsHere texts older c st p u f waiting later rest numbers bound all
      → ((w : Waiting) (t : Tree) → Contains (constraints c.attrs) w → IsConstraint texts c.heap (bindings_now st u f) (bindings_now st u f) w t
      → WaitsOrToDo (unified st u) f numbers bound w t → WaitsOrToDo (unified st u) f ns more w t)
      → IsHere texts older c st p u f waiting later rest ns more all
  looked_on c f waiting later rest numbers bound ns more all k on = record {
    task = k.task;
    are_bound = k.are_bound;
    stands = k.stands;
    older_live = k.older_live;
    older_read = k.older_read;
    awaited = k.awaited;
    all_values = k.all_values;
    numeric_terms = k.numeric_terms;
    rest_live = k.rest_live;
    rest_reads = k.rest_reads;
    looked_at = zip_so _ (WaitsOrToDo (unified st u) f ns more) (λ w t r. on w t r.0 r.1.0 r.1.1) (constraints c.attrs) waiting
        (zip_left _ (λ (w : Waiting). Contains (constraints c.attrs) w) (constraints c.attrs) waiting
        (zip_both _ _ (constraints c.attrs) waiting k.stands.delayed k.looked_at) (λ w h. h));
  }

  -- ---- values that are bound

  module _ (c d : Contents) (before after : List VarId) (f g : ℕ → Option ℚ) (b : BindsValues c.attrs d.told c.heap d.heap before after g) (attrs : d.attrs ≡ c.attrs)
      (waiting later : List Tree) (rest numbers bound more : List ℕ) (task : IsTask st p u)
      (stands : Stands texts c (bindings_now st u f) (bindings_now st u f) (state_then st p u c.told waiting))
      (older_live : length older ≤ length c.heap.terms)
      (older_read : (id : ℕ) → id < length older → tree texts c.heap.terms id ≡ apply (valued f) (tree texts older id))
      (awaited : AllZip (Awaits st u (numbers_of before)) (goals c.attrs) st.sleepers)
      (all_values : (v : ℕ) (q : ℚ) → f v ≡ Some q → Contains (numbers_of before) v)
      (numeric_terms : AllByRecursion (λ t. (v : ℕ) → Occurs v (apply (unified st u) t) → numeric_then st p u v ≡ true) (waiting ++ later))
      (rest_live : All (λ id. id < length c.heap.terms) rest)
      (rest_reads : trees texts c.heap.terms rest ≡ map (apply (bindings_now st u f)) later)
      (looked_at : AllZip (WaitsOrToDo (unified st u) f numbers bound) (constraints c.attrs) waiting)
      (are_bound : AreBound st p u d.told (together f g))
      (still : (v : ℕ) → Contains bound v → Contains more v) (news : (v : ℕ) → Contains (numbers_of b.more) v → Contains more v) where
    abbrev was : Subst Text
    was = bindings_now st u f

    abbrev is : Subst Text
    is = bindings_now st u (together f g)

    below : (v : ℕ) → is_numeric c.attrs v ≡ true → v < length c.heap.images
    below v e = subst (λ (n : ℕ). v < n) (sym stands.fresh) (numeric_below st p u task v (sym (stands.numeric v) ∙ e))

    tree_then : (id : ℕ) → id < length c.heap.terms → tree texts d.heap.terms id ≡ apply (valued g) (tree texts c.heap.terms id)
    tree_then = tree_reads texts st u f c.attrs d.told c.heap d.heap before after g b

    images_then : length d.heap.images ≡ length c.heap.images
    images_then = same_images texts st u f c.attrs d.told c.heap d.heap before after g b

    on_is : (t x : Tree) → x ≡ apply was t → apply (valued g) x ≡ apply is t
    on_is = reads_further texts st u f c.attrs d.told c.heap d.heap before after g b

    no_value_beyond : (v : ℕ) → length c.heap.images ≤ v → (o : Option ℚ) → g v ≡ o → value_or_variable o v ≡ Var v
    no_value_beyond v l None e = refl
    no_value_beyond v l (Some q) e = absurd (omega (arith, l, below v (b.sound v q e).0))

    images_are : AreImages texts d.heap.images is
    images_are = record {
      inside = λ v l.
          let m : v < length c.heap.images = omega (arith, l, images_then) in
          sym (image_reads texts st u f c.attrs d.told c.heap d.heap before after g b v m ∙ on_is (Var v) (tree texts c.heap.images v) (sym (stands.bindings.inside v m)));
      outside = λ v l.
          let m : length c.heap.images ≤ v = omega (arith, l, images_then) in
          sym (on_is (Var v) (was v) refl) ∙ ap (apply (valued g)) (stands.bindings.outside v m) ∙ no_value_beyond v m (g v) refl;
    }

    sums : (v : ℕ) → Contains (numbers_of before) v → Contains (numbers_of after) v
    sums v h = subst (λ (vs : List VarId). Contains (numbers_of vs) v) (sym b.list)
        (subst (λ (ns : List ℕ). Contains ns v) (sym (numbers_behind before b.more)) (Contains-append_left (numbers_of before) (numbers_of b.more) v h))

    new_sums : (v : ℕ) → Contains (numbers_of b.more) v → Contains (numbers_of after) v
    new_sums v h = subst (λ (vs : List VarId). Contains (numbers_of vs) v) (sym b.list)
        (subst (λ (ns : List ℕ). Contains ns v) (sym (numbers_behind before b.more)) (Contains-append_right (numbers_of before) (numbers_of b.more) v h))

    awaits_on : (w : Waiting) (z : Sleeper) → Awaits st u (numbers_of before) w z → Awaits st u (numbers_of after) w z
    awaits_on w z h v e = let r = h v e in (r.0, λ b. sums v (r.1 b))

    value_told : (v : ℕ) (q : ℚ) (o : Option ℚ) → f v ≡ o → first_of o (g v) ≡ Some q → Contains (numbers_of after) v
    value_told v q (Some r) e h = sums v (all_values v r e)
    value_told v q None e h = new_sums v (b.newly v q h)

    reads_all : (ids : List ℕ) (ts : List Tree) → All (λ i. i < length c.heap.terms) ids → trees texts c.heap.terms ids ≡ map (apply was) ts
        → trees texts d.heap.terms ids ≡ map (apply is) ts
    reads_all [] [] l e = refl
    reads_all [] (t ∷ ts) l e = cc
    reads_all (i ∷ ids) [] l e = cc
    reads_all (i ∷ ids) (t ∷ ts) l e =
        ap₂ (λ x xs. x ∷ xs)
        (tree_then i (All-head (λ i. i < length c.heap.terms) i ids l) ∙ on_is t (tree texts c.heap.terms i) (cons_first _ _ _ _ e))
        (reads_all ids ts (All-tail (λ i. i < length c.heap.terms) i ids l) (cons_rest _ _ _ _ e))

    watched_there : (w : Waiting) (t : Tree) → IsConstraint texts c.heap was was w t → (v : ℕ) → Occurs v (apply (unified st u) t) → f v ≡ None → Contains w.watched v
    watched_there w t h v o e =
        h.watched v (subst (λ (x : Tree). Occurs v x) (sym (apply-followed_by (unified st u) (valued f) t))
        (occurs_into (valued f) v v (apply (unified st u) t) o (subst (λ (x : Option ℚ). Occurs v (value_or_variable x v)) (sym e) refl)))

    looked_then : AllZip (WaitsOrToDo (unified st u) (together f g) numbers more) (constraints c.attrs) waiting
    looked_then =
        zip_so (λ (w : Waiting) (t : Tree). IsConstraint texts c.heap was was w t × WaitsOrToDo (unified st u) f numbers bound w t) (WaitsOrToDo (unified st u) (together f g) numbers more)
        (λ w t r. looked_further f g (unified st u) numbers bound more still (λ v q e. news v (b.newly v q e)) w t (watched_there w t r.0) r.1)
        (constraints c.attrs) waiting (zip_both (IsConstraint texts c.heap was was) (WaitsOrToDo (unified st u) f numbers bound) (constraints c.attrs) waiting stands.delayed looked_at)

    pub bind_on : IsHere texts older d st p u (together f g) waiting later rest numbers more (numbers_of after)
    bind_on = record {
      task = task;
      are_bound = are_bound;
      stands = record {
        bindings = images_are;
        linear = refl;
        delayed = subst (λ (a : Attributes). AllZip (IsConstraint texts d.heap is is) (constraints a) waiting) (sym attrs)
            (zip_so (IsConstraint texts c.heap was was) (IsConstraint texts d.heap is is)
            (constraint_further texts st u f c.attrs d.told c.heap d.heap before after g b) (constraints c.attrs) waiting stands.delayed);
        numeric = λ v. ap (λ (a : Attributes). is_numeric a v) attrs ∙ stands.numeric v;
        sleepers = subst (λ (a : Attributes). AllZip (IsSleeper texts d.heap is is) (goals a) st.sleepers) (sym attrs)
            (zip_so (IsSleeper texts c.heap was was) (IsSleeper texts d.heap is is)
            (sleeper_further texts st u f c.attrs d.told c.heap d.heap before after g b) (goals c.attrs) st.sleepers stands.sleepers);
        fresh = images_then ∙ stands.fresh;
        names = b.names (length texts) stands.names;
      };
      older_live = omega (arith, older_live, b.longer);
      older_read = λ id l.
          tree_then id (omega (arith, l, older_live)) ∙ ap (apply (valued g)) (older_read id l) ∙ read_together f g (tree texts older id);
      awaited = subst (λ (a : Attributes). AllZip (Awaits st u (numbers_of after)) (goals a) st.sleepers) (sym attrs)
          (zip_so (Awaits st u (numbers_of before)) (Awaits st u (numbers_of after)) awaits_on (goals c.attrs) st.sleepers awaited);
      all_values = λ v q e. value_told v q (f v) refl e;
      numeric_terms = numeric_terms;
      rest_live = All-weaker (λ i. i < length c.heap.terms) (λ i. i < length d.heap.terms) (λ i l. omega (arith, l, b.longer)) rest rest_live;
      rest_reads = reads_all rest later rest_live rest_reads;
      looked_at = subst (λ (a : Attributes). AllZip (WaitsOrToDo (unified st u) (together f g) numbers more) (constraints a) waiting) (sym attrs) looked_then;
    }

  -- a constraint has joined, and values are bound
  module _ (c d : Contents) (row : Constraint) (before after : List VarId) (j : JoinsAndBinds c row d before after) (f : ℕ → Option ℚ) (waiting later : List Tree)
      (rest numbers bound more : List ℕ) (k : IsHere texts older c st p u f waiting later rest numbers bound (numbers_of before))
      (still : (v : ℕ) → Contains bound v → Contains more v) (news : (v : ℕ) → Contains (numbers_of j.binds.more) v → Contains more v) where
    numeric_there : (v : ℕ) → is_numeric c.attrs v ≡ true → v < length c.heap.images
    numeric_there v e = subst (λ (n : ℕ). v < n) (sym k.stands.fresh) (numeric_below st p u k.task v (sym (k.stands.numeric v) ∙ e))

    pub binds_on : IsHere texts older d st p u (together f j.values) waiting later rest numbers more (numbers_of after)
    binds_on = bind_on c d before after f j.values j.binds j.attrs waiting later rest numbers bound more k.task k.stands k.older_live k.older_read k.awaited k.all_values k.numeric_terms
        k.rest_live k.rest_reads k.looked_at
        (bound_further texts c row d before after st p u f k.are_bound j (λ v l. k.stands.bindings.inside v l) numeric_there k.stands.numeric) still news
