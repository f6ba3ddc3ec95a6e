-- A world whose terms were made equal is called to be settled.
use Rattle.std.proofs.Common.{◌≡◌, ◌≢◌, ◌<◌, ℕ, List, [], ◌∷◌, length, map, get_or, Bool, true, false, refl, sym, ap, ap₂, ◌∙◌, subst, arith, inl, inr}
use Rattle.std.specs.Prelude.{All, Contains, not}
use Rattle.std.specs.List.{AllZip, AllPairs}
use Rattle.std.proofs.lemmas.Bool.{true≢false}
use Rattle.std.proofs.lemmas.List.{get_or-map, length-map}
use Rattle.std.proofs.lemmas.List.Elements.{All-head, All-tail, All-weaker, Contains-get_or}
use Rattle.spec_linear.specs.Solution.{Constraint}
use Rattle.spec_numbers.specs.Texts.{Text}
use Rattle.spec_numbers.proofs.Tests.{nat_eq-self, nat_eq-same}
use Rattle.spec_terms.specs.Term.{Subst, Var, Number, Name, Compound, apply, followed_by, named}
use Rattle.spec_terms.specs.Unifier.{Equation, IsUnifier, HasNoUnifier, read_under}
use Rattle.spec_terms.specs.Names.{EachNameInPairs, named_pairs, named_images}
use Rattle.spec_terms.proofs.Renamed.{unifier_by_texts, none_by_texts}
use Rattle.spec_terms.proofs.Substitution.{apply-followed_by, named-apply}
use Rattle.spec_syntax.specs.Trees.{Tree}
use Rattle.spec_branch.specs.Branch.{State, Pending, Asleep, Frozen, Sleeper, read}
use Rattle.spec_branch.specs.Settling.{is_the_variable, is_bound}
use Rattle.cq_term.specs.Texts.{AreDifferent, text_of}
use Rattle.cq_attr.specs.Attributes.{Waiting}
use Rattle.cq_attr.proofs.Elements.{contains_here, contains_later, contains_cases, contains_none}
use Rattle.cq_frac.specs.declared.VarId.{VarId}
use Rattle.cq_term.specs.HeapValue.{Terms}
use Rattle.cq_term.specs.Meaning.{HeapTerm, at, blank}
use Rattle.cq_term.specs.Names.{HasNamesBelow}
use Rattle.cq_term.specs.Shown.{IsUnbound}
use Rattle.cq_term.specs.Trees.{tree, trees, KnowsTerms}
use Rattle.cq_term.proofs.Known.{each_below, different_below}
use Rattle.cq_term.proofs.Meanings.{at-map}
use Rattle.cq_term.specs.Pairs.{IsLive, equations}
use Rattle.cq_term.specs.declared.walk.pairs.Pair.{Pair}
use Rattle.cq_term.specs.Places.{numbers_of}
use Rattle.cq_settle.specs.Contents.{Contents}
use Rattle.cq_settle.specs.Standing.{AreImages, Stands, IsConstraint, IsSleeper, AreRead, constraints, goals}
use Rattle.cq_settle.specs.Rest.{IsReadThrough, IsReadyAs, IsReady}
use Rattle.cq_settle.specs.Called.{IsCalled, IsNewlyBound, SomeIsCalled, bound_state}
use Rattle.cq_settle.specs.Ready.{MayBeTold, with_terms}
use Rattle.cq_settle.specs.Equal.{MayBeEqual, AllEqual, IsWork, work_of, CallsFor}
use Rattle.cq_settle.proofs.Alone.{StandsIn, stands_or_not, stays_itself}
use Rattle.cq_settle.proofs.RestBound.{bound_through}
use Rattle.cq_settle.proofs.Names.{occurs_named, named_variable, image_below}
use Rattle.cq_settle.proofs.Pairs.{in_pairs}
use Rattle.cq_settle.proofs.Told.{themselves, itself, live}

-- ---- variables and lists of them

its_own : (v : ℕ) (t : Tree) → is_the_variable v t ≡ true → t ≡ Var v
its_own v (Var w) e = ap (λ (x : ℕ). Var x) (nat_eq-same w v e)
its_own v (Number q) e = cc
its_own v (Name a) e = cc
its_own v (Compound a ts) e = cc

unbound_by : (v : ℕ) (t : Tree) (b : Bool) → is_the_variable v t ≡ b → not b ≡ false → t ≡ Var v
unbound_by v t true e n = its_own v t e
unbound_by v t false e n = cc

-- what is not bound is its own image
unbound_is : (s : Subst Text) (v : ℕ) → is_bound s v ≡ false → s v ≡ Var v
unbound_is s v e = unbound_by v (s v) (is_the_variable v (s v)) refl e

is_unbound : (s : Subst Text) (v : ℕ) → s v ≡ Var v → is_bound s v ≡ false
is_unbound s v e = ap (λ (t : Tree). not (is_the_variable v t)) e ∙ ap not (nat_eq-self v)

number_contained : (vs : List VarId) (v : VarId) → Contains vs v → Contains (numbers_of vs) v.0
number_contained [] v h = absurd (contains_none v h)
number_contained (w ∷ vs) v h = elim (contains_cases w vs v h) [
  | inl e ↦ contains_here w.0 (numbers_of vs) v.0 (ap (λ (x : VarId). x.0) e)
  | inr m ↦ contains_later w.0 (numbers_of vs) v.0 (number_contained vs v m)
]

numbers_once : (vs : List VarId) → AllPairs ◌≢◌ vs → AllPairs ◌≢◌ (numbers_of vs)
numbers_once vs h i j d l w e =
    let within : j < length vs = omega (arith, w, length-map vs (λ (x : VarId). x.0)) in
    let same : (get_or vs i (record { 0 = d })).0 ≡ (get_or vs j (record { 0 = d })).0 =
    sym (get_or-map (λ (x : VarId). x.0) vs i (record { 0 = d }) d (omega (arith, l, within))) ∙ e ∙ get_or-map (λ (x : VarId). x.0) vs j (record { 0 = d }) d within in
    h i j (record { 0 = d }) l within (ap (λ (n : ℕ). record { 0 = n }) same)

each_number : (P : ℕ → Type 0) (vs : List VarId) → ((v : VarId) → Contains vs v → P v.0) → All P (numbers_of vs)
each_number P vs h i d l =
    let within : i < length vs = omega (arith, l, length-map vs (λ (x : VarId). x.0)) in
    subst P (sym (get_or-map (λ (x : VarId). x.0) vs i (record { 0 = d }) d within)) (h (get_or vs i (record { 0 = d })) (Contains-get_or vs i (record { 0 = d }) within))

-- each name in the pairs has a text
known_pairs : (texts : List Text) (h : Terms) → KnowsTerms texts h.terms → (ps : List Pair) → All (IsLive h.terms) ps → EachNameInPairs (λ a. a < length texts) (equations h.terms ps)
known_pairs texts h names [] l = tt
known_pairs texts h names (p ∷ ps) l =
    let here = All-head (IsLive h.terms) p ps l in (
      each_below (length texts) (at h.terms p.left) (names p.left blank here.0),
      each_below (length texts) (at h.terms p.right) (names p.right blank here.1),
      known_pairs texts h names ps (All-tail (IsLive h.terms) p ps l),
    )

-- nothing makes the trees of the pairs equal, where nothing makes the pairs equal
pub none_of_trees : (texts : List Text) (c : Contents) (ps : List Pair) (told : List ℕ) (rows : List Constraint) (st : State) (p : Pending) → AreDifferent texts
    → KnowsTerms texts c.heap.terms → All (IsLive c.heap.terms) ps → HasNoUnifier (equations c.heap.terms ps) → IsWork texts c st ps told rows p
    → HasNoUnifier (read_under st.bindings p.equations)
none_of_trees texts c ps told rows st p different names l none w =
    subst (λ (es : List (Equation Text)). HasNoUnifier es) (sym w.pairs_are)
    (none_by_texts (text_of texts) (length texts) (different_below texts different) (equations c.heap.terms ps) (known_pairs texts c.heap names ps l) none)

module _ (texts : List Text) (different : AreDifferent texts) (c : Contents) (h : Terms) (ps : List Pair) (newly : List VarId) (st : State)
    (r : IsReadyAs texts c st) (k : AllEqual c.heap h ps newly) (names : KnowsTerms texts h.terms) where
  abbrev s : Subst ℕ
  s = k.unifier

  abbrev u : Subst Text
  u = named_images (text_of texts) s

  abbrev pairs : List (Equation ℕ)
  pairs = equations c.heap.terms ps

  abbrev trees_of_pairs : List (Equation Text)
  trees_of_pairs = named_pairs (text_of texts) pairs

  same_images : length h.images ≡ length c.heap.images
  same_images = ap length k.images ∙ length-map c.heap.images (apply s)

  same_terms : length h.terms ≡ length c.heap.terms
  same_terms = ap length k.terms ∙ length-map c.heap.terms (apply s)

  -- ---- the unifier

  in_pair : (v : ℕ) → StandsIn v pairs → IsUnbound c.heap.images v
  in_pair = in_pairs c.heap ps k.read_through

  at_new : (id : ℕ) → id < length c.heap.terms → at h.terms id ≡ apply s (at c.heap.terms id)
  at_new id l = ap (λ (ts : List HeapTerm). at ts id) k.terms ∙ at-map (apply s) c.heap.terms id l

  known_new : (id : ℕ) → id < length c.heap.terms → HasNamesBelow (length texts) (apply s (at c.heap.terms id))
  known_new id l = subst (HasNamesBelow (length texts)) (at_new id l) (names id blank (omega (arith, l, same_terms)))

  known_in : (qs : List Pair) → All (MayBeEqual c.heap) qs → (v : ℕ) → StandsIn v (equations c.heap.terms qs) → HasNamesBelow (length texts) (s v)
  known_in [] m v o = absurd o
  known_in (q ∷ qs) m v (inl o) = image_below (length texts) s v (at c.heap.terms q.left) o (known_new q.left (All-head (MayBeEqual c.heap) q qs m).0.live)
  known_in (q ∷ qs) m v (inr (inl o)) = image_below (length texts) s v (at c.heap.terms q.right) o (known_new q.right (All-head (MayBeEqual c.heap) q qs m).1.live)
  known_in (q ∷ qs) m v (inr (inr o)) = known_in qs (All-tail (MayBeEqual c.heap) q qs m) v o

  image_known : (v : ℕ) → HasNamesBelow (length texts) (s v)
  image_known v = elim (stands_or_not v pairs) [
    | inl i ↦ known_in ps k.read_through v i
    | inr out ↦ subst (HasNamesBelow (length texts)) (sym (stays_itself pairs s k.unifies v out)) tt
  ]

  named_unifier : IsUnifier trees_of_pairs u
  named_unifier = unifier_by_texts (text_of texts) (length texts) (different_below texts different) pairs s
      (known_pairs texts c.heap r.stands.names ps (All-weaker (MayBeEqual c.heap) (IsLive c.heap.terms) (λ p m. (m.0.live, m.1.live)) ps k.read_through))
      (λ v. each_below (length texts) (s v) (image_known v)) k.unifies

  unnamed : (es : List (Equation ℕ)) (v : ℕ) → StandsIn v (named_pairs (text_of texts) es) → StandsIn v es
  unnamed [] v o = absurd o
  unnamed (e ∷ es) v (inl o) = inl (occurs_named (text_of texts) v e.left o)
  unnamed (e ∷ es) v (inr (inl o)) = inr (inl (occurs_named (text_of texts) v e.right o))
  unnamed (e ∷ es) v (inr (inr o)) = inr (inr (unnamed es v o))

  state_unbound : (v : ℕ) → IsUnbound c.heap.images v → st.bindings v ≡ Var v
  state_unbound v i = r.stands.bindings.inside v i.0 ∙ ap (named (text_of texts)) i.1

  inside_state : (v : ℕ) → StandsIn v trees_of_pairs → (v < st.fresh) × (st.bindings v ≡ Var v)
  inside_state v o = let i = in_pair v (unnamed pairs v o) in (omega (arith, i.0, r.stands.fresh), state_unbound v i)

  through : IsReadThrough (bound_state st u)
  through = bound_through st trees_of_pairs u r.rests.read_through named_unifier inside_state

  -- ---- the world

  images_new : (v : ℕ) → v < length c.heap.images → tree texts h.images v ≡ apply u (tree texts c.heap.images v)
  images_new v l =
      ap (λ (ts : List HeapTerm). named (text_of texts) (at ts v)) k.images
      ∙ ap (named (text_of texts)) (at-map (apply s) c.heap.images v l)
      ∙ named-apply (text_of texts) s (at c.heap.images v)

  terms_new : (id : ℕ) → id < length c.heap.terms → tree texts h.terms id ≡ apply u (tree texts c.heap.terms id)
  terms_new id l = ap (named (text_of texts)) (at_new id l) ∙ named-apply (text_of texts) s (at c.heap.terms id)

  now_images : AreImages texts h.images (followed_by st.bindings u)
  now_images = record {
    inside = λ v l. (let old : v < length c.heap.images = omega (arith, l, same_images) in ap (apply u) (r.stands.bindings.inside v old) ∙ sym (images_new v old));
    outside = λ v l. through.beyond v (omega (arith, l, same_images, r.stands.fresh));
  }

  constraint_now : (w : Waiting) (t : Tree) → IsConstraint texts c.heap st.bindings st.bindings w t → IsConstraint texts h st.bindings (followed_by st.bindings u) w t
  constraint_now w t e = record {
    id = e.id;
    susp = e.susp;
    live = omega (arith, e.live, same_terms);
    reads = terms_new e.id e.live ∙ ap (apply u) e.reads ∙ sym (apply-followed_by st.bindings u t);
    watched = e.watched;
  }

  constraints_now : (ws : List Waiting) (ts : List Tree) → AllZip (IsConstraint texts c.heap st.bindings st.bindings) ws ts
      → AllZip (IsConstraint texts h st.bindings (followed_by st.bindings u)) ws ts
  constraints_now [] [] z = tt
  constraints_now [] (t ∷ ts) z = absurd z
  constraints_now (w ∷ ws) [] z = absurd z
  constraints_now (w ∷ ws) (t ∷ ts) z = (constraint_now w t z.0, constraints_now ws ts z.1)

  read_now : (x : VarId) (id : ℕ) → x.0 < length c.heap.images → id < length c.heap.terms → (y : Asleep) → AreRead texts c.heap st.bindings x id y
      → AreRead texts h (followed_by st.bindings u) x id y
  read_now x id lx l (Frozen y g) e = (
    images_new x.0 lx ∙ ap (apply u) e.0 ∙ sym (apply-followed_by st.bindings u y),
    terms_new id l ∙ ap (apply u) e.1 ∙ sym (apply-followed_by st.bindings u g),
  )

  sleeper_now : (w : Waiting) (z : Sleeper) → IsSleeper texts c.heap st.bindings st.bindings w z → IsSleeper texts h st.bindings (followed_by st.bindings u) w z
  sleeper_now w z e = record {
    variable = e.variable;
    id = e.id;
    susp = e.susp;
    variable_live = omega (arith, e.variable_live, same_images);
    live = omega (arith, e.live, same_terms);
    reads = read_now e.variable e.id e.variable_live e.live z.asleep e.reads;
    watched = e.watched;
  }

  sleepers_now : (ws : List Waiting) (zs : List Sleeper) → AllZip (IsSleeper texts c.heap st.bindings st.bindings) ws zs
      → AllZip (IsSleeper texts h st.bindings (followed_by st.bindings u)) ws zs
  sleepers_now [] [] z = tt
  sleepers_now [] (t ∷ ts) z = absurd z
  sleepers_now (w ∷ ws) [] z = absurd z
  sleepers_now (w ∷ ws) (t ∷ ts) z = (sleeper_now w t z.0, sleepers_now ws ts z.1)

  stands_now : Stands texts (with_terms c h) st.bindings (followed_by st.bindings u) st
  stands_now = record {
    bindings = now_images;
    linear = r.stands.linear;
    delayed = constraints_now (constraints c.attrs) st.delayed r.stands.delayed;
    numeric = r.stands.numeric;
    sleepers = sleepers_now (goals c.attrs) st.sleepers r.stands.sleepers;
    fresh = same_images ∙ r.stands.fresh;
    names = names;
  }

  -- ---- what was bound

  at_image : (v : ℕ) → IsUnbound c.heap.images v → at h.images v ≡ s v
  at_image v i = ap (λ (ts : List HeapTerm). at ts v) k.images ∙ at-map (apply s) c.heap.images v i.0 ∙ ap (apply s) i.1

  stays_unbound : (v : ℕ) → IsUnbound c.heap.images v → is_bound u v ≡ false → IsUnbound h.images v
  stays_unbound v i e = (omega (arith, i.0, same_images), at_image v i ∙ named_variable (text_of texts) (s v) v (unbound_is u v e))

  is_bound_by : (v : ℕ) → IsUnbound c.heap.images v → (IsUnbound h.images v → ⊥) → (x : Bool) → is_bound u v ≡ x → is_bound u v ≡ true
  is_bound_by v i n true e = e
  is_bound_by v i n false e = absurd (n (stays_unbound v i e))

  bound_one : (v : VarId) → Contains newly v → IsNewlyBound st u v.0
  bound_one v m =
      let n = (k.newly v).0 m in
      record {
        there = omega (arith, n.0.0, r.stands.fresh);
        unbound = is_unbound st.bindings v.0 (state_unbound v.0 n.0);
        binds = is_bound_by v.0 n.0 n.1 (is_bound u v.0) refl;
      }

  was_unbound : (v : ℕ) → IsNewlyBound st u v → IsUnbound c.heap.images v
  was_unbound v n =
      let l : v < length c.heap.images = omega (arith, n.there, r.stands.fresh) in
      (l, named_variable (text_of texts) (at c.heap.images v) v (sym (r.stands.bindings.inside v l) ∙ unbound_is st.bindings v n.unbound))

  now_bound : (v : ℕ) → IsNewlyBound st u v → IsUnbound h.images v → ⊥
  now_bound v n i =
      true≢false (sym n.binds ∙ is_unbound u v (ap (named (text_of texts)) (sym (at_image v (was_unbound v n)) ∙ i.1)))

  listed : (v : ℕ) → IsNewlyBound st u v → Contains (numbers_of newly) v
  listed v n = number_contained newly (record { 0 = v }) ((k.newly (record { 0 = v })).1 (was_unbound v n, now_bound v n))

  -- ---- the call

  -- what was read is read on
  pub reads_on : (id : ℕ) (t : Tree) → id < length c.heap.terms → tree texts c.heap.terms id ≡ apply st.bindings t → tree texts h.terms id ≡ apply (followed_by st.bindings u) t
  reads_on id t l e = terms_new id l ∙ ap (apply u) e ∙ sym (apply-followed_by st.bindings u t)

  trees_on : (ids : List ℕ) (ts : List Tree) → All (λ id. id < length c.heap.terms) ids → map (read st) ts ≡ trees texts c.heap.terms ids
      → trees texts h.terms ids ≡ map (apply (followed_by st.bindings u)) ts
  trees_on [] [] l e = refl
  trees_on [] (t ∷ ts) l e = cc
  trees_on (id ∷ ids) [] l e = cc
  trees_on (id ∷ ids) (t ∷ ts) l e =
      let first : read st t ≡ tree texts c.heap.terms id = cc in
      let others : map (read st) ts ≡ trees texts c.heap.terms ids = cc in
      ap₂ (λ x xs. x ∷ xs) (reads_on id t (All-head (λ n. n < length c.heap.terms) id ids l) (sym first))
      (trees_on ids ts (All-tail (λ n. n < length c.heap.terms) id ids l) others)

  module _ (told : List ℕ) (rows : List Constraint) (l : All (λ id. id < length c.heap.terms) told) where
    still_live : (ids : List ℕ) → All (λ id. id < length c.heap.terms) ids → All (λ id. id < length h.terms) ids
    still_live ids m i d w = omega (arith, m i d w, same_terms)

    module _ (p : Pending) (w : IsWork texts c st ps told rows p) where
      equated : IsCalled texts (with_terms c h) newly told rows st p u
      equated = record {
        rests = r.rests;
        unifier = subst (λ (es : List (Equation Text)). IsUnifier es u) (sym w.pairs_are) named_unifier;
        read_through = through;
        stands = stands_now;
        once = numbers_once newly k.once;
        bound = each_number (IsNewlyBound st u) newly bound_one;
        numeric = λ v e n. listed v n;
        awaited = λ v n a b. listed v b;
        told_live = still_live told l;
        told_reads = trees_on told p.told l w.told_are;
        rows_are = w.rows_are;
      }

      pub calls_for : CallsFor texts c h newly told rows st p
      calls_for = record { unifier = u; called = equated; reads = reads_on }

-- ---- some work

module _ (texts : List Text) (c : Contents) (st : State) (r : IsReadyAs texts c st) where
  read_pairs : (ps : List Pair) → All (MayBeEqual c.heap) ps
      → read_under st.bindings (named_pairs (text_of texts) (equations c.heap.terms ps)) ≡ named_pairs (text_of texts) (equations c.heap.terms ps)
  read_pairs [] m = refl
  read_pairs (p ∷ ps) m =
      let here = All-head (MayBeEqual c.heap) p ps m in
      let left = sym (itself texts c.heap st.bindings r.stands.bindings p.left here.0) in
      let right = sym (itself texts c.heap st.bindings r.stands.bindings p.right here.1) in
      λ i. record { left = left i; right = right i } ∷ read_pairs ps (All-tail (MayBeEqual c.heap) p ps m) i

  pub is_work : (ps : List Pair) (told : List ℕ) (rows : List Constraint) → All (MayBeEqual c.heap) ps → All (MayBeTold c.heap) told
      → IsWork texts c st ps told rows (work_of texts c ps told rows)
  is_work ps told rows m n = record { pairs_are = read_pairs ps m; told_are = sym (themselves texts c.heap st.bindings r.stands.bindings told n); rows_are = refl }

pub works : (texts : List Text) (c : Contents) (pairs : List Pair) (told : List ℕ) (rows : List Constraint) (st : State) → IsReadyAs texts c st → All (MayBeEqual c.heap) pairs
    → All (MayBeTold c.heap) told → IsWork texts c st pairs told rows (work_of texts c pairs told rows)
works texts c pairs told rows st r m n = is_work texts c st r pairs told rows m n

pub equated_calls : (texts : List Text) (c : Contents) (h : Terms) (ps : List Pair) (newly : List VarId) (told : List ℕ) (rows : List Constraint) (st : State) (p : Pending)
    → AreDifferent texts → IsReadyAs texts c st → AllEqual c.heap h ps newly → KnowsTerms texts h.terms → All (λ id. id < length c.heap.terms) told
    → IsWork texts c st ps told rows p → CallsFor texts c h newly told rows st p
equated_calls texts c h ps newly told rows st p different r k names l w = calls_for texts different c h ps newly st r k names told rows l p w

pub equated_called : (texts : List Text) (c : Contents) (h : Terms) (ps : List Pair) (newly : List VarId) (told : List ℕ) (rows : List Constraint) → AreDifferent texts → IsReady texts c
    → AllEqual c.heap h ps newly → KnowsTerms texts h.terms → All (MayBeTold c.heap) told → SomeIsCalled texts (with_terms c h) newly told rows
equated_called texts c h ps newly told rows different r k names m =
    let w = works texts c ps told rows r.0 r.1 k.read_through m in
    let call = equated_calls texts c h ps newly told rows r.0 (work_of texts c ps told rows) different r.1 k names (live c.heap told m) w in
    record { state = r.0; pending = work_of texts c ps told rows; unifier = call.unifier; is = call.called }
