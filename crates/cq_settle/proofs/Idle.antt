-- A settling with nothing to do.
use Rattle.std.proofs.Common.{◌≡◌, ◌<◌, ℕ, ◌+◌, List, [], ◌∷◌, ◌++◌, map, length, take, get_or, Bool, true, false, cond, Option, None, refl, sym, ap, ap₂, ◌∙◌, subst, inl, inr, arith, ◌||◌}
use Rattle.std.specs.Prelude.{Contains, All, filter, not, ◌&&◌, ◌==◌, if◌then◌else◌}
use Rattle.std.specs.List.{AllZip, list_any, filter_map, cons_option}
use Rattle.std.proofs.lemmas.Bool.{true≢false}
use Rattle.std.proofs.lemmas.List.{take_more}
use Rattle.std.proofs.lemmas.List.Elements.{Contains-get_or, Contains-push_cases, All-nil, All-same}
use Rattle.spec_numbers.specs.Rational.{ℚ}
use Rattle.spec_linear.specs.Solution.{Constraint, Solvable, Fixes}
use Rattle.spec_numbers.specs.Texts.{Text}
use Rattle.spec_numbers.proofs.Tests.{nat_eq-same}
use Rattle.spec_terms.specs.Term.{Subst}
use Rattle.spec_terms.specs.Variables.{variables}
use Rattle.spec_branch.specs.Branch.{State, Pending}
use Rattle.cq_attr.specs.Attributes.{Waiting, Attributes, is_numeric, IsWokenBy}
use Rattle.cq_attr.proofs.Elements.{contains_here, contains_later, contains_cases, contains_none}
use Rattle.cq_frac.specs.declared.VarId.{VarId}
use Rattle.cq_term.specs.Meaning.{at}
use Rattle.cq_term.specs.Shown.{IsUnbound}
use Rattle.cq_term.specs.Places.{numbers_of}
use Rattle.cq_settle.specs.Contents.{Contents}
use Rattle.cq_settle.specs.Called.{IsCalled}
use Rattle.cq_settle.specs.Settled.{IsKept}
use Rattle.cq_settle.specs.Steps.{ClashesAt, IsIdle, WaitsOn, WakesAll, equations_of, equation_at, numeric_ones, is_image_of, waits_for_one, wakes, goal_that_wakes}
use Rattle.cq_settle.specs.Underway.{IsUnderway}
use Rattle.cq_settle.proofs.Begin.{HasBegun, underway}
use Rattle.cq_settle.proofs.Binding.{none, binds_nothing}
use Rattle.cq_settle.proofs.Closed.{nothing_behind}
use Rattle.cq_settle.proofs.Joined.{numbers_behind}
use Rattle.cq_settle.proofs.Numeric.{found_any, contains_of_has}
use Rattle.cq_settle.proofs.Ways.{to_look_at, ends_kept}

contains_number : (vs : List VarId) (v : VarId) → Contains vs v → Contains (numbers_of vs) v.0
contains_number [] v h = absurd (contains_none v h)
contains_number (w ∷ vs) v h =
    elim (contains_cases w vs v h) [ inl e ↦ contains_here w.0 (numbers_of vs) v.0 (ap (λ x. x.0) e) | inr m ↦ contains_later w.0 (numbers_of vs) v.0 (contains_number vs v m) ]

pub empty_list : {A : Type 0} (xs : List A) (n : ℕ) (b : Bool) → length xs ≡ n → b ≡ (n == 0) → b ≡ true → xs ≡ []
empty_list [] n b l e f = refl
empty_list (x ∷ xs) n b l e f = absurd (omega (arith, l, nat_eq-same n 0 (sym e ∙ f)))

-- none of these lengths is above zero
pub no_length : {A : Type 0} (xs : List A) (n : ℕ) → length xs ≡ n → xs ≡ [] → true ≡ (n == 0)
no_length {A} xs n l z = ap (λ (ys : List A). length ys == 0) (sym z) ∙ ap (λ (m : ℕ). m == 0) l

pub not_empty : {A : Type 0} (xs : List A) (n : ℕ) (b : Bool) → length xs ≡ n → b ≡ (n == 0) → b ≡ false → xs ≡ [] → ⊥
not_empty xs n b l e f z = true≢false (no_length xs n l z ∙ sym e ∙ f)

pub nothing_in : (xs : List ℕ) → ((n : ℕ) → Contains xs n → ⊥) → xs ≡ []
nothing_in [] f = refl
nothing_in (x ∷ xs) f = absurd (f x (contains_here x xs x refl))

pub at_place : (vs : List VarId) (i : ℕ) (d : VarId) → i < length vs → Contains (numbers_of vs) (get_or vs i d).0
at_place vs i d l = contains_number vs (get_or vs i d) (Contains-get_or vs i d l)

-- one more variable that is not numeric
pub one_more : (a : Attributes) (vs : List VarId) (i : ℕ) (d : VarId) → i < length vs → ((v : ℕ) → Contains (numbers_of (take i vs)) v → is_numeric a v ≡ false)
    → is_numeric a (get_or vs i d).0 ≡ false → (v : ℕ) → Contains (numbers_of (take (i + 1) vs)) v → is_numeric a v ≡ false
one_more a vs i d l f e v h =
    let sums : numbers_of (take (i + 1) vs) ≡ numbers_of (take i vs) ++ (get_or vs i d).0 ∷ [] = ap numbers_of (take_more vs i d l) ∙ numbers_behind (take i vs) (get_or vs i d ∷ []) in
    elim (Contains-push_cases (numbers_of (take i vs)) (get_or vs i d).0 v (subst (λ (ns : List ℕ). Contains ns v) sums h)) [
      | inl m ↦ f v m
      | inr i ↦ ap (is_numeric a) (sym i) ∙ e
    ]

pub is_idle_then : (c : Contents) (newly vs : List VarId) (told : List ℕ) (rows : List Constraint) → told ≡ [] → rows ≡ [] → vs ≡ newly
    → ((v : ℕ) → Contains (numbers_of vs) v → is_numeric c.attrs v ≡ false) → (ns : List ℕ) → ns ≡ [] → ((n : ℕ) → IsWokenBy c.attrs (numbers_of vs) n → Contains ns n)
    → IsIdle c newly told rows
is_idle_then c newly vs told rows e f i numeric ns none woken = record {
  nothing_told = e;
  no_rows = f;
  numeric = λ v h. numeric v (subst (λ (us : List VarId). Contains (numbers_of us) v) (sym i) h);
  awaited = λ n h. contains_none n (subst (λ (ms : List ℕ). Contains ms n) none (woken n (subst (λ (us : List VarId). IsWokenBy c.attrs (numbers_of us) n) (sym i) h)));
}

-- no variable was bound
pub nothing_bound : (c : Contents) (newly vs : List VarId) (told : List ℕ) (rows : List Constraint) → told ≡ [] → rows ≡ [] → vs ≡ newly → vs ≡ [] → IsIdle c newly told rows
nothing_bound c newly vs told rows e f i z =
    let no : (v : ℕ) → Contains (numbers_of vs) v → ⊥ = λ v h. contains_none v (subst (λ (us : List VarId). Contains (numbers_of us) v) z h) in
    is_idle_then c newly vs told rows e f i (λ v h. absurd (no v h)) [] refl (λ n h. absurd (no h.variable h.is_new))

none_kept : (test : ℕ → Bool) (xs : List ℕ) → ((x : ℕ) → Contains xs x → test x ≡ false) → filter test xs ≡ []
none_kept test [] f = refl
none_kept test (x ∷ xs) f =
    ap (λ (b : Bool). cond b (x ∷ filter test xs) (filter test xs)) (f x (contains_here x xs x refl)) ∙ none_kept test xs (λ y h. f y (contains_later x xs y h))

module _ (c : Contents) (newly : List VarId) (told : List ℕ) (rows : List Constraint) (i : IsIdle c newly told rows) where
  free : All (λ (v : VarId). ClashesAt c v.0 → ⊥) newly
  free j d l h = true≢false (sym h.0 ∙ i.numeric (get_or newly j d).0 (contains_number newly (get_or newly j d) (Contains-get_or newly j d l)))

  no_ones : numeric_ones c.attrs newly ≡ []
  no_ones = none_kept (is_numeric c.attrs) (numbers_of newly) i.numeric

  no_equations : equations_of c newly ≡ []
  no_equations = ap (map (equation_at c.heap.images)) no_ones

  or_none : (a : Bool) → a ≡ ((a || false) || false)
  or_none true = refl
  or_none false = refl

  wait_on : (ks : List Waiting) → ((k : Waiting) → Contains ks k → Contains c.attrs.waiting k) → AllZip (WaitsOn c.heap.images (numbers_of newly)) ks ks
  wait_on [] f = tt
  wait_on (k ∷ ks) f = (
    record {
      number = refl;
      susp = refl;
      still = λ v h. h;
      image = λ v w h e m. absurd (i.awaited k.number (record {
        variable = v;
        is_new = h;
        waits_for = record { waiting = k; waits = f k (contains_here k ks k refl); number = refl; watches = m };
      }));
    },
    wait_on ks (λ x h. f x (contains_later k ks x h)),
  )

  begun : HasBegun c c newly told rows []
  begun = record {
    heap = refl;
    waiting = wait_on c.attrs.waiting (λ k h. h);
    numeric = λ v. or_none (is_numeric c.attrs v) ∙ ap₂ (λ (ns ids : List ℕ). (is_numeric c.attrs v || is_image_of c.heap.images ns v)
        || list_any (λ id. list_any (λ w. w == v) (variables (at c.heap.terms id))) ids) (sym no_ones) (sym i.nothing_told);
    list = sym (ap₂ (λ (es rs : List Constraint). c.told ++ (es ++ rs)) no_equations i.no_rows ∙ nothing_behind c.told);
    newly_fixed = λ v q f n. absurd (n q f);
    images = λ v e. absurd (true≢false (sym e ∙ ap (λ (ns : List ℕ). is_image_of c.heap.images ns v) no_ones));
    in_told = All-same (λ id. All (Contains []) (variables (at c.heap.terms id))) told [] i.nothing_told (All-nil (λ id. All (Contains []) (variables (at c.heap.terms id))));
    unbound = All-same (λ id. All (IsUnbound c.heap.images) (variables (at c.heap.terms id))) told [] i.nothing_told (All-nil (λ id. All (IsUnbound c.heap.images) (variables (at c.heap.terms id))));
  }

  asleep : (k : Waiting) → Contains c.attrs.waiting k → (b : Bool) → waits_for_one (numbers_of newly) k ≡ b → b ≡ false
  asleep k h false e = refl
  asleep k h true e =
      let v = found_any (λ v. list_any (λ w. w == v) k.watched) (numbers_of newly) e in
      let w = found_any (λ w. w == v.item) k.watched v.passes in
      absurd (i.awaited k.number (record {
        variable = v.item;
        is_new = contains_of_has (numbers_of newly) v.item v.among;
        waits_for = record {
          waiting = k;
          waits = h;
          number = refl;
          watches = subst (λ (x : ℕ). Contains k.watched x) (nat_eq-same w.item v.item w.passes) (contains_of_has k.watched w.item w.among);
        };
      }))

  none_given : (ks : List Waiting) → ((k : Waiting) → Contains ks k → Contains c.attrs.waiting k)
      → [] ≡ filter_map (λ k. if waits_for_one (numbers_of newly) k then goal_that_wakes c.heap.images k.susp else None) ks
  none_given [] f = refl
  none_given (k ∷ ks) f =
      none_given ks (λ x h. f x (contains_later k ks x h))
      ∙ ap (λ (b : Bool). cons_option (if b then goal_that_wakes c.heap.images k.susp else None) (filter_map (λ k. if waits_for_one (numbers_of newly) k then goal_that_wakes c.heap.images k.susp else None) ks))
      (sym (asleep k (f k (contains_here k ks k refl)) (waits_for_one (numbers_of newly) k) refl))

  all_stay : (ks : List Waiting) → ((k : Waiting) → Contains ks k → Contains c.attrs.waiting k) → ks ≡ filter (λ k. not (waits_for_one (numbers_of newly) k && wakes c.heap.images k)) ks
  all_stay [] f = refl
  all_stay (k ∷ ks) f =
      ap (λ (xs : List Waiting). k ∷ xs) (all_stay ks (λ x h. f x (contains_later k ks x h)))
      ∙ ap (λ (b : Bool). cond (not (b && wakes c.heap.images k)) (k ∷ filter (λ k. not (waits_for_one (numbers_of newly) k && wakes c.heap.images k)) ks)
      (filter (λ k. not (waits_for_one (numbers_of newly) k && wakes c.heap.images k)) ks)) (sym (asleep k (f k (contains_here k ks k refl)) (waits_for_one (numbers_of newly) k) refl))

  none_wakes : WakesAll c (numbers_of newly) c.attrs []
  none_wakes = record { numeric = refl; next = refl; given = none_given c.attrs.waiting (λ k h. h); waiting = all_stay c.attrs.waiting (λ k h. h) }

  pub idle_kept : (texts : List Text) (st : State) (p : Pending) (u : Subst Text) → IsCalled texts c newly told rows st p u → Solvable c.told → (fixed : ℕ → Option ℚ) → Fixes c.told fixed
      → IsKept texts c c [] st p u
  idle_kept texts st p u k solvable fixed fixes =
      let start : IsUnderway texts c.heap.terms c st p u none st.delayed p.told told [] (numbers_of newly) (numbers_of newly) =
      underway texts c newly told rows st p u k free c [] begun c newly none (binds_nothing c.attrs c.told c.heap newly) (λ v q h. absurd (contains_none v h)) refl refl in
      let start_none : IsUnderway texts c.heap.terms c st p u none st.delayed p.told [] [] (numbers_of newly) (numbers_of newly) =
      subst (λ (ids : List ℕ). IsUnderway texts c.heap.terms c st p u none st.delayed p.told ids [] (numbers_of newly) (numbers_of newly)) i.nothing_told start in
      let done = to_look_at texts c (numbers_of newly) [] (numbers_of newly) (λ n h. absurd (i.awaited n h)) st p u c.heap.terms none st.delayed p.told start_none in
      ends_kept texts c c (numbers_of newly) c.attrs [] solvable fixed fixes none_wakes st p u done.0 done.1 done.2 done.3
