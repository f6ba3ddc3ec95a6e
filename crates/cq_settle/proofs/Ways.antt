-- From the call of a settling to its end, by way of the worlds in between.
use Rattle.std.proofs.Common.{◌≡◌, ◌<◌, ℕ, List, [], ◌∷◌, ◌-◌, map, length, take, drop, get_or, true, Option, Some, refl, sym, ap, ◌∙◌, subst, inl, inr, arith}
use Rattle.std.specs.Prelude.{Contains, All, ◌==◌}
use Rattle.std.proofs.lemmas.List.{take_rest}
use Rattle.std.proofs.lemmas.List.Elements.{Contains-get_or, All-get_or, All-contains}
use Rattle.spec_numbers.specs.Rational.{ℚ}
use Rattle.spec_linear.specs.Solution.{Solvable, Fixes}
use Rattle.spec_numbers.specs.Texts.{Text}
use Rattle.spec_numbers.proofs.Tests.{nat_eq-self}
use Rattle.spec_terms.specs.Term.{Subst}
use Rattle.spec_syntax.specs.Trees.{Tree}
use Rattle.spec_branch.specs.Branch.{State, Pending}
use Rattle.cq_attr.specs.Attributes.{Waiting, Attributes, Ascends, is_numeric, IsWokenBy, numbers, find}
use Rattle.cq_attr.specs.declared.susp.Susp.{Susp}
use Rattle.cq_attr.specs.declared.susp.Susp.TheVariants as susp
use Rattle.cq_attr.proofs.Elements.{contains_cases}
use Rattle.cq_frac.specs.declared.VarId.{VarId}
use Rattle.cq_term.specs.HeapValue.{Terms}
use Rattle.cq_term.specs.Meaning.{HeapTerm, at, blank}
use Rattle.cq_term.specs.Names.{HasNamesBelow}
use Rattle.cq_term.specs.Places.{numbers_of}
use Rattle.cq_settle.specs.Contents.{Contents}
use Rattle.cq_settle.specs.Standing.{IsConstraint, IsSleeper, constraints, goals, is_constraint, is_goal}
use Rattle.cq_settle.specs.Settled.{IsKept}
use Rattle.cq_settle.specs.Steps.{WakesAll}
use Rattle.cq_settle.specs.Underway.{IsLive, IsHere, IsUnderway, WaitsOrToDo, ToDo, to_do, GoesOn, OfEach, SomeIsUnderway, unified, bindings_now}
use Rattle.cq_settle.proofs.Kept.{is_kept}
use Rattle.cq_settle.proofs.Numeric.{any_found, numeric_below}
use Rattle.cq_settle.proofs.Looked.{has_of_contains}
use Rattle.cq_settle.proofs.Progress.{looked_on}
use Rattle.cq_settle.proofs.Unique.{number_in, found_waits}
use Rattle.cq_settle.proofs.Zips.{partner_of, contains_filtered, contains_unfiltered}

-- ---- from world to world

pub goes_nowhere : (texts : List Text) (c : Contents) (i : ToDo) → GoesOn texts c c i i
goes_nowhere texts c i st p u older values waiting later k = (values, waiting, later, k)

pub goes_then : (texts : List Text) (c d e : Contents) (i j k : ToDo) → GoesOn texts c d i j → GoesOn texts d e j k → GoesOn texts c e i k
goes_then texts c d e i j k f g st p u older values waiting later h =
    let r = f st p u older values waiting later h in
    g st p u older r.0 r.1 r.2 r.3

pub of_before : (texts : List Text) (c d : Contents) (i j : ToDo) (P : State → Pending → Subst Text → Type 0) → GoesOn texts c d i j → OfEach texts d j P → OfEach texts c i P
of_before texts c d i j P f g st p u older values waiting later h =
    let r = f st p u older values waiting later h in
    g st p u older r.0 r.1 r.2 r.3

pub some_after : (texts : List Text) (c d : Contents) (i j : ToDo) → GoesOn texts c d i j → SomeIsUnderway texts c i → SomeIsUnderway texts d j
some_after texts c d i j f k =
    let r = f k.state k.pending k.unifier k.older k.values k.waiting k.later k.is in
    record { state = k.state; pending = k.pending; unifier = k.unifier; older = k.older; values = r.0; waiting = r.1; later = r.2; is = r.3 }

-- ---- what is there

module _ (texts : List Text) (older : List HeapTerm) (c : Contents) (st : State) (p : Pending) (u : Subst Text) (values : ℕ → Option ℚ) (waiting later : List Tree)
    (rest numbers bound all : List ℕ) (k : IsHere texts older c st p u values waiting later rest numbers bound all) where
  live_by : (w : Waiting) → Contains c.attrs.waiting w → (s : Susp) → w.susp ≡ s → IsLive c.heap s
  live_by w h (susp.Delayed t) e =
      let r = partner_of (IsConstraint texts c.heap (bindings_now st u values) (bindings_now st u values)) (constraints c.attrs) waiting w k.stands.delayed
      (contains_filtered (λ x. is_constraint x.susp) c.attrs.waiting w h (ap is_constraint e)) in
      let d : susp.Delayed r.pair.id ≡ susp.Delayed t = sym r.pair.susp ∙ e in
      let i : r.pair.id ≡ t = cc in
      subst (λ (x : ℕ). x < length c.heap.terms) i r.pair.live
  live_by w h (susp.Goal v t) e =
      let r = partner_of (IsSleeper texts c.heap (bindings_now st u values) (bindings_now st u values)) (goals c.attrs) st.sleepers w k.stands.sleepers
      (contains_filtered (λ x. is_goal x.susp) c.attrs.waiting w h (ap is_goal e)) in
      let d : susp.Goal r.pair.variable r.pair.id ≡ susp.Goal v t = sym r.pair.susp ∙ e in
      let i : r.pair.id ≡ t = cc in
      let j : r.pair.variable ≡ v = cc in (
        subst (λ x. x.0 < length c.heap.images) j r.pair.variable_live,
        subst (λ (x : ℕ). x < length c.heap.terms) i r.pair.live,
      )

  pub all_live : All (λ w. IsLive c.heap w.susp) c.attrs.waiting
  all_live i d l = live_by (get_or c.attrs.waiting i d) (Contains-get_or c.attrs.waiting i d l) (get_or c.attrs.waiting i d).susp refl

  pub numeric_there : All (λ v. v < length c.heap.images) c.attrs.numeric
  numeric_there i d l =
      let v = get_or c.attrs.numeric i d in
      let n : is_numeric c.attrs v ≡ true = any_found (λ w. w == v) c.attrs.numeric v (has_of_contains c.attrs.numeric v (Contains-get_or c.attrs.numeric i d l)) (nat_eq-self v) in
      subst (λ (m : ℕ). v < m) (sym k.stands.fresh) (numeric_below st p u k.task v (sym (k.stands.numeric v) ∙ n))

-- ---- what waits for what was bound is to be looked at

pub to_look_at : (texts : List Text) (c : Contents) (bound ns all : List ℕ) → ((n : ℕ) → IsWokenBy c.attrs bound n → Contains ns n)
    → GoesOn texts c c (to_do [] [] bound all) (to_do [] ns [] all)
to_look_at texts c bound ns all woken st p u older values waiting later k = (
  values,
  waiting,
  later,
  record { reached = k.reached; here = looked_on texts older st p u c values waiting later [] [] bound ns [] all k.here on },
) where
  on : (w : Waiting) (t : Tree) → Contains (constraints c.attrs) w → IsConstraint texts c.heap (bindings_now st u values) (bindings_now st u values) w t
      → WaitsOrToDo (unified st u) values [] bound w t → WaitsOrToDo (unified st u) values ns [] w t
  on w t h s (inl e) = inl e
  on w t h s (inr (inl m)) = absurd (omega (arith, m.1))
  on w t h s (inr (inr m)) =
      inr (inl (woken w.number (record {
        variable = m.0;
        is_new = m.2;
        waits_for = record { waiting = w; waits = contains_unfiltered (λ x. is_constraint x.susp) c.attrs.waiting w h; number = refl; watches = m.1 };
      })))

-- nothing that waits has the number that is passed over
pub passed_over : (texts : List Text) (c : Contents) (n : ℕ) (ns bound all : List ℕ) → ((w : Waiting) → Contains (constraints c.attrs) w → w.number ≡ n → ⊥)
    → GoesOn texts c c (to_do [] (n ∷ ns) bound all) (to_do [] ns bound all)
passed_over texts c n ns bound all other st p u older values waiting later k = (
  values,
  waiting,
  later,
  record { reached = k.reached; here = looked_on texts older st p u c values waiting later [] (n ∷ ns) bound ns bound all k.here on },
) where
  on : (w : Waiting) (t : Tree) → Contains (constraints c.attrs) w → IsConstraint texts c.heap (bindings_now st u values) (bindings_now st u values) w t
      → WaitsOrToDo (unified st u) values (n ∷ ns) bound w t → WaitsOrToDo (unified st u) values ns bound w t
  on w t h s (inl e) = inl e
  on w t h s (inr (inr m)) = inr (inr m)
  on w t h s (inr (inl m)) = elim (contains_cases n ns w.number m) [ inl e ↦ absurd (other w h (sym e)) | inr r ↦ inr (inl r) ]

-- ---- the end

none_left : {A B : Type 0} (f : A → B) (xs : List A) → [] ≡ map f xs → xs ≡ []
none_left f [] e = refl
none_left f (x ∷ xs) e = cc

pub ends_kept : (texts : List Text) (old c : Contents) (all : List ℕ) (a : Attributes) (woken : List ℕ) → Solvable c.told → (fixed : ℕ → Option ℚ) → Fixes c.told fixed → WakesAll c all a woken
    → (st : State) (p : Pending) (u : Subst Text) (values : ℕ → Option ℚ) (waiting later : List Tree) → IsUnderway texts old.heap.terms c st p u values waiting later [] [] [] all
    → IsKept texts old (record c { attrs = a }) woken st p u
ends_kept texts old c all a woken solvable fixed fixes w st p u values waiting later k =
    let e : later ≡ [] = none_left _ later k.here.rest_reads in
    is_kept texts old.heap.terms c st p u values waiting all (subst (λ (ts : List Tree). IsUnderway texts old.heap.terms c st p u values waiting ts [] [] [] all) e k)
    solvable fixed fixes a woken w old refl

-- the numbers are those of what waits for one of the variables, ascending
pub record AreWoken (a : Attributes) (bound ns : List ℕ) : Type 0 where
  pub sound : (n : ℕ) → Contains ns n → IsWokenBy a bound n
  pub all : (n : ℕ) → IsWokenBy a bound n → Contains ns n
  pub ascends : Ascends ns

pub woken_since : (a : Attributes) (newly s : List VarId) (seen : ℕ) (ns ms : List ℕ) → s ≡ newly → ms ≡ ns → AreWoken a (numbers_of (take (length s - seen) (drop seen s))) ns
    → AreWoken a (numbers_of (drop seen newly)) ms
woken_since a newly s seen ns ms e f w =
    subst (λ (ks : List ℕ). AreWoken a (numbers_of (drop seen newly)) ks) (sym f)
    (subst (λ (vs : List VarId). AreWoken a (numbers_of vs) ns) (take_rest s seen ∙ ap (drop seen) e) w)

-- what was woken waits
pub woken_waits : (a : Attributes) (bound ns : List ℕ) → AreWoken a bound ns → All (λ n. Contains (numbers a.waiting) n) ns
woken_waits a bound ns f i d l =
    let w = f.sound (get_or ns i d) (Contains-get_or ns i d l) in
    subst (λ (n : ℕ). Contains (numbers a.waiting) n) w.waits_for.number (number_in a.waiting w.waits_for.waiting w.waits_for.waits)

-- what is found waits, and its parts are there
pub found_live : (h : Terms) (ws : List Waiting) (n : ℕ) (s : Susp) → All (λ w. IsLive h w.susp) ws → find ws n ≡ Some s → IsLive h s
found_live h ws n s l e =
    let r = found_waits ws n s e in
    subst (IsLive h) r.is (All-contains (λ w. IsLive h w.susp) ws r.waiting l r.waits)

-- ---- what a call may rely on while some settling is underway

module _ (texts : List Text) (c : Contents) (i : ToDo) (k : SomeIsUnderway texts c i) where
  pub numeric_live : All (λ v. v < length c.heap.images) c.attrs.numeric
  numeric_live = numeric_there texts k.older c k.state k.pending k.unifier k.values k.waiting k.later i.rest i.numbers i.bound i.all k.is.here

  pub waiting_live : All (λ w. IsLive c.heap w.susp) c.attrs.waiting
  waiting_live = all_live texts k.older c k.state k.pending k.unifier k.values k.waiting k.later i.rest i.numbers i.bound i.all k.is.here

  pub rest_live : All (λ id. id < length c.heap.terms) i.rest
  rest_live = k.is.here.rest_live

  pub named : (id : ℕ) → id < length c.heap.terms → HasNamesBelow (length texts) (at c.heap.terms id)
  named id l = All-get_or (HasNamesBelow (length texts)) c.heap.terms id blank l k.is.here.stands.names

  pub live_under : (n id : ℕ) → find c.attrs.waiting n ≡ Some (susp.Delayed id) → id < length c.heap.terms
  live_under n id e = found_live c.heap c.attrs.waiting n (susp.Delayed id) waiting_live e
