-- A constraint that waited is taken away, to join.
use Rattle.std.proofs.Common.{◌≡◌, ◌<◌, ℕ, suc, ◌+◌, List, [], ◌∷◌, ◌++◌, map, length, Bool, true, false, Option, None, Some, refl, sym, ap, ◌∙◌, subst, inl, inr, ◌⊎◌, append_assoc}
use Rattle.std.specs.Prelude.{Contains, filter}
use Rattle.std.specs.List.{AllByRecursion, AllZip}
use Rattle.std.proofs.lemmas.List.{map-append, length-append}
use Rattle.std.proofs.lemmas.List.Elements.{All-contains, filter_passes}
use Rattle.spec_numbers.specs.Rational.{ℚ}
use Rattle.spec_numbers.specs.Texts.{Text}
use Rattle.spec_terms.specs.Term.{Subst, Occurs, apply}
use Rattle.spec_syntax.specs.Trees.{Tree}
use Rattle.spec_branch.specs.Branch.{State, Pending}
use Rattle.cq_attr.specs.Attributes.{Waiting, Attributes, numbers, find, without}
use Rattle.cq_attr.specs.declared.susp.Susp.TheVariants as susp
use Rattle.cq_attr.proofs.Elements.{contains_cases}
use Rattle.cq_term.specs.Meaning.{HeapTerm}
use Rattle.cq_term.specs.Trees.{tree}
use Rattle.cq_settle.specs.Contents.{Contents}
use Rattle.cq_settle.specs.Standing.{IsConstraint, IsSleeper, constraints, goals, is_constraint, is_goal}
use Rattle.cq_settle.specs.Underway.{Awaits, IsHere, WaitsOrToDo, unified, numeric_then, bindings_now}
use Rattle.cq_settle.proofs.Permuted.{IsOnce, once_without}
use Rattle.cq_settle.proofs.Unique.{WaitsUnder, found_waits, susp_under, number_in, once_filtered, is_other, others_stay, one_taken}
use Rattle.cq_settle.proofs.Woken.{filters_commute, zip_both, zip_so}
use Rattle.cq_settle.proofs.Zips.{Partner, partner_of, zip_left, zip_append, all_append, all_front, all_behind, contains_filtered, contains_unfiltered}

-- where a constraint waits under a number, the others have other numbers
module _ (a : Attributes) (n id : ℕ) (once : IsOnce (numbers a.waiting)) (found : find a.waiting n ≡ Some (susp.Delayed id)) where
  abbrev pub under : WaitsUnder a.waiting n (susp.Delayed id)
  under = found_waits a.waiting n (susp.Delayed id) found

  pub is_among : Contains (constraints a) under.waiting
  is_among = contains_filtered (λ (w : Waiting). is_constraint w.susp) a.waiting under.waiting under.waits (ap is_constraint under.is)

  pub goals_stay : goals (without a n) ≡ goals a
  goals_stay = filters_commute (λ (w : Waiting). is_goal w.susp) (is_other n) a.waiting ∙ others_stay n (goals a) no_goal where
    no_goal : (m : Waiting) → Contains (goals a) m → m.number ≡ n → ⊥
    no_goal m h e =
        let goal : is_goal m.susp ≡ true = All-contains (λ (w : Waiting). is_goal w.susp ≡ true) (goals a) m (filter_passes (λ (w : Waiting). is_goal w.susp) a.waiting) h in
        let same : m.susp ≡ susp.Delayed id = susp_under a.waiting n (susp.Delayed id) m once found (contains_unfiltered (λ (w : Waiting). is_goal w.susp) a.waiting m h) e in
        let no : false ≡ true = ap is_goal (sym same) ∙ goal in
        cc

  module _ (before after : List Waiting) (split : constraints a ≡ before ++ under.waiting ∷ after) where
    pub others : (m : Waiting) → Contains (before ++ after) m → m.number ≡ n → ⊥
    others m h e =
        let o : IsOnce (numbers (before ++ under.waiting ∷ after)) =
        subst (λ (ws : List Waiting). IsOnce (numbers ws)) split (once_filtered (λ (w : Waiting). is_constraint w.susp) a.waiting once) in
        let w = once_without (numbers before) (numbers after) under.waiting.number
        (subst IsOnce (map-append (λ (w : Waiting). w.number) before (under.waiting ∷ after)) o) in
        w.1 (subst (λ (ns : List ℕ). Contains ns under.waiting.number) (map-append (λ (w : Waiting). w.number) before after)
        (subst (λ (x : ℕ). Contains (numbers (before ++ after)) x) (e ∙ sym under.number) (number_in (before ++ after) m h)))

    pub constraints_then : constraints (without a n) ≡ before ++ after
    constraints_then =
        filters_commute (λ (w : Waiting). is_constraint w.susp) (is_other n) a.waiting
        ∙ ap (filter (is_other n)) split
        ∙ one_taken n before after under.waiting under.number others

    pub one_less : length (constraints (without a n)) + 1 ≡ length (constraints a)
    one_less = ap (λ (ws : List Waiting). length ws + 1) constraints_then ∙ ap (λ (x : ℕ). x + 1) (length-append before after)
        ∙ plus_one (length before) (length after) ∙ sym (ap length split ∙ length-append before (under.waiting ∷ after)) where
          plus_one : (x y : ℕ) → (x + y) + 1 ≡ x + suc y
          plus_one x y = omega Rattle.std.proofs.Common.arith

  pub one_fewer : length (constraints (without a n)) + 1 ≡ length (constraints a)
  one_fewer = let r = partner_of (λ (x y : Waiting). Unit {0}) (constraints a) (constraints a) under.waiting (all_zip (constraints a)) is_among in
      one_less r.left_before r.left_after r.left where
        all_zip : (ws : List Waiting) → AllZip (λ (x y : Waiting). Unit {0}) ws ws
        all_zip [] = tt
        all_zip (w ∷ ws) = (tt, all_zip ws)

module _ (texts : List Text) (older : List HeapTerm) (c : Contents) (st : State) (p : Pending) (u : Subst Text) (f : ℕ → Option ℚ) (waiting later : List Tree)
    (rest ns bound all : List ℕ) (n id : ℕ) (k : IsHere texts older c st p u f waiting later rest (n ∷ ns) bound all) (once : IsOnce (numbers c.attrs.waiting))
    (found : find c.attrs.waiting n ≡ Some (susp.Delayed id)) where
  abbrev now : Subst Text
  now = bindings_now st u f

  abbrev Both : Waiting → Tree → Type 0
  Both w t = IsConstraint texts c.heap now now w t × WaitsOrToDo (unified st u) f (n ∷ ns) bound w t

  pub place : Partner Both (constraints c.attrs) waiting (found_waits c.attrs.waiting n (susp.Delayed id) found).waiting
  place = partner_of Both (constraints c.attrs) waiting (found_waits c.attrs.waiting n (susp.Delayed id) found).waiting
      (zip_both (IsConstraint texts c.heap now now) (WaitsOrToDo (unified st u) f (n ∷ ns) bound) (constraints c.attrs) waiting k.stands.delayed k.looked_at)
      (is_among c.attrs n id once found)

  pub reads : tree texts c.heap.terms id ≡ apply now place.partner
  reads =
      let d : susp.Delayed place.pair.0.id ≡ susp.Delayed id = sym place.pair.0.susp ∙ (found_waits c.attrs.waiting n (susp.Delayed id) found).is in
      let i : place.pair.0.id ≡ id = cc in
      subst (λ (x : ℕ). tree texts c.heap.terms x ≡ apply now place.partner) i place.pair.0.reads

  abbrev IsNumeric : Tree → Type 0
  IsNumeric t = (v : ℕ) → Occurs v (apply (unified st u) t) → numeric_then st p u v ≡ true

  numeric_waiting : AllByRecursion IsNumeric (place.before ++ place.partner ∷ place.after)
  numeric_waiting = subst (λ (ts : List Tree). AllByRecursion IsNumeric ts) place.right (all_front IsNumeric waiting later k.numeric_terms)

  pub numeric : IsNumeric place.partner
  numeric = (all_behind IsNumeric place.before (place.partner ∷ place.after) numeric_waiting).0

  pub split : waiting ++ later ≡ place.before ++ place.partner ∷ (place.after ++ later)
  split = ap (λ (ts : List Tree). ts ++ later) place.right ∙ append_assoc place.before (place.partner ∷ place.after) later

  abbrev pub left : Contents
  left = record c { attrs = without c.attrs n }

  not_it : (w : Waiting) (t : Tree) → (w.number ≡ n → ⊥) → WaitsOrToDo (unified st u) f (n ∷ ns) bound w t → WaitsOrToDo (unified st u) f ns bound w t
  not_it w t o (inl e) = inl e
  not_it w t o (inr (inr h)) = inr (inr h)
  not_it w t o (inr (inl h)) = elim (contains_cases n ns w.number h) [ inl e ↦ absurd (o (sym e)) | inr m ↦ inr (inl m) ]

  pairs : AllZip Both (place.left_before ++ place.left_after) (place.before ++ place.after)
  pairs = zip_append Both place.left_before place.before place.left_after place.after place.pairs_before place.pairs_after

  others_here : (m : Waiting) → Contains (place.left_before ++ place.left_after) m → m.number ≡ n → ⊥
  others_here = others c.attrs n id once found place.left_before place.left_after place.left

  these : constraints (without c.attrs n) ≡ place.left_before ++ place.left_after
  these = constraints_then c.attrs n id once found place.left_before place.left_after place.left

  pub taken : IsHere texts older left st p u f (place.before ++ place.after) later rest ns bound all
  taken = record {
    task = k.task;
    are_bound = k.are_bound;
    stands = record {
      bindings = k.stands.bindings;
      linear = refl;
      delayed = subst (λ (ws : List Waiting). AllZip (IsConstraint texts c.heap now now) ws (place.before ++ place.after)) (sym these)
          (zip_so Both (IsConstraint texts c.heap now now) (λ w t r. r.0) (place.left_before ++ place.left_after) (place.before ++ place.after) pairs);
      numeric = k.stands.numeric;
      sleepers = subst (λ (ws : List Waiting). AllZip (IsSleeper texts c.heap now now) ws st.sleepers) (sym (goals_stay c.attrs n id once found)) k.stands.sleepers;
      fresh = k.stands.fresh;
      names = k.stands.names;
    };
    older_live = k.older_live;
    older_read = k.older_read;
    awaited = subst (λ (ws : List Waiting). AllZip (Awaits st u all) ws st.sleepers) (sym (goals_stay c.attrs n id once found)) k.awaited;
    all_values = k.all_values;
    numeric_terms = all_append IsNumeric (place.before ++ place.after) later
        (all_append IsNumeric place.before place.after (all_front IsNumeric place.before (place.partner ∷ place.after) numeric_waiting)
        (all_behind IsNumeric place.before (place.partner ∷ place.after) numeric_waiting).1)
        (all_behind IsNumeric waiting later k.numeric_terms);
    rest_live = k.rest_live;
    rest_reads = k.rest_reads;
    looked_at = subst (λ (ws : List Waiting). AllZip (WaitsOrToDo (unified st u) f ns bound) ws (place.before ++ place.after)) (sym these)
        (zip_so (λ (w : Waiting) (t : Tree). (w.number ≡ n → ⊥) × Both w t) (WaitsOrToDo (unified st u) f ns bound) (λ w t r. not_it w t r.0 r.1.1)
        (place.left_before ++ place.left_after) (place.before ++ place.after)
        (zip_left Both (λ (w : Waiting). w.number ≡ n → ⊥) (place.left_before ++ place.left_after) (place.before ++ place.after) pairs others_here));
  }
