-- The goals that wake, taken one after another.
use Rattle.std.proofs.Common.{◌≡◌, ◌<◌, ℕ, zero, suc, List, [], ◌∷◌, ◌++◌, length, get_or, take, Bool, true, false, cond, Option, None, Some, refl, sym, ap, ap₂, ◌∙◌, subst, inl, inr, ◌⊎◌, arith}
use Rattle.std.specs.Prelude.{Contains, All, filter, not, ◌&&◌, ◌||◌, ◌==◌, is_some, if◌then◌else◌}
use Rattle.std.specs.List.{list_any, filter_map, cons_option}
use Rattle.std.proofs.lemmas.Bool.{true≢false}
use Rattle.std.specs.Cmp.{both_ways}
use Rattle.std.proofs.lemmas.List.Elements.{filter_map-append, filter_passes, All-contains, Contains-get_or}
use Rattle.spec_numbers.proofs.Tests.{nat_eq-same, nat_eq-self, nat_eq-apart}
use Rattle.cq_attr.specs.Attributes.{Waiting, Attributes, Ascends, numbers, find, IsWokenBy}
use Rattle.cq_attr.specs.declared.susp.Susp.{Susp}
use Rattle.cq_attr.proofs.Elements.{contains_here, contains_later, contains_cases, contains_none}
use Rattle.cq_term.specs.Meaning.{HeapTerm}
use Rattle.cq_settle.specs.Steps.{WakesOne, goal_that_wakes, unless_given, waits_for_one, wakes}
use Rattle.cq_settle.proofs.Looked.{has_of_contains}
use Rattle.cq_settle.proofs.Numeric.{found_any, any_found, contains_of_has}
use Rattle.cq_settle.proofs.Permuted.{IsOnce, any_default, once_rest, once_head}
use Rattle.cq_settle.proofs.Unique.{once_ascending, number_in, numbers_unfiltered, one_number, found_waits, susp_under, is_other}
use Rattle.cq_settle.proofs.Woken.{kept_cases, waits_for_it}
use Rattle.cq_settle.proofs.Zips.{contains_filtered, contains_unfiltered}

-- ---- lists

filter_same : (p q : Waiting → Bool) (ws : List Waiting) → ((k : Waiting) → Contains ws k → p k ≡ q k) → filter p ws ≡ filter q ws
filter_same p q [] h = refl
filter_same p q (w ∷ ws) h =
    ap₂ (λ (b : Bool) (vs : List Waiting). cond b (w ∷ vs) vs) (h w (contains_here w ws w refl)) (filter_same p q ws (λ k m. h k (contains_later w ws k m)))

filter_twice : (p q : Waiting → Bool) (ws : List Waiting) → filter p (filter q ws) ≡ filter (λ k. q k && p k) ws
filter_twice p q [] = refl
filter_twice p q (w ∷ ws) = kept_cases p w (filter q ws) (q w) (p w) refl ∙ ap (λ (vs : List Waiting). cond (q w && p w) (w ∷ vs) vs) (filter_twice p q ws)

ascends_rest : (x : ℕ) (xs : List ℕ) → Ascends (x ∷ xs) → Ascends xs
ascends_rest x xs h i j d l m = h (suc i) (suc j) d (omega (arith, l)) (omega (arith, m))

ascends_head : (x : ℕ) (xs : List ℕ) (y : ℕ) → Ascends (x ∷ xs) → Contains xs y → x < y
ascends_head x xs y h m = subst (λ (z : ℕ). x < z) m.2 (h 0 (suc m.0) y (omega arith) (omega (arith, m.1)))

-- two ascending lists with the same elements
first_same : (x y : ℕ) (xs ys : List ℕ) → Ascends (x ∷ xs) → Ascends (y ∷ ys) → (y ≡ x) ⊎ Contains ys x → (x ≡ y) ⊎ Contains xs y → x ≡ y
first_same x y xs ys a b (inl e) g = sym e
first_same x y xs ys a b (inr h) (inl e) = e
first_same x y xs ys a b (inr h) (inr m) = absurd (omega (arith, ascends_head y ys x b h, ascends_head x xs y a m))

behind_too : (x y z : ℕ) (xs ys : List ℕ) → Ascends (x ∷ xs) → x ≡ y → Contains xs z → (y ≡ z) ⊎ Contains ys z → Contains ys z
behind_too x y z xs ys a e h (inl i) = absurd (omega (arith, ascends_head x xs z a h, e, i))
behind_too x y z xs ys a e h (inr m) = m

pub same_ascending : (xs ys : List ℕ) → Ascends xs → Ascends ys → ((z : ℕ) → Contains xs z → Contains ys z) → ((z : ℕ) → Contains ys z → Contains xs z) → xs ≡ ys
same_ascending [] [] a b f g = refl
same_ascending [] (y ∷ ys) a b f g = absurd (contains_none y (g y (contains_here y ys y refl)))
same_ascending (x ∷ xs) [] a b f g = absurd (contains_none x (f x (contains_here x xs x refl)))
same_ascending (x ∷ xs) (y ∷ ys) a b f g =
    let e : x ≡ y = first_same x y xs ys a b (contains_cases y ys x (f x (contains_here x xs x refl))) (contains_cases x xs y (g y (contains_here y ys y refl))) in
    ap₂ (λ z zs. z ∷ zs) e (same_ascending xs ys (ascends_rest x xs a) (ascends_rest y ys b)
    (λ z h. behind_too x y z xs ys a e h (contains_cases y ys z (f z (contains_later x xs z h))))
    (λ z h. behind_too y x z ys xs b (sym e) h (contains_cases x xs z (g z (contains_later y ys z h)))))

ascends_kept : (b : Bool) (w : Waiting) (vs : List Waiting) → Ascends (numbers vs) → ((n : ℕ) → Contains (numbers vs) n → w.number < n) → Ascends (numbers (cond b (w ∷ vs) vs))
ascends_kept true w vs a f zero zero d l m = absurd (omega (arith, l))
ascends_kept true w vs a f zero (suc j) d l m = f (get_or (numbers vs) j d) (j, omega (arith, m), any_default (numbers vs) j d (get_or (numbers vs) j d) (omega (arith, m)))
ascends_kept true w vs a f (suc i) zero d l m = absurd (omega (arith, l))
ascends_kept true w vs a f (suc i) (suc j) d l m = a i j d (omega (arith, l)) (omega (arith, m))
ascends_kept false w vs a f i j d l m = a i j d l m

ascends_filtered : (p : Waiting → Bool) (ws : List Waiting) → Ascends (numbers ws) → Ascends (numbers (filter p ws))
ascends_filtered p [] a = a
ascends_filtered p (w ∷ ws) a =
    ascends_kept (p w) w (filter p ws) (ascends_filtered p ws (ascends_rest w.number (numbers ws) a))
    (λ n h. ascends_head w.number (numbers ws) n a (numbers_unfiltered p ws n h))

-- the one that has a number
pub record HasNumber (ws : List Waiting) (n : ℕ) : Type 0 where
  pub waiting : Waiting
  pub waits : Contains ws waiting
  pub number : waiting.number ≡ n

pub with_number : (ws : List Waiting) (n : ℕ) → Contains (numbers ws) n → HasNumber ws n
with_number [] n h = absurd (contains_none n h)
with_number (w ∷ ws) n h =
    elim (contains_cases w.number (numbers ws) n h) [
      | inl e ↦ record { waiting = w; waits = contains_here w ws w refl; number = e }
      | inr m ↦ (let r = with_number ws n m in record { waiting = r.waiting; waits = contains_later w ws r.waiting r.waits; number = r.number })
    ]

find_by : (w : Waiting) (ws : List Waiting) (k : Waiting) → IsOnce (numbers (w ∷ ws)) → (Contains ws k → find ws k.number ≡ Some k.susp) → (w ≡ k) ⊎ Contains ws k
    → (if w.number == k.number then Some w.susp else find ws k.number) ≡ Some k.susp
find_by w ws k o f (inl e) = ap (λ (x : Waiting). if w.number == x.number then Some w.susp else find ws x.number) (sym e)
    ∙ ap (λ (b : Bool). if b then Some w.susp else find ws w.number) (nat_eq-self w.number) ∙ ap (λ (x : Waiting). Some x.susp) e
find_by w ws k o f (inr h) =
    ap (λ (b : Bool). if b then Some w.susp else find ws k.number)
    (nat_eq-apart w.number k.number (λ e. once_head w.number (numbers ws) o (subst (λ (n : ℕ). Contains (numbers ws) n) (sym e) (number_in ws k h)))) ∙ f h

pub find_of : (ws : List Waiting) (k : Waiting) → IsOnce (numbers ws) → Contains ws k → find ws k.number ≡ Some k.susp
find_of [] k o h = absurd (contains_none k h)
find_of (w ∷ ws) k o h = find_by w ws k o (λ m. find_of ws k (once_rest w.number (numbers ws) o) m) (contains_cases w ws k h)

-- a number does not stand again before
pub not_before : (ns : List ℕ) (i d : ℕ) → Ascends ns → i < length ns → Contains (take i ns) (get_or ns i d) → ⊥
not_before [] i d a l m = omega (arith, l)
not_before (n ∷ ns) zero d a l m = contains_none n m
not_before (n ∷ ns) (suc i) d a l m =
    let l' : i < length ns = omega (arith, l) in
    elim (contains_cases n (take i ns) (get_or ns i d) m) [
      | inl e ↦ omega (arith, ascends_head n ns (get_or ns i d) a (Contains-get_or ns i d l'), e)
      | inr h ↦ not_before ns i d (ascends_rest n ns a) l' h
    ]

-- what is given or not changes only what waits
given_numeric : (o : Option ℕ) (n : ℕ) (a : Attributes) → (unless_given o n a).numeric ≡ a.numeric
given_numeric None n a = refl
given_numeric (Some g) n a = refl

given_next : (o : Option ℕ) (n : ℕ) (a : Attributes) → (unless_given o n a).next ≡ a.next
given_next None n a = refl
given_next (Some g) n a = refl

pub wakes_numeric : (images : List HeapTerm) (n : ℕ) (a b : Attributes) (before after : List ℕ) → WakesOne images n a b before after → b.numeric ≡ a.numeric
wakes_numeric images n a b before after w = ap (λ (x : Attributes). x.numeric) w.attrs ∙ given_numeric (goal_that_wakes images w.susp) n a

pub wakes_next : (images : List HeapTerm) (n : ℕ) (a b : Attributes) (before after : List ℕ) → WakesOne images n a b before after → b.next ≡ a.next
wakes_next images n a b before after w = ap (λ (x : Attributes). x.next) w.attrs ∙ given_next (goal_that_wakes images w.susp) n a

-- ---- what was looked at

abbrev pub among : List ℕ → Waiting → Bool
among ns k = list_any (λ n. k.number == n) ns

abbrev pub waking : List HeapTerm → Option Susp → Option ℕ
waking images None = None
waking images (Some s) = goal_that_wakes images s

any_push : (k : Waiting) (ns : List ℕ) (n : ℕ) → among (ns ++ n ∷ []) k ≡ (among ns k || (k.number == n))
any_push k [] n = or_none (k.number == n) where
  or_none : (b : Bool) → (b || false) ≡ (false || b)
  or_none true = refl
  or_none false = refl
any_push k (m ∷ ns) n = ap (λ (b : Bool). (k.number == m) || b) (any_push k ns n) ∙ assoc (k.number == m) (among ns k) (k.number == n) where
  assoc : (a b c : Bool) → (a || (b || c)) ≡ ((a || b) || c)
  assoc true b c = refl
  assoc false b c = refl

-- what is left, and the goals that are given, once these numbers were looked at
abbrev pub left_of : List HeapTerm → List Waiting → List ℕ → List Waiting
left_of images ws ns = filter (λ k. not (among ns k && wakes images k)) ws

abbrev pub given_of : List HeapTerm → List Waiting → List ℕ → List ℕ
given_of images ws ns = filter_map (λ n. waking images (find ws n)) ns

module _ (images : List HeapTerm) (ws : List Waiting) (ascends : Ascends (numbers ws)) where
  once : IsOnce (numbers ws)
  once = once_ascending (numbers ws) ascends

  abbrev pub left : List ℕ → List Waiting
  left = left_of images ws

  abbrev pub given : List ℕ → List ℕ
  given = given_of images ws

  pub left_none : ws ≡ left []
  left_none = all ws where
    all : (vs : List Waiting) → vs ≡ filter (λ k. not (among [] k && wakes images k)) vs
    all [] = refl
    all (v ∷ vs) = ap (λ us. v ∷ us) (all vs)

  wakes_of : (k : Waiting) (n : ℕ) (s : Susp) → Contains ws k → find ws n ≡ Some s → k.number ≡ n → wakes images k ≡ is_some (goal_that_wakes images s)
  wakes_of k n s h f e = ap (λ (x : Susp). is_some (goal_that_wakes images x)) (susp_under ws n s k once f h e)

  -- one that does not wake
  stays_by : (a c d : Bool) → (c ≡ true → d ≡ false) → not (a && d) ≡ not ((a || c) && d)
  stays_by true c d f = refl
  stays_by false true d f = ap (λ (x : Bool). not (false && x)) (f refl) ∙ sym (ap not (f refl))
  stays_by false false d f = refl

  pub left_stays : (ns : List ℕ) (n : ℕ) (s : Susp) → find ws n ≡ Some s → goal_that_wakes images s ≡ None → left ns ≡ left (ns ++ n ∷ [])
  left_stays ns n s f g =
      filter_same (λ k. not (among ns k && wakes images k)) (λ k. not (among (ns ++ n ∷ []) k && wakes images k)) ws
      (λ k h. stays_by (among ns k) (k.number == n) (wakes images k) (λ e. wakes_of k n s h f (nat_eq-same k.number n e) ∙ ap is_some g)
      ∙ ap (λ (b : Bool). not (b && wakes images k)) (sym (any_push k ns n)))

  pub given_stays : (ns : List ℕ) (n : ℕ) (s : Susp) → find ws n ≡ Some s → goal_that_wakes images s ≡ None → given ns ≡ given (ns ++ n ∷ [])
  given_stays ns n s f g =
      sym (filter_map-append (λ n. waking images (find ws n)) ns (n ∷ [])
      ∙ ap (λ (o : Option ℕ). given ns ++ cons_option o []) (ap (waking images) f ∙ g) ∙ nothing (given ns)) where
        nothing : (xs : List ℕ) → xs ++ [] ≡ xs
        nothing [] = refl
        nothing (x ∷ xs) = ap (λ ys. x ∷ ys) (nothing xs)

  -- one that wakes
  takes_by : (a c d : Bool) → (c ≡ true → d ≡ true) → (not (a && d) && not c) ≡ not ((a || c) && d)
  takes_by true true true f = refl
  takes_by true true false f = absurd (true≢false (sym (f refl)))
  takes_by true false true f = refl
  takes_by true false false f = refl
  takes_by false true true f = refl
  takes_by false true false f = absurd (true≢false (sym (f refl)))
  takes_by false false d f = refl

  pub left_takes : (ns : List ℕ) (n : ℕ) (s : Susp) (g : ℕ) → find ws n ≡ Some s → goal_that_wakes images s ≡ Some g → filter (is_other n) (left ns) ≡ left (ns ++ n ∷ [])
  left_takes ns n s g f e =
      filter_twice (is_other n) (λ k. not (among ns k && wakes images k)) ws
      ∙ filter_same (λ k. not (among ns k && wakes images k) && is_other n k) (λ k. not (among (ns ++ n ∷ []) k && wakes images k)) ws
      (λ k h. takes_by (among ns k) (k.number == n) (wakes images k) (λ i. wakes_of k n s h f (nat_eq-same k.number n i) ∙ ap is_some e)
      ∙ ap (λ (b : Bool). not (b && wakes images k)) (sym (any_push k ns n)))

  pub given_takes : (ns : List ℕ) (n : ℕ) (s : Susp) (g : ℕ) → find ws n ≡ Some s → goal_that_wakes images s ≡ Some g → given ns ++ g ∷ [] ≡ given (ns ++ n ∷ [])
  given_takes ns n s g f e =
      sym (filter_map-append (λ n. waking images (find ws n)) ns (n ∷ []) ∙ ap (λ (o : Option ℕ). given ns ++ cons_option o []) (ap (waking images) f ∙ e))

  -- one that was looked at, on the way
  waiting_on : (ns : List ℕ) (n : ℕ) (s : Susp) (a b : Attributes) → find ws n ≡ Some s → a.waiting ≡ left ns → (o : Option ℕ) → goal_that_wakes images s ≡ o → b ≡ unless_given o n a
      → b.waiting ≡ left (ns ++ n ∷ [])
  waiting_on ns n s a b f e None i j = ap (λ (x : Attributes). x.waiting) j ∙ e ∙ left_stays ns n s f i
  waiting_on ns n s a b f e (Some g) i j = ap (λ (x : Attributes). x.waiting) j ∙ ap (filter (is_other n)) e ∙ left_takes ns n s g f i

  given_on : (ns : List ℕ) (n : ℕ) (s : Susp) (before after : List ℕ) → find ws n ≡ Some s → before ≡ given ns → (o : Option ℕ) → goal_that_wakes images s ≡ o
      → after ≡ before ++ cons_option o [] → after ≡ given (ns ++ n ∷ [])
  given_on ns n s before after f e None i j = j ∙ nothing before ∙ e ∙ given_stays ns n s f i where
    nothing : (xs : List ℕ) → xs ++ [] ≡ xs
    nothing [] = refl
    nothing (x ∷ xs) = ap (λ ys. x ∷ ys) (nothing xs)
  given_on ns n s before after f e (Some g) i j = j ∙ ap (λ (xs : List ℕ). xs ++ g ∷ []) e ∙ given_takes ns n s g f i

  -- what is found among those that are left is what waited
  pub found_left : (ns : List ℕ) (n : ℕ) (s : Susp) → find (left ns) n ≡ Some s → find ws n ≡ Some s
  found_left ns n s f =
      let r = found_waits (left ns) n s f in
      ap (find ws) (sym r.number) ∙ find_of ws r.waiting once (contains_unfiltered (λ k. not (among ns k && wakes images k)) ws r.waiting r.waits) ∙ ap (λ (x : Susp). Some x) r.is

  pub wake_on : (ns : List ℕ) (n : ℕ) (a b : Attributes) (before after : List ℕ) → WakesOne images n a b before after → a.waiting ≡ left ns → before ≡ given ns
      → (b.waiting ≡ left (ns ++ n ∷ [])) × (after ≡ given (ns ++ n ∷ []))
  wake_on ns n a b before after w e i =
      let f = found_left ns n w.susp (subst (λ (vs : List Waiting). find vs n ≡ Some w.susp) e w.found) in (
        waiting_on ns n w.susp a b f e (goal_that_wakes images w.susp) refl w.attrs,
        given_on ns n w.susp before after f i (goal_that_wakes images w.susp) refl w.given,
      )

  pub left_live : (P : Waiting → Type 0) (ns : List ℕ) → All P ws → All P (left ns)
  left_live P ns h i d l =
      All-contains P ws (get_or (left ns) i d) h (contains_unfiltered (λ k. not (among ns k && wakes images k)) ws (get_or (left ns) i d) (Contains-get_or (left ns) i d l))

  not_among : (ns : List ℕ) (k : Waiting) → (Contains ns k.number → ⊥) → (b : Bool) → among ns k ≡ b → b ≡ false
  not_among ns k h true e =
      let r = found_any (λ n. k.number == n) ns e in
      absurd (h (subst (λ (x : ℕ). Contains ns x) (sym (nat_eq-same k.number r.item r.passes)) (contains_of_has ns r.item r.among)))
  not_among ns k h false e = refl

  pub still_left : (ns : List ℕ) (n : ℕ) → Contains (numbers ws) n → (Contains ns n → ⊥) → Contains (numbers (left ns)) n
  still_left ns n h f =
      let r = with_number ws n h in
      subst (λ (x : ℕ). Contains (numbers (left ns)) x) r.number
      (number_in (left ns) r.waiting (contains_filtered (λ k. not (among ns k && wakes images k)) ws r.waiting r.waits
      (ap (λ (b : Bool). not (b && wakes images r.waiting)) (not_among ns r.waiting (λ m. f (subst (λ (x : ℕ). Contains ns x) r.number m)) (among ns r.waiting) refl))))

  -- ---- all that wait for bound variables

  module _ (a : Attributes) (is : a.waiting ≡ ws) (bound ns : List ℕ) (asc : Ascends ns) (sound : (n : ℕ) → Contains ns n → IsWokenBy a bound n) (all : (n : ℕ) → IsWokenBy a bound n → Contains ns n) where
    waits_of : (k : Waiting) → Contains ws k → Contains ns k.number → waits_for_one bound k ≡ true
    waits_of k h m =
        let w = sound k.number m in
        let same : w.waits_for.waiting ≡ k = one_number ws w.waits_for.waiting k once (subst (λ (vs : List Waiting). Contains vs w.waits_for.waiting) is w.waits_for.waits) h w.waits_for.number in
        waits_for_it bound k w.variable w.is_new (subst (λ (x : Waiting). Contains x.watched w.variable) same w.waits_for.watches)

    number_of : (k : Waiting) → Contains ws k → waits_for_one bound k ≡ true → Contains ns k.number
    number_of k h e =
        let v = found_any (λ v. list_any (λ w. w == v) k.watched) bound e in
        let w = found_any (λ w. w == v.item) k.watched v.passes in
        all k.number (record {
          variable = v.item;
          is_new = contains_of_has bound v.item v.among;
          waits_for = record {
            waiting = k;
            waits = subst (λ (vs : List Waiting). Contains vs k) (sym is) h;
            number = refl;
            watches = subst (λ (x : ℕ). Contains k.watched x) (nat_eq-same w.item v.item w.passes) (contains_of_has k.watched w.item w.among);
          };
        })

    same_test : (k : Waiting) → Contains ws k → among ns k ≡ waits_for_one bound k
    same_test k h = both_ways (among ns k) (waits_for_one bound k)
        (λ e. let r = found_any (λ n. k.number == n) ns e in
        waits_of k h (subst (λ (x : ℕ). Contains ns x) (sym (nat_eq-same k.number r.item r.passes)) (contains_of_has ns r.item r.among)))
        (λ e. any_found (λ n. k.number == n) ns k.number (has_of_contains ns k.number (number_of k h e)) (nat_eq-self k.number))

    pub all_left : left ns ≡ filter (λ k. not (waits_for_one bound k && wakes images k)) ws
    all_left = filter_same (λ k. not (among ns k && wakes images k)) (λ k. not (waits_for_one bound k && wakes images k)) ws
        (λ k h. ap (λ (b : Bool). not (b && wakes images k)) (same_test k h))

    these : ns ≡ numbers (filter (waits_for_one bound) ws)
    these = same_ascending ns (numbers (filter (waits_for_one bound) ws)) asc (ascends_filtered (waits_for_one bound) ws ascends)
        (λ n h. let w = sound n h in
        let m : Contains ws w.waits_for.waiting = subst (λ (vs : List Waiting). Contains vs w.waits_for.waiting) is w.waits_for.waits in
        subst (λ (x : ℕ). Contains (numbers (filter (waits_for_one bound) ws)) x) w.waits_for.number
        (number_in (filter (waits_for_one bound) ws) w.waits_for.waiting (contains_filtered (waits_for_one bound) ws w.waits_for.waiting m
        (waits_for_it bound w.waits_for.waiting w.variable w.is_new w.waits_for.watches))))
        (λ n h. let r = with_number (filter (waits_for_one bound) ws) n h in
        subst (λ (x : ℕ). Contains ns x) r.number (number_of r.waiting (contains_unfiltered (waits_for_one bound) ws r.waiting r.waits)
        (All-contains (λ k. waits_for_one bound k ≡ true) (filter (waits_for_one bound) ws) r.waiting
        (filter_passes (waits_for_one bound) ws) r.waits)))

    given_by : (b : Bool) (k : Waiting) (vs : List Waiting) (rest : List ℕ) → find ws k.number ≡ Some k.susp
        → filter_map (λ n. waking images (find ws n)) (numbers vs) ≡ rest
        → filter_map (λ n. waking images (find ws n)) (numbers (cond b (k ∷ vs) vs)) ≡ cons_option (if b then goal_that_wakes images k.susp else None) rest
    given_by true k vs rest f e = ap₂ (λ o xs. cons_option o xs) (ap (waking images) f) e
    given_by false k vs rest f e = e

    given_each : (vs : List Waiting) → ((k : Waiting) → Contains vs k → Contains ws k)
        → filter_map (λ n. waking images (find ws n)) (numbers (filter (waits_for_one bound) vs)) ≡ filter_map (λ k. if waits_for_one bound k then goal_that_wakes images k.susp else None) vs
    given_each [] f = refl
    given_each (k ∷ vs) f =
        given_by (waits_for_one bound k) k (filter (waits_for_one bound) vs) (filter_map (λ k. if waits_for_one bound k then goal_that_wakes images k.susp else None) vs)
        (find_of ws k once (f k (contains_here k vs k refl))) (given_each vs (λ m h. f m (contains_later k vs m h)))

    pub all_given : given ns ≡ filter_map (λ k. if waits_for_one bound k then goal_that_wakes images k.susp else None) ws
    all_given = ap given these ∙ given_each ws (λ k h. h)
