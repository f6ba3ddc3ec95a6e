-- Terms that are looked at again, one after another.
use Rattle.std.proofs.Common.{◌≡◌, ◌≢◌, ◌<◌, ◌≤◌, ℕ, zero, suc, ◌+◌, ◌*◌, List, [], ◌∷◌, ◌++◌, length, take, drop, get_or, Bool, true, false, Option, None, Some, refl, sym, ap, ◌∙◌, subst, inl, inr, ◌⊎◌, arith, append_assoc}
use Rattle.std.specs.Prelude.{All, Contains, MatchBool, not, if◌then◌else◌, nat_lt}
use Rattle.std.specs.List.{cons_option}
use Rattle.std.proofs.lemmas.Bool.{lt-ltb, ltb-true, cases_lt}
use Rattle.std.proofs.lemmas.List.{drop_all, drop_at, drop_more, take_more, length-drop, get_or-drop}
use Rattle.std.proofs.lemmas.List.Elements.{All-head, All-tail, All-contains, Contains-get_or, filter_passes}
use Rattle.spec_numbers.specs.Rational.{ℚ}
use Rattle.spec_linear.specs.Solution.{Constraint, Solvable, Fixed}
use Rattle.spec_numbers.specs.Texts.{Text}
use Rattle.spec_numbers.proofs.Tests.{nat_eq-apart}
use Rattle.spec_terms.specs.Term.{Var}
use Rattle.cq_attr.specs.Attributes.{Waiting, Attributes, Ascends, is_numeric, numbers, find, without}
use Rattle.cq_attr.specs.declared.susp.Susp.{Susp}
use Rattle.cq_attr.specs.declared.susp.Susp.TheVariants as susp
use Rattle.cq_frac.specs.declared.VarId.{VarId}
use Rattle.cq_tableau.specs.Newly.{AreNewlyFixed}
use Rattle.cq_store.specs.StoreValue.{StoreValue}
use Rattle.cq_term.specs.HeapValue.{HeapValue}
use Rattle.cq_term.specs.Meaning.{HeapTerm, at}
use Rattle.cq_term.specs.Places.{numbers_of}
use Rattle.cq_settle.specs.Contents.{Contents}
use Rattle.cq_settle.specs.Standing.{constraints, is_constraint}
use Rattle.cq_settle.specs.declared.world.World.{World}
use Rattle.cq_settle.specs.Settled.{KeepsMarks}
use Rattle.cq_settle.specs.Steps.{HasFewer, BindsValues, JoinsAndBinds, WakesOne, goal_that_wakes, unless_given}
use Rattle.cq_settle.specs.Underway.{ToDo, GoesOn, to_do}
use Rattle.cq_settle.proofs.Closed.{nothing_behind}
use Rattle.cq_settle.proofs.Joined.{numbers_behind, joins_and_binds}
use Rattle.cq_settle.proofs.Permuted.{IsOnce, any_default}
use Rattle.cq_settle.proofs.Taken.{one_fewer}
use Rattle.cq_settle.proofs.Unique.{susp_under, number_in, is_other}
use Rattle.cq_settle.proofs.Waking.{with_number}
use Rattle.cq_settle.proofs.Zips.{contains_filtered, contains_unfiltered}

-- ---- answers of yes or no

pub by_yes : {P Q R S : Type 0} (b : Bool) → (P → R) → (Q → S) → MatchBool b P Q → MatchBool b R S
by_yes true f g h = f h
by_yes false f g h = g h

-- ---- variables that were bound

pub behind : (before after more : List VarId) → after ≡ before ++ more → drop (length before) after ≡ more
behind before after more e = ap (drop (length before)) e ∙ drop_at before more (length before) refl

pub none_behind : (bound : List ℕ) (newly : List VarId) → bound ++ numbers_of (drop (length newly) newly) ≡ bound
none_behind bound newly = ap (λ (vs : List VarId). bound ++ numbers_of vs) (drop_all (length newly) newly (omega arith)) ∙ nothing_behind bound

pub behind_then : (first second third more later : List VarId) → second ≡ first ++ more → third ≡ second ++ later
    → numbers_of (drop (length first) second) ++ numbers_of (drop (length second) third) ≡ numbers_of (drop (length first) third)
behind_then first second third more later e f =
    ap (λ (vs : List VarId). numbers_of (drop (length first) second) ++ numbers_of vs) (behind second third later f)
    ∙ ap (λ (vs : List VarId). numbers_of vs ++ numbers_of later) (behind first second more e)
    ∙ sym (numbers_behind more later)
    ∙ sym (ap numbers_of (behind first third (more ++ later) (f ∙ ap (λ (vs : List VarId). vs ++ later) e ∙ append_assoc first more later)))

pub fewer_none : (c : Contents) (newly : List VarId) → HasFewer c c newly newly
fewer_none c newly = record { more = []; list = sym (nothing_behind newly); fewer = omega arith; none = λ e. refl }

pub fewer_then : (c d e : Contents) (first second third : List VarId) → HasFewer c d first second → HasFewer d e second third → HasFewer c e first third
fewer_then c d e first second third f g = record {
  more = f.more ++ g.more;
  list = g.list ∙ ap (λ (vs : List VarId). vs ++ g.more) f.list ∙ append_assoc first f.more g.more;
  fewer = omega (arith, f.fewer, g.fewer);
  none = λ i. g.none (omega (arith, f.fewer, g.fewer, i)) ∙ f.none (omega (arith, f.fewer, g.fewer, i));
}

-- ---- what is still to be looked at waits

-- the element that comes next
drop_here : (ns : List ℕ) (i n : ℕ) → i < length ns → n ≡ get_or ns i n → drop i ns ≡ n ∷ drop (i + 1) ns
drop_here ns i n l e = drop_more ns i n l ∙ ap (λ (m : ℕ). m ∷ drop (i + 1) ns) (sym e)

pub take_here : (ns : List ℕ) (i n : ℕ) → i < length ns → n ≡ get_or ns i n → take (i + 1) ns ≡ take i ns ++ n ∷ []
take_here ns i n l e = take_more ns i n l ∙ ap (λ (m : ℕ). take i ns ++ m ∷ []) (sym e)

-- a settling that goes on to a told term, or to a number that is to be looked at
pub at_term : (texts : List Text) (c d : Contents) (from : ToDo) (told : List ℕ) (i t : ℕ) (bound : List ℕ) → i < length told → t ≡ get_or told i t
    → GoesOn texts c d from (to_do (drop i told) [] bound bound) → GoesOn texts c d from (to_do (t ∷ drop (i + 1) told) [] bound bound)
at_term texts c d from told i t bound l e = subst (λ (ts : List ℕ). GoesOn texts c d from (to_do ts [] bound bound)) (drop_here told i t l e)

pub at_number : (texts : List Text) (c d : Contents) (from : ToDo) (ns : List ℕ) (i n : ℕ) (bound all : List ℕ) → i < length ns → n ≡ get_or ns i n
    → GoesOn texts c d from (to_do [] (drop i ns) bound all) → GoesOn texts c d from (to_do [] (n ∷ drop (i + 1) ns) bound all)
at_number texts c d from ns i n bound all l e = subst (λ (ms : List ℕ). GoesOn texts c d from (to_do [] ms bound all)) (drop_here ns i n l e)

pub element : (P : ℕ → Type 0) (ns : List ℕ) (i n : ℕ) → i < length ns → n ≡ get_or ns i n → All P ns → P n
element P ns i n l e h = subst P (sym e) (h i n l)

pub waits_there : (a : Attributes) (ns : List ℕ) (i n : ℕ) → i < length ns → n ≡ get_or ns i n → All (λ m. Contains (numbers a.waiting) m) (drop i ns) → Contains (numbers a.waiting) n
waits_there a ns i n l e h =
    All-head (λ m. Contains (numbers a.waiting) m) n (drop (i + 1) ns) (subst (λ (ms : List ℕ). All (λ m. Contains (numbers a.waiting) m) ms) (drop_here ns i n l e) h)

-- a later number is another one
later_other : (ns : List ℕ) (i n m : ℕ) → i < length ns → n ≡ get_or ns i n → Ascends ns → Contains (drop (i + 1) ns) m → m ≢ n
later_other ns i n m l e a h = λ same.
    let at : i + 1 + h.0 < length ns = omega (arith, h.1, length-drop (i + 1) ns) in
    let is : get_or ns (i + 1 + h.0) m ≡ m = sym (get_or-drop (i + 1) ns h.0 m) ∙ h.2 in
    let here : get_or ns i m ≡ n = any_default ns i n m l ∙ sym e in
    omega (arith, a i (i + 1 + h.0) m (omega arith) at, is, here, same)

pub wait_on : (a b : Attributes) (ns : List ℕ) (i n : ℕ) → i < length ns → n ≡ get_or ns i n → Ascends ns → All (λ m. Contains (numbers a.waiting) m) (drop i ns)
    → ((m : ℕ) → m ≢ n → Contains (numbers a.waiting) m → Contains (numbers b.waiting) m) → All (λ m. Contains (numbers b.waiting) m) (drop (i + 1) ns)
wait_on a b ns i n l e asc h f j d k =
    let m = get_or (drop (i + 1) ns) j d in
    let among = Contains-get_or (drop (i + 1) ns) j d k in
    let rest = All-tail (λ m. Contains (numbers a.waiting) m) n (drop (i + 1) ns) (subst (λ (ms : List ℕ). All (λ m. Contains (numbers a.waiting) m) ms) (drop_here ns i n l e) h) in
    f m (later_other ns i n m l e asc among) (rest j d k)

-- ---- a constraint that joins

-- the list stays as values are bound
pub joins_then : (c d : Contents) (row : Constraint) (before after these fixed : List VarId) (values : ℕ → Option ℚ) (told : List Constraint) → d.told ≡ told → these ≡ fixed
    → Solvable told × (told ≡ c.told ++ row ∷ []) → AreNewlyFixed c.told told (numbers_of fixed) → d.attrs ≡ c.attrs → BindsValues c.attrs told c.heap d.heap before after values
    → ((v : ℕ) (q : ℚ) → Contains (numbers_of these) v → is_numeric c.attrs v ≡ true → at c.heap.images v ≡ Var v → Fixed told v q → values v ≡ Some q)
    → JoinsAndBinds c row d before after
joins_then c d row before after these fixed values told e f kept newly attrs binds complete =
    joins_and_binds c d row before after fixed values (subst (λ (l : List Constraint). Solvable l × (l ≡ c.told ++ row ∷ [])) (sym e) kept)
    (subst (λ (l : List Constraint). AreNewlyFixed c.told l (numbers_of fixed)) (sym e) newly) attrs
    (subst (λ (l : List Constraint). BindsValues c.attrs l c.heap d.heap before after values) (sym e) binds)
    (λ v q h n u k. complete v q (subst (λ (vs : List VarId). Contains (numbers_of vs) v) (sym f) h) n u (subst (λ (l : List Constraint). Fixed l v q) e k))

-- ---- the term that is taken away

pub joins_fewer : (c d : Contents) (a : Attributes) (row : Constraint) (before after : List VarId) (n id : ℕ) → IsOnce (numbers c.attrs.waiting)
    → find c.attrs.waiting n ≡ Some (susp.Delayed id) → a ≡ without c.attrs n → JoinsAndBinds (record c { attrs = a }) row d before after → HasFewer c d before after
joins_fewer c d a row before after n id once found e j =
    let less : length (constraints d.attrs) + 1 ≡ length (constraints c.attrs) =
    ap (λ (x : Attributes). length (constraints x) + 1) (j.attrs ∙ e) ∙ one_fewer c.attrs n id once found in
    record { more = j.binds.more; list = j.binds.list; fewer = omega (arith, less); none = λ i. absurd (omega (arith, less, i)) }

pub others_wait : (a b : Attributes) (n : ℕ) → b ≡ without a n → (m : ℕ) → m ≢ n → Contains (numbers a.waiting) m → Contains (numbers b.waiting) m
others_wait a b n e m f h =
    let r = with_number a.waiting m h in
    subst (λ (x : Attributes). Contains (numbers x.waiting) m) (sym e)
    (subst (λ (x : ℕ). Contains (numbers (without a n).waiting) x) r.number
    (number_in (without a n).waiting r.waiting (contains_filtered (is_other n) a.waiting r.waiting r.waits (ap not (nat_eq-apart r.waiting.number n (λ i. f (sym r.number ∙ i)))))))

-- a goal is no constraint
pub no_constraint : (a : Attributes) (n : ℕ) (v : VarId) (t : ℕ) → IsOnce (numbers a.waiting) → find a.waiting n ≡ Some (susp.Goal v t)
    → (w : Waiting) → Contains (constraints a) w → w.number ≡ n → ⊥
no_constraint a n v t once found w h e =
    let is : is_constraint w.susp ≡ true = All-contains (λ (w : Waiting). is_constraint w.susp ≡ true) (constraints a) w (filter_passes (λ (w : Waiting). is_constraint w.susp) a.waiting) h in
    let same : w.susp ≡ susp.Goal v t = susp_under a.waiting n (susp.Goal v t) w once found (contains_unfiltered (λ (w : Waiting). is_constraint w.susp) a.waiting w h) e in
    let no : false ≡ true = ap is_constraint (sym same) ∙ is in
    cc

-- ---- a pass over what waits

-- a pass in which nothing joins is the last one
pub sooner : (c d : Contents) (seen now : ℕ) (before after : List VarId) → seen < length before → now ≡ length before → HasFewer c d before after
    → 2 * length (constraints d.attrs) + (if nat_lt now (length after) then 1 else 0) < 2 * length (constraints c.attrs) + (if nat_lt seen (length before) then 1 else 0)
sooner c d seen now before after l e f =
    subst (λ (b : Bool). 2 * length (constraints d.attrs) + (if nat_lt now (length after) then 1 else 0) < 2 * length (constraints c.attrs) + (if b then 1 else 0)) (sym (lt-ltb seen (length before) l))
    (by_length (nat_lt now (length after)) refl) where
      by_count : nat_lt now (length after) ≡ true
          → (length (constraints d.attrs) < length (constraints c.attrs)) ⊎ (length (constraints c.attrs) ≤ length (constraints d.attrs)) → 2 * length (constraints d.attrs) + 1 < 2 * length (constraints c.attrs) + 1
      by_count i (inl m) = omega (arith, m)
      by_count i (inr m) = absurd (omega (arith, ltb-true now (length after) i, e, ap length (f.none (omega (arith, f.fewer, m)))))

      by_length : (b : Bool) → nat_lt now (length after) ≡ b → 2 * length (constraints d.attrs) + (if b then 1 else 0) < 2 * length (constraints c.attrs) + 1
      by_length false i = omega (arith, f.fewer)
      by_length true i = by_count i (cases_lt (length (constraints d.attrs)) (length (constraints c.attrs)))

-- ---- a goal that wakes, or sleeps on

pub wakes_none : (images : List HeapTerm) (n : ℕ) (a : Attributes) (goals : List ℕ) (s : Susp) → find a.waiting n ≡ Some s → goal_that_wakes images s ≡ None
    → WakesOne images n a a goals goals
wakes_none images n a goals s f e = record {
  susp = s;
  found = f;
  attrs = sym (ap (λ (o : Option ℕ). unless_given o n a) e);
  given = sym (ap (λ (o : Option ℕ). goals ++ cons_option o []) e ∙ nothing_behind goals);
}

pub wakes_goal : (images : List HeapTerm) (n : ℕ) (a b : Attributes) (before after : List ℕ) (s : Susp) → find a.waiting n ≡ Some s → (g : ℕ) → goal_that_wakes images s ≡ Some g
    → b ≡ without a n → after ≡ before ++ g ∷ [] → WakesOne images n a b before after
wakes_goal images n a b before after s f g e i j = record {
  susp = s;
  found = f;
  attrs = i ∙ sym (ap (λ (o : Option ℕ). unless_given o n a) e);
  given = j ∙ sym (ap (λ (o : Option ℕ). before ++ cons_option o []) e);
}

-- ---- marks

-- where only the attributes, or only the store, have changed
pub attrs_marks : (v w : World) → w.heap ≡ v.heap → w.store ≡ v.store → w.attrs.saved ≡ v.attrs.saved → v.attrs.room ≤ w.attrs.room → KeepsMarks v w
attrs_marks v w h s e r = record {
  heap = ap (λ (x : HeapValue). x.saved) h;
  attrs = e;
  store = ap (λ (x : StoreValue). x.saved) s;
  pivots = ap (λ (x : StoreValue). x.pivots) s;
  room = omega (arith, r, ap (λ (x : HeapValue). x.room) h, ap (λ (x : StoreValue). x.room) s);
}

-- where no mark could be made, no memory was set aside for one
pub no_room : (m n : ℕ) → (0 < m → false ≡ true) → m ≤ n
no_room zero n f = omega arith
no_room (suc m) n f = let e : false ≡ true = f (omega arith) in cc
