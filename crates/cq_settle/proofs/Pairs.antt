-- Pairs of terms that are made equal one after another.
use Rattle.std.proofs.Common.{◌≡◌, ◌≢◌, ◌<◌, ◌≤◌, ◌+◌, ◌-◌, ◌⊎◌, ℕ, zero, suc, List, [], ◌∷◌, ◌++◌, length, map, take, drop, get_or, refl, sym, ap, ap₂, ◌∙◌, subst, arith, inl, inr, append_assoc, length-append}
use Rattle.std.specs.Prelude.{All, Contains}
use Rattle.std.specs.List.{AllPairs}
use Rattle.std.proofs.lemmas.Bool.{cases_eq, cases_lt}
use Rattle.std.proofs.lemmas.List.{length-map, map-append, get_or_append_left, get_or-append_right, take_more}
use Rattle.std.proofs.lemmas.List.Elements.{All-head, All-tail, All-push, All-get_or, Contains-get_or, Contains-append_left, Contains-append_right, Contains-append_cases}
use Rattle.spec_terms.specs.Term.{Subst, Var, Number, Name, Compound, Occurs, apply, identity, followed_by}
use Rattle.spec_terms.specs.Unifier.{Equation, IsUnifier, HasNoUnifier, read_under}
use Rattle.spec_terms.proofs.Substitution.{apply-followed_by}
use Rattle.spec_terms.proofs.Unifiers.{unified_both, not_later, not_first}
use Rattle.cq_frac.specs.declared.VarId.{VarId}
use Rattle.cq_term.specs.HeapValue.{Terms}
use Rattle.cq_term.specs.Meaning.{HeapTerm, at}
use Rattle.cq_term.specs.Shown.{IsUnbound}
use Rattle.cq_term.proofs.Meanings.{at-map}
use Rattle.cq_unify.specs.Unified.{Unified, equation, in_turn, IsNewlyBound}
use Rattle.cq_unify.proofs.Progress.{map-identity}
use Rattle.cq_term.specs.Pairs.{equation_of, equations}
use Rattle.cq_term.specs.declared.walk.pairs.Pair.{Pair}
use Rattle.cq_settle.specs.Equal.{MayBeEqual, AllEqual}
use Rattle.cq_settle.proofs.Alone.{StandsIn, only_variable, own_or_paired}

-- ---- variables

-- what stands in the pairs is unbound
pub in_pairs : (h : Terms) (ps : List Pair) → All (MayBeEqual h) ps → (v : ℕ) → StandsIn v (equations h.terms ps) → IsUnbound h.images v
in_pairs h [] m v o = absurd o
in_pairs h (p ∷ ps) m v (inl o) = (All-head (MayBeEqual h) p ps m).0.inside v o
in_pairs h (p ∷ ps) m v (inr (inl o)) = (All-head (MayBeEqual h) p ps m).1.inside v o
in_pairs h (p ∷ ps) m v (inr (inr o)) = in_pairs h ps (All-tail (MayBeEqual h) p ps m) v o

is_by : (t : HeapTerm) (v : ℕ) → (t ≡ Var v) ⊎ (t ≡ Var v → ⊥)
is_by (Var w) v = elim (cases_eq w v) [ inl e ↦ inl (ap (λ (x : ℕ). Var x) e) | inr n ↦ inr (λ e. n (cc)) ]
is_by (Number q) v = inr (λ e. cc)
is_by (Name a) v = inr (λ e. cc)
is_by (Compound f us) v = inr (λ e. cc)

unbound_or_not : (ts : List HeapTerm) (v : ℕ) → v < length ts → IsUnbound ts v ⊎ (IsUnbound ts v → ⊥)
unbound_or_not ts v l = elim (is_by (at ts v) v) [ inl e ↦ inl (l, e) | inr n ↦ inr (λ i. n i.1) ]

-- ---- two lists of which each element stands once, and none in both

module _ {X : Type 0} (xs ys : List X) (once : AllPairs ◌≢◌ xs) (twice : AllPairs ◌≢◌ ys) (apart : (x y : X) → Contains xs x → Contains ys y → x ≡ y → ⊥) where
  first_is : (i : ℕ) (d : X) → i < length xs → get_or (xs ++ ys) i d ≡ get_or xs i d
  first_is i d l = get_or_append_left xs ys d i l

  second_is : (i : ℕ) (d : X) → length xs ≤ i → get_or (xs ++ ys) i d ≡ get_or ys (i - length xs) d
  second_is i d l = get_or-append_right xs ys (length xs) i d refl l

  both_once : (i j : ℕ) (d : X) → i < j → j < length xs → get_or (xs ++ ys) i d ≡ get_or (xs ++ ys) j d → ⊥
  both_once i j d l w e =
      let early : i < length xs = omega (arith, l, w) in
      once i j d l w (sym (first_is i d early) ∙ e ∙ first_is j d w)

  one_each : (i j : ℕ) (d : X) → i < length xs → length xs ≤ j → j < length (xs ++ ys) → get_or (xs ++ ys) i d ≡ get_or (xs ++ ys) j d → ⊥
  one_each i j d l m w e =
      let within : j - length xs < length ys = omega (arith, m, w, length-append xs ys) in
      apart (get_or xs i d) (get_or ys (j - length xs) d) (Contains-get_or xs i d l) (Contains-get_or ys (j - length xs) d within) (sym (first_is i d l) ∙ e ∙ second_is j d m)

  both_twice : (i j : ℕ) (d : X) → i < j → length xs ≤ i → j < length (xs ++ ys) → get_or (xs ++ ys) i d ≡ get_or (xs ++ ys) j d → ⊥
  both_twice i j d l m w e =
      let later : length xs ≤ j = omega (arith, l, m) in
      let before : i - length xs < j - length xs = omega (arith, l, m) in
      let within : j - length xs < length ys = omega (arith, later, w, length-append xs ys) in
      twice (i - length xs) (j - length xs) d before within (sym (second_is i d m) ∙ e ∙ second_is j d later)

  second_by : (i j : ℕ) (d : X) → i < j → length xs ≤ j → j < length (xs ++ ys) → get_or (xs ++ ys) i d ≡ get_or (xs ++ ys) j d → ⊥
  second_by i j d l m w e = elim (cases_lt i (length xs)) [ inl early ↦ one_each i j d early m w e | inr late ↦ both_twice i j d l late w e ]

  pub once_append : AllPairs ◌≢◌ (xs ++ ys)
  once_append i j d l w e = elim (cases_lt j (length xs)) [ inl early ↦ both_once i j d l early e | inr late ↦ second_by i j d l late w e ]

-- ---- no pair, and one more

map_both : (r s : Subst ℕ) (ts : List HeapTerm) → map (apply s) (map (apply r) ts) ≡ map (apply (followed_by r s)) ts
map_both r s [] = refl
map_both r s (t ∷ ts) = ap₂ (λ u us. u ∷ us) (sym (apply-followed_by r s t)) (map_both r s ts)

pub equal_start : (h : Terms) → AllEqual h h [] []
equal_start h = record {
  read_through = λ i d l. absurd (omega (arith, l));
  unifier = identity;
  unifies = record { unifies = tt; general = λ r e v. refl; oldest = λ v w e. let same : v ≡ w = cc in omega (arith, same) };
  terms = sym (map-identity h.terms);
  images = sym (map-identity h.images);
  newly = λ v. (λ m. absurd (omega (arith, m.1)), λ n. absurd (n.1 n.0));
  once = λ i j d l w. absurd (omega (arith, w));
}

module _ (old mid : Terms) (ps : List Pair) (p : Pair) (before : List VarId) (e : AllEqual old mid ps before) (m : MayBeEqual old p) where
  abbrev r : Subst ℕ
  r = e.unifier

  at_mid : (id : ℕ) → id < length old.terms → at mid.terms id ≡ apply r (at old.terms id)
  at_mid id l = ap (λ (ts : List HeapTerm). at ts id) e.terms ∙ at-map (apply r) old.terms id l

  read_mid : equation mid p.left p.right ≡ read_under r (equation_of old.terms p ∷ [])
  read_mid = ap₂ (λ x y. record { left = x; right = y } ∷ []) (at_mid p.left m.0.live) (at_mid p.right m.1.live)

  more_equations : (others : List Pair) → equations old.terms (ps ++ p ∷ others) ≡ equations old.terms ps ++ equation_of old.terms p ∷ equations old.terms others
  more_equations others = map-append (equation_of old.terms) ps (p ∷ others)

  -- nothing makes all of them equal, where nothing makes the next one equal
  pub equal_none : HasNoUnifier (equation mid p.left p.right) → (others : List Pair) → HasNoUnifier (equations old.terms (ps ++ p ∷ others))
  equal_none none others =
      let here : HasNoUnifier (equations old.terms ps ++ equation_of old.terms p ∷ []) =
      not_later (equations old.terms ps) (equation_of old.terms p ∷ []) r e.unifies (subst (λ (es : List (Equation ℕ)). HasNoUnifier es) read_mid none) in
      let all : HasNoUnifier ((equations old.terms ps ++ equation_of old.terms p ∷ []) ++ equations old.terms others) =
      not_first (equations old.terms ps ++ equation_of old.terms p ∷ []) (equations old.terms others) here in
      subst (λ (es : List (Equation ℕ)). HasNoUnifier es) (append_assoc (equations old.terms ps) (equation_of old.terms p ∷ []) (equations old.terms others) ∙ sym (more_equations others)) all

  module _ (new : Terms) (more : List VarId) (k : Unified mid new p.left p.right more) where
    abbrev s : Subst ℕ
    s = in_turn k.bindings

    mid_images : length mid.images ≡ length old.images
    mid_images = ap length e.images ∙ length-map old.images (apply r)

    new_images : length new.images ≡ length mid.images
    new_images = ap length k.images ∙ length-map mid.images (apply s)

    image_mid : (v : ℕ) → v < length old.images → at mid.images v ≡ apply r (at old.images v)
    image_mid v l = ap (λ (ts : List HeapTerm). at ts v) e.images ∙ at-map (apply r) old.images v l

    image_new : (v : ℕ) → v < length mid.images → at new.images v ≡ apply s (at mid.images v)
    image_new v l = ap (λ (ts : List HeapTerm). at ts v) k.images ∙ at-map (apply s) mid.images v l

    -- a variable that is unbound after a pair was unbound before it
    was_mid : (v : ℕ) → IsUnbound old.images v → IsUnbound new.images v → IsUnbound mid.images v
    was_mid v i j =
        let l : v < length mid.images = omega (arith, i.0, mid_images) in
        let y = only_variable s (at mid.images v) v (sym (image_new v l) ∙ j.1) in
        let low : y.0 ≤ v = e.unifies.oldest v y.0 (sym (image_mid v i.0 ∙ ap (apply r) i.1) ∙ y.1) in
        let high : v ≤ y.0 = k.unifier.oldest y.0 v y.2 in
        let same : y.0 ≡ v = omega (arith, low, high) in
        (l, y.1 ∙ ap (λ (x : ℕ). Var x) same)

    its_own : (v y : ℕ) → r y ≡ Var v → (IsUnbound old.images v → ⊥) → v ≡ y
    its_own v y q n = own_or_paired (equations old.terms ps) r e.unifies y v (subst (λ (t : HeapTerm). Occurs v t) (sym q) refl)
        (λ o. n (in_pairs old ps e.read_through v o))

    was_old_by : (v : ℕ) → v < length old.images → IsUnbound mid.images v → IsUnbound old.images v ⊎ (IsUnbound old.images v → ⊥) → IsUnbound old.images v
    was_old_by v l j (inl i) = i
    was_old_by v l j (inr n) =
        let y = only_variable r (at old.images v) v (sym (image_mid v l) ∙ j.1) in
        (l, y.1 ∙ ap (λ (x : ℕ). Var x) (sym (its_own v y.0 y.2 n)))

    was_old : (v : ℕ) → IsUnbound mid.images v → IsUnbound old.images v
    was_old v j = let l : v < length old.images = omega (arith, j.0, mid_images) in was_old_by v l j (unbound_or_not old.images v l)

    bound_before : (v : VarId) → IsNewlyBound old mid v → IsNewlyBound old new v
    bound_before v n = (n.0, λ j. n.1 (was_mid v.0 n.0 j))

    bound_then : (v : VarId) → IsNewlyBound mid new v → IsNewlyBound old new v
    bound_then v n = (was_old v.0 n.0, n.1)

    told_bound : (v : VarId) → Contains (before ++ more) v → IsNewlyBound old new v
    told_bound v c = elim (Contains-append_cases before more v c) [ inl f ↦ bound_before v ((e.newly v).0 f) | inr g ↦ bound_then v ((k.newly v).0 g) ]

    bound_told_by : (v : VarId) → IsNewlyBound old new v → IsUnbound mid.images v.0 ⊎ (IsUnbound mid.images v.0 → ⊥) → Contains (before ++ more) v
    bound_told_by v n (inl j) = Contains-append_right before more v ((k.newly v).1 (j, n.1))
    bound_told_by v n (inr j) = Contains-append_left before more v ((e.newly v).1 (n.0, j))

    bound_told : (v : VarId) → IsNewlyBound old new v → Contains (before ++ more) v
    bound_told v n = bound_told_by v n (unbound_or_not mid.images v.0 (omega (arith, n.0.0, mid_images)))

    told_apart : (v w : VarId) → Contains before v → Contains more w → v ≡ w → ⊥
    told_apart v w b c q = ((e.newly v).0 b).1 (subst (λ (x : VarId). IsUnbound mid.images x.0) (sym q) ((k.newly w).0 c).0)

    unified_all : IsUnifier (equations old.terms (ps ++ p ∷ [])) (followed_by r s)
    unified_all = subst (λ (es : List (Equation ℕ)). IsUnifier es (followed_by r s)) (sym (more_equations []))
        (unified_both (equations old.terms ps) (equation_of old.terms p ∷ []) r e.unifies s (subst (λ (es : List (Equation ℕ)). IsUnifier es s) read_mid k.unifier))

    -- one more pair is equal
    pub equal_more : AllEqual old new (ps ++ p ∷ []) (before ++ more)
    equal_more = record {
      read_through = All-push (MayBeEqual old) ps p e.read_through m;
      unifier = followed_by r s;
      unifies = unified_all;
      terms = k.terms ∙ ap (map (apply s)) e.terms ∙ map_both r s old.terms;
      images = k.images ∙ ap (map (apply s)) e.images ∙ map_both r s old.images;
      newly = λ v. (told_bound v, bound_told v);
      once = once_append before more e.once k.once told_apart;
    }

-- ---- the pairs of a list, one after another

split_at : {X : Type 0} (xs : List X) (i : ℕ) (d : X) → i < length xs → take i xs ++ get_or xs i d ∷ drop (suc i) xs ≡ xs
split_at [] i d l = absurd (omega (arith, l))
split_at (x ∷ xs) zero d l = refl
split_at {X} (x ∷ xs) (suc i) d l = ap (λ (ys : List X). x ∷ ys) (split_at xs i d (omega (arith, l)))

module _ (old mid : Terms) (pairs : List Pair) (i : ℕ) (pair : Pair) (is : pair ≡ get_or pairs i pair) (before : List VarId) (l : i < length pairs)
    (m : All (MayBeEqual old) pairs) (e : AllEqual old mid (take i pairs) before) where
  here : MayBeEqual old pair
  here = subst (MayBeEqual old) (sym is) (All-get_or (MayBeEqual old) pairs i pair l m)

  one_more : take (i + 1) pairs ≡ take i pairs ++ pair ∷ []
  one_more = take_more pairs i pair l ∙ ap (λ (p : Pair). take i pairs ++ p ∷ []) (sym is)

  whole : take i pairs ++ pair ∷ drop (suc i) pairs ≡ pairs
  whole = ap (λ (p : Pair). take i pairs ++ p ∷ drop (suc i) pairs) is ∙ split_at pairs i pair l

  pub next_equal : (new : Terms) (after : List VarId) → ((more : List VarId) × (after ≡ before ++ more) × Unified mid new pair.left pair.right more)
      → AllEqual old new (take (i + 1) pairs) after
  next_equal new after u =
      subst (λ (vs : List VarId). AllEqual old new (take (i + 1) pairs) vs) (sym u.1)
      (subst (λ (ps : List Pair). AllEqual old new ps (before ++ u.0)) (sym one_more) (equal_more old mid (take i pairs) pair before e here new u.0 u.2))

  pub next_none : HasNoUnifier (equation mid pair.left pair.right) → HasNoUnifier (equations old.terms pairs)
  next_none none = subst (λ (ps : List Pair). HasNoUnifier (equations old.terms ps)) whole (equal_none old mid (take i pairs) pair before e here none (drop (suc i) pairs))
