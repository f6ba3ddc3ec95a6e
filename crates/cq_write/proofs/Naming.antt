-- The names of variables by their places.
use Rattle.std.proofs.Common.{◌≡◌, ℕ, suc, ◌+◌, ◌<◌, ◌≤◌, Bool, true, false, cond, not, List, [], ◌∷◌, ◌++◌, length, Option, Some, None, nat_eq, refl, ap, sym, ◌∙◌, subst, arith, append-nil, length-append, inl, inr, if◌then◌else◌}
use Rattle.std.specs.Prelude.{All, map, MatchOption, filter, slice_index_or, ◌||◌}
use Rattle.std.specs.List.{list_any, position, position_or_len, sum_by}
use Rattle.std.proofs.lemmas.Bool.{cases_lt, eqb-true, cond_below}
use Rattle.std.proofs.lemmas.List.{get_or_append_left, get_or_push}
use Rattle.std.proofs.lemmas.List.Elements.{All-same, filter-append}
use Rattle.cq_term.specs.Meaning.{HeapTerm, at}
use Rattle.cq_term.specs.Shown.{view_of}
use Rattle.cq_term.specs.declared.view.View.TheVariants as view
use Rattle.cq_unify.specs.Listing.{variables_through}
use Rattle.cq_unify.proofs.Listing.{through_visit, through_push}
use Rattle.cq_term.proofs.WalkArguments.{live_push, sizes_pop, sizes_push}
use Rattle.cq_term.proofs.Ground.{after_ground}
use Rattle.spec_numbers.proofs.Tests.{nat_eq-sym}
use Rattle.spec_numbers.specs.Texts.{Text}
use Rattle.spec_terms.specs.VariableName.{VariableName}
use Rattle.spec_terms.specs.Term.{size}
use Rattle.spec_terms.specs.Variables.{with_variable}
use Rattle.spec_text.specs.Written.{given_name, is_unnamed, shown, counted_name}
use Rattle.cq_write.specs.Naming.{kept_or, AreFound, Opens, with_unnamed}

-- ---- one more name
given_more : (names : List VariableName) (n : VariableName) (v : ℕ) (f : Text) → given_name names v ≡ Some f → given_name (names ++ n ∷ []) v ≡ Some f
given_more [] n v f e = cc
given_more (m ∷ names) n v f e = by (nat_eq m.number v) e (given_more names n v f)
  where
    by : (b : Bool) → (if b then Some m.name else given_name names v) ≡ Some f → (given_name names v ≡ Some f → given_name (names ++ n ∷ []) v ≡ Some f) → (if b then Some m.name else given_name (names ++ n ∷ []) v) ≡ Some f
    by true h rest = h
    by false h rest = rest h

given_last : (names : List VariableName) (n : VariableName) (v : ℕ) → given_name names v ≡ None → given_name (names ++ n ∷ []) v ≡ (if nat_eq n.number v then Some n.name else None)
given_last [] n v e = refl
given_last (m ∷ names) n v e = by (nat_eq m.number v) e (given_last names n v)
  where
    by : (b : Bool) → (if b then Some m.name else given_name names v) ≡ None → (given_name names v ≡ None → given_name (names ++ n ∷ []) v ≡ (if nat_eq n.number v then Some n.name else None)) →
        (if b then Some m.name else given_name (names ++ n ∷ []) v) ≡ (if nat_eq n.number v then Some n.name else None)
    by true h rest = cc
    by false h rest = rest h

-- what the place that was found says
abbrev Finds : List VariableName → ℕ → Option ℕ → Type 0
Finds names v o = MatchOption o (given_name names v ≡ None) (λ i. (i < length names) × ((d : VariableName) → given_name names v ≡ Some (slice_index_or names i d).name))

finds_more : (names : List VariableName) (n : VariableName) (v place : ℕ) (o : Option ℕ) (b : Bool) → place ≡ length names → nat_eq n.number v ≡ b → Finds names v o → Finds (names ++ n ∷ []) v (kept_or o b place)
finds_more names n v place (Some i) b e q m =
    let inside : i < length names = m.0 in
    (omega (arith, length-append names (n ∷ [])), λ d. given_more names n v (slice_index_or names i d).name (m.1 d) ∙ ap (λ (x : VariableName). Some x.name) (sym (get_or_append_left names (n ∷ []) d i inside)))
finds_more names n v place None true e q m =
    (omega (arith, length-append names (n ∷ [])), λ d. given_last names n v m ∙ ap (λ b. if b then Some n.name else None) q ∙ ap (λ (x : VariableName). Some x.name) (sym (get_or_push names n d place (sym e))))
finds_more names n v place None false e q m = given_last names n v m ∙ ap (λ b. if b then Some n.name else None) q

pub found_more : (names : List VariableName) (n : VariableName) (g h : ℕ → Option ℕ) (place : ℕ) → AreFound names g → place ≡ length names → ((v : ℕ) → h v ≡ kept_or (g v) (nat_eq n.number v) place) → AreFound (names ++ n ∷ []) h
found_more names n g h place are e k v = subst (Finds (names ++ n ∷ []) v) (sym (k v)) (finds_more names n v place (g v) (nat_eq n.number v) e refl (are v))

pub none_given : (names : List VariableName) (g : ℕ → Option ℕ) (v : ℕ) → AreFound names g → None ≡ g v → given_name names v ≡ None
none_given names g v are e = subst (Finds names v) (sym e) (are v)

-- ---- variables without a name
-- such a variable is among those without a name where it is among all
any_unnamed : (p : ℕ → Bool) (x : ℕ) (ys : List ℕ) → p x ≡ true → list_any (nat_eq x) (filter p ys) ≡ list_any (λ w. nat_eq w x) ys
any_unnamed p x [] h = refl
any_unnamed p x (y ∷ ys) h = by (p y) (nat_eq y x) refl refl (nat_eq-sym x y) (any_unnamed p x ys h)
  where
    by : (b e : Bool) → p y ≡ b → nat_eq y x ≡ e → nat_eq x y ≡ nat_eq y x → list_any (nat_eq x) (filter p ys) ≡ list_any (λ w. nat_eq w x) ys →
        list_any (nat_eq x) (if b then y ∷ filter p ys else filter p ys) ≡ (e || list_any (λ w. nat_eq w x) ys)
    by true e q same flip rest = ap (λ b. b || list_any (nat_eq x) (filter p ys)) (flip ∙ same) ∙ ap (λ b. e || b) rest
    by false true q same flip rest = (let d : false ≡ true = sym q ∙ ap p (eqb-true y x same) ∙ h in cc)
    by false false q same flip rest = rest

named_is : (names : List VariableName) (x : ℕ) (f : Text) → given_name names x ≡ Some f → is_unnamed names x ≡ false
named_is names x f e = ap (λ o. elim o [ Some g ↦ false | None ↦ true ]) e

unnamed_is : (names : List VariableName) (x : ℕ) → given_name names x ≡ None → is_unnamed names x ≡ true
unnamed_is names x e = ap (λ o. elim o [ Some g ↦ false | None ↦ true ]) e

filter_last : (p : ℕ → Bool) (xs : List ℕ) (x : ℕ) (b : Bool) → p x ≡ b → filter p (xs ++ x ∷ []) ≡ filter p xs ++ (if b then x ∷ [] else [])
filter_last p xs x b e = filter-append p xs (x ∷ []) ∙ ap (λ c. filter p xs ++ (if c then x ∷ [] else [])) e

with_by : (names : List VariableName) (vs keys : List ℕ) (x : ℕ) (o : Option ℕ) → keys ≡ filter (is_unnamed names) vs → Finds names x o → with_unnamed o keys x ≡ filter (is_unnamed names) (with_variable vs x)
with_by names vs keys x (Some i) e m = e ∙ sym (by (list_any (λ w. nat_eq w x) vs))
  where
    none : VariableName
    none = record { name = []; number = 0 }

    by : (b : Bool) → filter (is_unnamed names) (cond b vs (vs ++ x ∷ [])) ≡ filter (is_unnamed names) vs
    by true = refl
    by false = filter_last (is_unnamed names) vs x false (named_is names x (slice_index_or names i none).name (m.1 none)) ∙ append-nil (filter (is_unnamed names) vs)
with_by names vs keys x None e m =
    ap (λ ks. if list_any (nat_eq x) ks then ks else ks ++ x ∷ []) e
    ∙ ap (λ b. if b then filter (is_unnamed names) vs else filter (is_unnamed names) vs ++ x ∷ []) (any_unnamed (is_unnamed names) x vs (unnamed_is names x m))
    ∙ by (list_any (λ w. nat_eq w x) vs)
  where
    by : (b : Bool) → (if b then filter (is_unnamed names) vs else filter (is_unnamed names) vs ++ x ∷ []) ≡ filter (is_unnamed names) (cond b vs (vs ++ x ∷ []))
    by true = refl
    by false = sym (filter_last (is_unnamed names) vs x true (unnamed_is names x m))

-- the next variable that is met
pub unnamed_with : (names : List VariableName) (g : ℕ → Option ℕ) (vs keys : List ℕ) (x : ℕ) → AreFound names g → keys ≡ filter (is_unnamed names) vs → with_unnamed (g x) keys x ≡ filter (is_unnamed names) (with_variable vs x)
unnamed_with names g vs keys x are e = with_by names vs keys x (g x) e (are x)

-- ---- a compound that is met
module _ (ts : List HeapTerm) (work new : List ℕ) (id : ℕ) (opens : Opens ts id work new) where
  pub live_open : All (λ (i : ℕ). i < length ts) work → All (λ (i : ℕ). i < length ts) new
  live_open live = elim opens [ inl k ↦ All-same (λ (i : ℕ). i < length ts) new work k.1 live | inr p ↦ live_push ts (at ts id) work new live p ]

module _ (ts : List HeapTerm) (old work new : List ℕ) (id f n : ℕ) (is : old ≡ work ++ id ∷ []) (shown : view_of (at ts id) ≡ view.Compound f n) (opens : Opens ts id work new) where
  pub sizes_open : sum_by size (map (at ts) new) < sum_by size (map (at ts) old)
  sizes_open = elim opens [
    | inl k ↦ subst (λ (ids : List ℕ). sum_by size (map (at ts) ids) < sum_by size (map (at ts) old)) (sym k.1) (sizes_pop ts old work id is)
    | inr p ↦ sizes_push ts old work new id f n is shown p
  ]

  pub through_open : (vs : List ℕ) → variables_through vs (map (at ts) new) ≡ variables_through vs (map (at ts) old)
  through_open vs = elim opens [
    | inl k ↦ ap (λ (ids : List ℕ). variables_through vs (map (at ts) ids)) k.1 ∙ through_visit ts vs vs old work id is (sym (after_ground vs (at ts id) k.0))
    | inr p ↦ through_push ts vs old work new id f n is shown p
  ]

-- ---- places
place_flip : (v : ℕ) (ks : List ℕ) → position_or_len (λ w. nat_eq w v) ks ≡ position_or_len (nat_eq v) ks
place_flip v [] = refl
place_flip v (k ∷ ks) = λ i. cond (not (nat_eq-sym k v i)) (1 + place_flip v ks i) 0

place_within : (p : ℕ → Bool) (ks : List ℕ) → position_or_len p ks ≤ length ks
place_within p [] = omega arith
place_within p (k ∷ ks) = by (not (p k)) (place_within p ks)
  where
    by : (b : Bool) → position_or_len p ks ≤ length ks → cond b (1 + position_or_len p ks) 0 ≤ suc (length ks)
    by true h = omega arith
    by false h = omega arith

place_past : (p : ℕ → Bool) (ks : List ℕ) → None ≡ position p ks → position_or_len p ks ≡ length ks
place_past p ks e = elim (cases_lt (position_or_len p ks) (length ks)) [
  | inl h ↦ (let d : Some (position_or_len p ks) ≡ position p ks = cond_below (position_or_len p ks) (length ks) (Some (position_or_len p ks)) None h in cc)
  | inr h ↦ omega (arith, place_within p ks)
]

pub shown_counted : (names : List VariableName) (keys : List ℕ) (v count : ℕ) → given_name names v ≡ None → None ≡ position (nat_eq v) keys → count ≡ length keys → counted_name count ≡ shown names keys v
shown_counted names keys v count e f n =
    ap counted_name (n ∙ sym (place_flip v keys ∙ place_past (nat_eq v) keys f))
    ∙ sym (ap (λ o. elim o [ Some g ↦ g | None ↦ counted_name (position_or_len (λ w. nat_eq w v) keys) ]) e)
