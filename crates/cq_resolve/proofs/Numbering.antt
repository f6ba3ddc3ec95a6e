-- The variables of a term by their places in a list that grows, and the heads that are written meanwhile.
use Rattle.std.proofs.Common.{◌≡◌, ℕ, ◌+◌, ◌<◌, ◌≤◌, List, [], ◌∷◌, ◌++◌, length, map, reverse, get_or, Bool, true, false, cond, not, nat_eq, refl, ap, sym, ◌∙◌, inl, inr, arith, append_assoc, append-nil}
use Rattle.std.specs.Prelude.{Contains, ◌⊎◌}
use Rattle.std.specs.List.{list_any, position_or_len}
use Rattle.std.proofs.lemmas.Bool.{eq-eqb, false≢true}
use Rattle.std.proofs.lemmas.List.{map-append, reverse-append, reverse-reverse}
use Rattle.std.proofs.lemmas.List.Folds.{list_any_at}
use Rattle.spec_numbers.specs.Rational.{ℚ}
use Rattle.spec_terms.specs.Term.{Terms, Subst, Var, Number, Name, Compound, one, more, list_of, apply, apply_all, Occurs}
use Rattle.spec_terms.specs.Variables.{with_variable, variables_after, variables_in, numbered_from}
use Rattle.spec_terms.proofs.Substitution.{apply_agree, occurs_from}
use Rattle.cq_frac.specs.declared.VarId.{VarId}
use Rattle.cq_term.specs.Meaning.{HeapTerm, at}
use Rattle.cq_term.specs.Shown.{view_of, arguments}
use Rattle.cq_term.specs.declared.view.View.{View}
use Rattle.cq_term.specs.declared.view.View.TheVariants as view
use Rattle.cq_term.specs.Places.{numbers_of, place_of}
use Rattle.cq_unify.specs.Listing.{variables_through}
use Rattle.cq_term.specs.Arguments.{PushesArguments}
use Rattle.cq_term.proofs.WalkArguments.{terms_pop, terms_push}
use Rattle.cq_unify.proofs.Places.{place_within}
use Rattle.cq_unify.proofs.Heads.{count-apply_all}
use Rattle.cq_term.proofs.WalkPlaces.{position_or_len-place}
use Rattle.cq_resolve.specs.Pattern.{heads, heads_in, IsPattern}
use Rattle.cq_resolve.proofs.Reading.{all_heads, all_heads-append, is_pattern}

-- ---- lists of variables grow at their ends
with_more : (vs : List ℕ) (v : ℕ) → (us : List ℕ) × (with_variable vs v ≡ vs ++ us)
with_more vs v = go (list_any (λ w. nat_eq w v) vs)
  where
    go : (b : Bool) → (us : List ℕ) × (cond b vs (vs ++ v ∷ []) ≡ vs ++ us)
    go true = ([], sym (append-nil vs))
    go false = (v ∷ [], refl)

mutual
  pub after_more : (vs : List ℕ) (t : HeapTerm) → (us : List ℕ) × (variables_after vs t ≡ vs ++ us)
  after_more vs (Var v) = with_more vs v
  after_more vs (Number q) = ([], sym (append-nil vs))
  after_more vs (Name a) = ([], sym (append-nil vs))
  after_more vs (Compound f ts) = in_more vs ts

  in_more : (vs : List ℕ) (ts : Terms ℕ) → (us : List ℕ) × (variables_in vs ts ≡ vs ++ us)
  in_more vs (one t) = after_more vs t
  in_more vs (more t ts) =
      let h = after_more vs t in
      let k = in_more (variables_after vs t) ts in
      (h.0 ++ k.0, k.1 ∙ ap (λ ws. ws ++ k.0) h.1 ∙ append_assoc vs h.0 k.0)

through_more : (vs : List ℕ) (ts : List HeapTerm) → (us : List ℕ) × (variables_through vs ts ≡ vs ++ us)
through_more vs [] = ([], sym (append-nil vs))
through_more vs (t ∷ ts) =
    let h = through_more vs ts in
    let k = after_more (variables_through vs ts) t in
    (h.0 ++ k.0, k.1 ∙ ap (λ ws. ws ++ k.0) h.1 ∙ append_assoc vs h.0 k.0)

-- ---- places stay
module _ (p : ℕ → Bool) where
  place_first : (x : ℕ) (xs : List ℕ) (b : Bool) → p x ≡ b → position_or_len p (x ∷ xs) ≡ cond (not b) (1 + position_or_len p xs) 0
  place_first x xs b e = ap (λ (c : Bool). cond (not c) (1 + position_or_len p xs) 0) e

  place_any_by : (x : ℕ) (xs ys : List ℕ) (b : Bool) → p x ≡ b → list_any p (x ∷ xs) ≡ true → (list_any p xs ≡ true → position_or_len p (xs ++ ys) ≡ position_or_len p xs) → position_or_len p ((x ∷ xs) ++ ys) ≡ position_or_len p (x ∷ xs)
  place_any_by x xs ys true q e rest = place_first x (xs ++ ys) true q ∙ sym (place_first x xs true q)
  place_any_by x xs ys false q e rest = place_first x (xs ++ ys) false q ∙ ap (λ n. 1 + n) (rest (rw q at e)) ∙ sym (place_first x xs false q)

  place_any : (xs ys : List ℕ) → list_any p xs ≡ true → position_or_len p (xs ++ ys) ≡ position_or_len p xs
  place_any [] ys e = absurd (false≢true e)
  place_any (x ∷ xs) ys e = place_any_by x xs ys (p x) refl e (place_any xs ys)

  place_new : (xs : List ℕ) (y : ℕ) (ys : List ℕ) → p y ≡ true → position_or_len p (xs ++ y ∷ ys) ≡ position_or_len p xs
  place_new [] y ys e = place_first y ys true e
  place_new (x ∷ xs) y ys e = ap (λ n. cond (not (p x)) (1 + n) 0) (place_new xs y ys e)

place_with : (vs : List ℕ) (v : ℕ) (us : List ℕ) → position_or_len (λ w. nat_eq w v) (with_variable vs v ++ us) ≡ position_or_len (λ w. nat_eq w v) vs
place_with vs v us = go (list_any (λ w. nat_eq w v) vs) refl
  where
    go : (b : Bool) → list_any (λ w. nat_eq w v) vs ≡ b → position_or_len (λ w. nat_eq w v) (cond b vs (vs ++ v ∷ []) ++ us) ≡ position_or_len (λ w. nat_eq w v) vs
    go true e = place_any (λ w. nat_eq w v) vs us e
    go false e = ap (position_or_len (λ w. nat_eq w v)) (append_assoc vs (v ∷ []) us) ∙ place_new (λ w. nat_eq w v) vs v us (eq-eqb v v refl)

module _ (eq : VarId → VarId → Bool) (same : (a b : VarId) → eq a b ≡ nat_eq a.0 b.0) where
  -- the number of a variable is the place that it has or gets
  pub number_is : (v : VarId) (ks new : List VarId) (rest : List HeapTerm) (all : List ℕ) (place : ℕ) → numbers_of new ≡ with_variable (numbers_of ks) v.0 → variables_through (numbers_of new) rest ≡ all → place ≡ position_or_len (eq v) ks →
      numbered_from {A = ℕ} 0 all v.0 ≡ Var place
  number_is v ks new rest all place e through is =
      let us = through_more (numbers_of new) rest in
      let whole : all ≡ with_variable (numbers_of ks) v.0 ++ us.0 = sym through ∙ us.1 ∙ ap (λ ws. ws ++ us.0) e in
      let here : position_or_len (λ w. nat_eq w v.0) all ≡ place =
      ap (position_or_len (λ w. nat_eq w v.0)) whole ∙ place_with (numbers_of ks) v.0 us.0 ∙ sym (position_or_len-place (eq v) v.0 (same v) ks) ∙ sym is in
      let sum : 0 + position_or_len (λ w. nat_eq w v.0) all ≡ place = omega (arith, here) in
      ap (λ n. Var n) sum

-- a term whose variables are all on the list has the same numbers by a longer one
pub numbered_more : (t : HeapTerm) (vs all us : List ℕ) → ((v : ℕ) → Occurs v t → Contains vs v) → all ≡ vs ++ us → apply (numbered_from 0 vs) t ≡ apply (numbered_from 0 all) t
numbered_more t vs all us known e = apply_agree (numbered_from 0 vs) (numbered_from 0 all) t (λ v o.
    let c = known v o in
    let found : list_any (λ w. nat_eq w v) vs ≡ true = list_any_at (λ w. nat_eq w v) vs c.0 v c.1 (eq-eqb (get_or vs c.0 v) v c.2) in
    ap (λ n. Var (0 + n)) (sym (place_any (λ w. nat_eq w v) vs us found) ∙ ap (position_or_len (λ w. nat_eq w v)) (sym e)))

pub numbered_pattern : (t : HeapTerm) (ks : List VarId) (n : ℕ) (hs : List View) → ((v : ℕ) → Occurs v t → Contains (numbers_of ks) v) → length ks ≤ n → hs ≡ heads (apply (numbered_from 0 (numbers_of ks)) t) → IsPattern n hs
numbered_pattern t ks n hs known le e = is_pattern n (apply (numbered_from 0 (numbers_of ks)) t) hs e (λ v o.
    let from = occurs_from (numbered_from 0 (numbers_of ks)) v t o in
    let within : place_of ks from.0 < length ks = place_within ks from.0 (known from.0 from.1) in
    let here : v ≡ 0 + place_of ks from.0 = from.2 in
    omega (arith, within, here))

-- ---- the heads that are written
all_heads-apply_all : (s : Subst ℕ) (us : Terms ℕ) → heads_in (apply_all s us) ≡ all_heads (map (apply s) (list_of us))
all_heads-apply_all s (one t) = sym (append-nil (heads (apply s t)))
all_heads-apply_all s (more t us) = ap (λ hs. heads (apply s t) ++ hs) (all_heads-apply_all s us)

heads-compound : (s : Subst ℕ) (t : HeapTerm) (shown : View) (f n : ℕ) → shown ≡ view.Compound f n → shown ≡ view_of t → heads (apply s t) ≡ shown ∷ all_heads (map (apply s) (arguments t))
heads-compound s (Compound g us) shown f n is e = λ i. (ap (view.Compound g) (count-apply_all s us) ∙ sym e) i ∷ all_heads-apply_all s us i
heads-compound s (Var v) shown f n is e = cc
heads-compound s (Number q) shown f n is e = cc
heads-compound s (Name a) shown f n is e = cc

pub heads-constant : (s : Subst ℕ) (t : HeapTerm) (shown : View) → ((q : ℚ) × (shown ≡ view.Number q)) ⊎ ((a : ℕ) × (shown ≡ view.Name a)) → shown ≡ view_of t → heads (apply s t) ≡ shown ∷ []
heads-constant s (Number p) shown h e = ap (λ x. x ∷ []) (sym e)
heads-constant s (Name b) shown h e = ap (λ x. x ∷ []) (sym e)
heads-constant s (Var v) shown h e = elim h [ inl k ↦ (let d = k.1 in cc) | inr k ↦ (let d = k.1 in cc) ]
heads-constant s (Compound g us) shown h e = elim h [ inl k ↦ (let d = k.1 in cc) | inr k ↦ (let d = k.1 in cc) ]

pub heads-variable : (s : Subst ℕ) (t : HeapTerm) (v : VarId) (place : ℕ) → t ≡ Var v.0 → s v.0 ≡ Var place → heads (apply s t) ≡ view.Var (record { 0 = place }) ∷ []
heads-variable s t v place e is = ap (λ u. heads (apply s u)) e ∙ ap heads is

module _ (s : Subst ℕ) (ts : List HeapTerm) (old rest : List ℕ) (id : ℕ) (is : old ≡ rest ++ id ∷ []) (pattern : List View) where
  abbrev left : List ℕ → List View
  left ids = all_heads (map (apply s) (reverse (map (at ts) ids)))

  left_popped : left old ≡ heads (apply s (at ts id)) ++ left rest
  left_popped = ap (λ us. all_heads (map (apply s) (reverse us))) (terms_pop ts old rest id is)
      ∙ ap (λ us. all_heads (map (apply s) us)) (reverse-append (map (at ts) rest) (at ts id ∷ []))

  pub written_leaf : (new : List View) (h : View) → heads (apply s (at ts id)) ≡ h ∷ [] → new ≡ pattern ++ h ∷ [] → new ++ left rest ≡ pattern ++ left old
  written_leaf new h single e =
      ap (λ hs. hs ++ left rest) e ∙ append_assoc pattern (h ∷ []) (left rest)
      ∙ ap (λ hs. pattern ++ hs) (ap (λ hs. hs ++ left rest) (sym single) ∙ sym left_popped)

  pub written_compound : (new : List View) (work : List ℕ) (shown : View) (f n : ℕ) → shown ≡ view.Compound f n → shown ≡ view_of (at ts id) → PushesArguments ts (at ts id) 0 rest work → new ≡ pattern ++ shown ∷ [] → new ++ left work ≡ pattern ++ left old
  written_compound new work shown f n compound shows pushed e =
      let args : List HeapTerm = arguments (at ts id) in
      let back : reverse (map (at ts) work) ≡ args ++ reverse (map (at ts) rest) =
      ap reverse (terms_push ts (at ts id) rest work pushed) ∙ reverse-append (map (at ts) rest) (reverse args) ∙ ap (λ us. us ++ reverse (map (at ts) rest)) (reverse-reverse args) in
      let more : left work ≡ all_heads (map (apply s) args) ++ left rest =
      ap (λ us. all_heads (map (apply s) us)) back ∙ ap all_heads (map-append (apply s) args (reverse (map (at ts) rest))) ∙ all_heads-append (map (apply s) args) (map (apply s) (reverse (map (at ts) rest))) in
      (λ i. e i ++ more i) ∙ append_assoc pattern (shown ∷ []) (all_heads (map (apply s) args) ++ left rest)
      ∙ ap (λ hs. pattern ++ hs) (ap (λ hs. hs ++ left rest) (sym (heads-compound s (at ts id) shown f n compound shows)) ∙ sym left_popped)
