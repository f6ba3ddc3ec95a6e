-- What one step binds and tells, and what it adds to what was bound before.
use Rattle.std.proofs.Common.{◌≡◌, ◌≢◌, ℕ, zero, suc, ◌<◌, ◌≤◌, List, [], ◌∷◌, ◌++◌, length, get_or, Bool, true, false, refl, sym, ap, ◌∙◌, arith, map, inl, inr, subst, append-nil, append_assoc}
use Rattle.std.specs.Prelude.{◌⊎◌, Contains}
use Rattle.std.specs.List.{AllPairs}
use Rattle.std.proofs.lemmas.Bool.{cases_eq}
use Rattle.std.proofs.lemmas.List.{length-map, map-append}
use Rattle.std.proofs.lemmas.List.Elements.{Contains-append_left, Contains-append_right, Contains-append_cases, Contains-get_or, Contains-push, Contains-push_cases}
use Rattle.spec_terms.specs.Term.{Subst, Var, Number, Name, Compound, apply, identity, single, followed_by, Occurs}
use Rattle.spec_terms.specs.Unifier.{IsUnifier}
use Rattle.spec_terms.proofs.Substitution.{apply-identity, apply-followed_by, apply_agree, apply-single_absent, apply-single_instance, single_same, single_other}
use Rattle.cq_frac.specs.declared.VarId.{VarId}
use Rattle.cq_term.specs.Meaning.{HeapTerm, at}
use Rattle.cq_term.specs.HeapValue.{Terms}
use Rattle.cq_term.specs.Shown.{IsUnbound}
use Rattle.cq_term.specs.Shown.{view_of}
use Rattle.cq_term.specs.declared.view.View.TheVariants as view
use Rattle.spec_numbers.specs.Rational.{ℚ}
use Rattle.std.specs.Prelude.{Ok}
use Rattle.std.specs.declared.result.Result.{Result}
use Rattle.std.specs.declared.alloc.AllocError.{AllocError}
use Rattle.cq_unify.specs.Unified.{Binding, in_turn, IsNewlyBound, Unified}
use Rattle.spec_numbers.specs.Prefixes.{IsPrefix}
use Rattle.cq_unify.proofs.Progress.{map-identity, same_variable}
use Rattle.cq_unify.proofs.Unbound.{at-map, variable_from}
use Rattle.cq_resolve.specs.Joined.{Joined, equal, CanMeet}
use Rattle.cq_resolve.specs.Matching.{Call, Bound}
use Rattle.cq_resolve.proofs.Unifying.{variable_by}

-- ---- bindings in turn
pub in_turn-append : (bs cs : List Binding) (x : ℕ) → in_turn (bs ++ cs) x ≡ apply (in_turn cs) (in_turn bs x)
in_turn-append [] cs x = refl
in_turn-append (b ∷ bs) cs x =
    apply_agree (in_turn (bs ++ cs)) (followed_by (in_turn bs) (in_turn cs)) (single b.variable.0 b.term x) (λ w o. in_turn-append bs cs w)
    ∙ apply-followed_by (in_turn bs) (in_turn cs) (single b.variable.0 b.term x)

apply-append : (bs cs : List Binding) (t : HeapTerm) → apply (in_turn cs) (apply (in_turn bs) t) ≡ apply (in_turn (bs ++ cs)) t
apply-append bs cs t =
    sym (apply-followed_by (in_turn bs) (in_turn cs) t)
    ∙ apply_agree (followed_by (in_turn bs) (in_turn cs)) (in_turn (bs ++ cs)) t (λ x o. sym (in_turn-append bs cs x))

map-append_turns : (bs cs : List Binding) (ts : List HeapTerm) → map (apply (in_turn cs)) (map (apply (in_turn bs)) ts) ≡ map (apply (in_turn (bs ++ cs))) ts
map-append_turns bs cs [] = refl
map-append_turns bs cs (t ∷ ts) = λ i. apply-append bs cs t i ∷ map-append_turns bs cs ts i

pairs_append : (xs ys : List VarId) → AllPairs ◌≢◌ xs → AllPairs ◌≢◌ ys → ((x y : VarId) → Contains xs x → Contains ys y → x ≢ y) → AllPairs ◌≢◌ (xs ++ ys)
pairs_append [] ys f g n i j d lt within = g i j d lt within
pairs_append (x ∷ xs) ys f g n zero zero d lt within = absurd (omega arith)
pairs_append (x ∷ xs) ys f g n (suc i) zero d lt within = absurd (omega arith)
pairs_append (x ∷ xs) ys f g n zero (suc j) d lt within =
    let y : VarId = get_or (xs ++ ys) j d in
    elim (Contains-append_cases xs ys y (Contains-get_or (xs ++ ys) j d (omega arith))) [
      | inl k ↦ subst (λ (z : VarId). x ≢ z) k.2 (f 0 (suc k.0) y (omega arith) (omega (arith, k.1)))
      | inr k ↦ n x y (0, omega arith, refl) k
    ]
pairs_append (x ∷ xs) ys f g n (suc i) (suc j) d lt within =
    pairs_append xs ys (λ p q e o w. f (suc p) (suc q) e (omega arith) (omega arith)) g (λ p q c e. n p q (suc c.0, omega (arith, c.1), c.2) e) i j d (omega arith) (omega arith)

-- ---- one step
pub joined_unified : (old new : Terms) (a b : ℕ) (told : List VarId) → Unified old new a b told → Joined old new (at old.terms a) (at old.terms b) told
joined_unified old new a b told h = record {
  bindings = h.bindings;
  unifier = h.unifier;
  terms = ([], h.terms ∙ sym (append-nil (map (apply (in_turn h.bindings)) old.terms)));
  images = h.images;
  in_order = h.in_order;
  newly = h.newly;
  once = h.once;
}

pub joined_same : (heap : Terms) (a b : HeapTerm) → a ≡ b → Joined heap heap a b []
joined_same heap a b e = record {
  bindings = [];
  unifier = record {
    unifies = (ap (apply identity) e, tt);
    general = λ r h v. refl;
    oldest = λ v w h. let q : v ≡ w = cc in omega arith;
  };
  terms = ([], sym (map-identity heap.terms) ∙ sym (append-nil (map (apply identity) heap.terms)));
  images = sym (map-identity heap.images);
  in_order = refl;
  newly = λ v. (λ c. absurd (omega (arith, c.1)), λ c. absurd (c.1 c.0));
  once = λ i j d lt within. absurd (omega arith);
}

pub joined_as : (old new : Terms) (a b x y : HeapTerm) (told : List VarId) → a ≡ x → b ≡ y → Joined old new a b told → Joined old new x y told
joined_as old new a b x y told p q h = subst (λ (t : HeapTerm). Joined old new t y told) p (subst (λ (t : HeapTerm). Joined old new a t told) q h)

-- the terms may be larger than they were, and either side may be the left one
pub joined_larger : (old mid new : Terms) (a b : HeapTerm) (told : List VarId) → IsPrefix old.terms mid.terms → mid.images ≡ old.images → Joined mid new a b told → Joined old new a b told
joined_larger old mid new a b told p e h =
    let s : Subst ℕ = in_turn h.bindings in
    record {
      bindings = h.bindings;
      unifier = h.unifier;
      terms = (
        map (apply s) p.0 ++ h.terms.0,
        h.terms.1 ∙ ap (λ ts. map (apply s) ts ++ h.terms.0) p.1 ∙ ap (λ ts. ts ++ h.terms.0) (map-append (apply s) old.terms p.0) ∙ append_assoc (map (apply s) old.terms) (map (apply s) p.0) h.terms.0,
      );
      images = h.images ∙ ap (map (apply s)) e;
      in_order = h.in_order;
      newly = λ v. (
        λ c. (let k = (h.newly v).0 c in (subst (λ us. IsUnbound us v.0) e k.0, k.1)),
        λ k. (h.newly v).1 (subst (λ us. IsUnbound us v.0) (sym e) k.0, k.1),
      );
      once = h.once;
    }

pub joined_other_way : (old new : Terms) (a b : HeapTerm) (told : List VarId) → Joined old new a b told → Joined old new b a told
joined_other_way old new a b told h = record {
  bindings = h.bindings;
  unifier = record {
    unifies = (sym h.unifier.unifies.0, tt);
    general = λ r k v. h.unifier.general r (sym k.0, tt) v;
    oldest = h.unifier.oldest;
  };
  terms = h.terms;
  images = h.images;
  in_order = h.in_order;
  newly = h.newly;
  once = h.once;
}

-- one variable is bound, and told
module _ (old new : Terms) (v : VarId) (t : ℕ) (can : CanMeet old v t) (terms : new.terms ≡ map (apply (single v.0 (at old.terms t))) old.terms) (images : new.images ≡ map (apply (single v.0 (at old.terms t))) old.images) where
  abbrev term : HeapTerm
  term = at old.terms t

  abbrev made : List Binding
  made = record { variable = v; term = at old.terms t } ∷ []

  one_is : (x : ℕ) → in_turn made x ≡ single v.0 term x
  one_is x = apply-identity (single v.0 term x)

  one_apply : (y : HeapTerm) → apply (single v.0 term) y ≡ apply (in_turn made) y
  one_apply y = apply_agree (single v.0 term) (in_turn made) y (λ x o. sym (one_is x))

  one_map : (ts : List HeapTerm) → map (apply (single v.0 term)) ts ≡ map (apply (in_turn made)) ts
  one_map [] = refl
  one_map (y ∷ ts) = λ i. one_apply y i ∷ one_map ts i

  one_unifier : IsUnifier (equal (Var v.0) term) (in_turn made)
  one_unifier = record {
    unifies = (one_is v.0 ∙ single_same v.0 term ∙ sym (apply-single_absent v.0 term term can.apart) ∙ one_apply term, tt);
    general = λ r h x. ap (apply r) (one_is x) ∙ apply-single_instance v.0 term r h.0 (Var x);
    oldest = λ x w e. elim (variable_from v.0 term (Var x) w (sym (one_is x) ∙ e)) [
      | inl h ↦ (let q : x ≡ w = cc in omega arith)
      | inr h ↦ (let q : x ≡ v.0 = (let k = h.0 in cc) in omega (arith, can.older w h.1))
    ];
  }

  image_now : (x : ℕ) → at new.images x ≡ apply (single v.0 term) (at old.images x)
  image_now x = ap (λ us. at us x) images ∙ at-map (single v.0 term) old.images x

  bound_now : IsUnbound new.images v.0 → ⊥
  bound_now h = can.apart (subst (Occurs v.0) (sym h.1 ∙ image_now v.0 ∙ ap (apply (single v.0 term)) can.unbound.1 ∙ single_same v.0 term) refl)

  others_unbound : (x : ℕ) → (v.0 ≡ x → ⊥) → IsUnbound old.images x → IsUnbound new.images x
  others_unbound x n h = (
    omega (arith, h.0, ap length images, length-map old.images (apply (single v.0 term))),
    image_now x ∙ ap (apply (single v.0 term)) h.1 ∙ single_other v.0 x term n,
  )

  only_one : (x : VarId) → IsNewlyBound old new x → v ≡ x
  only_one x h = elim (cases_eq v.0 x.0) [ inl e ↦ same_variable v x e | inr n ↦ absurd (h.1 (others_unbound x.0 n h.0)) ]

  abbrev larger : IsPrefix (map (apply (in_turn made)) old.terms) new.terms
  larger = ([], terms ∙ one_map old.terms ∙ sym (append-nil (map (apply (in_turn made)) old.terms)))

  contains_one : (x : VarId) → Contains (v ∷ []) x → v ≡ x
  contains_one x c = elim (Contains-push_cases [] v x c) [ inl h ↦ absurd (omega (arith, h.1)) | inr e ↦ e ]

  pub joined_told : Joined old new (Var v.0) term (v ∷ [])
  joined_told = record {
    bindings = made;
    unifier = one_unifier;
    terms = larger;
    images = images ∙ one_map old.images;
    in_order = refl;
    newly = λ x. (
      λ c. subst (IsNewlyBound old new) (contains_one x c) (can.unbound, bound_now),
      λ h. subst (Contains (v ∷ [])) (only_one x h) (Contains-push [] v),
    );
    once = λ i j d lt within. absurd (omega arith);
  }

-- a number or a name can become of any unbound variable
pub constant_can : (old heap : Terms) (v : VarId) (id : ℕ) → heap.images ≡ old.images → IsUnbound old.images v.0 → ((x : ℕ) → Occurs x (at heap.terms id) → ⊥) → CanMeet heap v id
constant_can old heap v id e u n = record {
  unbound = subst (λ us. IsUnbound us v.0) (sym e) u;
  apart = n v.0;
  older = λ w h. absurd (n w (subst (Occurs w) (sym h) refl));
}

pub shown_number : (t : HeapTerm) (q : ℚ) → view_of t ≡ view.Number q → t ≡ Number q
shown_number (Number p) q e = (let k : p ≡ q = cc in ap (λ x. Number x) k)
shown_number (Var v) q e = cc
shown_number (Name a) q e = cc
shown_number (Compound f ts) q e = cc

pub shown_name : (t : HeapTerm) (a : ℕ) → view_of t ≡ view.Name a → t ≡ Name a
shown_name (Name b) a e = (let k : b ≡ a = cc in ap (λ x. Name x) k)
shown_name (Var v) a e = cc
shown_name (Number p) a e = cc
shown_name (Compound f ts) a e = cc

pub ok_true : (b : Bool) → ◌≡◌ {A = Result Bool AllocError} (Ok b) (Ok true) → b ≡ true
ok_true true e = refl
ok_true false e = cc

-- ---- a step after others
is_that : (t : HeapTerm) (v : ℕ) → (t ≡ Var v) ⊎ (t ≡ Var v → ⊥)
is_that (Var w) v = elim (cases_eq w v) [ inl e ↦ inl (ap (λ x. Var x) e) | inr n ↦ inr (λ e. let q : w ≡ v = cc in n q) ]
is_that (Number q) v = inr (λ e. cc)
is_that (Name a) v = inr (λ e. cc)
is_that (Compound f ts) v = inr (λ e. cc)

pub unbound_or_not : (us : List HeapTerm) (v : ℕ) → v < length us → IsUnbound us v ⊎ (IsUnbound us v → ⊥)
unbound_or_not us v lt = elim (is_that (at us v) v) [ inl e ↦ inl (lt, e) | inr n ↦ inr (λ h. n h.1) ]

module _ (c : Call) (now new : Terms) (bs : List Binding) (told more : List VarId) (a b : HeapTerm) (p : Bound c now bs told) (h : Joined now new a b more)
    (oldest : (v w : ℕ) → in_turn bs v ≡ Var w → w ≤ v)
    (back_now : (v : ℕ) → IsUnbound now.images v → IsUnbound c.start.images v)
    (back_new : (v : ℕ) → IsUnbound new.images v → IsUnbound c.start.images v) where
  -- what is unbound after the step was unbound before
  before_step : (v : ℕ) → IsUnbound new.images v → IsUnbound now.images v
  before_step v k =
      let start = back_new v k in
      let image : at now.images v ≡ in_turn bs v = ap (λ us. at us v) p.images ∙ at-map (in_turn bs) c.start.images v ∙ ap (apply (in_turn bs)) start.1 in
      let from = variable_by (in_turn h.bindings) (at now.images v) v (sym (ap (λ us. at us v) h.images ∙ at-map (in_turn h.bindings) now.images v) ∙ k.1) in
      let down : v ≤ from.0 = h.unifier.oldest from.0 v from.2 in
      let up : from.0 ≤ v = oldest v from.0 (sym image ∙ from.1) in
      let same : from.0 ≡ v = omega arith in (
        omega (arith, k.0, ap length h.images, length-map now.images (apply (in_turn h.bindings))),
        from.1 ∙ ap (λ x. Var x) same,
      )

  told_then : (v : VarId) → Contains (told ++ more) v → IsNewlyBound c.start new v
  told_then v d = elim (Contains-append_cases told more v d) [
    | inl k ↦ (let q = (p.newly v).0 k in (q.0, λ u. q.1 (before_step v.0 u)))
    | inr k ↦ (let q = (h.newly v).0 k in (back_now v.0 q.0, q.1))
  ]

  all_then : (v : VarId) → IsNewlyBound c.start new v → Contains (told ++ more) v
  all_then v q = elim (unbound_or_not now.images v.0 (omega (arith, q.0.0, ap length p.images, length-map c.start.images (apply (in_turn bs))))) [
    | inl u ↦ Contains-append_right told more v ((h.newly v).1 (u, q.1))
    | inr n ↦ Contains-append_left told more v ((p.newly v).1 (q.0, n))
  ]

  apart : (x y : VarId) → Contains told x → Contains more y → x ≢ y
  apart x y d e q = ((p.newly x).0 d).1 (subst (λ (z : VarId). IsUnbound now.images z.0) (sym q) ((h.newly y).0 e).0)

  once_then : AllPairs ◌≢◌ (told ++ more)
  once_then = pairs_append told more p.once h.once apart

  pub bound_join : Bound c new (bs ++ h.bindings) (told ++ more)
  bound_join =
      let s : Subst ℕ = in_turn h.bindings in
      record {
        terms = (
          map (apply s) p.terms.0 ++ h.terms.0,
          h.terms.1 ∙ ap (λ ts. map (apply s) ts ++ h.terms.0) p.terms.1 ∙ ap (λ ts. ts ++ h.terms.0) (map-append (apply s) (map (apply (in_turn bs)) c.start.terms) p.terms.0)
              ∙ append_assoc (map (apply s) (map (apply (in_turn bs)) c.start.terms)) (map (apply s) p.terms.0) h.terms.0
              ∙ ap (λ ts. ts ++ (map (apply s) p.terms.0 ++ h.terms.0)) (map-append_turns bs h.bindings c.start.terms),
        );
        images = h.images ∙ ap (map (apply s)) p.images ∙ map-append_turns bs h.bindings c.start.images;
        in_order = (λ i. p.in_order i ++ h.in_order i) ∙ sym (map-append (λ (x : Binding). x.variable) bs h.bindings);
        newly = λ v. (told_then v, all_then v);
        once = once_then;
      }
