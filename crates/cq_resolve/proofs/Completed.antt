-- A heap as if more variables were made, and what steps on it do to the heap so completed.
use Rattle.std.proofs.Common.{◌≡◌, ℕ, zero, suc, ◌+◌, ◌-◌, ◌<◌, ◌≤◌, ◌^◌, List, [], ◌∷◌, ◌++◌, length, map, refl, ap, sym, ◌∙◌, subst, inl, inr, arith, append_assoc, length-append}
use Rattle.std.proofs.lemmas.Bool.{cases_lt}
use Rattle.std.proofs.lemmas.List.{length-map, map-append, get_or_append_left}
use Rattle.spec_terms.specs.Term.{Subst, Var, Occurs, apply, single}
use Rattle.spec_terms.proofs.Substitution.{apply-single_absent, single_same, single_other}
use Rattle.cq_frac.specs.declared.VarId.{VarId}
use Rattle.cq_term.specs.Meaning.{HeapTerm, at, blank}
use Rattle.cq_term.specs.HeapValue.{Terms}
use Rattle.cq_term.specs.Shown.{IsUnbound}
use Rattle.spec_numbers.specs.Prefixes.{IsPrefix}
use Rattle.cq_unify.specs.Unified.{in_turn, IsNewlyBound}
use Rattle.cq_unify.specs.Copied.{unbound_from}
use Rattle.cq_unify.proofs.Places.{variables_now}
use Rattle.cq_unify.proofs.Unbound.{at-map}
use Rattle.cq_resolve.specs.Building.{AreThere}
use Rattle.cq_resolve.proofs.Renamed.{new_image}
use Rattle.cq_resolve.specs.Joined.{Joined, CanMeet}
use Rattle.cq_resolve.specs.Resolved.{completed}
use Rattle.cq_resolve.proofs.Unifying.{kept_by}
use Rattle.cq_resolve.proofs.Telling.{joined_told, joined_as, joined_larger, joined_other_way}

-- ---- variables in a row
unbound_from-append : (n k j : ℕ) → unbound_from n (k + j) ≡ unbound_from n k ++ unbound_from (n + k) j
unbound_from-append n zero j = (let e : n ≡ n + 0 = omega arith in let d : 0 + j ≡ j = omega arith in λ i. unbound_from (e i) (d i))
unbound_from-append n (suc k) j =
    let e : suc n + k ≡ n + suc k = omega arith in
    let d : suc k + j ≡ suc (k + j) = omega arith in
    ap (unbound_from n) d ∙ ap (λ us. Var n ∷ us) (unbound_from-append (suc n) k j ∙ ap (λ m. unbound_from (suc n) k ++ unbound_from m j) e)

map_kept : (s : Subst ℕ) (n k : ℕ) → ((v : ℕ) → n ≤ v → s v ≡ Var v) → map (apply s) (unbound_from n k) ≡ unbound_from n k
map_kept s n zero h = refl
map_kept s n (suc k) h = λ i. h n (omega arith) i ∷ map_kept s (suc n) k (λ v le. h v (omega arith)) i

map_absent : (v : ℕ) (t : HeapTerm) (ts : List HeapTerm) → ((i : ℕ) → Occurs v (at ts i) → ⊥) → map (apply (single v t)) ts ≡ ts
map_absent v t [] n = refl
map_absent v t (x ∷ ts) n = λ i. apply-single_absent v t x (n 0) i ∷ map_absent v t ts (λ k. n (suc k)) i

-- ---- a completed heap
pub completed_long : (total : ℕ) (heap : Terms) → length heap.images ≤ total → length (completed total heap).images ≡ total
completed_long total heap le = omega (arith, variables_now heap.images (completed total heap).images (total - length heap.images) refl)

pub completed_at : (total : ℕ) (heap : Terms) (v : ℕ) → v < length heap.images → at (completed total heap).images v ≡ at heap.images v
completed_at total heap v lt = get_or_append_left heap.images (unbound_from (length heap.images) (total - length heap.images)) blank v lt

completed_new : (total : ℕ) (heap : Terms) (v : ℕ) → length heap.images ≤ v → v < total → at (completed total heap).images v ≡ Var v
completed_new total heap v le lt =
    let k : ℕ = v - length heap.images in
    let e : length heap.images + k ≡ v = omega arith in
    subst (λ w. at (completed total heap).images w ≡ Var w) e (new_image heap.images (completed total heap).images (total - length heap.images) k refl (omega arith))

-- variables that are made leave it as it is
pub completed_more : (total : ℕ) (heap mid : Terms) (k : ℕ) → mid.images ≡ heap.images ++ unbound_from (length heap.images) k → length heap.images + k ≤ total → (completed total mid).images ≡ (completed total heap).images
completed_more total heap mid k e le =
    let n : ℕ = length heap.images in
    let long : length mid.images ≡ n + k = variables_now heap.images mid.images k e in
    let rest : k + (total - (n + k)) ≡ total - n = omega arith in
    (λ i. e i ++ unbound_from (long i) (total - long i))
    ∙ append_assoc heap.images (unbound_from n k) (unbound_from (n + k) (total - (n + k)))
    ∙ ap (λ us. heap.images ++ us) (sym (unbound_from-append n k (total - (n + k))) ∙ ap (unbound_from n) rest)

-- so many can be named
pub names_left : (images : List HeapTerm) (n k other : ℕ) → (0 < k → other ≡ n) → AreThere images other k → n ≤ 2 ^ 64 → n + k ≤ 2 ^ 64
names_left images n k other begins there space = elim (cases_lt 0 k) [ inl lt ↦ omega (arith, begins lt, there.fits) | inr le ↦ omega arith ]

-- ---- a step leaves the variables alone that aren't made
module _ (total : ℕ) (old new : Terms) (a b : HeapTerm) (told : List VarId) (h : Joined old new a b told) (absent : (v : ℕ) → length old.images ≤ v → (Occurs v a → ⊥) × (Occurs v b → ⊥)) where
  abbrev s : Subst ℕ
  s = in_turn h.bindings

  kept : (v : ℕ) → length old.images ≤ v → in_turn h.bindings v ≡ Var v
  kept v le = kept_by a b s v h.unifier (absent v le).0 (absent v le).1

  pub joined_long : length new.images ≡ length old.images
  joined_long = ap length h.images ∙ length-map old.images (apply s)

  images_completed : (completed total new).images ≡ map (apply (in_turn h.bindings)) (completed total old).images
  images_completed =
      let n : ℕ = length old.images in
      (λ i. h.images i ++ unbound_from (joined_long i) (total - joined_long i))
      ∙ ap (λ us. map (apply s) old.images ++ us) (sym (map_kept s n (total - n) kept))
      ∙ sym (map-append (apply s) old.images (unbound_from n (total - n)))

  -- unbound on the heap and on the completed one
  up : (heap : Terms) (v : ℕ) → IsUnbound heap.images v → IsUnbound (completed total heap).images v
  up heap v u = (omega (arith, u.0, length-append heap.images (unbound_from (length heap.images) (total - length heap.images))), completed_at total heap v u.0 ∙ u.1)

  down : (heap : Terms) (v : ℕ) → v < length heap.images → IsUnbound (completed total heap).images v → IsUnbound heap.images v
  down heap v lt u = (lt, sym (completed_at total heap v lt) ∙ u.1)

  newly_down : (v : VarId) → IsNewlyBound (completed total old) (completed total new) v → IsNewlyBound old new v
  newly_down v q = elim (cases_lt v.0 (length old.images)) [
    | inl lt ↦ (down old v.0 lt q.0, λ u. q.1 (up new v.0 u))
    | inr le ↦ absurd (q.1 (
      omega (arith, q.0.0, ap length images_completed, length-map (completed total old).images (apply s)),
      ap (λ us. at us v.0) images_completed ∙ at-map s (completed total old).images v.0 ∙ ap (apply s) q.0.1 ∙ kept v.0 le,
    ))
  ]

  newly_up : (v : VarId) → IsNewlyBound old new v → IsNewlyBound (completed total old) (completed total new) v
  newly_up v q = (up old v.0 q.0, λ u. q.1 (down new v.0 (omega (arith, q.0.0, joined_long)) u))

  pub joined_completed : Joined (completed total old) (completed total new) a b told
  joined_completed = record {
    bindings = h.bindings;
    unifier = h.unifier;
    terms = h.terms;
    images = images_completed;
    in_order = h.in_order;
    newly = λ v. (λ d. newly_up v ((h.newly v).0 d), λ q. (h.newly v).1 (newly_down v q));
    once = h.once;
  }

-- ---- a variable is made, bound from the start
module _ (total : ℕ) (heap mid new : Terms) (passed t : ℕ) (v : VarId)
    (larger : IsPrefix heap.terms mid.terms) (more : mid.images ≡ heap.images ++ unbound_from (length heap.images) passed) (same_goal : at mid.terms t ≡ at heap.terms t)
    (is : v.0 ≡ length mid.images) (terms : new.terms ≡ mid.terms) (images : new.images ≡ mid.images ++ at mid.terms t ∷ []) (le : length new.images ≤ total)
    (in_terms : (i w : ℕ) → Occurs w (at mid.terms i) → IsUnbound mid.images w) (in_images : (i w : ℕ) → Occurs w (at mid.images i) → IsUnbound mid.images w) where
  long : length mid.images ≡ length heap.images + passed
  long = variables_now heap.images mid.images passed more

  new_long : length new.images ≡ length mid.images + 1
  new_long = ap length images ∙ length-append mid.images (at mid.terms t ∷ [])

  absent_terms : (i : ℕ) → Occurs v.0 (at mid.terms i) → ⊥
  absent_terms i o = omega (arith, (in_terms i v.0 o).0, is)

  absent_images : (i : ℕ) → Occurs v.0 (at mid.images i) → ⊥
  absent_images i o = omega (arith, (in_images i v.0 o).0, is)

  unbound : IsUnbound (completed total mid).images v.0
  unbound = (omega (arith, completed_long total mid (omega (arith, new_long, le)), new_long, le, is), completed_new total mid v.0 (omega (arith, is)) (omega (arith, new_long, le, is)))

  can : CanMeet (completed total mid) v t
  can = record {
    unbound = unbound;
    apart = absent_terms t;
    older = λ w e. omega (arith, is, (in_terms t w (subst (Occurs w) (sym e) refl)).0);
  }

  terms_bound : new.terms ≡ map (apply (single v.0 (at mid.terms t))) mid.terms
  terms_bound = terms ∙ sym (map_absent v.0 (at mid.terms t) mid.terms absent_terms)

  images_bound : (completed total new).images ≡ map (apply (single v.0 (at mid.terms t))) (completed total mid).images
  images_bound =
      let u : HeapTerm = at mid.terms t in
      let n : ℕ = length mid.images in
      let j : ℕ = total - suc n in
      let one : length new.images ≡ suc n = omega (arith, new_long) in
      let left : total - n ≡ suc j = omega (arith, new_long, le) in
      let here : single v.0 u n ≡ u = ap (single v.0 u) (sym is) ∙ single_same v.0 u in
      let others : (w : ℕ) → suc n ≤ w → single v.0 u w ≡ Var w = (λ w lt. single_other v.0 w u (λ e. omega (arith, is, e))) in
      (λ i. images i ++ unbound_from (one i) (total - one i))
      ∙ append_assoc mid.images (u ∷ []) (unbound_from (suc n) j)
      ∙ (λ i. sym (map_absent v.0 u mid.images absent_images) i ++ sym here i ∷ sym (map_kept (single v.0 u) (suc n) j others) i)
      ∙ sym (map-append (apply (single v.0 u)) mid.images (unbound_from n (suc j)))
      ∙ ap (λ k. map (apply (single v.0 u)) (mid.images ++ unbound_from n k)) (sym left)

  pub joined_new : Joined (completed total heap) (completed total new) (at heap.terms t) (Var (length heap.images + passed)) (v ∷ [])
  joined_new =
      let told : List VarId = v ∷ [] in
      let number : ◌≡◌ {A = HeapTerm} (Var v.0) (Var (length heap.images + passed)) = ap (λ n. Var n) (is ∙ long) in
      joined_larger (completed total heap) (completed total mid) (completed total new) (at heap.terms t) (Var (length heap.images + passed)) told larger (completed_more total heap mid passed more (omega (arith, long, new_long, le)))
      (joined_as (completed total mid) (completed total new) (at mid.terms t) (Var v.0) (at heap.terms t) (Var (length heap.images + passed)) told same_goal number
      (joined_other_way (completed total mid) (completed total new) (Var v.0) (at mid.terms t) told (joined_told (completed total mid) (completed total new) v t can terms_bound images_bound)))
