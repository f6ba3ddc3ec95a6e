-- A heap stays one with a new cell and with a new binding.
use Rattle.std.proofs.Common.{◌≡◌, ◌≢◌, ℕ, zero, suc, ◌+◌, ◌<◌, ◌≤◌, List, [], ◌∷◌, ◌++◌, length, Option, None, Some, refl, sym, ap, ◌∙◌, subst, inl, inr, ◌⊎◌, get_or, arith, length-append, Bool, true, false, cond, map, eq-eqb, add-one}
use Rattle.std.proofs.lemmas.List.{get_or_push, get_or-map, length-map, map-append}
use Rattle.std.proofs.lemmas.Option.{slice_get_within, same_Some, none-some, MatchOption-at_none, MatchOption-at_some, slice_get_read, slice_get-get_or, slice_get-map}
use Rattle.std.proofs.lemmas.List.{get_or_past}
use Rattle.std.specs.Option.{option_map}
use Rattle.std.proofs.lemmas.Bool.{cases_eq, cases_lt, eqb-true}
use Rattle.std.specs.Prelude.{slice_get, MatchOption, ◌==◌, All}
use Rattle.spec_terms.specs.Term.{Var, apply, single, Occurs, with_arguments}
use Rattle.spec_terms.proofs.Substitution.{single_same, single_other, apply-single_absent, occurs_from}
use Rattle.cq_term.specs.Meaning.{Binding, HeapTerm, at, blank, raw_cell, raws_from, after, meanings}
use Rattle.cq_term.specs.Rep.{IsHeap, IsFree, Head, Fits, AllBelow, target, left_after, Resolved}
use Rattle.cq_term.specs.Shown.{view_of, arguments}
use Rattle.cq_term.proofs.Arguments.{apply-with_arguments, occurs_with_arguments, arguments-with_arguments, view_of-with_arguments}
use Rattle.cq_term.specs.declared.view.View.{View}
use Rattle.cq_term.specs.declared.view.View.TheVariants as view
use Rattle.cq_term.specs.Built.{Built}
use Rattle.cq_term.specs.Built as built
use Rattle.cq_term.proofs.Meanings.{raws_push, length-raws, after_push, length-meanings, at-append, map_at-append, map_at-map, after_more, subst-new, steps_left, left_at}
use Rattle.spec_numbers.proofs.Places.{get_push, get_kept}

pub get_last : {X : Type 0} (xs : List X) (y : X) → slice_get (xs ++ y ∷ []) (length xs) ≡ Some y
get_last [] y = refl
get_last (x ∷ xs) y = get_last xs y

pub at_cases : (ts : List HeapTerm) (x : HeapTerm) (i : ℕ) → (at (ts ++ x ∷ []) i ≡ at ts i) ⊎ (at (ts ++ x ∷ []) i ≡ x)
at_cases [] x zero = inr refl
at_cases [] x (suc i) = inl refl
at_cases (t ∷ ts) x zero = inl refl
at_cases (t ∷ ts) x (suc i) = at_cases ts x i

-- a variable that a binding is of, or of which there is none
pub unbound_left : (order : List Binding) (v : ℕ) → target order v ≡ None → left_after order v ≡ 0
unbound_left [] v e = refl
unbound_left (b ∷ order) v e = go (b.variable == v) (unbound_left order v) e
  where
    go : (p : Bool) → (target order v ≡ None → left_after order v ≡ 0) → cond p (Some b.term) (target order v) ≡ None → cond p (suc (length order)) (left_after order v) ≡ 0
    go true rest h = absurd (none-some b.term (sym h))
    go false rest h = rest h

bound_left : (n : ℕ) (order : List Binding) (v u : ℕ) → ((k : ℕ) (b : Binding) → slice_get order k ≡ Some b → b.term < n) → target order v ≡ Some u → (u < n) × (0 < left_after order v)
bound_left n [] v u live e = absurd (none-some u e)
bound_left n (b ∷ order) v u live e = go (b.variable == v) (bound_left n order v u (λ k x q. live (suc k) x q)) e
  where
    go : (p : Bool) → (target order v ≡ Some u → (u < n) × (0 < left_after order v)) → cond p (Some b.term) (target order v) ≡ Some u → (u < n) × (0 < cond p (suc (length order)) (left_after order v))
    go true rest h = (subst (λ (x : ℕ). x < n) (same_Some b.term u h) (live 0 b refl), omega arith)
    go false rest h = rest h

pub targets : {cells : List Built} {vars : List ℕ} {order : List Binding} → IsHeap cells vars order → (v u : ℕ) → target order v ≡ Some u → (u < length cells) × (0 < left_after order v)
targets {cells = cells} {order = order} heap v u e = bound_left (length cells) order v u (λ k b q. (heap.bindings k b q).0) e

target_fresh : (n : ℕ) (order : List Binding) → ((k : ℕ) (b : Binding) → slice_get order k ≡ Some b → b.variable < n) → target order n ≡ None
target_fresh n [] there = refl
target_fresh n (b ∷ order) there = go (b.variable == n) refl (target_fresh n order (λ k x q. there (suc k) x q))
  where
    go : (p : Bool) → (b.variable == n) ≡ p → target order n ≡ None → cond p (Some b.term) (target order n) ≡ None
    go true e rest = absurd (omega (arith, eqb-true b.variable n e, there 0 b refl))
    go false e rest = rest

target_last : (order : List Binding) (b : Binding) → target order b.variable ≡ None → target (order ++ b ∷ []) b.variable ≡ Some b.term
target_last [] b e = rw (eq-eqb b.variable b.variable refl) refl
target_last (x ∷ order) b e = go (x.variable == b.variable) (target_last order b) e
  where
    go : (p : Bool) → (target order b.variable ≡ None → target (order ++ b ∷ []) b.variable ≡ Some b.term) → cond p (Some x.term) (target order b.variable) ≡ None → cond p (Some x.term) (target (order ++ b ∷ []) b.variable) ≡ Some b.term
    go true rest h = absurd (none-some x.term (sym h))
    go false rest h = rest h

target_other : (order : List Binding) (b : Binding) (w : ℕ) → w ≢ b.variable → target (order ++ b ∷ []) w ≡ target order w
target_other [] b w ne = go (b.variable == w) refl
  where
    go : (p : Bool) → (b.variable == w) ≡ p → cond p (Some b.term) None ≡ None
    go true e = absurd (ne (sym (eqb-true b.variable w e)))
    go false e = refl
target_other (x ∷ order) b w ne = ap (λ (o : Option ℕ). cond (x.variable == w) (Some x.term) o) (target_other order b w ne)

pub meanings_push : (cells : List Built) (vars : List ℕ) (order : List Binding) (c : Built) → IsHeap cells vars order → Fits (length cells) (suc (length vars)) c → ((n : ℕ) → c ≡ built.Var n → n ≡ length vars) →
    meanings (cells ++ c ∷ []) order ≡ meanings cells order ++ raw_cell (meanings cells order) c ∷ []
unfolding meanings
meanings_push cells vars order c heap fits new =
    let l : length (raws_from [] cells) ≡ length cells = length-raws [] cells ∙ omega arith in
    rw (raws_push [] cells c) (after_more order (raws_from [] cells) c (suc (length vars))
    (λ k b h. rw l (heap.bindings k b h).0)
    (rw l fits)
    (λ k b n h e same. let p : n ≡ length vars = new n e in let q : b.variable < length vars = (heap.bindings k b h).1 in omega arith))

head_var_more : (o : Option ℕ) (ts us : List HeapTerm) (n : ℕ) (t : HeapTerm) → ((u : ℕ) → o ≡ Some u → u < length ts) → MatchOption o (t ≡ Var n) (λ u. t ≡ at ts u) → MatchOption o (t ≡ Var n) (λ u. t ≡ at (ts ++ us) u)
head_var_more None ts us n t h m = m
head_var_more (Some u) ts us n t h m = m ∙ sym (at-append ts us u (h u refl))

pub head_more : (ts us : List HeapTerm) (order : List Binding) (c : Built) (t : HeapTerm) (vars : ℕ) → ((v u : ℕ) → target order v ≡ Some u → u < length ts) → Fits (length ts) vars c → Head ts order c t → Head (ts ++ us) order c t
head_more ts us order (built.Var n) t vars h f m = head_var_more (target order n) ts us n t (h n) m
head_more ts us order (built.Number n) t vars h f m = m
head_more ts us order (built.Name n) t vars h f m = m
head_more ts us order (built.Compound g args) t vars h f m = m ∙ ap (with_arguments g) (sym (map_at-append ts us args (length ts) (omega arith) f.1))

all_below : (i j : ℕ) (is : List ℕ) → i ≤ j → AllBelow i is → AllBelow j is
all_below i j [] h a = tt
all_below i j (x ∷ is) h a = (omega (arith, a.0), all_below i j is h a.1)

pub fits_up : (i j vars : ℕ) (c : Built) → i ≤ j → Fits i vars c → Fits j vars c
fits_up i j vars (built.Var n) h f = f
fits_up i j vars (built.Number n) h f = tt
fits_up i j vars (built.Name n) h f = tt
fits_up i j vars (built.Compound g args) h f = (f.0, all_below i j args h f.1)

pub fits_below : (i j vars : ℕ) (c : Built) → i ≤ j → Fits i vars c → Fits j (suc vars) c
fits_below i j vars (built.Var n) h f = omega arith
fits_below i j vars (built.Number n) h f = tt
fits_below i j vars (built.Name n) h f = tt
fits_below i j vars (built.Compound g args) h f = (f.0, all_below i j args h f.1)

-- a variable stays free where cells are added
free_with : (cells more : List Built) (vars : List ℕ) (order : List Binding) (v : ℕ) → IsFree cells vars order v → IsFree (cells ++ more) vars order v
free_with cells more vars order v free = record { there = free.there; unbound = free.unbound; own = λ i h. get_kept cells more i (built.Var v) (free.own i h) }

-- one more cell, which is no variable
module _ (cells : List Built) (vars : List ℕ) (order : List Binding) (c : Built) (heap : IsHeap cells vars order) (fits : Fits (length cells) (length vars) c) (plain : (n : ℕ) → c ≡ built.Var n → ⊥) where
  ts : List HeapTerm
  ts = meanings cells order

  new_fits : Fits (length cells) (suc (length vars)) c
  new_fits = fits_below (length cells) (length cells) (length vars) c (omega arith) fits

  pub meanings_cell : meanings (cells ++ c ∷ []) order ≡ meanings cells order ++ raw_cell (meanings cells order) c ∷ []
  meanings_cell = meanings_push cells vars order c heap new_fits (λ n e. absurd (plain n e))

  heads_old : (i : ℕ) (d : Built) → slice_get cells i ≡ Some d → Head (meanings cells order ++ raw_cell (meanings cells order) c ∷ []) order d (at (meanings cells order ++ raw_cell (meanings cells order) c ∷ []) i)
  heads_old i d h =
      let l = length-meanings cells order in
      let w : i < length cells = slice_get_within cells i d h in
      rw (at-append (meanings cells order) (raw_cell (meanings cells order) c ∷ []) i (omega arith))
      (head_more (meanings cells order) (raw_cell (meanings cells order) c ∷ []) order d (at (meanings cells order) i) (suc (length vars))
      (λ v u e. let p = targets heap v u e in omega (arith, p.0))
      (fits_below i (length (meanings cells order)) (length vars) d (omega arith) (heap.fits i d h))
      (heap.heads i d h))

  head_new : Head (meanings cells order ++ raw_cell (meanings cells order) c ∷ []) order c (raw_cell (meanings cells order) c)
  head_new = go c fits plain
    where
      go : (d : Built) → Fits (length cells) (length vars) d → ((n : ℕ) → d ≡ built.Var n → ⊥) → Head (meanings cells order ++ raw_cell (meanings cells order) c ∷ []) order d (raw_cell (meanings cells order) d)
      go (built.Var n) f p = absurd (p n refl)
      go (built.Number n) f p = refl
      go (built.Name n) f p = refl
      go (built.Compound g args) f p = ap (with_arguments g) (sym (map_at-append (meanings cells order) (raw_cell (meanings cells order) c ∷ []) args (length cells) (omega (arith, length-meanings cells order)) f.1))

  free_new : (v : ℕ) → Occurs v (raw_cell (meanings cells order) c) → IsFree cells vars order v
  free_new = go c plain
    where
      go : (d : Built) → ((n : ℕ) → d ≡ built.Var n → ⊥) → (v : ℕ) → Occurs v (raw_cell (meanings cells order) d) → IsFree cells vars order v
      go (built.Var n) p v o = absurd (p n refl)
      go (built.Number n) p v o = absurd o
      go (built.Name n) p v o = absurd o
      go (built.Compound g args) p v o = let q = occurs_with_arguments (meanings cells order) g args v o in heap.free q.0 v q.1

  pub is_heap_cell : IsHeap (cells ++ c ∷ []) vars order
  is_heap_cell = record {
    fits = λ i d h. elim (get_push cells c i d h) [
      | inl p ↦ heap.fits i d p
      | inr q ↦ subst (λ (x : Built). Fits i (length vars) x) q.1 (subst (λ (x : ℕ). Fits x (length vars) c) (sym q.0) fits)
    ];
    heads = λ i d h. rw meanings_cell (elim (get_push cells c i d h) [
      | inl p ↦ heads_old i d p
      | inr q ↦ subst (λ (x : Built). Head (meanings cells order ++ raw_cell (meanings cells order) c ∷ []) order x (at (meanings cells order ++ raw_cell (meanings cells order) c ∷ []) i)) q.1
          (rw (get_or_push (meanings cells order) (raw_cell (meanings cells order) c) blank i (length-meanings cells order ∙ sym q.0)) head_new)
    ]);
    free = λ i v. rw meanings_cell (λ o. free_with cells (c ∷ []) vars order v (elim (at_cases (meanings cells order) (raw_cell (meanings cells order) c) i) [
      | inl p ↦ heap.free i v (rw p at o)
      | inr q ↦ free_new v (rw q at o)
    ]));
    homes = λ n i h. omega (arith, heap.homes n i h, length-append cells (c ∷ []));
    bindings = λ k b h. let p = heap.bindings k b h in (omega (arith, p.0, length-append cells (c ∷ [])), p.1);
    single = λ i v h. elim (get_push cells c i (built.Var v) h) [ inl p ↦ heap.single i v p | inr q ↦ absurd (plain v q.1) ];
    chain = λ v u m h e. elim (get_push cells c u (built.Var m) e) [
      | inl p ↦ heap.chain v u m h p
      | inr q ↦ absurd (plain m q.1)
    ];
  }

fits_grow : (i id : ℕ) (vars : List ℕ) (d : Built) → Fits i (length vars) d → Fits i (length (vars ++ id ∷ [])) d
fits_grow i id vars d f = rw (length-append, add-one) (fits_below i i (length vars) d (omega arith) f)

-- a variable stays free where another is made
free_behind : (cells : List Built) (vars : List ℕ) (order : List Binding) (id v : ℕ) → IsFree cells vars order v → IsFree cells (vars ++ id ∷ []) order v
free_behind cells vars order id v free = record {
  there = omega (arith, free.there, length-append vars (id ∷ []));
  unbound = free.unbound;
  own = λ i h. elim (get_push vars id v i h) [
    | inl p ↦ free.own i p
    | inr q ↦ absurd (omega (arith, q.0, free.there))
  ];
}

-- one more variable
module _ (cells : List Built) (vars : List ℕ) (order : List Binding) (heap : IsHeap cells vars order) where
  pub meanings_var : meanings (cells ++ built.Var (length vars) ∷ []) order ≡ meanings cells order ++ Var (length vars) ∷ []
  meanings_var = meanings_push cells vars order (built.Var (length vars)) heap (omega arith) (λ n e. cc)

  heads_var_old : (i : ℕ) (d : Built) → slice_get cells i ≡ Some d → Head (meanings cells order ++ Var (length vars) ∷ []) order d (at (meanings cells order ++ Var (length vars) ∷ []) i)
  heads_var_old i d h =
      let l = length-meanings cells order in
      let w : i < length cells = slice_get_within cells i d h in
      rw (at-append (meanings cells order) (Var (length vars) ∷ []) i (omega arith))
      (head_more (meanings cells order) (Var (length vars) ∷ []) order d (at (meanings cells order) i) (suc (length vars))
      (λ v u e. let p = targets heap v u e in omega (arith, p.0))
      (fits_below i (length (meanings cells order)) (length vars) d (omega arith) (heap.fits i d h))
      (heap.heads i d h))

  fresh : target order (length vars) ≡ None
  fresh = target_fresh (length vars) order (λ k b h. (heap.bindings k b h).1)

  head_var_new : Head (meanings cells order ++ Var (length vars) ∷ []) order (built.Var (length vars)) (Var (length vars))
  head_var_new = rw fresh refl

  free_var_new : IsFree (cells ++ built.Var (length vars) ∷ []) (vars ++ length cells ∷ []) order (length vars)
  free_var_new = record {
    there = omega (arith, length-append vars (length cells ∷ []));
    unbound = fresh;
    own = λ i h. elim (get_push vars (length cells) (length vars) i h) [
      | inl p ↦ absurd (omega (arith, slice_get_within vars (length vars) i p))
      | inr q ↦ subst (λ (x : ℕ). slice_get (cells ++ built.Var (length vars) ∷ []) x ≡ Some (built.Var (length vars))) q.1 (get_last cells (built.Var (length vars)))
    ];
  }

  pub is_heap_var : IsHeap (cells ++ built.Var (length vars) ∷ []) (vars ++ length cells ∷ []) order
  is_heap_var = record {
    fits = λ i d h. elim (get_push cells (built.Var (length vars)) i d h) [
      | inl p ↦ fits_grow i (length cells) vars d (heap.fits i d p)
      | inr q ↦ subst (λ (x : Built). Fits i (length (vars ++ length cells ∷ [])) x) q.1 (simp (length-append) (omega arith))
    ];
    heads = λ i d h. rw meanings_var (elim (get_push cells (built.Var (length vars)) i d h) [
      | inl p ↦ heads_var_old i d p
      | inr q ↦ subst (λ (x : Built). Head (meanings cells order ++ Var (length vars) ∷ []) order x (at (meanings cells order ++ Var (length vars) ∷ []) i)) q.1
          (rw (get_or_push (meanings cells order) (Var (length vars)) blank i (length-meanings cells order ∙ sym q.0)) head_var_new)
    ]);
    free = λ i v. rw meanings_var (λ o. elim (at_cases (meanings cells order) (Var (length vars)) i) [
      | inl p ↦ free_behind (cells ++ built.Var (length vars) ∷ []) vars order (length cells) v (free_with cells (built.Var (length vars) ∷ []) vars order v (heap.free i v (rw p at o)))
      | inr q ↦ subst (IsFree (cells ++ built.Var (length vars) ∷ []) (vars ++ length cells ∷ []) order) (sym (rw q at o)) free_var_new
    ]);
    homes = λ n i h. elim (get_push vars (length cells) n i h) [
      | inl p ↦ omega (arith, heap.homes n i p, length-append cells (built.Var (length vars) ∷ []))
      | inr q ↦ omega (arith, q.1, length-append cells (built.Var (length vars) ∷ []))
    ];
    single = λ i v h. elim (get_push cells (built.Var (length vars)) i (built.Var v) h) [
      | inl p ↦ get_kept vars (length cells ∷ []) v i (heap.single i v p)
      | inr q ↦ (let same : length vars ≡ v = cc in
          subst (λ (x : ℕ). slice_get (vars ++ length cells ∷ []) x ≡ Some i) same (get_last vars (length cells) ∙ ap Some (sym q.0)))
    ];
    bindings = λ k b h. let p = heap.bindings k b h in (omega (arith, p.0, length-append cells (built.Var (length vars) ∷ [])), omega (arith, p.1, length-append vars (length cells ∷ [])));
    chain = λ v u m h e. elim (get_push cells (built.Var (length vars)) u (built.Var m) e) [
      | inl p ↦ heap.chain v u m h p
      | inr q ↦ (let w = targets heap v u h in absurd (omega (arith, w.0, q.0)))
    ];
  }

-- one more variable, which is bound to a term from the start
pub is_heap_bound : (cells : List Built) (vars : List ℕ) (order : List Binding) (id : ℕ) → id < length cells → IsHeap cells vars order → IsHeap cells (vars ++ id ∷ []) order
is_heap_bound cells vars order id live heap = record {
  fits = λ i d h. fits_grow i id vars d (heap.fits i d h);
  heads = heap.heads;
  free = λ i v o. free_behind cells vars order id v (heap.free i v o);
  homes = λ n i h. elim (get_push vars id n i h) [ inl p ↦ heap.homes n i p | inr q ↦ omega (arith, q.1) ];
  single = λ i v h. get_kept vars (id ∷ []) v i (heap.single i v h);
  bindings = λ k b h. let p = heap.bindings k b h in (p.0, omega (arith, p.1, length-append vars (id ∷ [])));
  chain = heap.chain;
}

-- a variable of the result is one of the new term, or another one of the old
pub occurs_subst : (w v : ℕ) (u t : HeapTerm) → Occurs w (apply (single v u) t) → Occurs w u ⊎ (Occurs w t × (w ≢ v))
occurs_subst w v u t o =
    let h = occurs_from (single v u) w t o in
    elim (cases_eq v h.0) [
      | inl e ↦ inl (rw (single_same v u) at (subst (λ (x : ℕ). Occurs w (single v u x)) (sym e) h.2))
      | inr n ↦
          let same : w ≡ h.0 = rw (single_other v h.0 u n) at h.2 in
          inr (subst (λ (x : ℕ). Occurs x t) (sym same) h.1, λ q. n (sym q ∙ same))
    ]

pub at-map-subst : (v : ℕ) (u : HeapTerm) (ts : List HeapTerm) (i : ℕ) → at (map (apply (single v u)) ts) i ≡ apply (single v u) (at ts i)
at-map-subst v u [] zero = refl
at-map-subst v u [] (suc i) = refl
at-map-subst v u (t ∷ ts) zero = refl
at-map-subst v u (t ∷ ts) (suc i) = at-map-subst v u ts i

pub left_push : (order : List Binding) (b : Binding) (n : ℕ) →
    ((left_after (order ++ b ∷ []) n ≡ left_after order n + 1) × (0 < left_after order n)) ⊎ ((left_after order n ≡ 0) × (left_after (order ++ b ∷ []) n ≡ cond (b.variable == n) 1 0))
left_push [] b n = inr (refl, refl)
left_push (x ∷ order) b n = go (x.variable == n) (left_push order b n)
  where
    go : (p : Bool) → (((left_after (order ++ b ∷ []) n ≡ left_after order n + 1) × (0 < left_after order n)) ⊎ ((left_after order n ≡ 0) × (left_after (order ++ b ∷ []) n ≡ cond (b.variable == n) 1 0))) →
        ((cond p (suc (length (order ++ b ∷ []))) (left_after (order ++ b ∷ []) n) ≡ cond p (suc (length order)) (left_after order n) + 1) × (0 < cond p (suc (length order)) (left_after order n)))
        ⊎ ((cond p (suc (length order)) (left_after order n) ≡ 0) × (cond p (suc (length (order ++ b ∷ []))) (left_after (order ++ b ∷ []) n) ≡ cond (b.variable == n) 1 0))
    go true h = inl (omega (arith, length-append order (b ∷ [])), omega arith)
    go false h = h

pub subst_same : (v : ℕ) (u : HeapTerm) → apply (single v u) (Var v) ≡ u
subst_same v u = single_same v u

-- one more binding
module _ (cells : List Built) (vars : List ℕ) (order : List Binding) (v t : ℕ) (heap : IsHeap cells vars order) (there : v < length vars) (unbound : target order v ≡ None) (live : t < length cells) (apart : Occurs v (at (meanings cells order) t) → ⊥) (last : (n : ℕ) → slice_get cells t ≡ Some (built.Var n) → target order n ≡ None) where
  abbrev u : HeapTerm
  u = at (meanings cells order) t

  abbrev binding : Binding
  binding = record { variable = v; term = t }

  pub meanings_bind : meanings cells (order ++ binding ∷ []) ≡ map (apply (single v u)) (meanings cells order)
  unfolding meanings
  meanings_bind = after_push order binding (raws_from [] cells)

  same : target (order ++ binding ∷ []) v ≡ Some t
  same = target_last order binding unbound

  other : (n : ℕ) → n ≢ v → target (order ++ binding ∷ []) n ≡ target order n
  other n h = target_other order binding n h

  head_other : (n : ℕ) (o : Option ℕ) (x : HeapTerm) → n ≢ v → MatchOption o (x ≡ Var n) (λ w. x ≡ at (meanings cells order) w) → MatchOption o (apply (single v u) x ≡ Var n) (λ w. apply (single v u) x ≡ at (map (apply (single v u)) (meanings cells order)) w)
  head_other n None x h m = rw m (subst-new v n u (λ e. h (sym e)))
  head_other n (Some w) x h m = ap (apply (single v u)) m ∙ sym (at-map-subst v u (meanings cells order) w)

  head_bind : (d : Built) (x : HeapTerm) → Fits (length cells) (length vars) d → Head (meanings cells order) order d x → Head (map (apply (single v u)) (meanings cells order)) (order ++ binding ∷ []) d (apply (single v u) x)
  head_bind (built.Var n) x f m = elim (cases_eq n v) [
    | inl e ↦ rw (e, same) (let p : x ≡ Var v = rw (e, unbound) at m in
        ap (apply (single v u)) p ∙ subst_same v u ∙ sym (at-map-subst v u (meanings cells order) t ∙ apply-single_absent v u u apart))
    | inr ne ↦ rw (other n ne) (head_other n (target order n) x ne m)
  ]
  head_bind (built.Number n) x f m = ap (apply (single v u)) m
  head_bind (built.Name n) x f m = ap (apply (single v u)) m
  head_bind (built.Compound g args) x f m = ap (apply (single v u)) m ∙ apply-with_arguments (single v u) g (map (at (meanings cells order)) args) ∙ ap (with_arguments g) (sym (map_at-map v u (meanings cells order) args (length cells) (omega (arith, length-meanings cells order)) f.1))

  fits_within : (i : ℕ) (d : Built) → slice_get cells i ≡ Some d → Fits (length cells) (length vars) d
  fits_within i d h = let w : i < length cells = slice_get_within cells i d h in fits_up i (length cells) (length vars) d (omega arith) (heap.fits i d h)

  free_other : (w : ℕ) → w ≢ v → IsFree cells vars order w → IsFree cells vars (order ++ binding ∷ []) w
  free_other w ne free = record { there = free.there; unbound = other w ne ∙ free.unbound; own = free.own }

  free_bind : (w : ℕ) (x : HeapTerm) → ((y : ℕ) → Occurs y x → IsFree cells vars order y) → Occurs w (apply (single v u) x) → IsFree cells vars (order ++ binding ∷ []) w
  free_bind w x h o = elim (occurs_subst w v u x o) [
    | inl a ↦ free_other w (λ e. apart (subst (λ (y : ℕ). Occurs y u) e a)) (heap.free t w a)
    | inr b ↦ free_other w b.1 (h w b.0)
  ]

  left_same : left_after (order ++ binding ∷ []) v ≡ 1
  left_same = elim (left_push order binding v) [
    | inl p ↦ absurd (omega (arith, unbound_left order v unbound, p.1))
    | inr q ↦ q.1 ∙ rw (eq-eqb v v refl) refl
  ]

  left_other : (n : ℕ) → 0 < left_after order n → left_after (order ++ binding ∷ []) n ≡ left_after order n + 1
  left_other n h = elim (left_push order binding n) [ inl p ↦ p.0 | inr q ↦ absurd (omega (arith, q.0)) ]

  left_none : (n : ℕ) → left_after order n ≡ 0 → n ≢ v → left_after (order ++ binding ∷ []) n ≡ 0
  left_none n h ne = elim (left_push order binding n) [
    | inl p ↦ absurd (omega (arith, p.1))
    | inr q ↦ q.1 ∙ elim (v == n) as (λ b. (v == n) ≡ b → ◌≡◌ {A = ℕ} (cond b 1 0) 0) [ true ↦ λ e. absurd (ne (sym (eqb-true v n e))) | false ↦ λ e. refl ] refl
  ]

  left_most : (n : ℕ) → left_after (order ++ binding ∷ []) n ≤ left_after order n + 1
  left_most n = elim (left_push order binding n) [
    | inl p ↦ omega (arith, p.0)
    | inr q ↦ rw q.1 (elim (v == n) as (λ b. cond b 1 0 ≤ left_after order n + 1) [ true ↦ omega arith | false ↦ omega arith ])
  ]

  target_cases : (w x : ℕ) → target (order ++ binding ∷ []) w ≡ Some x → ((w ≡ v) × (x ≡ t)) ⊎ ((w ≢ v) × (target order w ≡ Some x))
  target_cases w x h = elim (cases_eq w v) [
    | inl e ↦ inl (e, same_Some x t (sym (rw (e, same) at h)))
    | inr ne ↦ inr (ne, rw (other w ne) at h)
  ]

  chain_bind : (w x m : ℕ) → target (order ++ binding ∷ []) w ≡ Some x → slice_get cells x ≡ Some (built.Var m) → left_after (order ++ binding ∷ []) m < left_after (order ++ binding ∷ []) w
  chain_bind w x m h e = elim (target_cases w x h) [
    | inl p ↦ (
        let c : slice_get cells t ≡ Some (built.Var m) = rw p.1 at e in
        let z = unbound_left order m (last m c) in
        let ne : m ≢ v = λ q. apart (subst (λ (y : HeapTerm). Occurs v y) (sym (MatchOption-at_none _ _ (last m c) (heap.heads t (built.Var m) c))) (sym q)) in
        rw (p.0, left_same, left_none m z ne) (omega arith))
    | inr p ↦ (
        let lt = heap.chain w x m p.1 e in
        omega (arith, left_other w (omega arith), left_most m))
  ]

  pub is_heap_bind : IsHeap cells vars (order ++ binding ∷ [])
  is_heap_bind = record {
    fits = heap.fits;
    heads = λ i d h. rw (meanings_bind, at-map-subst v u (meanings cells order) i) (head_bind d (at (meanings cells order) i) (fits_within i d h) (heap.heads i d h));
    free = λ i w. rw (meanings_bind, at-map-subst v u (meanings cells order) i) (λ o. free_bind w (at (meanings cells order) i) (heap.free i) o);
    homes = heap.homes;
    single = heap.single;
    bindings = λ k b h. elim (get_push order binding k b h) [
      | inl p ↦ heap.bindings k b p
      | inr q ↦ subst (λ (x : Binding). (x.term < length cells) × (x.variable < length vars)) q.1 (live, there)
    ];
    chain = chain_bind;
  }

-- ---- reading
pub read_at : (cells : List Built) (i : ℕ) (x c : Built) → i < length cells → x ≡ get_or cells i x → x ≡ c → slice_get cells i ≡ Some c
read_at cells i x c h e s = slice_get_read cells (length cells) i x refl h e ∙ ap Some s

module _ (cells : List Built) (vars : List ℕ) (order : List Binding) (heap : IsHeap cells vars order) (i n u : ℕ) (here : slice_get cells i ≡ Some (built.Var n)) (bind : target order n ≡ Some u) where
  pub follow_same : at (meanings cells order) u ≡ at (meanings cells order) i
  follow_same = sym (MatchOption-at_some (at (meanings cells order) i ≡ Var n) (λ w. at (meanings cells order) i ≡ at (meanings cells order) w) u bind (heap.heads i (built.Var n) here))

  pub follow_less : steps_left cells order u < steps_left cells order i
  follow_less = rw here (go (slice_get cells u) refl)
    where
      go : (o : Option Built) → slice_get cells u ≡ o → left_at order o < left_after order n
      go None e = (targets heap n u bind).1
      go (Some (built.Var m)) e = heap.chain n u m bind e
      go (Some (built.Number m)) e = (targets heap n u bind).1
      go (Some (built.Name m)) e = (targets heap n u bind).1
      go (Some (built.Compound f args)) e = (targets heap n u bind).1

pub at_none : (cells : List Built) (order : List Binding) (i n m : ℕ) → slice_get cells i ≡ Some (built.Var n) → target order n ≡ None → slice_get cells i ≡ Some (built.Var m) → target order m ≡ None
at_none cells order i n m c b e = let q : n ≡ m = cc in rw (← q) b

-- an unbound variable, by its image
module _ (cells : List Built) (vars : List ℕ) (order : List Binding) (heap : IsHeap cells vars order) (v : ℕ) (there : v < length (map (at (meanings cells order)) vars)) (image : at (map (at (meanings cells order)) vars) v ≡ Var v) where
  pub var_within : v < length vars
  var_within = omega (arith, length-map vars (at (meanings cells order)))

  pub var_unbound : target order v ≡ None
  var_unbound =
      let w : v < length vars = omega (arith, length-map vars (at (meanings cells order))) in
      let h : at (meanings cells order) (get_or vars v 0) ≡ Var v = sym (get_or-map (at (meanings cells order)) vars v 0 blank w) ∙ image in
      (heap.free (get_or vars v 0) v (subst (λ (x : HeapTerm). Occurs v x) (sym h) refl)).unbound

  module _ (term e : ℕ) (r : Resolved cells order term e) (apart : Occurs v (at (meanings cells order) term) → ⊥) where
    pub bind_heap : IsHeap cells vars (order ++ record { variable = v; term = e } ∷ [])
    bind_heap = is_heap_bind cells vars order v e heap var_within var_unbound r.live (rw r.same apart) r.last

    pub bind_terms : meanings cells (order ++ record { variable = v; term = e } ∷ []) ≡ map (apply (single v (at (meanings cells order) term))) (meanings cells order)
    bind_terms = rw (← r.same) (meanings_bind cells vars order v e heap var_within var_unbound r.live (rw r.same apart) r.last)

map_at_subst : (v : ℕ) (u : HeapTerm) (ts : List HeapTerm) (is : List ℕ) → map (at (map (apply (single v u)) ts)) is ≡ map (apply (single v u)) (map (at ts) is)
map_at_subst v u ts [] = refl
map_at_subst v u ts (i ∷ is) = λ k. at-map-subst v u ts i k ∷ map_at_subst v u ts is k

pub bind_images : (v : ℕ) (u : HeapTerm) (ts us : List HeapTerm) (is : List ℕ) → us ≡ map (apply (single v u)) ts → map (at us) is ≡ map (apply (single v u)) (map (at ts) is)
bind_images v u ts us is e = rw e (map_at_subst v u ts is)

-- what a cell shows
abbrev pub cell_view : Built → View
cell_view (built.Var n) = view.Var (record { 0 = n })
cell_view (built.Number n) = view.Number n
cell_view (built.Name a) = view.Name a
cell_view (built.Compound f args) = view.Compound f (length args)

head_shows : (ts : List HeapTerm) (order : List Binding) (c : Built) (t : HeapTerm) (i vars : ℕ) → Fits i vars c → ((n : ℕ) → c ≡ built.Var n → target order n ≡ None) → Head ts order c t → view_of t ≡ cell_view c
head_shows ts order (built.Var n) t i vars f last h = ap view_of (MatchOption-at_none (t ≡ Var n) (λ u. t ≡ at ts u) (last n refl) h)
head_shows ts order (built.Number n) t i vars f last h = ap view_of h
head_shows ts order (built.Name a) t i vars f last h = ap view_of h
head_shows ts order (built.Compound g args) t i vars f last h =
    let size : length (map (at ts) args) ≡ length args = rw length-map in
    ap view_of h ∙ view_of-with_arguments g (map (at ts) args) (rw size f.0) ∙ ap (view.Compound g) size

pub shows : (cells : List Built) (vars : List ℕ) (order : List Binding) (heap : IsHeap cells vars order) (id e : ℕ) (r : Resolved cells order id e) (x c : Built) → slice_get cells e ≡ Some x → x ≡ c → view_of (at (meanings cells order) id) ≡ cell_view c
shows cells vars order heap id e r x c at_e same =
    let s : slice_get cells e ≡ Some c = at_e ∙ ap Some same in
    rw (← r.same) (head_shows (meanings cells order) order c (at (meanings cells order) e) e (length vars) (heap.fits e c s) (λ n q. r.last n (s ∙ ap Some q)) (heap.heads e c s))

-- ---- images
map_at_more : (ts us : List HeapTerm) (is : List ℕ) → AllBelow (length ts) is → map (at (ts ++ us)) is ≡ map (at ts) is
map_at_more ts us [] h = refl
map_at_more ts us (i ∷ is) h = λ k. at-append ts us i h.0 k ∷ map_at_more ts us is h.1 k

homes_below : (cells : List Built) (vars : List ℕ) → ((n i : ℕ) → slice_get vars n ≡ Some i → i < length cells) → AllBelow (length cells) vars
homes_below cells [] h = tt
homes_below cells (i ∷ vars) h = (h 0 i refl, homes_below cells vars (λ n j e. h (suc n) j e))

module _ (cells : List Built) (vars : List ℕ) (order : List Binding) (heap : IsHeap cells vars order) where
  pub homes_in : AllBelow (length (meanings cells order)) vars
  homes_in = rw (length-meanings cells order) (homes_below cells vars heap.homes)

  pub images_var : map (at (meanings (cells ++ built.Var (length vars) ∷ []) order)) (vars ++ length cells ∷ []) ≡ map (at (meanings cells order)) vars ++ Var (length vars) ∷ []
  images_var =
      let m = meanings cells order in
      let x : HeapTerm = Var (length vars) in
      rw (meanings_var cells vars order heap, map-append)
      (λ k. map_at_more m (x ∷ []) vars homes_in k ++ get_or_push m x blank (length cells) (length-meanings cells order) k ∷ [])

  pub images_cell : (c : Built) → Fits (length cells) (length vars) c → ((n : ℕ) → c ≡ built.Var n → ⊥) → map (at (meanings (cells ++ c ∷ []) order)) vars ≡ map (at (meanings cells order)) vars
  images_cell c fits plain = rw (meanings_cell cells vars order c heap fits plain) (map_at_more (meanings cells order) (raw_cell (meanings cells order) c ∷ []) vars homes_in)

pub empty_meanings : meanings [] [] ≡ []
unfolding meanings after raws_from
empty_meanings = refl

pub empty_heap : IsHeap [] [] []
empty_heap = record {
  fits = λ i c e. absurd (none-some c e);
  heads = λ i c e. absurd (none-some c e);
  free = λ i v. rw empty_meanings (λ o. absurd o);
  homes = λ n i e. absurd (none-some i e);
  single = λ i v e. absurd (none-some (built.Var v) e);
  bindings = λ k b e. absurd (none-some b e);
  chain = λ v u m e. absurd (none-some u e);
}

-- ---- arguments
pub below_at : (n : ℕ) (is : List ℕ) (i : ℕ) → AllBelow n is → i < length is → get_or is i 0 < n
below_at n [] i a h = absurd (omega arith)
below_at n (x ∷ is) zero a h = a.0
below_at n (x ∷ is) (suc i) a h = below_at n is i a.1 (omega arith)

-- the arguments of what a cell means
pub arguments_at : (cells : List Built) (vars : List ℕ) (order : List Binding) (heap : IsHeap cells vars order) (id e : ℕ) (r : Resolved cells order id e) (g : ℕ) (args : List ℕ) →
    slice_get cells e ≡ Some (built.Compound g args) → arguments (at (meanings cells order) id) ≡ map (at (meanings cells order)) args
arguments_at cells vars order heap id e r g args s =
    ap arguments (sym r.same ∙ heap.heads e (built.Compound g args) s) ∙ arguments-with_arguments g (map (at (meanings cells order)) args)

-- another cell means a term without arguments
pub no_arguments : (cells : List Built) (vars : List ℕ) (order : List Binding) (heap : IsHeap cells vars order) (id e : ℕ) (r : Resolved cells order id e) (x : Built) →
    slice_get cells e ≡ Some x → ((g : ℕ) (args : List ℕ) → x ≡ built.Compound g args → ⊥) → arguments (at (meanings cells order) id) ≡ []
no_arguments cells vars order heap id e r (built.Var n) s other = ap arguments (sym r.same ∙ MatchOption-at_none (at (meanings cells order) e ≡ Var n) (λ u. at (meanings cells order) e ≡ at (meanings cells order) u) (r.last n s) (heap.heads e (built.Var n) s))
no_arguments cells vars order heap id e r (built.Number n) s other = ap arguments (sym r.same ∙ heap.heads e (built.Number n) s)
no_arguments cells vars order heap id e r (built.Name a) s other = ap arguments (sym r.same ∙ heap.heads e (built.Name a) s)
no_arguments cells vars order heap id e r (built.Compound g args) s other = absurd (other g args refl)

pub all_to_below : (n : ℕ) (is : List ℕ) → All (λ i. i < n) is → AllBelow n is
all_to_below n [] h = tt
all_to_below n (i ∷ is) h = (h 0 0 (omega arith), all_to_below n is (λ k d lt. h (suc k) d (omega arith)))

-- an argument of a term whose arguments are those of a cell
pub arg_is : (ts : List HeapTerm) (us : List HeapTerm) (is : List ℕ) (i x : ℕ) → us ≡ map (at ts) is → i < length is → x ≡ get_or is i x → slice_get us i ≡ Some (at ts x)
arg_is ts us is i x e lt at_i =
    ap (λ (l : List HeapTerm). slice_get l i) e ∙ slice_get-map (at ts) is i ∙ ap (option_map (at ts)) (slice_get_read is (length is) i x refl lt at_i)

-- a variable that stands in a term is its own image
pub inside_free : (cells : List Built) (vars : List ℕ) (order : List Binding) (heap : IsHeap cells vars order) (id v : ℕ) → Occurs v (at (meanings cells order) id) → (v < length (map (at (meanings cells order)) vars)) × (at (map (at (meanings cells order)) vars) v ≡ Var v)
inside_free cells vars order heap id v e =
    let f = heap.free id v e in
    let w : v < length vars = f.there in
    let c = f.own (get_or vars v 0) (slice_get-get_or vars v 0 w) in (
      omega (arith, length-map vars (at (meanings cells order))),
      get_or-map (at (meanings cells order)) vars v 0 blank w ∙ MatchOption-at_none (at (meanings cells order) (get_or vars v 0) ≡ Var v) (λ u. at (meanings cells order) (get_or vars v 0) ≡ at (meanings cells order) u) f.unbound (heap.heads (get_or vars v 0) (built.Var v) c),
    )

-- and so is one that stands in what a variable means
pub image_free : (cells : List Built) (vars : List ℕ) (order : List Binding) (heap : IsHeap cells vars order) (x v : ℕ) → Occurs v (at (map (at (meanings cells order)) vars) x) → (v < length (map (at (meanings cells order)) vars)) × (at (map (at (meanings cells order)) vars) v ≡ Var v)
image_free cells vars order heap x v o = elim (cases_lt x (length vars)) [
  | inl lt ↦ inside_free cells vars order heap (get_or vars x 0) v (subst (Occurs v) (get_or-map (at (meanings cells order)) vars x 0 blank lt) o)
  | inr le ↦ absurd (subst (Occurs v) (get_or_past (map (at (meanings cells order)) vars) x blank (omega (arith, length-map vars (at (meanings cells order))))) o)
]

pub var_free : (cells : List Built) (vars : List ℕ) (order : List Binding) (heap : IsHeap cells vars order) (id v : ℕ) → at (meanings cells order) id ≡ Var v → (v < length (map (at (meanings cells order)) vars)) × (at (map (at (meanings cells order)) vars) v ≡ Var v)
var_free cells vars order heap id v e = inside_free cells vars order heap id v (subst (λ (x : HeapTerm). Occurs v x) (sym e) refl)
