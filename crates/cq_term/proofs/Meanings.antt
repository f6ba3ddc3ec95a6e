-- How what the ids mean changes with a new cell and a new binding.
use Rattle.std.proofs.Common.{◌≡◌, ◌≢◌, ℕ, zero, suc, ◌+◌, ◌<◌, ◌≤◌, List, [], ◌∷◌, ◌++◌, length, Option, None, Some, refl, sym, ap, ◌∙◌, arith, length-append, map}
use Rattle.std.proofs.lemmas.List.{get_or-map, length-map, map-append}
use Rattle.std.specs.Prelude.{slice_get}
use Rattle.spec_terms.specs.Term.{Var, apply, single, with_arguments}
use Rattle.spec_terms.proofs.Substitution.{single_other}
use Rattle.cq_term.specs.Meaning.{Binding, HeapTerm, at, blank, raw_cell, raws_from, after, bind_one, meanings}
use Rattle.cq_term.specs.Rep.{Fits, AllBelow, left_after}
use Rattle.cq_term.specs.Built.{Built}
use Rattle.cq_term.specs.Built as built
use Rattle.cq_term.proofs.Arguments.{apply-with_arguments}

pub raws_push : (ts : List HeapTerm) (cs : List Built) (c : Built) → raws_from ts (cs ++ c ∷ []) ≡ raws_from ts cs ++ raw_cell (raws_from ts cs) c ∷ []
unfolding raws_from
raws_push ts [] c = refl
raws_push ts (d ∷ cs) c = raws_push (ts ++ raw_cell ts d ∷ []) cs c

pub length-raws : (ts : List HeapTerm) (cs : List Built) → length (raws_from ts cs) ≡ length ts + length cs
unfolding raws_from
length-raws ts [] = omega arith
length-raws ts (d ∷ cs) = length-raws (ts ++ raw_cell ts d ∷ []) cs ∙ omega (arith, length-append ts (raw_cell ts d ∷ []))

pub after_push : (bs : List Binding) (b : Binding) (ts : List HeapTerm) → after (bs ++ b ∷ []) ts ≡ bind_one b (after bs ts)
unfolding after
after_push [] b ts = refl
after_push (c ∷ bs) b ts = after_push bs b (bind_one c ts)

pub length-after : (bs : List Binding) (ts : List HeapTerm) → length (after bs ts) ≡ length ts
unfolding after
length-after [] ts = refl
length-after (b ∷ bs) ts = length-after bs (bind_one b ts) ∙ length-map ts (apply (single b.variable (at ts b.term)))

pub length-meanings : (cells : List Built) (order : List Binding) → length (meanings cells order) ≡ length cells
unfolding meanings
length-meanings cells order = length-after order (raws_from [] cells) ∙ length-raws [] cells ∙ omega arith

-- a term that was there
pub at-append : (ts us : List HeapTerm) (i : ℕ) → i < length ts → at (ts ++ us) i ≡ at ts i
at-append [] us i h = absurd (omega arith)
at-append (t ∷ ts) us zero h = refl
at-append (t ∷ ts) us (suc i) h = at-append ts us i (omega arith)

pub map_at-append : (ts us : List HeapTerm) (is : List ℕ) (n : ℕ) → n ≤ length ts → AllBelow n is → map (at (ts ++ us)) is ≡ map (at ts) is
map_at-append ts us [] n h a = refl
map_at-append ts us (i ∷ is) n h a =
    let e : at (ts ++ us) i ≡ at ts i = at-append ts us i (omega (arith, a.0)) in
    let d : map (at (ts ++ us)) is ≡ map (at ts) is = map_at-append ts us is n h a.1 in
    cc

pub at-map : (f : HeapTerm → HeapTerm) (ts : List HeapTerm) (i : ℕ) → i < length ts → at (map f ts) i ≡ f (at ts i)
at-map f ts i h = get_or-map f ts i blank blank h

pub map_at-map : (v : ℕ) (u : HeapTerm) (ts : List HeapTerm) (is : List ℕ) (n : ℕ) → n ≤ length ts → AllBelow n is → map (at (map (apply (single v u)) ts)) is ≡ map (apply (single v u)) (map (at ts) is)
map_at-map v u ts [] n h a = refl
map_at-map v u ts (i ∷ is) n h a =
    let e : at (map (apply (single v u)) ts) i ≡ apply (single v u) (at ts i) = at-map (apply (single v u)) ts i (omega (arith, a.0)) in
    let d : map (at (map (apply (single v u)) ts)) is ≡ map (apply (single v u)) (map (at ts) is) = map_at-map v u ts is n h a.1 in
    cc

abbrev pub AllWithin : ℕ → List Binding → Type 0
AllWithin n bs = (k : ℕ) (b : Binding) → slice_get bs k ≡ Some b → b.term < n

pub subst-new : (v n : ℕ) (u : HeapTerm) → v ≢ n → apply (single v u) (Var n) ≡ Var n
subst-new v n u h = single_other v n u h

-- one binding takes a new cell's term to the new cell's term
pub raw_bind : (b : Binding) (ts : List HeapTerm) (c : Built) (vars : ℕ) → Fits (length ts) vars c → ((n : ℕ) → c ≡ built.Var n → b.variable ≢ n) → apply (single b.variable (at ts b.term)) (raw_cell ts c) ≡ raw_cell (bind_one b ts) c
raw_bind b ts (built.Var n) vars f h = subst-new b.variable n (at ts b.term) (h n refl)
raw_bind b ts (built.Number n) vars f h = refl
raw_bind b ts (built.Name a) vars f h = refl
raw_bind b ts (built.Compound g args) vars f h =
    apply-with_arguments (single b.variable (at ts b.term)) g (map (at ts) args) ∙ ap (with_arguments g) (sym (map_at-map b.variable (at ts b.term) ts args (length ts) (omega arith) f.1))

pub after_more : (bs : List Binding) (ts : List HeapTerm) (c : Built) (vars : ℕ) → AllWithin (length ts) bs → Fits (length ts) vars c → ((k : ℕ) (b : Binding) (n : ℕ) → slice_get bs k ≡ Some b → c ≡ built.Var n → b.variable ≢ n) →
    after bs (ts ++ raw_cell ts c ∷ []) ≡ after bs ts ++ raw_cell (after bs ts) c ∷ []
unfolding after
after_more [] ts c vars w f h = refl
after_more (b ∷ bs) ts c vars w f h =
    let u : HeapTerm = at ts b.term in
    let e : at (ts ++ raw_cell ts c ∷ []) b.term ≡ u = at-append ts (raw_cell ts c ∷ []) b.term (w 0 b refl) in
    let d : bind_one b (ts ++ raw_cell ts c ∷ []) ≡ bind_one b ts ++ raw_cell (bind_one b ts) c ∷ [] =
    rw (e, map-append) (ap (λ (x : HeapTerm). bind_one b ts ++ x ∷ []) (raw_bind b ts c vars f (λ n q. h 0 b n refl q))) in
    let l : length (bind_one b ts) ≡ length ts = length-map ts (apply (single b.variable u)) in
    rw d (after_more bs (bind_one b ts) c vars (rw l (λ k x q. w (suc k) x q)) (rw l f) (λ k x n q. h (suc k) x n q))

-- how many bindings can still be followed
abbrev pub left_at : List Binding → Option Built → ℕ
left_at order None = 0
left_at order (Some (built.Var n)) = left_after order n
left_at order (Some (built.Number n)) = 0
left_at order (Some (built.Name n)) = 0
left_at order (Some (built.Compound f args)) = 0

abbrev pub steps_left : List Built → List Binding → ℕ → ℕ
steps_left cells order i = left_at order (slice_get cells i)
