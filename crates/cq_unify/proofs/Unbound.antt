-- Which variables one more binding leaves unbound, and how many.
use Rattle.std.proofs.Common.{◌≡◌, ℕ, zero, suc, ◌+◌, ◌<◌, ◌≤◌, List, [], ◌∷◌, length, refl, sym, ap, ◌∙◌, arith, Bool, true, false, cond, map, eq-eqb, inl, inr}
use Rattle.std.proofs.lemmas.Bool.{eqb-true}
use Rattle.std.proofs.lemmas.List.{length-map}
use Rattle.std.specs.Prelude.{◌==◌, ◌⊎◌}
use Rattle.spec_terms.specs.Term.{Subst, Var, Number, Name, Compound, apply, single}
use Rattle.spec_terms.proofs.Substitution.{single_same, single_other}
use Rattle.cq_frac.specs.declared.VarId.{VarId}
use Rattle.cq_term.specs.Meaning.{HeapTerm, at}
use Rattle.cq_term.specs.HeapValue.{Terms}
use Rattle.cq_term.specs.Shown.{IsUnbound}
use Rattle.cq_unify.specs.Work.{CanBind}

pub at-map : (s : Subst ℕ) (ts : List HeapTerm) (i : ℕ) → at (map (apply s) ts) i ≡ apply s (at ts i)
at-map s [] zero = refl
at-map s [] (suc i) = refl
at-map s (t ∷ ts) zero = refl
at-map s (t ∷ ts) (suc i) = at-map s ts i

-- a variable after a binding was one before, or it is in the place of the one that was bound
pub variable_from : (v : ℕ) (u t : HeapTerm) (w : ℕ) → apply (single v u) t ≡ Var w → (t ≡ Var w) ⊎ ((t ≡ Var v) × (u ≡ Var w))
variable_from v u (Var z) w e = go (v == z) refl e
  where
    go : (b : Bool) → (v == z) ≡ b → cond b u (Var z) ≡ Var w → (◌≡◌ {A = HeapTerm} (Var z) (Var w)) ⊎ ((◌≡◌ {A = HeapTerm} (Var z) (Var v)) × (u ≡ Var w))
    go true q e = inr (ap (λ x. Var x) (sym (eqb-true v z q)), e)
    go false q e = inl e
variable_from v u (Number q) w e = cc
variable_from v u (Name a) w e = cc
variable_from v u (Compound f ts) w e = cc

-- ---- how many variables of a list are their own images, counted from n on
abbrev pub is_variable : ℕ → HeapTerm → Bool
is_variable n (Var w) = n == w
is_variable n (Number q) = false
is_variable n (Name a) = false
is_variable n (Compound f ts) = false

abbrev pub unbound_from : ℕ → List HeapTerm → ℕ
unbound_from n [] = 0
unbound_from n (t ∷ ts) = cond (is_variable n t) (suc (unbound_from (suc n) ts)) (unbound_from (suc n) ts)

is_variable_true : (n : ℕ) (t : HeapTerm) → is_variable n t ≡ true → t ≡ Var n
is_variable_true n (Var w) e = ap (λ x. Var x) (sym (eqb-true n w e))
is_variable_true n (Number q) e = cc
is_variable_true n (Name a) e = cc
is_variable_true n (Compound f ts) e = cc

is_variable_same : (n : ℕ) (t : HeapTerm) → t ≡ Var n → is_variable n t ≡ true
is_variable_same n t e = rw e (eq-eqb n n refl)

cond_le : (p q : Bool) (m n : ℕ) → (p ≡ true → q ≡ true) → m ≤ n → cond p (suc m) m ≤ cond q (suc n) n
cond_le true true m n h l = omega arith
cond_le false true m n h l = omega arith
cond_le false false m n h l = omega arith
cond_le true false m n h l = let k : ◌≡◌ {A = Bool} false true = h refl in cc

cond_lt : (p q : Bool) (m n : ℕ) → (p ≡ true → q ≡ true) → m < n → cond p (suc m) m < cond q (suc n) n
cond_lt true true m n h l = omega arith
cond_lt false true m n h l = omega arith
cond_lt false false m n h l = omega arith
cond_lt true false m n h l = let k : ◌≡◌ {A = Bool} false true = h refl in cc

bool_cases : (b : Bool) → (b ≡ true → ⊥) → b ≡ false
bool_cases true h = absurd (h refl)
bool_cases false h = refl

-- no variable becomes its own image
abbrev KeepsBound : (HeapTerm → HeapTerm) → ℕ → List HeapTerm → Type 0
KeepsBound f n ts = (k m : ℕ) → n + k ≡ m → k < length ts → is_variable m (f (at ts k)) ≡ true → is_variable m (at ts k) ≡ true

unbound_le : (f : HeapTerm → HeapTerm) (n : ℕ) (ts : List HeapTerm) → KeepsBound f n ts → unbound_from n (map f ts) ≤ unbound_from n ts
unbound_le f n [] h = omega arith
unbound_le f n (t ∷ ts) h = cond_le (is_variable n (f t)) (is_variable n t) (unbound_from (suc n) (map f ts)) (unbound_from (suc n) ts) (h 0 n (omega arith) (omega arith))
    (unbound_le f (suc n) ts (λ k m e l. h (suc k) m (omega arith) (omega arith)))

unbound_lt : (f : HeapTerm → HeapTerm) (n : ℕ) (ts : List HeapTerm) → KeepsBound f n ts →
    (k m : ℕ) → n + k ≡ m → k < length ts → is_variable m (at ts k) ≡ true → is_variable m (f (at ts k)) ≡ false → unbound_from n (map f ts) < unbound_from n ts
unbound_lt f n [] h k m e l p q = absurd (omega arith)
unbound_lt f n (t ∷ ts) h zero m e l p q =
    let w : m ≡ n = omega arith in
    let p' = rw w at p in
    let q' = rw w at q in
    rw (p', q') (let k = unbound_le f (suc n) ts (λ k m e l. h (suc k) m (omega arith) (omega arith)) in omega arith)
unbound_lt f n (t ∷ ts) h (suc k) m e l p q = cond_lt (is_variable n (f t)) (is_variable n t) (unbound_from (suc n) (map f ts)) (unbound_from (suc n) ts) (h 0 n (omega arith) (omega arith))
    (unbound_lt f (suc n) ts (λ k m e l. h (suc k) m (omega arith) (omega arith)) k m (omega arith) (omega arith) p q)

-- ---- one more binding
module _ (heap : Terms) (v : VarId) (t : ℕ) (can : CanBind heap v t) where
  abbrev binding : Subst ℕ
  binding = single v.0 (at heap.terms t)

  abbrev images_after : List HeapTerm
  images_after = map (apply (single v.0 (at heap.terms t))) heap.images

  -- a bound variable stays bound
  image_kept : (w : ℕ) → apply binding (at heap.images w) ≡ Var w → at heap.images w ≡ Var w
  image_kept w e = elim (variable_from v.0 (at heap.terms t) (at heap.images w) w e) [ inl h ↦ h | inr h ↦ (can.older w h.1).0.1 ]

  pub unbound_before : (w : ℕ) → IsUnbound images_after w → IsUnbound heap.images w
  unbound_before w h = (
    omega (arith, h.0, length-map heap.images (apply binding)),
    image_kept w (sym (at-map binding heap.images w) ∙ h.1),
  )

  -- the variable is bound now
  bound_image : apply binding (at heap.images v.0) ≡ at heap.terms t
  bound_image = ap (apply binding) can.unbound.1 ∙ single_same v.0 (at heap.terms t)

  pub bound_now : IsUnbound images_after v.0 → ⊥
  bound_now h = can.other (sym bound_image ∙ sym (at-map binding heap.images v.0) ∙ h.1)

  -- and it is the only one
  pub unbound_now : (w : ℕ) → (v.0 ≡ w → ⊥) → IsUnbound heap.images w → IsUnbound images_after w
  unbound_now w other h = (
    omega (arith, h.0, length-map heap.images (apply binding)),
    at-map binding heap.images w ∙ ap (apply binding) h.1 ∙ single_other v.0 w (at heap.terms t) other,
  )

  pub fewer_unbound : unbound_from 0 images_after < unbound_from 0 heap.images
  fewer_unbound = unbound_lt (apply binding) 0 heap.images
      (λ k m e l p. let w : k ≡ m = omega arith in rw w (is_variable_same m (at heap.images m) (image_kept m (is_variable_true m (apply binding (at heap.images m)) (rw w at p)))))
      v.0 v.0 (omega arith) can.unbound.0 (is_variable_same v.0 (at heap.images v.0) can.unbound.1)
      (rw bound_image (bool_cases (is_variable v.0 (at heap.terms t)) (λ p. can.other (is_variable_true v.0 (at heap.terms t) p))))
