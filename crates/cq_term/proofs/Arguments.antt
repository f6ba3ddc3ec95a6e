-- A name over a list of arguments.
use Rattle.std.specs.Prelude.{All}
use Rattle.std.proofs.Common.{◌≡◌, ℕ, zero, suc, ◌<◌, List, [], ◌∷◌, length, refl, sym, ap, ◌∙◌, inl, inr, arith, map}
use Rattle.std.proofs.lemmas.List.Elements.{All-head, All-tail}
use Rattle.spec_terms.specs.Term.{Terms, Var, Number, Name, Compound, one, more, apply, apply_all, Occurs, OccursIn, count, list_of, terms_of, with_arguments}
use Rattle.cq_term.specs.Meaning.{HeapTerm, at}
use Rattle.cq_term.specs.Shown.{view_of, arguments}
use Rattle.cq_term.specs.declared.view.View.TheVariants as view
use Rattle.cq_frac.specs.declared.VarId.{VarId}

apply_all-terms_of : (s : ℕ → HeapTerm) (t : HeapTerm) (us : List HeapTerm) → apply_all s (terms_of t us) ≡ terms_of (apply s t) (map (apply s) us)
apply_all-terms_of s t [] = refl
apply_all-terms_of s t (u ∷ us) = ap (λ ts. more (apply s t) ts) (apply_all-terms_of s u us)

pub apply-with_arguments : (s : ℕ → HeapTerm) (f : ℕ) (us : List HeapTerm) → apply s (with_arguments f us) ≡ with_arguments f (map (apply s) us)
apply-with_arguments s f [] = refl
apply-with_arguments s f (t ∷ us) = ap (λ ts. Compound f ts) (apply_all-terms_of s t us)

occurs_terms_of : (ts : List HeapTerm) (i : ℕ) (is : List ℕ) (v : ℕ) → OccursIn v (terms_of (at ts i) (map (at ts) is)) → (j : ℕ) × Occurs v (at ts j)
occurs_terms_of ts i [] v o = (i, o)
occurs_terms_of ts i (j ∷ is) v o = elim o [ inl h ↦ (i, h) | inr h ↦ occurs_terms_of ts j is v h ]

pub occurs_with_arguments : (ts : List HeapTerm) (f : ℕ) (is : List ℕ) (v : ℕ) → Occurs v (with_arguments f (map (at ts) is)) → (i : ℕ) × Occurs v (at ts i)
occurs_with_arguments ts f [] v o = absurd o
occurs_with_arguments ts f (i ∷ is) v o = occurs_terms_of ts i is v o

absent_terms_of : (ts : List HeapTerm) (i : ℕ) (is : List ℕ) (v : ℕ) → (Occurs v (at ts i) → ⊥) → All (λ j. Occurs v (at ts j) → ⊥) is → OccursIn v (terms_of (at ts i) (map (at ts) is)) → ⊥
absent_terms_of ts i [] v apart all o = apart o
absent_terms_of ts i (j ∷ is) v apart all o = elim o [
  | inl h ↦ apart h
  | inr h ↦ absent_terms_of ts j is v (All-head (λ k. Occurs v (at ts k) → ⊥) j is all) (All-tail (λ k. Occurs v (at ts k) → ⊥) j is all) h
]

-- a variable that stands in no argument
pub absent_with_arguments : (ts : List HeapTerm) (f : ℕ) (is : List ℕ) (v : ℕ) → All (λ j. Occurs v (at ts j) → ⊥) is → Occurs v (with_arguments f (map (at ts) is)) → ⊥
absent_with_arguments ts f [] v all o = o
absent_with_arguments ts f (i ∷ is) v all o = absent_terms_of ts i is v (All-head (λ k. Occurs v (at ts k) → ⊥) i is all) (All-tail (λ k. Occurs v (at ts k) → ⊥) i is all) o

list_of-terms_of : (t : HeapTerm) (us : List HeapTerm) → list_of (terms_of t us) ≡ t ∷ us
list_of-terms_of t [] = refl
list_of-terms_of t (u ∷ us) = ap (λ l. t ∷ l) (list_of-terms_of u us)

terms_of-list_of : (t : HeapTerm) (us : Terms ℕ) → terms_of t (list_of us) ≡ more t us
terms_of-list_of t (one u) = refl
terms_of-list_of t (more u us) = ap (more t) (terms_of-list_of u us)

pub with_arguments-list_of : (f : ℕ) (us : Terms ℕ) → with_arguments f (list_of us) ≡ Compound f us
with_arguments-list_of f (one t) = refl
with_arguments-list_of f (more t us) = ap (Compound f) (terms_of-list_of t us)

pub arguments-with_arguments : (f : ℕ) (us : List HeapTerm) → arguments (with_arguments f us) ≡ us
arguments-with_arguments f [] = refl
arguments-with_arguments f (t ∷ us) = list_of-terms_of t us

pub count-terms_of : (t : HeapTerm) (us : List HeapTerm) → count (terms_of t us) ≡ suc (length us)
count-terms_of t [] = refl
count-terms_of t (u ∷ us) = ap suc (count-terms_of u us)

pub view_of-with_arguments : (f : ℕ) (us : List HeapTerm) → 0 < length us → view_of (with_arguments f us) ≡ view.Compound f (length us)
view_of-with_arguments f [] lt = absurd (omega arith)
view_of-with_arguments f (t ∷ us) lt = ap (view.Compound f) (count-terms_of t us)

pub length-list_of : (ts : Terms ℕ) → length (list_of ts) ≡ count ts
length-list_of (one t) = refl
length-list_of (more t ts) = ap suc (length-list_of ts)

-- a compound that shows its arity has so many arguments
pub length-arguments : (t : HeapTerm) (f n : ℕ) → view_of t ≡ view.Compound f n → length (arguments t) ≡ n
length-arguments (Var v) f n e = cc
length-arguments (Number q) f n e = cc
length-arguments (Name a) f n e = cc
length-arguments (Compound g ts) f n e = (let h : count ts ≡ n = cc in length-list_of ts ∙ h)

-- a compound has an argument
pub some_arguments : (t : HeapTerm) (f n : ℕ) → view_of t ≡ view.Compound f n → 0 < length (arguments t)
some_arguments (Var v) f n e = cc
some_arguments (Number q) f n e = cc
some_arguments (Name a) f n e = cc
some_arguments (Compound g (one t)) f n e = omega arith
some_arguments (Compound g (more t us)) f n e = omega arith

-- a term that shows a variable is that variable
pub shown_variable : (t : HeapTerm) (v : VarId) → view_of t ≡ view.Var v → t ≡ Var v.0
shown_variable (Var w) v e = (let h : ◌≡◌ {A = VarId} (record { 0 = w }) v = cc in ap (λ (x : VarId). Var x.0) h)
shown_variable (Number q) v e = cc
shown_variable (Name a) v e = cc
shown_variable (Compound g ts) v e = cc

pub all_one : (i n : ℕ) → i < n → All (λ j. j < n) (i ∷ [])
all_one i n lt zero d h = lt
all_one i n lt (suc k) d h = absurd (omega arith)

pub both_arguments : (t : HeapTerm) (f : ℕ) → view_of t ≡ view.Compound f 2 → (a : HeapTerm) × (b : HeapTerm) × (t ≡ Compound f (more a (one b)))
both_arguments (Var v) f e = cc
both_arguments (Number q) f e = cc
both_arguments (Name b) f e = cc
both_arguments (Compound g (one t)) f e = let h : ◌≡◌ {A = ℕ} 1 2 = cc in absurd (omega (arith, h))
both_arguments (Compound g (more t (one u))) f e = let h : f ≡ g = cc in (t, u, ap (λ k. Compound k (more t (one u))) (sym h))
both_arguments (Compound g (more t (more u (one w)))) f e = let h : ◌≡◌ {A = ℕ} 3 2 = cc in absurd (omega (arith, h))
both_arguments (Compound g (more t (more u (more w us)))) f e = let h : suc (suc (suc (count us))) ≡ 2 = cc in absurd (omega (arith, h))
