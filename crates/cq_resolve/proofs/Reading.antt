-- The heads of a term are read as that term, and heads that are read are those of the terms.
use Rattle.std.proofs.Common.{◌≡◌, ℕ, zero, suc, ◌<◌, ◌≤◌, List, [], ◌∷◌, ◌++◌, length, map, take, drop, get_or, refl, ap, sym, ◌∙◌, subst, inl, inr, arith, append_assoc, append-nil, length-append}
use Rattle.std.proofs.lemmas.List.{take_at, drop_at, take-append-drop, length-take-le, take-map}
use Rattle.std.proofs.Math.Seq.{drop-cons}
use Rattle.spec_terms.specs.Term.{Terms, Subst, Var, Number, Name, Compound, one, more, count, list_of, terms_of, apply, Occurs, OccursIn, with_arguments}
use Rattle.cq_term.specs.Meaning.{HeapTerm, at}
use Rattle.cq_term.proofs.Arguments.{apply-with_arguments, with_arguments-list_of, length-list_of, count-terms_of}
use Rattle.cq_term.specs.declared.view.View.{View}
use Rattle.cq_term.specs.declared.view.View.TheVariants as view
use Rattle.cq_resolve.specs.Pattern.{heads, heads_in, put, read, term_of, IsHead, AreHeads, HaveBelow, IsPattern}

count_positive : (ts : Terms ℕ) → 0 < count ts
count_positive (one t) = omega arith
count_positive (more t ts) = omega arith

-- ---- the heads of terms in a row
abbrev pub all_heads : List HeapTerm → List View
all_heads [] = []
all_heads (t ∷ ts) = heads t ++ all_heads ts

pub all_heads-append : (ts us : List HeapTerm) → all_heads (ts ++ us) ≡ all_heads ts ++ all_heads us
all_heads-append [] us = refl
all_heads-append (t ∷ ts) us = ap (λ hs. heads t ++ hs) (all_heads-append ts us) ∙ sym (append_assoc (heads t) (all_heads ts) (all_heads us))

heads_in-terms_of : (t : HeapTerm) (us : List HeapTerm) → heads_in (terms_of t us) ≡ all_heads (t ∷ us)
heads_in-terms_of t [] = sym (append-nil (heads t))
heads_in-terms_of t (u ∷ us) = ap (λ hs. heads t ++ hs) (heads_in-terms_of u us)

pub heads-with_arguments : (f : ℕ) (us : List HeapTerm) → 0 < length us → heads (with_arguments f us) ≡ view.Compound f (length us) ∷ all_heads us
heads-with_arguments f [] lt = absurd (omega arith)
heads-with_arguments f (t ∷ us) lt = λ i. view.Compound f (count-terms_of t us i) ∷ heads_in-terms_of t us i

-- ---- the heads of a term are read as the term
mutual
  pub read-heads : (t : HeapTerm) (hs : List View) → read (heads t ++ hs) ≡ t ∷ read hs
  read-heads (Var v) hs = refl
  read-heads (Number q) hs = refl
  read-heads (Name a) hs = refl
  read-heads (Compound f ts) hs =
      ap (put (view.Compound f (count ts))) (read-heads_in ts hs)
      ∙ (λ i. with_arguments f (take_at (list_of ts) (read hs) (count ts) (length-list_of ts) i) ∷ drop_at (list_of ts) (read hs) (count ts) (length-list_of ts) i)
      ∙ ap (λ (t : HeapTerm). t ∷ read hs) (with_arguments-list_of f ts)

  pub read-heads_in : (ts : Terms ℕ) (hs : List View) → read (heads_in ts ++ hs) ≡ list_of ts ++ read hs
  read-heads_in (one t) hs = read-heads t hs
  read-heads_in (more t ts) hs = ap read (append_assoc (heads t) (heads_in ts) hs) ∙ read-heads t (heads_in ts ++ hs) ∙ ap (λ us. t ∷ us) (read-heads_in ts hs)

pub read_one : (t : HeapTerm) → read (heads t) ≡ t ∷ []
read_one t = ap read (sym (append-nil (heads t))) ∙ read-heads t []

pub term_of-heads : (t : HeapTerm) → term_of (heads t) ≡ t
term_of-heads t = ap (λ ts. at ts 0) (read_one t)

-- ---- heads that are read
pub all_heads-read : (n : ℕ) (hs : List View) → AreHeads n hs → all_heads (read hs) ≡ hs
all_heads-read n [] h = refl
all_heads-read n (view.Var v ∷ hs) h = ap (λ us. view.Var v ∷ us) (all_heads-read n hs h.1)
all_heads-read n (view.Number q ∷ hs) h = ap (λ us. view.Number q ∷ us) (all_heads-read n hs h.1)
all_heads-read n (view.Name a ∷ hs) h = ap (λ us. view.Name a ∷ us) (all_heads-read n hs h.1)
all_heads-read n (view.Compound f m ∷ hs) h =
    let ts : List HeapTerm = read hs in
    let long : length (take m ts) ≡ m = length-take-le m ts h.0.1 in
    ap (λ us. us ++ all_heads (drop m ts)) (heads-with_arguments f (take m ts) (omega (arith, long, h.0.0)))
    ∙ (λ i. view.Compound f (long i) ∷ (all_heads (take m ts) ++ all_heads (drop m ts)))
    ∙ ap (λ us. view.Compound f m ∷ us) (sym (all_heads-append (take m ts) (drop m ts)) ∙ ap all_heads (take-append-drop m ts) ∙ all_heads-read n hs h.1)

-- one term, and the others behind it
first_of_read : (ts : List HeapTerm) → 0 < length ts → ts ≡ at ts 0 ∷ drop 1 ts
first_of_read [] lt = absurd (omega arith)
first_of_read (t ∷ ts) lt = refl

pub read_some : (hs : List View) → 0 < length (read hs) → read hs ≡ term_of hs ∷ drop 1 (read hs)
read_some hs lt = first_of_read (read hs) lt

none_left : (ts : List HeapTerm) → length ts ≡ 1 → drop 1 ts ≡ []
none_left [] e = absurd (omega arith)
none_left (t ∷ []) e = refl
none_left (t ∷ u ∷ ts) e = absurd (omega arith)

pub read_pattern : (n : ℕ) (hs : List View) → IsPattern n hs → read hs ≡ term_of hs ∷ []
read_pattern n hs p = read_some hs (omega (arith, p.one)) ∙ ap (λ ts. term_of hs ∷ ts) (none_left (read hs) p.one)

pub pattern_heads : (n : ℕ) (hs : List View) → IsPattern n hs → heads (term_of hs) ≡ hs
pattern_heads n hs p = sym (append-nil (heads (term_of hs))) ∙ ap all_heads (sym (read_pattern n hs p)) ∙ all_heads-read n hs p.fits

-- ---- the heads of a term over so many variables fit
mutual
  are_heads : (n : ℕ) (t : HeapTerm) (hs : List View) → ((v : ℕ) → Occurs v t → v < n) → AreHeads n hs → AreHeads n (heads t ++ hs)
  are_heads n (Var v) hs below h = (below v refl, h)
  are_heads n (Number q) hs below h = (tt, h)
  are_heads n (Name a) hs below h = (tt, h)
  are_heads n (Compound f ts) hs below h = (
    (count_positive ts, omega (arith, ap length (read-heads_in ts hs), length-append (list_of ts) (read hs), length-list_of ts)),
    are_heads_in n ts hs below h,
  )

  are_heads_in : (n : ℕ) (ts : Terms ℕ) (hs : List View) → ((v : ℕ) → OccursIn v ts → v < n) → AreHeads n hs → AreHeads n (heads_in ts ++ hs)
  are_heads_in n (one t) hs below h = are_heads n t hs below h
  are_heads_in n (more t ts) hs below h =
      subst (AreHeads n) (sym (append_assoc (heads t) (heads_in ts) hs))
      (are_heads n t (heads_in ts ++ hs) (λ v o. below v (inl o)) (are_heads_in n ts hs (λ v o. below v (inr o)) h))

pub is_pattern : (n : ℕ) (t : HeapTerm) (hs : List View) → hs ≡ heads t → ((v : ℕ) → Occurs v t → v < n) → IsPattern n hs
is_pattern n t hs e below = record {
  fits = subst (AreHeads n) (append-nil (heads t) ∙ sym e) (are_heads n t [] below tt);
  one = ap (λ us. length (read us)) e ∙ ap length (read_one t);
}

-- ---- the variables of a term are among its heads
pub have_below : (n : ℕ) (hs : List View) → AreHeads n hs → HaveBelow n hs
have_below n [] h = tt
have_below n (view.Var v ∷ hs) h = (h.0, have_below n hs h.1)
have_below n (view.Number q ∷ hs) h = (tt, have_below n hs h.1)
have_below n (view.Name a ∷ hs) h = (tt, have_below n hs h.1)
have_below n (view.Compound f m ∷ hs) h = (tt, have_below n hs h.1)

mutual
  below_heads : (n : ℕ) (t : HeapTerm) (hs : List View) → HaveBelow n (heads t ++ hs) → ((v : ℕ) → Occurs v t → v < n) × HaveBelow n hs
  below_heads n (Var w) hs h = (λ v o. subst (λ (x : ℕ). x < n) (sym o) h.0, h.1)
  below_heads n (Number q) hs h = (λ v o. absurd o, h.1)
  below_heads n (Name a) hs h = (λ v o. absurd o, h.1)
  below_heads n (Compound f ts) hs h = below_heads_in n ts hs h.1

  below_heads_in : (n : ℕ) (ts : Terms ℕ) (hs : List View) → HaveBelow n (heads_in ts ++ hs) → ((v : ℕ) → OccursIn v ts → v < n) × HaveBelow n hs
  below_heads_in n (one t) hs h = below_heads n t hs h
  below_heads_in n (more t ts) hs h =
      let k = below_heads n t (heads_in ts ++ hs) (subst (HaveBelow n) (append_assoc (heads t) (heads_in ts) hs) h) in
      let l = below_heads_in n ts hs k.1 in
      (λ v o. elim o [ inl p ↦ k.0 v p | inr p ↦ l.0 v p ], l.1)

pub below_term : (n : ℕ) (t : HeapTerm) → HaveBelow n (heads t) → (v : ℕ) → Occurs v t → v < n
below_term n t h = (below_heads n t [] (subst (HaveBelow n) (sym (append-nil (heads t))) h)).0

pub below_part : (n : ℕ) (t : HeapTerm) (hs : List View) → HaveBelow n (heads t ++ hs) → (v : ℕ) → Occurs v t → v < n
below_part n t hs h = (below_heads n t hs h).0

pub pattern_below : (n : ℕ) (hs : List View) → IsPattern n hs → (v : ℕ) → Occurs v (term_of hs) → v < n
pattern_below n hs p = below_term n (term_of hs) (subst (HaveBelow n) (sym (pattern_heads n hs p)) (have_below n hs p.fits))

-- ---- what is left behind a place
pub heads_left : (n k : ℕ) (hs : List View) → AreHeads n hs → AreHeads n (drop k hs)
heads_left n zero hs h = h
heads_left n (suc k) [] h = h
heads_left n (suc k) (x ∷ hs) h = heads_left n k hs h.1

drop-map : (f : HeapTerm → HeapTerm) (n : ℕ) (ts : List HeapTerm) → map f (drop n ts) ≡ drop n (map f ts)
drop-map f zero ts = refl
drop-map f (suc n) [] = refl
drop-map f (suc n) (t ∷ ts) = drop-map f n ts

-- a compound over terms under a substitution
pub put-compound : (s : Subst ℕ) (f m : ℕ) (ts : List HeapTerm) → map (apply s) (put (view.Compound f m) ts) ≡ put (view.Compound f m) (map (apply s) ts)
put-compound s f m ts = λ i. (apply-with_arguments s f (take m ts) ∙ ap (with_arguments f) (sym (take-map (apply s) m ts))) i ∷ drop-map (apply s) m ts i

-- a head and what was read behind it
pub head_fits : (n : ℕ) (hs : List View) → AreHeads n hs → (i j : ℕ) (h : View) → i ≡ suc j → i ≤ length hs → h ≡ get_or hs j h → IsHead n h (length (read (drop i hs))) × (drop j hs ≡ h ∷ drop i hs)
head_fits n hs fit i j h e le is =
    let whole : drop j hs ≡ h ∷ drop i hs = drop-cons hs j h (omega arith) ∙ (λ k. sym is k ∷ drop (sym e k) hs) in
    ((subst (AreHeads n) whole (heads_left n j hs fit)).0, whole)
