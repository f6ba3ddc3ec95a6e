-- Variables of a term that are bound to fixed values, one after another.
use Rattle.std.proofs.Common.{◌≡◌, ◌<◌, ℕ, ◌+◌, List, [], ◌∷◌, ◌++◌, map, length, take, get_or, Bool, true, false, cond, Option, None, Some, refl, sym, ap, ap₂, ◌∙◌, subst, inl, inr, ◌⊎◌, arith}
use Rattle.std.specs.Prelude.{Contains, ◌==◌, MatchOption}
use Rattle.std.proofs.lemmas.List.{length-append, length-map, map-append, take_more}
use Rattle.std.proofs.lemmas.List.Elements.{Contains-push_cases}
use Rattle.spec_numbers.specs.Rational.{ℚ}
use Rattle.spec_linear.specs.Solution.{Constraint, Fixed, Fixes}
use Rattle.spec_numbers.specs.Texts.{Text}
use Rattle.spec_numbers.proofs.Tests.{nat_eq-same, nat_eq-self}
use Rattle.spec_terms.specs.Term.{Terms, Var, Number, Name, Compound, one, more, Occurs, OccursIn, apply, followed_by, identity, single, named, named_all}
use Rattle.spec_terms.specs.Variables.{variables}
use Rattle.spec_terms.proofs.Listed.{occurs_listed}
use Rattle.spec_terms.proofs.Substitution.{apply-identity, apply-followed_by, apply_agree, named-apply, occurs_from}
use Rattle.spec_branch.specs.Settling.{value_or_variable}
use Rattle.cq_term.specs.Texts.{text_of}
use Rattle.cq_frac.specs.declared.VarId.{VarId}
use Rattle.cq_term.specs.HeapValue.{Terms as Heap}
use Rattle.cq_term.specs.Meaning.{HeapTerm, at}
use Rattle.cq_term.specs.Names.{HasNamesBelow}
use Rattle.cq_term.specs.Trees.{tree}
use Rattle.cq_term.proofs.Known.{names_substituted}
use Rattle.cq_term.proofs.Meanings.{at-append, at-map}
use Rattle.cq_term.specs.Places.{numbers_of}
use Rattle.cq_settle.specs.Underway.{valued}
use Rattle.cq_questions.specs.Values.{IsValued, IsFree}

-- ---- one after another

module _ (l : List Constraint) where
  pub valued_nothing : (h : Heap) (id : ℕ) → id < length h.terms → IsValued l h h id
  valued_nothing h id live = record { live = live; images = refl; same = λ texts fixed f. refl; fewer = λ v o. o }

  module _ (a b c : Heap) (id : ℕ) where
    pub valued_then : IsValued l a b id → IsValued l b c id → IsValued l a c id
    valued_then x y = record {
      live = y.live;
      images = y.images ∙ x.images;
      same = λ texts fixed f. y.same texts fixed f ∙ x.same texts fixed f;
      fewer = λ v o. x.fewer v (y.fewer v o);
    }

  pub free_then : (b c : Heap) (id v : ℕ) → IsFree l b id v → IsValued l b c id → IsFree l c id v
  free_then b c id v free x = λ fixed f o. free fixed f (x.fewer v o)

-- one variable more
pub free_more : (l : List Constraint) (b c : Heap) (id : ℕ) (vs : List VarId) (i : ℕ) (d : VarId) → i < length vs
    → ((v : ℕ) → Contains (numbers_of (take i vs)) v → IsFree l b id v) → IsValued l b c id → IsFree l c id (get_or vs i d).0
    → (v : ℕ) → Contains (numbers_of (take (i + 1) vs)) v → IsFree l c id v
free_more l b c id vs i d within before x here v h =
    let e : numbers_of (take (i + 1) vs) ≡ numbers_of (take i vs) ++ (get_or vs i d).0 ∷ [] =
    ap numbers_of (take_more vs i d within) ∙ map-append (λ (w : VarId). w.0) (take i vs) (get_or vs i d ∷ []) in
    go (Contains-push_cases (numbers_of (take i vs)) (get_or vs i d).0 v (subst (λ (ns : List ℕ). Contains ns v) e h))
  where
    go : Contains (numbers_of (take i vs)) v ⊎ ((get_or vs i d).0 ≡ v) → IsFree l c id v
    go (inl k) = free_then l b c id v (before v k) x
    go (inr k) = subst (λ (w : ℕ). IsFree l c id w) k here

-- ---- one value

single_names : (n w : ℕ) (q : ℚ) (b : Bool) → HasNamesBelow n (cond b (Number q) (Var w))
single_names n w q true = tt
single_names n w q false = tt

abbrev left_of : Bool → ℚ → ℕ → HeapTerm
left_of b q u = cond b (Number q) (Var u)

-- what is left of a variable is another one
single_left : (v u w : ℕ) (q : ℚ) (b : Bool) → (v == u) ≡ b → Occurs {A = ℕ} w (left_of b q u) → (w ≡ u) × ((v == u) ≡ false)
single_left v u w q true e o = absurd o
single_left v u w q false e o = (o, e)

-- a variable that is fixed is read as its value in any case
single_read : (fixed : ℕ → Option ℚ) (texts : List Text) (v w : ℕ) (q : ℚ) → fixed v ≡ Some q → (b : Bool) → (v == w) ≡ b
    → apply (valued fixed) (named (text_of texts) (cond b (Number q) (Var w))) ≡ valued fixed w
single_read fixed texts v w q f true e =
    ap (λ (o : Option ℚ). value_or_variable o w) (sym f ∙ ap fixed (nat_eq-same v w e))
single_read fixed texts v w q f false e = refl

not_itself : (v : ℕ) → (v == v) ≡ false → ⊥
not_itself v e = (let s : true ≡ false = sym (nat_eq-self v) ∙ e in cc)

last_is : (ts : List HeapTerm) (t : HeapTerm) → at (ts ++ t ∷ []) (length ts) ≡ t
last_is [] t = refl
last_is (x ∷ ts) t = last_is ts t

module _ (l : List Constraint) (old made new : Heap) (id v n : ℕ) (q : ℚ) (live : id < length old.terms) (is_fixed : Fixed l v q) (number : n ≡ length old.terms)
    (made_terms : made.terms ≡ old.terms ++ Number q ∷ []) (made_images : made.images ≡ old.images)
    (new_terms : new.terms ≡ map (apply (single v (at made.terms n))) made.terms) (new_images : new.images ≡ map (apply (single v (at made.terms n))) made.images) where
  the_number : at made.terms n ≡ Number q
  the_number = ap₂ at made_terms number ∙ last_is old.terms (Number q)

  terms_are : new.terms ≡ map (apply (single v (Number q))) (old.terms ++ Number q ∷ [])
  terms_are = new_terms ∙ ap₂ (λ t ts. map (apply (single v t)) ts) the_number made_terms

  longer : length new.terms ≡ length old.terms + 1
  longer = ap length terms_are ∙ length-map (old.terms ++ Number q ∷ []) (apply (single v (Number q))) ∙ length-append old.terms (Number q ∷ [])

  term_is : at new.terms id ≡ apply (single v (Number q)) (at old.terms id)
  term_is =
      ap (λ ts. at ts id) terms_are ∙ at-map (apply (single v (Number q))) (old.terms ++ Number q ∷ []) id (omega (arith, live, length-append old.terms (Number q ∷ [])))
      ∙ ap (apply (single v (Number q))) (at-append old.terms (Number q ∷ []) id live)

  left : (w : ℕ) → Occurs w (at new.terms id) → Occurs w (at old.terms id) × ((v == w) ≡ false)
  left w o =
      let u = occurs_from (single v (Number q)) w (at old.terms id) (subst (λ (t : HeapTerm). Occurs w t) term_is o) in
      let s = single_left v u.0 w q (v == u.0) refl u.2 in
      (subst (λ (x : ℕ). Occurs x (at old.terms id)) (sym s.0) u.1, subst (λ (x : ℕ). (v == x) ≡ false) (sym s.0) s.1)

  pub one_valued : IsValued l old new id
  one_valued = record {
    live = omega (arith, live, longer);
    images = ap length new_images ∙ length-map made.images (apply (single v (at made.terms n))) ∙ ap length made_images;
    same = λ texts fixed f.
        let g = text_of texts in
        ap (λ (t : HeapTerm). apply (valued fixed) (named g t)) term_is
        ∙ ap (apply (valued fixed)) (named-apply g (single v (Number q)) (at old.terms id))
        ∙ sym (apply-followed_by (λ w. named g (single v (Number q) w)) (valued fixed) (tree texts old.terms id))
        ∙ apply_agree (followed_by (λ w. named g (single v (Number q) w)) (valued fixed)) (valued fixed) (tree texts old.terms id)
        (λ w o. single_read fixed texts v w q (f.complete v q is_fixed) (v == w) refl);
    fewer = λ w o. (left w o).0;
  }

  pub one_free : IsFree l new id v
  one_free = λ fixed f o. absurd (not_itself v (left v o).1)

  pub one_names : (k : ℕ) → HasNamesBelow k (at old.terms id) → HasNamesBelow k (at new.terms id)
  one_names k h = subst (HasNamesBelow k) (sym term_is) (names_substituted k (single v (Number q)) (at old.terms id) h (λ w o. single_names k w q (v == w)))

-- ---- all values

mutual
  occurs_named : (f : ℕ → Text) (v : ℕ) (t : HeapTerm) → Occurs v (named f t) → Occurs v t
  occurs_named f v (Var w) o = o
  occurs_named f v (Number q) o = o
  occurs_named f v (Name a) o = o
  occurs_named f v (Compound a ts) o = all_named f v ts o

  all_named : (f : ℕ → Text) (v : ℕ) (ts : Terms ℕ) → OccursIn v (named_all f ts) → OccursIn v ts
  all_named f v (one t) o = occurs_named f v t o
  all_named f v (more t ts) (inl o) = inl (occurs_named f v t o)
  all_named f v (more t ts) (inr o) = inr (all_named f v ts o)

pub all_valued : (l : List Constraint) (old new : Heap) (id : ℕ) → IsValued l old new id → ((v : ℕ) → Contains (variables (at old.terms id)) v → IsFree l new id v)
    → (texts : List Text) (fixed : ℕ → Option ℚ) → Fixes l fixed → tree texts new.terms id ≡ apply (valued fixed) (tree texts old.terms id)
all_valued l old new id x free texts fixed f =
    let u = tree texts new.terms id in
    let same : apply (valued fixed) u ≡ apply identity u =
    apply_agree (valued fixed) identity u (λ v o.
    let i = occurs_named (text_of texts) v (at new.terms id) o in
    ap (λ (p : Option ℚ). value_or_variable p v) (free v (occurs_listed (at old.terms id) v (x.fewer v i)) fixed f i)) in
    sym (same ∙ apply-identity u) ∙ x.same texts fixed f

absent : (o : Option ℚ) → ((q : ℚ) → o ≡ Some q → ⊥) → o ≡ None
absent None h = refl
absent (Some q) h = absurd (h q refl)

-- a variable that the list doesn't fix is free
pub unfixed_free : (l : List Constraint) (h : Heap) (id v : ℕ) (o : Option ℚ) → MatchOption o ((q : ℚ) → Fixed l v q → ⊥) (λ q. Fixed l v q) → ((q : ℚ) → o ≡ Some q → ⊥) → IsFree l h id v
unfixed_free l h id v None m n = λ fixed f i. absent (fixed v) (λ q k. m q (f.sound v q k))
unfixed_free l h id v (Some q) m n = absurd (n q refl)
