-- Substitutions: composition, what they depend on, and the occurs check.
use Rattle.std.proofs.Common.{◌≡◌, ◌≢◌, ℕ, ◌<◌, ◌≤◌, arith, ap, ◌∙◌, sym, refl, subst, inl, inr, cond}
use Rattle.std.proofs.lemmas.Bool.{cases_eq, eq-eqb, ne_eqb}
use Rattle.spec_terms.specs.Term.{Term, Terms, Subst, Var, Number, Name, Compound, one, more, apply, apply_all, followed_by, identity, single, Occurs, OccursIn, size, total_size, named, named_all}

module _ {A : Type 0} where
  mutual
    pub apply-followed_by : (r s : Subst A) (t : Term A) → apply (followed_by r s) t ≡ apply s (apply r t)
    apply-followed_by r s (Var v) = refl
    apply-followed_by r s (Number q) = refl
    apply-followed_by r s (Name a) = refl
    apply-followed_by r s (Compound f ts) = ap (λ us. Compound f us) (apply_all-followed_by r s ts)

    pub apply_all-followed_by : (r s : Subst A) (ts : Terms A) → apply_all (followed_by r s) ts ≡ apply_all s (apply_all r ts)
    apply_all-followed_by r s (one t) = ap (λ u. one u) (apply-followed_by r s t)
    apply_all-followed_by r s (more t ts) = λ i. more (apply-followed_by r s t i) (apply_all-followed_by r s ts i)

  mutual
    pub apply-identity : (t : Term A) → apply identity t ≡ t
    apply-identity (Var v) = refl
    apply-identity (Number q) = refl
    apply-identity (Name a) = refl
    apply-identity (Compound f ts) = ap (λ us. Compound f us) (apply_all-identity ts)

    pub apply_all-identity : (ts : Terms A) → apply_all identity ts ≡ ts
    apply_all-identity (one t) = ap (λ u. one u) (apply-identity t)
    apply_all-identity (more t ts) = λ i. more (apply-identity t i) (apply_all-identity ts i)

  -- a term depends on the images of its variables alone
  mutual
    pub apply_agree : (r s : Subst A) (t : Term A) → ((v : ℕ) → Occurs v t → r v ≡ s v) → apply r t ≡ apply s t
    apply_agree r s (Var v) h = h v refl
    apply_agree r s (Number q) h = refl
    apply_agree r s (Name a) h = refl
    apply_agree r s (Compound f ts) h = ap (λ us. Compound f us) (apply_all_agree r s ts h)

    pub apply_all_agree : (r s : Subst A) (ts : Terms A) → ((v : ℕ) → OccursIn v ts → r v ≡ s v) → apply_all r ts ≡ apply_all s ts
    apply_all_agree r s (one t) h = ap (λ u. one u) (apply_agree r s t h)
    apply_all_agree r s (more t ts) h = λ i. more (apply_agree r s t (λ v o. h v (inl o)) i) (apply_all_agree r s ts (λ v o. h v (inr o)) i)

  -- and on each of them
  mutual
    pub agree_apply : (r s : Subst A) (t : Term A) → apply r t ≡ apply s t → (v : ℕ) → Occurs v t → r v ≡ s v
    agree_apply r s (Var w) e v o = rw o e
    agree_apply r s (Number q) e v o = absurd o
    agree_apply r s (Name a) e v o = absurd o
    agree_apply r s (Compound f ts) e v o = (let h : apply_all r ts ≡ apply_all s ts = cc in agree_apply_all r s ts h v o)

    pub agree_apply_all : (r s : Subst A) (ts : Terms A) → apply_all r ts ≡ apply_all s ts → (v : ℕ) → OccursIn v ts → r v ≡ s v
    agree_apply_all r s (one t) e v o = (let h : apply r t ≡ apply s t = cc in agree_apply r s t h v o)
    agree_apply_all r s (more t ts) e v o =
        let h : apply r t ≡ apply s t = cc in
        let k : apply_all r ts ≡ apply_all s ts = cc in
        elim o [ inl p ↦ agree_apply r s t h v p | inr p ↦ agree_apply_all r s ts k v p ]

  pub single_same : (v : ℕ) (u : Term A) → single v u v ≡ u
  single_same v u = ap (λ b. cond b u (Var v)) (eq-eqb v v refl)

  pub single_other : (v w : ℕ) (u : Term A) → (v ≡ w → ⊥) → single v u w ≡ Var w
  single_other v w u n = ap (λ b. cond b u (Var w)) (ne_eqb v w n)

  -- nothing happens to a term in which the variable doesn't stand
  pub apply-single_absent : (v : ℕ) (u t : Term A) → (Occurs v t → ⊥) → apply (single v u) t ≡ t
  apply-single_absent v u t n =
      apply_agree (single v u) identity t (λ w o. single_other v w u (λ e. n (subst (λ (x : ℕ). Occurs x t) (sym e) o))) ∙ apply-identity t

  -- a substitution that makes the variable and the term equal is an instance of this one
  pub apply-single_instance : (v : ℕ) (u : Term A) (s : Subst A) → s v ≡ apply s u → (t : Term A) → apply s (apply (single v u) t) ≡ apply s t
  apply-single_instance v u s e t = sym (apply-followed_by (single v u) s t) ∙ apply_agree (followed_by (single v u) s) s t (λ w o. image w)
    where
      image : (w : ℕ) → apply s (single v u w) ≡ s w
      image w = elim (cases_eq v w) [
        | inl same ↦ ap (apply s) (ap (single v u) (sym same) ∙ single_same v u) ∙ sym e ∙ ap s same
        | inr other ↦ ap (apply s) (single_other v w u other)
      ]

  -- where a variable of an image comes from
  mutual
    pub occurs_from : (s : Subst A) (w : ℕ) (t : Term A) → Occurs w (apply s t) → (v : ℕ) × Occurs v t × Occurs w (s v)
    occurs_from s w (Var v) o = (v, refl, o)
    occurs_from s w (Number q) o = absurd o
    occurs_from s w (Name a) o = absurd o
    occurs_from s w (Compound f ts) o = occurs_in_from s w ts o

    pub occurs_in_from : (s : Subst A) (w : ℕ) (ts : Terms A) → OccursIn w (apply_all s ts) → (v : ℕ) × OccursIn v ts × Occurs w (s v)
    occurs_in_from s w (one t) o = occurs_from s w t o
    occurs_in_from s w (more t ts) o = elim o [
      | inl p ↦ (let h = occurs_from s w t p in (h.0, inl h.1, h.2))
      | inr p ↦ (let h = occurs_in_from s w ts p in (h.0, inr h.1, h.2))
    ]

  mutual
    pub occurs_into : (s : Subst A) (w v : ℕ) (t : Term A) → Occurs v t → Occurs w (s v) → Occurs w (apply s t)
    occurs_into s w v (Var x) o p = subst (λ (y : ℕ). Occurs w (s y)) o p
    occurs_into s w v (Number q) o p = absurd o
    occurs_into s w v (Name a) o p = absurd o
    occurs_into s w v (Compound f ts) o p = occurs_in_into s w v ts o p

    pub occurs_in_into : (s : Subst A) (w v : ℕ) (ts : Terms A) → OccursIn v ts → Occurs w (s v) → OccursIn w (apply_all s ts)
    occurs_in_into s w v (one t) o p = occurs_into s w v t o p
    occurs_in_into s w v (more t ts) o p = elim o [ inl h ↦ inl (occurs_into s w v t h p) | inr h ↦ inr (occurs_in_into s w v ts h p) ]

  mutual
    pub size_positive : (t : Term A) → 0 < size t
    size_positive (Var v) = omega arith
    size_positive (Number q) = omega arith
    size_positive (Name a) = omega arith
    size_positive (Compound f ts) = omega arith

    -- the image of a variable is no larger than that of a term in which it stands
    pub size_image : (s : Subst A) (v : ℕ) (t : Term A) → Occurs v t → size (s v) ≤ size (apply s t)
    size_image s v (Var w) o = subst (λ (x : ℕ). size (s v) ≤ size (s x)) o (omega arith)
    size_image s v (Number q) o = absurd o
    size_image s v (Name a) o = absurd o
    size_image s v (Compound f ts) o = omega (arith, size_image_in s v ts o)

    pub size_image_in : (s : Subst A) (v : ℕ) (ts : Terms A) → OccursIn v ts → size (s v) ≤ total_size (apply_all s ts)
    size_image_in s v (one t) o = size_image s v t o
    size_image_in s v (more t ts) o = elim o [
      | inl p ↦ omega (arith, size_image s v t p)
      | inr p ↦ omega (arith, size_image_in s v ts p)
    ]

  -- no substitution makes a variable equal to another term in which it stands
  pub occurs_clash : (s : Subst A) (v : ℕ) (t : Term A) → Occurs v t → t ≢ Var v → s v ≡ apply s t → ⊥
  occurs_clash s v (Var w) o n e = n (ap (λ x. Var x) (sym o))
  occurs_clash s v (Number q) o n e = o
  occurs_clash s v (Name a) o n e = o
  occurs_clash s v (Compound f ts) o n e = omega (arith, size_image_in s v ts o, ap size e)

mutual
  pub named-apply : {A B : Type 0} (f : A → B) (s : Subst A) (t : Term A) → named f (apply s t) ≡ apply (λ v. named f (s v)) (named f t)
  named-apply f s (Var v) = refl
  named-apply f s (Number q) = refl
  named-apply f s (Name a) = refl
  named-apply f s (Compound a ts) = ap (λ us. Compound (f a) us) (named_all-apply f s ts)

  pub named_all-apply : {A B : Type 0} (f : A → B) (s : Subst A) (ts : Terms A) → named_all f (apply_all s ts) ≡ apply_all (λ v. named f (s v)) (named_all f ts)
  named_all-apply f s (one t) = ap (λ u. one u) (named-apply f s t)
  named_all-apply f s (more t ts) = λ i. more (named-apply f s t i) (named_all-apply f s ts i)
