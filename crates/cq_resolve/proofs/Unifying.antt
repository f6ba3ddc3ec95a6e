-- A unifier of two terms leaves the variables alone that stand in neither, and what is left to solve after it.
use Rattle.std.proofs.Common.{◌≡◌, ℕ, List, [], ◌∷◌, ◌++◌, map, refl, ap, sym, ◌∙◌, subst, inl, inr, arith, cond}
use Rattle.std.specs.Prelude.{◌↔◌, ◌==◌}
use Rattle.std.proofs.lemmas.Bool.{cases_eq, eq-eqb, ne_eqb}
use Rattle.std.proofs.lemmas.List.Elements.{All-head, All-tail, All-map, All-weaker}
use Rattle.spec_terms.specs.Term.{Terms, Subst, Var, Number, Name, Compound, one, more, count, list_of, apply, apply_all, followed_by, identity, Occurs}
use Rattle.spec_terms.specs.Unifier.{Equation, Equates, IsUnifier, read_under}
use Rattle.spec_terms.proofs.Unifiers.{equates_under}
use Rattle.spec_terms.proofs.Substitution.{apply-identity, apply-followed_by, apply_agree, agree_apply, occurs_from}
use Rattle.cq_term.specs.Meaning.{HeapTerm}
use Rattle.cq_unify.proofs.Progress.{equates_agree}
use Rattle.cq_term.specs.Pairs.{pairwise}
use Rattle.cq_resolve.specs.Joined.{equal}
use Rattle.cq_resolve.specs.Matching.{Solving, IsFresh}

-- ---- variables that stand in neither of the two
abbrev instead : Subst ℕ → ℕ → HeapTerm → Subst ℕ
instead u v t x = cond (v == x) t (u x)

instead_same : (u : Subst ℕ) (v : ℕ) (t : HeapTerm) → instead u v t v ≡ t
instead_same u v t = ap (λ b. cond b t (u v)) (eq-eqb v v refl)

instead_other : (u : Subst ℕ) (v x : ℕ) (t : HeapTerm) → (v ≡ x → ⊥) → instead u v t x ≡ u x
instead_other u v x t n = ap (λ b. cond b t (u x)) (ne_eqb v x n)

names_differ : ◌≡◌ {A = HeapTerm} (Name 0) (Name 1) → ⊥
names_differ k = (let z : ◌≡◌ {A = ℕ} 0 1 = cc in omega arith)

module _ (a b : HeapTerm) (u : Subst ℕ) (v : ℕ) (h : IsUnifier (equal a b) u) (in_a : Occurs v a → ⊥) (in_b : Occurs v b → ⊥) where
  instead_in : (t : HeapTerm) (y : HeapTerm) → (Occurs v y → ⊥) → apply (instead u v t) y ≡ apply u y
  instead_in t y n = apply_agree (instead u v t) u y (λ x o. instead_other u v x t (λ e. n (subst (λ (z : ℕ). Occurs z y) (sym e) o)))

  instead_general : (t : HeapTerm) (x : ℕ) → apply (instead u v t) (u x) ≡ instead u v t x
  instead_general t x = h.general (instead u v t) (instead_in t a in_a ∙ h.unifies.0 ∙ sym (instead_in t b in_b), tt) x

  abbrev zeroth : Subst ℕ
  zeroth = instead u v (Name 0)

  abbrev first : Subst ℕ
  first = instead u v (Name 1)

  differ : zeroth v ≡ first v → ⊥
  differ e = (let k : ◌≡◌ {A = HeapTerm} (Name 0) (Name 1) = sym (instead_same u v (Name 0)) ∙ e ∙ instead_same u v (Name 1) in names_differ k)

  pub alone_in : (x : ℕ) → Occurs v (u x) → x ≡ v
  alone_in x o = elim (cases_eq v x) [
    | inl e ↦ sym e
    | inr n ↦ absurd (differ (agree_apply zeroth first (u x)
        (instead_general (Name 0) x ∙ instead_other u v x (Name 0) n ∙ sym (instead_other u v x (Name 1) n) ∙ sym (instead_general (Name 1) x)) v o))
  ]

  kept_from : (t : HeapTerm) → apply zeroth t ≡ Name 0 → apply first t ≡ Name 1 → t ≡ Var v
  kept_from (Var x) e d = elim (cases_eq v x) [
    | inl q ↦ ap (λ y. Var y) (sym q)
    | inr n ↦ (let k : ◌≡◌ {A = HeapTerm} (Name 0) (Name 1) = sym e ∙ instead_other u v x (Name 0) n ∙ sym (instead_other u v x (Name 1) n) ∙ d in absurd (names_differ k))
  ]
  kept_from (Number q) e d = cc
  kept_from (Name a) e d = (let k : ◌≡◌ {A = HeapTerm} (Name 0) (Name 1) = sym e ∙ d in absurd (names_differ k))
  kept_from (Compound f ts) e d = cc

  pub kept_by : u v ≡ Var v
  kept_by = kept_from (u v) (instead_general (Name 0) v ∙ instead_same u v (Name 0)) (instead_general (Name 1) v ∙ instead_same u v (Name 1))

-- such a variable stays alone
pub fresh_join : (s u t : Subst ℕ) (a b : HeapTerm) (ls : List HeapTerm) (v : ℕ) → IsFresh s (a ∷ ls) v → (Occurs v b → ⊥) → IsUnifier (equal a b) u → ((x : ℕ) → t x ≡ apply u (s x)) → IsFresh t (map (apply u) ls) v
fresh_join s u t a b ls v f in_b h e =
    let in_a = All-head (λ (y : HeapTerm). Occurs v y → ⊥) a ls f.absent in
    let back : (y : HeapTerm) → Occurs v (apply u y) → Occurs v y =
    λ y o. (let from = occurs_from u v y o in subst (λ (z : ℕ). Occurs z y) (alone_in a b u v h in_a in_b from.0 from.2) from.1) in
    record {
      kept = e v ∙ ap (apply u) f.kept ∙ kept_by a b u v h in_a in_b;
      alone = λ x o. f.alone x (back (s x) (subst (Occurs v) (e x) o));
      absent = All-map (λ (y : HeapTerm). Occurs v y → ⊥) (apply u) ls (All-weaker (λ (y : HeapTerm). Occurs v y → ⊥) (λ (y : HeapTerm). Occurs v (apply u y) → ⊥) (λ y n o. n (back y o)) ls (All-tail (λ (y : HeapTerm). Occurs v y → ⊥) a ls f.absent));
    }

-- ---- what is left to solve
absorbed : (r u : Subst ℕ) → ((v : ℕ) → apply r (u v) ≡ r v) → (t : HeapTerm) → apply r (apply u t) ≡ apply r t
absorbed r u h t = sym (apply-followed_by u r t) ∙ apply_agree (followed_by u r) r t (λ v o. h v)

equates_absorbed : (r u : Subst ℕ) → ((v : ℕ) → apply r (u v) ≡ r v) → (es : List (Equation ℕ)) → Equates r es → Equates r (read_under u es)
equates_absorbed r u h [] k = tt
equates_absorbed r u h (e ∷ es) k = (absorbed r u h e.left ∙ k.0 ∙ sym (absorbed r u h e.right), equates_absorbed r u h es k.1)

pub variable_by : (u : Subst ℕ) (t : HeapTerm) (w : ℕ) → apply u t ≡ Var w → (y : ℕ) × (t ≡ Var y) × (u y ≡ Var w)
variable_by u (Var y) w e = (y, refl, e)
variable_by u (Number q) w e = cc
variable_by u (Name a) w e = cc
variable_by u (Compound f ts) w e = cc

pub solving_join : (goal : List (Equation ℕ)) (s u t : Subst ℕ) (a b : HeapTerm) (rest : List (Equation ℕ)) → Solving goal s (record { left = a; right = b } ∷ rest) → IsUnifier (equal a b) u → ((x : ℕ) → t x ≡ apply u (s x)) → Solving goal t (read_under u rest)
solving_join goal s u t a b rest p h e = record {
  general = λ r k.
      let g = p.general r k in
      let i = h.general r (g.1.0, tt) in
      (λ v. ap (apply r) (e v) ∙ absorbed r u i (s v) ∙ g.0 v, equates_absorbed r u i rest g.1.1);
  solved = λ r k.
      let q : Subst ℕ = followed_by u r in
      let two : apply q a ≡ apply q b = apply-followed_by u r a ∙ ap (apply r) h.unifies.0 ∙ sym (apply-followed_by u r b) in
      equates_agree (followed_by s q) (followed_by t r) goal (λ x. apply-followed_by u r (s x) ∙ ap (apply r) (sym (e x))) (p.solved q (two, equates_under u r rest k));
  oldest = λ v w k.
      let from = variable_by u (s v) w (sym (e v) ∙ k) in
      omega (arith, p.oldest v from.0 from.1, h.oldest from.0 w from.2);
}

pub solving_same : (goal : List (Equation ℕ)) (s : Subst ℕ) (xs ys : List (Equation ℕ)) → Solving goal s xs → ((r : Subst ℕ) → Equates r xs ↔ Equates r ys) → Solving goal s ys
solving_same goal s xs ys p same = record {
  general = λ r k. (let g = p.general r k in (g.0, (same r).0 g.1));
  solved = λ r k. p.solved r ((same r).1 k);
  oldest = p.oldest;
}

pub solving_clash : (goal : List (Equation ℕ)) (s : Subst ℕ) (a b : HeapTerm) (rest : List (Equation ℕ)) → Solving goal s (record { left = a; right = b } ∷ rest) → ((r : Subst ℕ) → apply r a ≡ apply r b → ⊥) → (r : Subst ℕ) → Equates r goal → ⊥
solving_clash goal s a b rest p none r k = none r (p.general r k).1.0

pub solving_start : (goal : List (Equation ℕ)) (a b : HeapTerm) (rest : List (Equation ℕ)) → goal ≡ equal a b → rest ≡ goal → Solving goal identity rest
solving_start goal a b rest e d = record {
  general = λ r k. (λ v. refl, subst (Equates r) (sym d) k);
  solved = λ r k. equates_agree r (followed_by identity r) goal (λ v. refl) (subst (Equates r) d k);
  oldest = λ v w k. let q : v ≡ w = cc in omega arith;
}

pub solving_end : (goal : List (Equation ℕ)) (s : Subst ℕ) → Solving goal s [] → IsUnifier goal s
solving_end goal s p = record {
  unifies = equates_agree (followed_by s identity) s goal (λ v. apply-identity (s v)) (p.solved identity tt);
  general = λ r h v. (p.general r h).0 v;
  oldest = p.oldest;
}

-- ---- pairs in place of lists of equations
pub read_under-pairwise : (u : Subst ℕ) (ls rs : List HeapTerm) → read_under u (pairwise ls rs) ≡ pairwise (map (apply u) ls) (map (apply u) rs)
read_under-pairwise u [] rs = refl
read_under-pairwise u (l ∷ ls) [] = refl
read_under-pairwise u (l ∷ ls) (r ∷ rs) = ap (λ es. record { left = apply u l; right = apply u r } ∷ es) (read_under-pairwise u ls rs)

-- the arguments of two compounds in place of the compounds
equates_spread : (s : Subst ℕ) (ts us : Terms ℕ) (ls rs : List HeapTerm) → count ts ≡ count us → ((apply_all s ts ≡ apply_all s us) × Equates s (pairwise ls rs)) ↔ Equates s (pairwise (list_of ts ++ ls) (list_of us ++ rs))
equates_spread s (one t) (one u) ls rs n = (λ h. (let k : apply s t ≡ apply s u = (let e = h.0 in cc) in (k, h.1)), λ h. (ap (λ x. one x) h.0, h.1))
equates_spread s (one t) (more u (one w)) ls rs n = absurd (omega arith)
equates_spread s (one t) (more u (more w us)) ls rs n = absurd (omega arith)
equates_spread s (more t (one w)) (one u) ls rs n = absurd (omega arith)
equates_spread s (more t (more w ts)) (one u) ls rs n = absurd (omega arith)
equates_spread s (more t ts) (more u us) ls rs n = (
  λ h. (
      let e = h.0 in
      let p : apply s t ≡ apply s u = cc in
      let q : apply_all s ts ≡ apply_all s us = cc in
      (p, (equates_spread s ts us ls rs (omega arith)).0 (q, h.1))
      ),
  λ h. (let k = (equates_spread s ts us ls rs (omega arith)).1 h.1 in (λ i. more (h.0 i) (k.0 i), k.1)),
)

pub equates_compounds : (s : Subst ℕ) (f : ℕ) (ts us : Terms ℕ) (ls rs : List HeapTerm) → count ts ≡ count us → Equates s (pairwise (Compound f ts ∷ ls) (Compound f us ∷ rs)) ↔ Equates s (pairwise (list_of ts ++ ls) (list_of us ++ rs))
equates_compounds s f ts us ls rs n =
    let k = equates_spread s ts us ls rs n in (
      λ h. (let e = h.0 in let q : apply_all s ts ≡ apply_all s us = cc in k.0 (q, h.1)),
      λ h. (let p = k.1 h in (λ i. Compound f (p.0 i), p.1)),
    )
