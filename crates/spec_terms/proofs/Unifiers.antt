-- A unifier is idempotent, there is one at most, and unifiers compose.
use Rattle.std.proofs.Common.{◌≡◌, ℕ, ◌≤◌, List, [], ◌∷◌, ◌++◌, arith, refl, ap, sym, ◌∙◌}
use Rattle.spec_terms.specs.Term.{Term, Terms, Subst, Var, Number, Name, Compound, one, more, apply, apply_all, followed_by}
use Rattle.spec_terms.specs.Unifier.{Equation, Equates, IsUnifier, HasNoUnifier, read_under}
use Rattle.spec_terms.proofs.Substitution.{apply-followed_by, apply_agree}

module _ {A : Type 0} where
  pub unifier_idempotent : (es : List (Equation A)) (s : Subst A) → IsUnifier es s → (v : ℕ) → apply s (s v) ≡ s v
  unifier_idempotent es s h v = h.general s h.unifies v

  abbrev KeepsOldest : Subst A → Type 0
  KeepsOldest s = (v w : ℕ) → s v ≡ Var w → w ≤ v

  -- terms that each lead to the other keep the same variables
  mutual
    same : (r s : Subst A) → KeepsOldest r → KeepsOldest s → (t u : Term A) → apply r t ≡ u → apply s u ≡ t → t ≡ u
    same r s hr hs (Var w) (Var x) e f =
        let below : x ≤ w = hr w x e in
        let above : w ≤ x = hs x w f in
        let k : w ≡ x = omega arith in
        ap (λ n. Var n) k
    same r s hr hs (Var w) (Number q) e f = cc
    same r s hr hs (Var w) (Name a) e f = cc
    same r s hr hs (Var w) (Compound g us) e f = cc
    same r s hr hs (Number q) u e f = e
    same r s hr hs (Name a) u e f = e
    same r s hr hs (Compound g ts) (Var x) e f = cc
    same r s hr hs (Compound g ts) (Number q) e f = cc
    same r s hr hs (Compound g ts) (Name a) e f = cc
    same r s hr hs (Compound g ts) (Compound h us) e f =
        let p : apply_all r ts ≡ us = cc in
        let q : apply_all s us ≡ ts = cc in
        let k : ts ≡ us = same_all r s hr hs ts us p q in
        cc

    same_all : (r s : Subst A) → KeepsOldest r → KeepsOldest s → (ts us : Terms A) → apply_all r ts ≡ us → apply_all s us ≡ ts → ts ≡ us
    same_all r s hr hs (one t) (one u) e f =
        let p : apply r t ≡ u = cc in
        let q : apply s u ≡ t = cc in
        let k : t ≡ u = same r s hr hs t u p q in
        cc
    same_all r s hr hs (one t) (more u us) e f = cc
    same_all r s hr hs (more t ts) (one u) e f = cc
    same_all r s hr hs (more t ts) (more u us) e f =
        let p : apply r t ≡ u = cc in
        let q : apply s u ≡ t = cc in
        let k : t ≡ u = same r s hr hs t u p q in
        let p' : apply_all r ts ≡ us = cc in
        let q' : apply_all s us ≡ ts = cc in
        let k' : ts ≡ us = same_all r s hr hs ts us p' q' in
        cc

  pub unifier_unique : (es : List (Equation A)) (s r : Subst A) → IsUnifier es s → IsUnifier es r → (v : ℕ) → s v ≡ r v
  unifier_unique es s r hs hr v = same r s hr.oldest hs.oldest (s v) (r v) (hs.general r hr.unifies v) (hr.general s hs.unifies v)

  -- what makes the pairs read under a substitution equal makes them equal behind it
  pub equates_under : (s u : Subst A) (es : List (Equation A)) → Equates u (read_under s es) → Equates (followed_by s u) es
  equates_under s u [] h = tt
  equates_under s u (e ∷ es) h = (apply-followed_by s u e.left ∙ h.0 ∙ sym (apply-followed_by s u e.right), equates_under s u es h.1)

  -- ---- pairs in turn
  equates_both : (u : Subst A) (ds es : List (Equation A)) → Equates u ds → Equates u es → Equates u (ds ++ es)
  equates_both u [] es h k = k
  equates_both u (d ∷ ds) es h k = (h.0, equates_both u ds es h.1 k)

  equates_first : (u : Subst A) (ds es : List (Equation A)) → Equates u (ds ++ es) → Equates u ds
  equates_first u [] es h = tt
  equates_first u (d ∷ ds) es h = (h.0, equates_first u ds es h.1)

  equates_later : (u : Subst A) (ds es : List (Equation A)) → Equates u (ds ++ es) → Equates u es
  equates_later u [] es h = h
  equates_later u (d ∷ ds) es h = equates_later u ds es h.1

  -- what is an instance of a substitution, as it is by itself, makes the same of a term behind it
  instance_of : (r u : Subst A) → ((v : ℕ) → apply u (r v) ≡ u v) → (t : Term A) → apply u (apply r t) ≡ apply u t
  instance_of r u h t = sym (apply-followed_by r u t) ∙ apply_agree (followed_by r u) u t (λ v o. h v)

  -- so the pairs that it makes equal it makes equal read under the other too
  equates_read : (r u : Subst A) → ((v : ℕ) → apply u (r v) ≡ u v) → (es : List (Equation A)) → Equates u es → Equates u (read_under r es)
  equates_read r u h [] k = tt
  equates_read r u h (e ∷ es) k = (instance_of r u h e.left ∙ k.0 ∙ sym (instance_of r u h e.right), equates_read r u h es k.1)

  -- what the first substitution makes equal stays equal
  equates_after : (r s : Subst A) (ds : List (Equation A)) → Equates r ds → Equates (followed_by r s) ds
  equates_after r s [] h = tt
  equates_after r s (d ∷ ds) h = (apply-followed_by r s d.left ∙ ap (apply s) h.0 ∙ sym (apply-followed_by r s d.right), equates_after r s ds h.1)

  oldest_after : (r s : Subst A) → KeepsOldest r → KeepsOldest s → (v w : ℕ) (t : Term A) → r v ≡ t → apply s t ≡ Var w → w ≤ v
  oldest_after r s hr hs v w (Var x) e f =
      let below : x ≤ v = hr v x e in
      let further : w ≤ x = hs x w f in
      omega arith
  oldest_after r s hr hs v w (Number q) e f = cc
  oldest_after r s hr hs v w (Name a) e f = cc
  oldest_after r s hr hs v w (Compound g ts) e f = cc

  module _ (ds es : List (Equation A)) (r : Subst A) (first : IsUnifier ds r) where
    -- what makes all pairs equal makes the later ones equal under the unifier of the first
    later_read : (u : Subst A) → Equates u (ds ++ es) → Equates u (read_under r es)
    later_read u h = equates_read r u (first.general u (equates_first u ds es h)) es (equates_later u ds es h)

    pub unified_both : (s : Subst A) → IsUnifier (read_under r es) s → IsUnifier (ds ++ es) (followed_by r s)
    unified_both s later = record {
      unifies = equates_both (followed_by r s) ds es (equates_after r s ds first.unifies) (equates_under r s es later.unifies);
      general = λ u h v. instance_of s u (later.general u (later_read u h)) (r v) ∙ first.general u (equates_first u ds es h) v;
      oldest = λ v w e. oldest_after r s first.oldest later.oldest v w (r v) refl e;
    }

    pub not_later : HasNoUnifier (read_under r es) → HasNoUnifier (ds ++ es)
    not_later none u h = none u (later_read u h)

  pub not_first : (ds es : List (Equation A)) → HasNoUnifier ds → HasNoUnifier (ds ++ es)
  not_first ds es none u h = none u (equates_first u ds es h)
