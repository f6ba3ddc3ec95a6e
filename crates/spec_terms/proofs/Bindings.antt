-- Steps of unification: pairs that say the same, and a variable that is bound.
use Rattle.std.proofs.Common.{◌≡◌, ◌⊎◌, inl, inr, ℕ, ◌≤◌, List, [], ◌∷◌, arith, refl, ap, sym, ◌∙◌}
use Rattle.std.proofs.lemmas.Bool.{cases_eq}
use Rattle.spec_terms.specs.Term.{Term, Var, Subst, identity, single, followed_by, Occurs}
use Rattle.spec_terms.specs.Unifier.{Equation, Equates, IsUnifier, HasNoUnifier, read_under}
use Rattle.spec_terms.proofs.Substitution.{single_same, single_other, apply-single_absent, apply-single_instance}
use Rattle.spec_terms.proofs.Unifiers.{unified_both, not_later}
use Rattle.spec_terms.proofs.Among.{pair}

module _ {A : Type 0} where
  -- the pairs have a unifier, or none
  abbrev pub IsUnified : List (Equation A) → Type 0
  IsUnified es = ((u : Subst A) × IsUnifier es u) ⊎ HasNoUnifier es

  pub no_pairs : IsUnified []
  no_pairs = inl (identity, record { unifies = tt; general = λ r h v. refl; oldest = λ v w e. let d : v ≡ w = cc in omega (arith, d) })

  -- pairs that the same substitutions make equal
  pub as_well : (es ds : List (Equation A)) → ((s : Subst A) → Equates s es → Equates s ds) → ((s : Subst A) → Equates s ds → Equates s es)
      → IsUnified ds → IsUnified es
  as_well es ds f g (inl u) =
      inl (u.0, record { unifies = g u.0 u.1.unifies; general = λ r h v. u.1.general r (f r h) v; oldest = u.1.oldest })
  as_well es ds f g (inr n) = inr (λ s h. n s (f s h))

  pub turned : (t u : Term A) (es : List (Equation A)) → IsUnified (pair u t ∷ es) → IsUnified (pair t u ∷ es)
  turned t u es = as_well (pair t u ∷ es) (pair u t ∷ es) (λ s h. (sym h.0, h.1)) (λ s h. (sym h.0, h.1))

  -- ---- a variable and a term in which it doesn't stand

  pub one_bound : (v : ℕ) (t : Term A) → (Occurs v t → ⊥) → ((w : ℕ) → t ≡ Var w → w ≤ v) → IsUnifier (pair (Var v) t ∷ []) (single v t)
  one_bound v t absent older = record {
    unifies = (single_same v t ∙ sym (apply-single_absent v t t absent), tt);
    general = λ r h w. apply-single_instance v t r h.0 (Var w);
    oldest = λ x w e. by x w e (cases_eq v x);
  }
    where
      by : (x w : ℕ) → single v t x ≡ Var w → (v ≡ x) ⊎ (v ≡ x → ⊥) → w ≤ x
      by x w e (inl same) = let h : w ≤ v = older w (sym (single_same v t) ∙ ap (single v t) same ∙ e) in omega (arith, h, same)
      by x w e (inr other) =
          let k : Var x ≡ Var w = sym (single_other v x t other) ∙ e in
          let d : x ≡ w = cc in
          omega (arith, d)

  pub bound : (v : ℕ) (t : Term A) (es : List (Equation A)) → (Occurs v t → ⊥) → ((w : ℕ) → t ≡ Var w → w ≤ v)
      → IsUnified (read_under (single v t) es) → IsUnified (pair (Var v) t ∷ es)
  bound v t es absent older (inl u) =
      inl (followed_by (single v t) u.0, unified_both (pair (Var v) t ∷ []) es (single v t) (one_bound v t absent older) u.0 u.1)
  bound v t es absent older (inr n) = inr (not_later (pair (Var v) t ∷ []) es (single v t) (one_bound v t absent older) n)
