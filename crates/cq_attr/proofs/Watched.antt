-- The variables that a number waits for.
use Rattle.std.proofs.Common.{◌≡◌, ℕ, zero, suc, ◌<◌, ◌==◌, Bool, true, false, cond, List, [], ◌∷◌, ◌++◌, Some, None, refl, sym, ap, subst, ◌∙◌, inl, inr, arith}
use Rattle.std.specs.Prelude.{slice_get, Contains, All}
use Rattle.std.specs.List.{cons_option}
use Rattle.std.proofs.lemmas.Bool.{eq-eqb, ne_eqb, eqb-true}
use Rattle.std.proofs.lemmas.Option.{none-some, same_Some}
use Rattle.std.proofs.lemmas.List.Elements.{filter_map-append, All-head, All-tail}
use Rattle.cq_frac.specs.declared.VarId.{VarId}
use Rattle.cq_term.specs.Places.{numbers_of}
use Rattle.cq_attr.specs.NotesValue.{noted}
use Rattle.cq_attr.specs.Layout.{Watchers, watcher_of, watched_by}
use Rattle.cq_attr.proofs.Elements.{contains_here, contains_cases, contains_none, contains_option}

module _ (n : ℕ) where
  pub watched-append : (ws us : Watchers) → watched_by n (ws ++ us) ≡ watched_by n ws ++ watched_by n us
  watched-append ws us = filter_map-append (watcher_of n) ws us

  pub watched_same : (vs : List VarId) → watched_by n (noted vs n) ≡ numbers_of vs
  watched_same [] = refl
  watched_same (v ∷ vs) = ap (λ b. cons_option (cond b (Some v.0) None) (watched_by n (noted vs n))) (eq-eqb n n refl) ∙ ap (λ us. v.0 ∷ us) (watched_same vs)

  pub watched_other : (m : ℕ) → (m ≡ n → ⊥) → (vs : List VarId) → watched_by n (noted vs m) ≡ []
  watched_other m d [] = refl
  watched_other m d (v ∷ vs) = ap (λ b. cons_option (cond b (Some v.0) None) (watched_by n (noted vs m))) (ne_eqb m n d) ∙ watched_other m d vs

  -- nothing waits under a number that was not given yet
  pub watched_none : (ws : Watchers) → All (λ w. w.1 < n) ws → watched_by n ws ≡ []
  watched_none [] h = refl
  watched_none (w ∷ ws) h =
      let P : ℕ × ℕ → Type 0 = λ u. u.1 < n in
      ap (λ b. cons_option (cond b (Some w.0) None) (watched_by n ws)) (ne_eqb w.1 n (λ e. omega (arith, e, All-head P w ws h)))
      ∙ watched_none ws (All-tail P w ws h)

  pub contains_watched : (ws : Watchers) (k v : ℕ) → slice_get ws k ≡ Some (v, n) → Contains (watched_by n ws) v
  contains_watched [] k v e = absurd (none-some (v, n) e)
  contains_watched (w ∷ ws) zero v e =
      let is = same_Some w (v, n) e in
      let P : Bool → Type 0 = λ b. Contains (cons_option (cond b (Some w.0) None) (watched_by n ws)) v in
      subst P (sym (eq-eqb w.1 n (ap (λ p. p.1) is))) (contains_here w.0 (watched_by n ws) v (ap (λ p. p.0) is))
  contains_watched (w ∷ ws) (suc k) v e = contains_option (w.1 == n) w.0 (watched_by n ws) v (contains_watched ws k v e)

  watched_first : (w : ℕ × ℕ) (ws : Watchers) (v : ℕ) (b : Bool) → (w.1 == n) ≡ b → (Contains (watched_by n ws) v → (k : ℕ) × (slice_get ws k ≡ Some (v, n)))
      → Contains (cons_option (cond b (Some w.0) None) (watched_by n ws)) v → (k : ℕ) × (slice_get (w ∷ ws) k ≡ Some (v, n))
  watched_first w ws v true is rest h =
      elim (contains_cases w.0 (watched_by n ws) v h) [
        | inl e ↦ let q = eqb-true w.1 n is in (0, λ i. Some (e i, q i))
        | inr l ↦ let r = rest l in (suc r.0, r.1)
      ]
  watched_first w ws v false is rest h = let r = rest h in (suc r.0, r.1)

  pub watched_contains : (ws : Watchers) (v : ℕ) → Contains (watched_by n ws) v → (k : ℕ) × (slice_get ws k ≡ Some (v, n))
  watched_contains [] v h = absurd (contains_none v h)
  watched_contains (w ∷ ws) v h = watched_first w ws v (w.1 == n) refl (watched_contains ws v) h
