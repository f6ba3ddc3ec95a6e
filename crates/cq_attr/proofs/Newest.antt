-- The place behind a variable's newest note.
use Rattle.std.proofs.Common.{◌≡◌, ℕ, zero, suc, ◌<◌, ◌≤◌, ◌==◌, Bool, true, false, List, [], ◌∷◌, ◌++◌, length, Some, refl, sym, ap, subst, ◌∙◌, arith}
use Rattle.std.specs.Prelude.{slice_get, nat_lt, ◌||◌}
use Rattle.std.specs.List.{list_any}
use Rattle.std.proofs.lemmas.Bool.{eq-eqb, eqb-true, lt-ltb}
use Rattle.std.proofs.lemmas.Option.{none-some, same_Some}
use Rattle.cq_attr.specs.NotesValue.{one_further, behind_newest}

further_le : (b : Bool) (k n : ℕ) → k ≤ n → one_further b k ≤ suc n
further_le true zero n h = omega arith
further_le false zero n h = omega arith
further_le b (suc k) n h = omega (arith, h)

further_here : (b : Bool) (k : ℕ) → b ≡ true → 0 < one_further b k
further_here true zero e = omega arith
further_here false zero e = cc
further_here b (suc k) e = omega arith

further_more : (b : Bool) (k i : ℕ) → i < k → suc i < one_further b k
further_more b zero i h = absurd (omega (arith, h))
further_more b (suc k) i h = omega (arith, h)

further_any : (b : Bool) (k : ℕ) → (b || nat_lt 0 k) ≡ nat_lt 0 (one_further b k)
further_any true zero = refl
further_any false zero = refl
further_any true (suc k) = sym (lt-ltb 0 (suc (suc k)) (omega arith))
further_any false (suc k) = lt-ltb 0 (suc k) (omega arith) ∙ sym (lt-ltb 0 (suc (suc k)) (omega arith))

module _ {T : Type 0} (v : ℕ) where
  pub newest_le : (ns : List (ℕ × T)) → behind_newest v ns ≤ length ns
  newest_le [] = omega arith
  newest_le (n ∷ ns) = further_le (n.0 == v) (behind_newest v ns) (length ns) (newest_le ns)

  -- a note of the variable is the newest
  pub newest_same : (ns : List (ℕ × T)) (x : T) → behind_newest v (ns ++ (v, x) ∷ []) ≡ suc (length ns)
  newest_same [] x = let e : (v == v) ≡ true = eq-eqb v v refl in ap (λ b. one_further b 0) e
  newest_same (m ∷ ns) x = ap (one_further (m.0 == v)) (newest_same ns x)

  -- a note of another variable changes nothing
  pub newest_other : (ns : List (ℕ × T)) (w : ℕ) (x : T) → (w == v) ≡ false → behind_newest v (ns ++ (w, x) ∷ []) ≡ behind_newest v ns
  newest_other [] w x e = ap (λ b. one_further b 0) e
  newest_other (m ∷ ns) w x e = ap (one_further (m.0 == v)) (newest_other ns w x e)

  -- no note of the variable stands further
  pub newest_above : (ns : List (ℕ × T)) (i : ℕ) (x : T) → slice_get ns i ≡ Some (v, x) → i < behind_newest v ns
  newest_above [] i x e = absurd (none-some (v, x) e)
  newest_above (n ∷ ns) zero x e = further_here (n.0 == v) (behind_newest v ns) (eq-eqb n.0 v (ap (λ p. p.0) (same_Some n (v, x) e)))
  newest_above (n ∷ ns) (suc i) x e = further_more (n.0 == v) (behind_newest v ns) i (newest_above ns i x e)

  -- the newest note is one of the variable
  newest_from : (n : ℕ × T) (ns : List (ℕ × T)) (k r : ℕ) → ((j : ℕ) → r ≡ suc j → (x : T) × (slice_get ns j ≡ Some (v, x)))
      → one_further (n.0 == v) r ≡ suc k → (x : T) × (slice_get (n ∷ ns) k ≡ Some (v, x))
  newest_from n ns k zero rest e = here (n.0 == v) refl e where
    here : (b : Bool) → (n.0 == v) ≡ b → one_further b 0 ≡ suc k → (x : T) × (slice_get (n ∷ ns) k ≡ Some (v, x))
    here true is f =
        let zero_is : 0 ≡ k = omega (arith, f) in
        let P : ℕ → Type 0 = λ j. (x : T) × (slice_get (n ∷ ns) j ≡ Some (v, x)) in
        subst P zero_is (n.1, ap (λ w. Some (w, n.1)) (eqb-true n.0 v is))
    here false is f = cc
  newest_from n ns k (suc j) rest e =
      let next : suc j ≡ k = omega (arith, e) in
      let P : ℕ → Type 0 = λ i. (x : T) × (slice_get (n ∷ ns) i ≡ Some (v, x)) in
      subst P next (rest j refl)

  pub newest_is : (ns : List (ℕ × T)) (k : ℕ) → behind_newest v ns ≡ suc k → (x : T) × (slice_get ns k ≡ Some (v, x))
  newest_is [] k e = cc
  newest_is (n ∷ ns) k e = newest_from n ns k (behind_newest v ns) (newest_is ns) e

  pub any_newest : (ns : List (ℕ × T)) → list_any (λ n. n.0 == v) ns ≡ nat_lt 0 (behind_newest v ns)
  any_newest [] = refl
  any_newest (n ∷ ns) = ap (λ b. (n.0 == v) || b) (any_newest ns) ∙ further_any (n.0 == v) (behind_newest v ns)
