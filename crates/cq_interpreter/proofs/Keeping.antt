-- A goal that is kept behind all variables has the variables that it had.
use Rattle.std.proofs.Common.{◌≡◌, ℕ, zero, suc, ◌+◌, ◌<◌, List, [], ◌∷◌, ◌++◌, map, length, get_or, true, false, cond, eqb, refl, ap, ◌∙◌, arith, inl, inr, append_assoc}
use Rattle.std.specs.Prelude.{⊤, ◌==◌}
use Rattle.std.specs.List.{list_any, position_or_len}
use Rattle.std.proofs.lemmas.Bool.{eq-eqb, ne_eqb}
use Rattle.std.proofs.lemmas.List.Folds.{list_any_at}
use Rattle.std.proofs.lemmas.List.Sums.{position_or_len_is}
use Rattle.spec_terms.specs.Term.{Terms, Var, Number, Name, Compound, one, more, Occurs, OccursIn, apply, identity, terms_of, with_arguments}
use Rattle.spec_terms.specs.Variables.{variables_after, variables_in, variables, numbered_from, renamed_from, counted_from}
use Rattle.spec_terms.proofs.Substitution.{apply_agree, apply-identity}
use Rattle.cq_term.specs.Meaning.{HeapTerm}
use Rattle.cq_unify.specs.Copied.{unbound_from}
use Rattle.cq_resolve.specs.StoredValue.{both}

-- ---- numbers from 0 on

one_more : (n k : ℕ) → counted_from n (suc k) ≡ counted_from n k ++ (n + k) ∷ []
one_more n zero = (let here : n ≡ n + 0 = omega arith in ap (λ m. m ∷ []) here)
one_more n (suc k) = (let next_ : suc n + k ≡ n + suc k = omega arith in ap (λ ms. n ∷ ms) (one_more (suc n) k ∙ ap (λ m. counted_from (suc n) k ++ m ∷ []) next_))

pub counted_more : (k : ℕ) → counted_from 0 (k + 1) ≡ counted_from 0 k ++ k ∷ []
counted_more k =
    let e : k + 1 ≡ suc k = omega arith in
    let z : 0 + k ≡ k = omega arith in
    ap (counted_from 0) e ∙ one_more 0 k ∙ ap (λ n. counted_from 0 k ++ n ∷ []) z

counted_length : (n k : ℕ) → length (counted_from n k) ≡ k
counted_length n zero = refl
counted_length n (suc k) = ap suc (counted_length (suc n) k)

counted_at : (n k i d : ℕ) → i < k → get_or (counted_from n k) i d ≡ n + i
counted_at n zero i d l = absurd (omega arith)
counted_at n (suc k) zero d l = omega arith
counted_at n (suc k) (suc i) d l = counted_at (suc n) k i d (omega arith) ∙ omega arith

at_place : (k v : ℕ) → v < k → eqb (get_or (counted_from 0 k) v 0) v ≡ true
at_place k v l = eq-eqb (get_or (counted_from 0 k) v 0) v (counted_at 0 k v 0 l ∙ omega arith)

is_there : (k v : ℕ) → v < k → list_any (λ w. w == v) (counted_from 0 k) ≡ true
is_there k v l = list_any_at (λ w. w == v) (counted_from 0 k) v 0 (omega (arith, counted_length 0 k)) (at_place k v l)

place_is : (k v : ℕ) → v < k → position_or_len (λ w. w == v) (counted_from 0 k) ≡ v
place_is k v l =
    position_or_len_is (λ w. w == v) (counted_from 0 k) v 0 (omega (arith, counted_length 0 k))
    (λ i below. ne_eqb (get_or (counted_from 0 k) i 0) v (λ e. omega (arith, counted_at 0 k i 0 (omega arith))))
    (λ within. at_place k v l)

-- ---- terms of those variables

abbrev AreBelow : ℕ → List ℕ → Type 0
AreBelow n [] = ⊤
AreBelow n (v ∷ vs) = (v < n) × AreBelow n vs

below_later : (n : ℕ) (vs : List ℕ) → AreBelow n vs → AreBelow (suc n) (vs ++ n ∷ [])
below_later n [] h = (omega arith, tt)
below_later n (v ∷ vs) h = (omega (arith, h.0), below_later n vs h.1)

is_new : (n : ℕ) (vs : List ℕ) → AreBelow n vs → list_any (λ w. w == n) vs ≡ false
is_new n [] h = refl
is_new n (v ∷ vs) h = let e : eqb v n ≡ false = ne_eqb v n (λ d. omega (arith, h.0, d)) in rw (e, is_new n vs h.1)

in_order : (vs : List ℕ) (m k : ℕ) → AreBelow m vs → variables_in vs (terms_of {A = ℕ} (Var m) (map (λ v. Var v) (counted_from (suc m) k))) ≡ vs ++ counted_from m (suc k)
in_order vs m zero h = ap (λ b. cond b vs (vs ++ m ∷ [])) (is_new m vs h)
in_order vs m (suc k) h =
    ap (λ b. variables_in (cond b vs (vs ++ m ∷ [])) (terms_of {A = ℕ} (Var (suc m)) (map (λ v. Var v) (counted_from (suc (suc m)) k)))) (is_new m vs h)
    ∙ in_order (vs ++ m ∷ []) (suc m) k (below_later m vs h)
    ∙ append_assoc vs (m ∷ []) (counted_from (suc m) (suc k))

over_all : (f n : ℕ) → variables_after [] (with_arguments f (unbound_from 0 n)) ≡ counted_from 0 n
over_all f zero = refl
over_all f (suc n) = in_order [] 0 n tt

module _ (n : ℕ) where
  mutual
    no_more : (t : HeapTerm) → ((v : ℕ) → Occurs v t → v < n) → variables_after (counted_from 0 n) t ≡ counted_from 0 n
    no_more (Var v) h = ap (λ b. cond b (counted_from 0 n) (counted_from 0 n ++ v ∷ [])) (is_there n v (h v refl))
    no_more (Number q) h = refl
    no_more (Name a) h = refl
    no_more (Compound f ts) h = no_more_in ts h

    no_more_in : (ts : Terms ℕ) → ((v : ℕ) → OccursIn v ts → v < n) → variables_in (counted_from 0 n) ts ≡ counted_from 0 n
    no_more_in (one t) h = no_more t h
    no_more_in (more t ts) h = ap (λ vs. variables_in vs ts) (no_more t (λ v o. h v (inl o))) ∙ no_more_in ts (λ v o. h v (inr o))

-- ---- the two

abbrev second_of : HeapTerm → HeapTerm
second_of (Compound f (more t (one u))) = u
second_of t = t

module _ (f n : ℕ) (goal : HeapTerm) (inside : (v : ℕ) → Occurs v goal → v < n) where
  abbrev whole : HeapTerm
  whole = both (with_arguments f (unbound_from 0 n)) goal

  pub counts_all : variables whole ≡ counted_from 0 n
  counts_all = ap (λ vs. variables_after vs goal) (over_all f n) ∙ no_more n goal inside

  pub counted_all : length (variables whole) ≡ n
  counted_all = ap length counts_all ∙ counted_length 0 n

  pub kept_goal : (head body : HeapTerm) → both head body ≡ renamed_from 0 whole → body ≡ goal
  kept_goal head body e =
      ap second_of e
      ∙ ap (λ vs. apply (numbered_from 0 vs) goal) counts_all
      ∙ apply_agree (numbered_from 0 (counted_from 0 n)) identity goal (λ v o. (let e : 0 + position_or_len (λ w. w == v) (counted_from 0 n) ≡ v = omega (arith, place_is n v (inside v o)) in ap (λ k. Var k) e))
      ∙ apply-identity goal
