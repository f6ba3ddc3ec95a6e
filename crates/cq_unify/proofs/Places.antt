-- Places of variables in a list, and lists of terms that grow at their ends.
use Rattle.std.proofs.Common.{◌≡◌, ℕ, zero, suc, ◌+◌, ◌<◌, List, [], ◌∷◌, ◌++◌, length, map, get_or, nat_eq, refl, ap, ◌∙◌, inl, inr, arith, length-append}
use Rattle.std.specs.Prelude.{All, Contains}
use Rattle.std.specs.List.{position_or_len}
use Rattle.std.proofs.lemmas.Bool.{cases_eq, eq-eqb, ne_eqb}
use Rattle.std.proofs.lemmas.List.{length-map}
use Rattle.std.proofs.lemmas.List.Elements.{All-head, All-tail}
use Rattle.spec_numbers.specs.Prefixes.{IsPrefix}
use Rattle.spec_numbers.proofs.Prefixes.{prefix_get_or}
use Rattle.spec_terms.specs.Term.{Var}
use Rattle.spec_terms.specs.Variables.{counted_from}
use Rattle.cq_term.specs.Meaning.{HeapTerm, at, blank}
use Rattle.cq_frac.specs.declared.VarId.{VarId}
use Rattle.cq_term.specs.Places.{numbers_of, place_of}
use Rattle.cq_unify.specs.Copied.{unbound_from}

-- ---- places
contains_rest : (w v : ℕ) (vs : List ℕ) → (w ≡ v → ⊥) → Contains (w ∷ vs) v → Contains vs v
contains_rest w v vs n c = go c.0 c.1 c.2
  where
    go : (k : ℕ) → k < length (w ∷ vs) → get_or (w ∷ vs) k v ≡ v → Contains vs v
    go zero lt e = absurd (n e)
    go (suc k) lt e = (k, omega arith, e)

place_within_numbers : (vs : List ℕ) (v : ℕ) → Contains vs v → position_or_len (λ w. nat_eq w v) vs < length vs
place_within_numbers [] v c = absurd (omega (arith, c.1))
place_within_numbers (w ∷ vs) v c = elim (cases_eq w v) [
  | inl h ↦ rw (eq-eqb w v h) (omega arith)
  | inr n ↦ rw (ne_eqb w v n) (omega (arith, place_within_numbers vs v (contains_rest w v vs n c)))
]

pub place_within : (ks : List VarId) (v : ℕ) → Contains (numbers_of ks) v → place_of ks v < length ks
place_within ks v c = omega (arith, place_within_numbers (numbers_of ks) v c, length-map ks (λ (w : VarId). w.0))

-- ---- new variables
length-counted_from : (n k : ℕ) → length (counted_from n k) ≡ k
length-counted_from n zero = refl
length-counted_from n (suc k) = ap suc (length-counted_from (suc n) k)

pub length-unbound_from : (n k : ℕ) → length (unbound_from n k) ≡ k
length-unbound_from n k = length-map (counted_from n k) (λ v. Var v) ∙ length-counted_from n k

pub at-unbound_from : (n k p : ℕ) → p < k → at (unbound_from n k) p ≡ Var (n + p)
at-unbound_from n zero p lt = absurd (omega arith)
at-unbound_from n (suc k) zero lt = (let e : n ≡ n + 0 = omega arith in ap (λ m. Var m) e)
at-unbound_from n (suc k) (suc p) lt = (let e : suc n + p ≡ n + suc p = omega arith in at-unbound_from (suc n) k p (omega arith) ∙ ap (λ m. Var m) e)

-- ---- lists that grow
pub prefix_map : (ts us : List HeapTerm) (ids : List ℕ) → IsPrefix ts us → All (λ i. i < length ts) ids → map (at us) ids ≡ map (at ts) ids
prefix_map ts us [] p all = refl
prefix_map ts us (i ∷ ids) p all = λ j. prefix_get_or ts us i blank p (All-head (λ n. n < length ts) i ids all) j ∷ prefix_map ts us ids p (All-tail (λ n. n < length ts) i ids all) j

-- how many variables there are
pub variables_now : (older images : List HeapTerm) (k : ℕ) → images ≡ older ++ unbound_from (length older) k → length images ≡ length older + k
variables_now older images k e = omega (arith, ap length e, length-append older (unbound_from (length older) k), length-unbound_from (length older) k)
