-- The variables of a term: it lists those that stand in it, each once.
use Rattle.std.proofs.Common.{◌≡◌, inl, inr, ℕ, zero, suc, ◌<◌, List, [], ◌∷◌, length, get_or, arith, sym}
use Rattle.std.specs.Prelude.{◌≢◌, ◌==◌, true, Contains}
use Rattle.std.specs.List.{AllPairs, list_any}
use Rattle.spec_numbers.proofs.Tests.{nat_eq-same, one_is}
use Rattle.spec_linear.specs.Solution.{Has}
use Rattle.spec_linear.specs.Echelon.{AreDistinct}
use Rattle.spec_terms.specs.Term.{Term, Occurs}
use Rattle.spec_terms.specs.Variables.{variables}
use Rattle.spec_terms.proofs.Listed.{occurs_listed, listed_occurs, listed_once}

has_contains : (v : ℕ) (xs : List ℕ) → Has v xs → Contains xs v
has_contains v [] h = absurd h
has_contains v (w ∷ ws) (inl e) = (0, omega arith, sym e)
has_contains v (w ∷ ws) (inr h) = let r = has_contains v ws h in let k = r.1 in (suc r.0, omega (arith, k), r.2)

has_at : (v : ℕ) (xs : List ℕ) (k : ℕ) → k < length xs → get_or xs k v ≡ v → Has v xs
has_at v [] k lt e = absurd (omega arith)
has_at v (w ∷ ws) zero lt e = inl (sym e)
has_at v (w ∷ ws) (suc k) lt e = inr (has_at v ws k (omega arith) e)

-- a test that finds the number in the list
pub any_has : (v : ℕ) (xs : List ℕ) → list_any (λ w. w == v) xs ≡ true → Has v xs
any_has v [] e = cc
any_has v (w ∷ ws) e = elim (one_is (w == v) (list_any (λ u. u == v) ws) e) [ inl d ↦ inl (sym (nat_eq-same w v d)) | inr d ↦ inr (any_has v ws d) ]

distinct : (xs : List ℕ) → AllPairs ◌≢◌ xs → AreDistinct xs
distinct [] p = tt
distinct (x ∷ xs) p = (
  (λ h. (let c = has_contains x xs h in let k = c.1 in p 0 (suc c.0) x (omega (arith, k)) (omega (arith, k)) (sym c.2))),
  distinct xs (λ i j d a b. p (suc i) (suc j) d (omega (arith, a)) (omega (arith, b))),
)

module _ {A : Type 0} where
  pub listed : (t : Term A) (v : ℕ) → Occurs v t → Has v (variables t)
  listed t v o = let c = occurs_listed t v o in has_at v (variables t) c.0 c.1 c.2

  pub stands : (t : Term A) (v : ℕ) → Has v (variables t) → Occurs v t
  stands t v h = listed_occurs t v (has_contains v (variables t) h)

  pub variables_distinct : (t : Term A) → AreDistinct (variables t)
  variables_distinct t = distinct (variables t) (listed_once t)
