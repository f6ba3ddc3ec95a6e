-- Equal keys are one key.
use Rattle.std.proofs.Common.{◌≡◌, ◌==◌, ◌&&◌, true, refl, ap, ap₂}
use Rattle.std.specs.Cmp.{IsEquivalence, Equal-is}
use Rattle.std.specs.Prelude.{IsTrue}
use Rattle.std.proofs.lemmas.Cmp.{eq_by_cmp_equiv}
use Rattle.spec_numbers.proofs.Tests.{nat_eq-same, nat_eq-self, nat_eq-sym, both_are}
use Rattle.spec_numbers.specs.Order.{cmp_ℚ}
use Rattle.spec_numbers.proofs.Order.{cmp_ℚ-equal, cmp_ℚ-total}
use Rattle.cq_clauses.specs.declared.key.Key.{Key}
use Rattle.cq_clauses.specs.declared.key.Key.TheVariants.{Number, Name, Compound}
use Rattle.cq_clauses.specs.Keys.{same_key, writes_of}

pub same_key-is : (k l : Key) → same_key k l ≡ true → k ≡ l
same_key-is (Number p) (Number q) e = ap Number (cmp_ℚ-equal p q ((Equal-is (cmp_ℚ p q)).0 e))
same_key-is (Name a) (Name b) e = ap Name (nat_eq-same a b e)
same_key-is (Compound f m) (Compound g n) e = let both = both_are (f == g) (m == n) e in ap₂ Compound (nat_eq-same f g both.0) (nat_eq-same m n both.1)
same_key-is (Number p) (Name b) e = cc
same_key-is (Number p) (Compound g n) e = cc
same_key-is (Name a) (Number q) e = cc
same_key-is (Name a) (Compound g n) e = cc
same_key-is (Compound f m) (Number q) e = cc
same_key-is (Compound f m) (Name b) e = cc

itself : (k : Key) → same_key k k ≡ true
itself (Number q) = (eq_by_cmp_equiv cmp_ℚ-total).refl q
itself (Name a) = nat_eq-self a
itself (Compound f n) = ap₂ (λ s t. s && t) (nat_eq-self f) (nat_eq-self n)

turned : (k l : Key) → same_key k l ≡ same_key l k
turned (Number p) (Number q) = (eq_by_cmp_equiv cmp_ℚ-total).symm p q
turned (Name a) (Name b) = nat_eq-sym a b
turned (Compound f m) (Compound g n) = ap₂ (λ s t. s && t) (nat_eq-sym f g) (nat_eq-sym m n)
turned (Number p) (Name b) = refl
turned (Number p) (Compound g n) = refl
turned (Name a) (Number q) = refl
turned (Name a) (Compound g n) = refl
turned (Compound f m) (Number q) = refl
turned (Compound f m) (Name b) = refl

pub same_key-equiv : IsEquivalence same_key
same_key-equiv = record { refl = itself; symm = turned; congr = λ k l m e. ap (λ (j : Key). same_key j m) (same_key-is k l e) }

-- so they are hashed alike
pub writes_alike : (k l : Key) → IsTrue (same_key k l) → writes_of k ≡ writes_of l
writes_alike k l e = ap writes_of (same_key-is k l e)
