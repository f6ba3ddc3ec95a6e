-- ℤ is a commutative ring
use Rattle.std.proofs.Common.{◌≡◌, ℕ, ◌*◌, List, ℤ, pos, negsuc, ◌+ℤ◌, ◌*ℤ◌, neg_ℤ, arith, refl, ap}
use Rattle.std.proofs.lemmas.Int.{ints}
use lib.IntN.{+ℤ_assoc, +ℤ_comm, +ℤ_idl, *ℤ_comm, zero-*ℤ}
use borrow.Author.Differences.{up, down, product_is, sum_is_lem, same_in}
use Rattle.spec_numbers.proofs.Ring.{IsRing, Poly, solve, value, normal}

scale : (a b c : ℕ) → a ≡ b → a * c ≡ b * c
scale a b c e = ap (λ x. x * c) e

pub *ℤ_assoc : (a b c : ℤ) → (a *ℤ b) *ℤ c ≡ a *ℤ (b *ℤ c)
*ℤ_assoc a b c = same_in _ _ (omega (
  arith,
  product_is (a *ℤ b) c,
  product_is a (b *ℤ c),
  scale _ _ (up c) (product_is a b).0,
  scale _ _ (down c) (product_is a b).0,
  scale _ _ (up c) (product_is a b).1,
  scale _ _ (down c) (product_is a b).1,
  scale _ _ (up a) (product_is b c).0,
  scale _ _ (down a) (product_is b c).0,
  scale _ _ (up a) (product_is b c).1,
  scale _ _ (down a) (product_is b c).1,
))

pub *ℤ-add : (a b c : ℤ) → a *ℤ (b +ℤ c) ≡ a *ℤ b +ℤ a *ℤ c
*ℤ-add a b c = same_in _ _ (omega (arith, product_is a (b +ℤ c), product_is a b, product_is a c, sum_is_lem (a *ℤ b) (a *ℤ c), scale _ _ (up a) (sum_is_lem b c), scale _ _ (down a) (sum_is_lem b c)))

neg_is : (x : ℤ) → neg_ℤ x ≡ negsuc 0 *ℤ x
neg_is x = omega (arith, ints)

one_is : (x : ℤ) → pos 1 *ℤ x ≡ x
one_is x = omega (arith, ints)

pub ℤ_ring : IsRing ℤ ◌+ℤ◌ ◌*ℤ◌ neg_ℤ (λ z. z)
ℤ_ring = record {
  add_comm = +ℤ_comm;
  add_assoc = +ℤ_assoc;
  zero_add = +ℤ_idl;
  mul_comm = *ℤ_comm;
  mul_assoc = *ℤ_assoc;
  one_mul = one_is;
  zero_mul = zero-*ℤ;
  mul_add = *ℤ-add;
  neg_is = neg_is;
  of_add = λ a b. refl;
  of_mul = λ a b. refl;
}

abbrev pub value_ℤ : List ℤ → Poly → ℤ
value_ℤ ρ e = value ℤ ◌+ℤ◌ ◌*ℤ◌ neg_ℤ (λ z. z) ρ e

pub ring_ℤ : (ρ : List ℤ) (e f : Poly) → normal e ≡ normal f → value_ℤ ρ e ≡ value_ℤ ρ f
ring_ℤ ρ e f h = solve ℤ ◌+ℤ◌ ◌*ℤ◌ neg_ℤ (λ z. z) ℤ_ring ρ e f h
