-- More on the greatest common divisor.
use Rattle.std.proofs.Common.{◌≡◌, ℕ, ◌*◌, ◌%◌, subst, ◌∙◌}
use Rattle.std.specs.Int.{◌∣◌}
use Rattle.std.proofs.lemmas.Nat.Gcd.{IsGcd-from_zero, IsGcd-from_mod, IsGcd-swap, same_from_IsGcd}
use Rattle.std.proofs.Math.Nat.{dvd_refl, eq-one_of_dvd-one, dvd_trans, mod-one}
use Rattle.spec_numbers.specs.Gcd.{gcd, gcd_is, gauss}

pub gcd-zero : (a b : ℕ) → b ≡ 0 → gcd a b ≡ a
gcd-zero a b h = same_from_IsGcd a b (gcd a b) a (gcd_is a b) (IsGcd-from_zero a b h)

pub gcd-mod : (a b : ℕ) → gcd a b ≡ gcd b (a % b)
gcd-mod a b = same_from_IsGcd a b (gcd a b) (gcd b (a % b)) (gcd_is a b) (IsGcd-from_mod a b (gcd b (a % b)) (gcd_is b (a % b)))

-- each number is a whole over one
pub coprime_one : (n : ℕ) → gcd n 1 ≡ 1
coprime_one n = gcd-mod n 1 ∙ gcd-zero 1 (n % 1) (mod-one n)

pub gcd_comm : (a b : ℕ) → gcd a b ≡ gcd b a
gcd_comm a b = same_from_IsGcd a b (gcd a b) (gcd b a) (gcd_is a b) (IsGcd-swap b a (gcd b a) (gcd_is b a))

-- parts of numbers with no common divisor have none
pub coprime_parts : (a b c d : ℕ) → a ∣ c → b ∣ d → gcd c d ≡ 1 → gcd a b ≡ 1
coprime_parts a b c d h k e =
    let g = gcd_is a b in
    eq-one_of_dvd-one (subst (λ x. gcd a b ∣ x) e ((gcd_is c d).2 (gcd a b) (dvd_trans (gcd a b) g.0 h) (dvd_trans (gcd a b) g.1 k)))

pub coprime_mul : (x y z : ℕ) → gcd x z ≡ 1 → gcd y z ≡ 1 → gcd (x * y) z ≡ 1
coprime_mul x y z e f =
    let h = gcd (x * y) z in
    let g = gcd_is (x * y) z in
    let xh : gcd x h ≡ 1 = coprime_parts x h x z (dvd_refl x) g.1 e in
    let hy : h ∣ y = gauss x h y xh g.0 in
    eq-one_of_dvd-one (subst (λ w. h ∣ w) f ((gcd_is y z).2 h hy g.1))

pub coprime_products : (a c b d : ℕ) → gcd a b ≡ 1 → gcd a d ≡ 1 → gcd c b ≡ 1 → gcd c d ≡ 1 → gcd (a * c) (b * d) ≡ 1
coprime_products a c b d p q r s =
    let ab : gcd (a * c) b ≡ 1 = coprime_mul a c b p r in
    let ad : gcd (a * c) d ≡ 1 = coprime_mul a c d q s in
    gcd_comm (a * c) (b * d) ∙ coprime_mul b d (a * c) (gcd_comm b (a * c) ∙ ab) (gcd_comm d (a * c) ∙ ad)
