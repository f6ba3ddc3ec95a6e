-- A set of a list's inequalities as one number.
use Rattle.std.proofs.Common.{◌≡◌, ℕ, zero, suc, ◌+◌, ◌*◌, ◌^◌, ◌<◌, Bool, true, false, cond, List, [], ◌∷◌, length, arith, refl}
use Rattle.spec_linear.specs.Solution.{Constraint}
use Rattle.spec_projection.specs.Projection.{is_inequality, inequalities_of}
use Rattle.spec_simplex.specs.LimitsDictionary.{member_at}

-- an odd number where the first inequality is in the set
abbrev behind : Bool → Bool → ℕ → ℕ
behind true is_in n = cond is_in 1 0 + 2 * n
behind false is_in n = n

-- the number of the set of the places that have the flag
abbrev pub code : List Constraint → (ℕ → Bool) → ℕ
code [] f = 0
code (c ∷ l) f = behind (is_inequality c.relation) (f 0) (code l (λ i. f (suc i)))

odd_or_even : (b : Bool) (n k : ℕ) → n < 2 ^ k → cond b 1 0 + 2 * n < 2 ^ suc k
odd_or_even true n k h = omega arith
odd_or_even false n k h = omega arith

behind_below : (b is_in : Bool) (c : Constraint) (l : List Constraint) (n : ℕ) → n < 2 ^ length l → behind b is_in n < 2 ^ length (cond b (c ∷ l) l)
behind_below true is_in c l n h = odd_or_even is_in n (length l) h
behind_below false is_in c l n h = h

pub code_below : (l : List Constraint) (f : ℕ → Bool) → code l f < 2 ^ length (inequalities_of l)
code_below [] f = omega arith
code_below (c ∷ l) f =
    behind_below (is_inequality c.relation) (f 0) c (inequalities_of l) (code l (λ i. f (suc i))) (code_below l (λ i. f (suc i)))

parts_same : (b d : Bool) (n k : ℕ) → cond b 1 0 + 2 * n ≡ cond d 1 0 + 2 * k → (b ≡ d) × (n ≡ k)
parts_same true true n k e = (refl, omega (arith, e))
parts_same true false n k e = absurd (omega (arith, e))
parts_same false true n k e = absurd (omega (arith, e))
parts_same false false n k e = (refl, omega (arith, e))

rest_same : (b : Bool) (x y : Bool) (n k : ℕ) → behind b x n ≡ behind b y k → n ≡ k
rest_same true x y n k e = (parts_same x y n k e).1
rest_same false x y n k e = e

first_same : (b : Bool) (x y : Bool) (n k : ℕ) → behind b x n ≡ behind b y k → b ≡ true → x ≡ y
first_same true x y n k e i = (parts_same x y n k e).0
first_same false x y n k e i = cc

-- the number tells of each inequality whether it is in the set
pub code_tells : (l : List Constraint) (f g : ℕ → Bool) → code l f ≡ code l g → (i : ℕ) → i < length l → is_inequality (member_at l i).relation ≡ true → f i ≡ g i
code_tells [] f g e i h r = absurd (omega (arith, h))
code_tells (c ∷ l) f g e zero h r = first_same (is_inequality c.relation) (f 0) (g 0) (code l (λ i. f (suc i))) (code l (λ i. g (suc i))) e r
code_tells (c ∷ l) f g e (suc i) h r =
    code_tells l (λ i. f (suc i)) (λ i. g (suc i)) (rest_same (is_inequality c.relation) (f 0) (g 0) (code l (λ i. f (suc i))) (code l (λ i. g (suc i))) e) i (omega (arith, h)) r
