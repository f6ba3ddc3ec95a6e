-- Products of 256 bits by halves.
use Rattle.std.proofs.Common.{◌≡◌, ℕ, ◌+◌, ◌*◌, ◌^◌, ◌/◌, ◌%◌, arith, ap₂, ◌∙◌}

expanded : (a b c d x : ℕ) → (a * x + b) * (c * x + d) ≡ a * c * (x * x) + ((a * d + b * c) * x + b * d)
expanded a b c d x = omega arith

-- the four products of the halves, with what is carried
pub carried : (a_high a_low b_high b_low a b p q r s first second : ℕ) → a_high * 2 ^ 64 + a_low ≡ a → b_high * 2 ^ 64 + b_low ≡ b →
    p ≡ a_high * b_high → q ≡ a_high * b_low → r ≡ a_low * b_high → s ≡ a_low * b_low → first ≡ q + s / 2 ^ 64 → second ≡ r + first % 2 ^ 64 →
    (p + first / 2 ^ 64 + second / 2 ^ 64) * 2 ^ 128 + (second % 2 ^ 64 * 2 ^ 64 + s % 2 ^ 64) ≡ a * b
carried a_high a_low b_high b_low a b p q r s first second e f p_is q_is r_is s_is first_is second_is =
    together (expanded a_high a_low b_high b_low (2 ^ 64)) ∙ ap₂ (λ x y. x * y) e f
  where
    together : (a_high * 2 ^ 64 + a_low) * (b_high * 2 ^ 64 + b_low) ≡ a_high * b_high * (2 ^ 64 * 2 ^ 64) + ((a_high * b_low + a_low * b_high) * 2 ^ 64 + a_low * b_low) →
        (p + first / 2 ^ 64 + second / 2 ^ 64) * 2 ^ 128 + (second % 2 ^ 64 * 2 ^ 64 + s % 2 ^ 64) ≡ (a_high * 2 ^ 64 + a_low) * (b_high * 2 ^ 64 + b_low)
    together w = omega (arith, w, p_is, q_is, r_is, s_is, first_is, second_is)
