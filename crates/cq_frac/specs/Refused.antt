-- When an operation takes two numbers, and when it refuses them.
use Rattle.std.specs.Prelude.{◌≡◌, ◌⊎◌}
use Rattle.spec_numbers.specs.Rational.{ℚ, neg_ℚ, ◌*ℚ◌, ◌/ℚ◌}
use Rattle.cq_frac.specs.declared.Operation.{Operation}
use Rattle.cq_frac.specs.declared.Operation.TheVariants.{Sum, Difference, Product, Quotient}
use Rattle.cq_frac.specs.declared.Pair.{Pair}
use Rattle.cq_frac.specs.Fits.{Fits, Exceeds, SumAccepted, SumRefused}

-- a difference is the sum with the negated number; a quotient's divisor is not zero
abbrev pub Refuses : Operation → ℚ → ℚ → Type 0
Refuses Sum p q = SumRefused p q
Refuses Difference p q = SumRefused p (neg_ℚ q)
Refuses Product p q = Exceeds (p *ℚ q)
Refuses Quotient p q = Exceeds (p /ℚ q)

abbrev pub Accepts : Operation → ℚ → ℚ → Type 0
Accepts Sum p q = SumAccepted p q
Accepts Difference p q = SumAccepted p (neg_ℚ q)
Accepts Product p q = Fits (p *ℚ q)
Accepts Quotient p q = Fits (p /ℚ q)

abbrev pub IsRefused : Pair → Type 0
IsRefused p = Refuses p.operation p.left p.right

-- the operation refuses the numbers, and the pair tells of it
pub record Tells (o : Operation) (left right : ℚ) (pair : Pair) : Type 0 where
  pub is_pair : pair ≡ record { operation = o; left = left; right = right }
  pub refused : Refuses o left right

-- an operation takes two numbers or refuses them
abbrev pub AcceptsOrRefuses : Type 0
AcceptsOrRefuses = (o : Operation) (p q : ℚ) → Accepts o p q ⊎ Refuses o p q

-- and never both
abbrev pub NeverBoth : Type 0
NeverBoth = (o : Operation) (p q : ℚ) → Accepts o p q → Refuses o p q → ⊥
