-- The operations by which the forms of a told or asked term are made, with the forms of their operands.
use Rattle.std.specs.Prelude.{ℕ, zero, suc, List, [], ◌∷◌, ◌++◌, Option, Some, None, if◌then◌else◌}
use Rattle.spec_numbers.specs.Rational.{ℚ}
use Rattle.spec_linear.specs.Form.{Linear, is_zero, constant_form}
use Rattle.cq_frac.specs.declared.Operation.{Operation}
use Rattle.cq_frac.specs.declared.Operation.TheVariants.{Sum, Difference, Product, Quotient}
use Rattle.spec_simplex.specs.Overflow.{Operands, on}
use Rattle.spec_terms.specs.Term.{Var, Number, Name, Compound, one, more}
use Rattle.spec_syntax.specs.Trees.{Tree}
use Rattle.spec_branch.specs.Expressions.{BinaryName, Plus, Minus, Times, Over, Power, Least, Greatest, binary_name, number_of, exponent_of, power, form_of}

-- an operation, where both operands have forms
abbrev pub both : Operation → Option Linear → Option Linear → List Operands
both o (Some f) (Some g) = on o f g ∷ []
both o f g = []

-- the products of a power: each lower power with the base
abbrev pub power_products : ℚ → ℕ → List Operands
power_products q zero = []
power_products q (suc zero) = []
power_products q (suc (suc n)) = power_products q (suc n)
    ++ on Product (constant_form (power q (suc n))) (constant_form q) ∷ []

-- those of a base that is a number, and an exponent
abbrev pub power_operands : Option ℚ → Option ℕ → List Operands
power_operands (Some q) (Some n) = power_products q n
power_operands base exponent = []

-- the operands of a power, where both sides are linear
abbrev pub of_powers : Option Linear → Option Linear → List Operands
of_powers (Some f) (Some g) = power_operands (number_of f) (exponent_of (number_of g))
of_powers f g = []

-- the operands of a product, of which one side is a number: where neither is, it waits and nothing is multiplied
abbrev pub product_operands : Linear → Option ℚ → Linear → Option ℚ → List Operands
product_operands f p g (Some q) = on Product f g ∷ []
product_operands f (Some p) g None = on Product f g ∷ []
product_operands f None g None = []

-- where both sides are linear
abbrev pub of_products : Option Linear → Option Linear → List Operands
of_products (Some f) (Some g) = product_operands f (number_of f) g (number_of g)
of_products f g = []

-- the operands of a quotient, whose right side is a number: where it isn't one, the quotient waits, and by zero it has no value
abbrev pub quotient_operands : Linear → Linear → Option ℚ → List Operands
quotient_operands f g None = []
quotient_operands f g (Some q) = if is_zero q then [] else on Quotient f g ∷ []

-- where both sides are linear
abbrev pub of_quotients : Option Linear → Option Linear → List Operands
of_quotients (Some f) (Some g) = quotient_operands f g (number_of g)
of_quotients f g = []

-- the operation of a name with two arguments
abbrev pub binary_operands : Option BinaryName → Option Linear → Option Linear → List Operands
binary_operands None f g = []
binary_operands (Some Plus) f g = both Sum f g
binary_operands (Some Minus) f g = both Difference f g
binary_operands (Some Times) f g = of_products f g
binary_operands (Some Over) f g = of_quotients f g
binary_operands (Some Power) f g = of_powers f g
binary_operands (Some Least) f g = []
binary_operands (Some Greatest) f g = []

-- those of an expression, where some variables have fixed values
abbrev pub expression_operands : (ℕ → Option ℚ) → Tree → List Operands
expression_operands fixed (Var x) = []
expression_operands fixed (Number q) = []
expression_operands fixed (Name a) = []
expression_operands fixed (Compound f (one a)) = expression_operands fixed a
expression_operands fixed (Compound f (more a (one b))) =
    expression_operands fixed a ++ expression_operands fixed b
    ++ binary_operands (binary_name f) (form_of fixed a) (form_of fixed b)
expression_operands fixed (Compound f (more a (more b ts))) = []

-- those of a relation, whose two sides are the operands of a difference, in either order
abbrev pub relation_operands : (ℕ → Option ℚ) → Tree → List Operands
relation_operands fixed (Compound r (more a (one b))) =
    expression_operands fixed a ++ expression_operands fixed b
    ++ both Difference (form_of fixed a) (form_of fixed b) ++ both Difference (form_of fixed b) (form_of fixed a)
relation_operands fixed t = []
