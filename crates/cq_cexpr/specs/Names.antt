-- What the names of the code say in the definitions.
use Rattle.std.specs.Prelude.{Bool, true, false, Option, Some, None}
use Rattle.spec_branch.specs.Expressions.{UnaryName, Same, Opposite, Absolute, BinaryName, Plus, Minus, Times, Over, Power, Least, Greatest}
use Rattle.spec_branch.specs.Relations.{RelationName, Equals, Differs, Greater, GreaterOrEqual, Lesser, LesserOrEqual}
use Rattle.cq_frac.specs.declared.row.Joining.{Joining}
use Rattle.cq_frac.specs.declared.row.Joining.TheVariants as joining
use Rattle.cq_cexpr.specs.declared.names.Unary.{Unary}
use Rattle.cq_cexpr.specs.declared.names.Unary.TheVariants as one
use Rattle.cq_cexpr.specs.declared.names.Binary.{Binary}
use Rattle.cq_cexpr.specs.declared.names.Binary.TheVariants as two
use Rattle.cq_cexpr.specs.declared.names.Comparison.{Comparison}
use Rattle.cq_cexpr.specs.declared.names.Comparison.TheVariants as comparison

abbrev pub unary_of_code : Unary → UnaryName
unary_of_code one.Same = Same
unary_of_code one.Opposite = Opposite
unary_of_code one.Absolute = Absolute

abbrev pub unary_meant : Option Unary → Option UnaryName
unary_meant None = None
unary_meant (Some n) = Some (unary_of_code n)

abbrev pub binary_of_code : Binary → BinaryName
binary_of_code two.Plus = Plus
binary_of_code two.Minus = Minus
binary_of_code two.Times = Times
binary_of_code two.Over = Over
binary_of_code two.Power = Power
binary_of_code two.Least = Least
binary_of_code two.Greatest = Greatest

abbrev pub binary_meant : Option Binary → Option BinaryName
binary_meant None = None
binary_meant (Some n) = Some (binary_of_code n)

abbrev pub relation_of_code : Comparison → RelationName
relation_of_code comparison.Equals = Equals
relation_of_code comparison.Differs = Differs
relation_of_code comparison.Greater = Greater
relation_of_code comparison.GreaterOrEqual = GreaterOrEqual
relation_of_code comparison.Lesser = Lesser
relation_of_code comparison.LesserOrEqual = LesserOrEqual

abbrev pub relation_meant : Option Comparison → Option RelationName
relation_meant None = None
relation_meant (Some r) = Some (relation_of_code r)

-- the name of a sum or of a difference
abbrev pub name_of : Joining → BinaryName
name_of joining.Plus = Plus
name_of joining.Less = Minus

-- the operation is a quotient
abbrev pub is_over : Option BinaryName → Bool
is_over None = false
is_over (Some Over) = true
is_over (Some n) = false
