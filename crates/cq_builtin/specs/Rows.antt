-- The comparisons and tests, as the definitions name them.
use Rattle.spec_builtins.specs.Alternatives as definition
use Rattle.spec_builtins.specs.Terms as definition_of_terms
use Rattle.cq_builtin.specs.declared.comparisons.Comparison.{Comparison}
use Rattle.cq_builtin.specs.declared.comparisons.Comparison.TheVariants as comparison
use Rattle.cq_builtin.specs.declared.types.TypeTest.{TypeTest}
use Rattle.cq_builtin.specs.declared.types.TypeTest.TheVariants as type_test

abbrev pub comparison_of : Comparison → definition.Comparison
comparison_of comparison.Same = definition.Same
comparison_of comparison.NotSame = definition.NotSame
comparison_of comparison.Before = definition.Before
comparison_of comparison.BeforeOrSame = definition.BeforeOrSame
comparison_of comparison.After = definition.After
comparison_of comparison.AfterOrSame = definition.AfterOrSame

abbrev pub test_of : TypeTest → definition_of_terms.TypeTest
test_of type_test.Var = definition_of_terms.IsVar
test_of type_test.Nonvar = definition_of_terms.IsNonvar
test_of type_test.Atom = definition_of_terms.IsAtom
test_of type_test.Number = definition_of_terms.IsNumber
test_of type_test.Integer = definition_of_terms.IsInteger
test_of type_test.Atomic = definition_of_terms.IsAtomic
test_of type_test.Compound = definition_of_terms.IsCompound
test_of type_test.Callable = definition_of_terms.IsCallable
test_of type_test.List = definition_of_terms.IsList
