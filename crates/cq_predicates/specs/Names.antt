-- Predicates as the definitions name them.
use Rattle.spec_search.specs.Predicates as definition
use Rattle.spec_builtins.specs.Texts.{Characters, Codes}
use Rattle.cq_builtin.specs.Rows.{comparison_of, test_of}
use Rattle.cq_predicates.specs.declared.codes.conversions.Conversion.{Conversion}
use Rattle.cq_predicates.specs.declared.codes.conversions.Conversion.TheVariants as conversion
use Rattle.cq_predicates.specs.declared.predicates.Predicate.{Predicate}
use Rattle.cq_predicates.specs.declared.predicates.Predicate.TheVariants as predicate

abbrev pub as_conversion : Conversion → definition.Predicate
as_conversion conversion.AtomChars = definition.AtomList Characters
as_conversion conversion.AtomCodes = definition.AtomList Codes
as_conversion conversion.CharCode = definition.CharCode
as_conversion conversion.NumberCodes = definition.NumberCodes

abbrev pub as_predicate : Predicate → definition.Predicate
as_predicate (predicate.Order c) = definition.Order (comparison_of c)
as_predicate (predicate.Test t) = definition.Test (test_of t)
as_predicate (predicate.Convert c) = as_conversion c
as_predicate predicate.Functor = definition.Functor
as_predicate predicate.Arg = definition.Arg
as_predicate predicate.Univ = definition.Univ
as_predicate predicate.CopyTerm = definition.CopyTerm
as_predicate predicate.AtomLength = definition.AtomLength
as_predicate predicate.AtomConcat = definition.AtomConcat
as_predicate predicate.SubAtom = definition.SubAtom
