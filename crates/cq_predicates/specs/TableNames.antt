-- Built-in predicates as the definitions name them.
use Rattle.spec_search.specs.Builtins as definition
use Rattle.spec_search.specs.Database.{First, Last}
use Rattle.spec_search.specs.Predicates.{Predicate}
use Rattle.spec_search.specs.Predicates as predicate
use Rattle.cq_builtin.specs.Rows.{comparison_of}
use Rattle.cq_predicates.specs.Names.{as_predicate}
use Rattle.cq_predicates.specs.declared.table.builtins.Builtin.{Builtin}
use Rattle.cq_predicates.specs.declared.table.builtins.Builtin.TheVariants as builtin
use Rattle.cq_predicates.specs.declared.table.builtins.Common.{Common}
use Rattle.cq_predicates.specs.declared.table.builtins.Common.TheVariants as common

-- the built-in predicate that a predicate on terms or texts is
abbrev pub built_in : Predicate → definition.Builtin
built_in (predicate.Order c) = definition.Order c
built_in (predicate.Test t) = definition.Test t
built_in (predicate.AtomList k) = definition.AtomList k
built_in predicate.Functor = definition.Functor
built_in predicate.Arg = definition.Arg
built_in predicate.Univ = definition.Univ
built_in predicate.CopyTerm = definition.CopyTerm
built_in predicate.AtomLength = definition.AtomLength
built_in predicate.CharCode = definition.CharCode
built_in predicate.NumberCodes = definition.NumberCodes
built_in predicate.AtomConcat = definition.AtomConcat
built_in predicate.SubAtom = definition.SubAtom

abbrev pub as_common : Common → definition.Builtin
as_common common.True = definition.True
as_common common.And = definition.And
as_common common.Or = definition.Or
as_common common.Cut = definition.Cut
as_common common.Unify = definition.Unify
as_common common.Is = definition.Is
as_common (common.Compare c) = definition.Compare (comparison_of c)

abbrev pub as_builtin : Builtin → definition.Builtin
as_builtin (builtin.Common c) = as_common c
as_builtin builtin.Fail = definition.Fail
as_builtin builtin.IfThen = definition.IfThen
as_builtin builtin.Not = definition.Not
as_builtin builtin.Call = definition.Call
as_builtin builtin.Once = definition.Once
as_builtin builtin.Catch = definition.Catch
as_builtin builtin.Throw = definition.Throw
as_builtin builtin.Findall = definition.Findall
as_builtin builtin.NotUnify = definition.NotUnify
as_builtin (builtin.Predicate p) = built_in (as_predicate p)
as_builtin builtin.Asserta = definition.Assert First
as_builtin builtin.Assertz = definition.Assert Last
as_builtin builtin.Retract = definition.Retract
as_builtin builtin.Clause = definition.ClauseGoal
as_builtin builtin.Dynamic = definition.DynamicGoal
as_builtin builtin.Discontiguous = definition.Discontiguous
as_builtin builtin.Initialization = definition.Initialization
as_builtin builtin.UseModule = definition.UseModule
as_builtin builtin.Op = definition.Op
as_builtin (builtin.Write s) = definition.Write s
as_builtin builtin.Newline = definition.Newline
as_builtin builtin.Curly = definition.Curly
as_builtin builtin.Freeze = definition.Freeze
as_builtin builtin.Entailed = definition.Entailed
as_builtin builtin.Sup = definition.Extent definition.Greatest
as_builtin builtin.Inf = definition.Extent definition.Least
as_builtin builtin.Maximize = definition.Optimum definition.Greatest
as_builtin builtin.Minimize = definition.Optimum definition.Least
